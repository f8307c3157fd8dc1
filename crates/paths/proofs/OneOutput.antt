-- The contract of each public function leaves one output (`OneOutput` of ground/specs/Unique.antt).
use Rattle.ground.specs.Unique.{OneOutput}
use Rattle.paths.specs.contracts as said
use Rattle.ground.proofs.Unique.{agree}
use Rattle.paths.proofs.TraceAnswers.{one_tracing}
use Rattle.paths.proofs.tracer

-- The answer and the path; the same with one number as the answer.
pub tracer_trace_once : OneOutput said.tracer.trace.ended tracer.trace.Reads.Learnt
tracer_trace_once _ _ first second p q i = (one_tracing first.0 second.0 (agree p.0 q.0) i, (_, (_, (_, (_, (_, (agree p.1 q.1 i, _)))))))

pub tracer_trace_number_once : OneOutput said.tracer.trace_number.ended tracer.trace_number.Reads.Learnt
tracer_trace_number_once _ _ _ _ p q i = (agree p.0 q.0 i, (_, (_, (_, (_, (_, (agree p.1 q.1 i, _)))))))
