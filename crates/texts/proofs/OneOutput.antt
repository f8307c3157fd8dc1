-- The contract of each public function leaves one output (`OneOutput` of ground/specs/Unique.antt).
use Rattle.ground.specs.Unique.{OneOutput}
use Rattle.texts.specs.contracts as said
use Rattle.ground.proofs.Unique.{agree}
use Rattle.texts.proofs.row
use Rattle.texts.proofs.text

-- The bytes used, and the buffer.
pub text_put_number_once : OneOutput said.text.put_number.ended text.put_number.Reads.Learnt
text_put_number_once _ _ _ _ p q i = (agree p.0 q.0 i, (agree p.1 q.1 i, _))

pub text_put_refused_once : OneOutput said.text.put_refused.ended text.put_refused.Reads.Learnt
text_put_refused_once _ _ _ _ p q i = (agree p.0 q.0 i, (agree p.1 q.1 i, _))

pub text_put_held_once : OneOutput said.text.put_held.ended text.put_held.Reads.Learnt
text_put_held_once _ _ _ _ p q i = (agree p.0 q.0 i, (agree p.1 q.1 i, _))

pub text_put_figure_once : OneOutput said.text.put_figure.ended text.put_figure.Reads.Learnt
text_put_figure_once _ _ _ _ p q i = (agree p.0 q.0 i, (agree p.1 q.1 i, _))

pub row_put_state_once : OneOutput said.row.put_state.ended row.put_state.Reads.Learnt
row_put_state_once _ _ _ _ p q i = (agree p.0 q.0 i, (agree p.1 q.1 i, _))

pub row_put_pair_once : OneOutput said.row.put_pair.ended row.put_pair.Reads.Learnt
row_put_pair_once _ _ _ _ p q i = (agree p.0 q.0 i, (agree p.1 q.1 i, _))
