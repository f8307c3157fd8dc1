-- The contract of each public function leaves one output (`OneOutput` of ground/specs/Unique.antt).
use Rattle.ground.specs.Unique.{OneOutput}
use Rattle.fitness.specs.contracts as said
use Rattle.ground.proofs.Unique.{agree}
use Rattle.fitness.proofs.fit
use Rattle.fitness.proofs.tables

-- Whether a network's tables are fit.
pub fit_is_fit_once : OneOutput said.fit.is_fit.ended fit.is_fit.Reads.Learnt
fit_is_fit_once _ _ _ _ p q i = (agree p q i, _)

-- What the units' numbers hold, and they with one table put in.
pub tables_count_once : OneOutput said.tables.count.ended tables.count.Reads.Learnt
tables_count_once _ _ _ _ p q i = (agree p q i, _)

pub tables_load_once : OneOutput said.tables.load.ended tables.load.Reads.Learnt
tables_load_once _ _ _ _ p q i = (agree p q i, _)

pub tables_is_linked_once : OneOutput said.tables.is_linked.ended tables.is_linked.Reads.Learnt
tables_is_linked_once _ _ _ _ p q i = (agree p q i, _)

pub tables_put_once : OneOutput said.tables.put.ended tables.put.Reads.Learnt
tables_put_once _ _ _ _ p q i = (_, (agree p q i, _))
