-- The contract of each public function leaves one output (`OneOutput` of ground/specs/Unique.antt); of a generic one, at every type.
use Rattle.ground.specs.Unique.{OneOutput}
use Rattle.slices.specs.contracts as said
use Rattle.slices.specs.declared.number.Number
use Rattle.std.specs.declared.clone.Clone
use Rattle.std.specs.declared.cmp.Eq
use Rattle.std.specs.declared.cmp.Ord
use Rattle.std.specs.declared.cmp.PartialEq
use Rattle.std.specs.declared.cmp.PartialOrd
use Rattle.ground.proofs.Unique.{agree}
use Rattle.slices.proofs.bytes
use Rattle.slices.proofs.clear
use Rattle.slices.proofs.is_nothing
use Rattle.slices.proofs.lay_over
use denote.Param.Laws.{Laws, IsCopy}
use denote.RattleType.{RattleType}
use mir.Syntax.{Dict}

module _ (T : RattleType) (laws : Laws T) (copies : IsCopy T) (cloned : Clone.Ghosts T.Denot) (clone : Dict) where
  -- What is laid over.
  pub lay_over_once : OneOutput (said.lay_over.ended T cloned clone) (lay_over.Reads.Learnt T laws copies cloned clone)
  lay_over_once _ _ _ _ p q i = (_, (agree p q i, _))

  module _ (number : Number.Ghosts T.Denot) (num : Dict) (order : Ord.Ghosts T.Denot) (ord : Dict)
      (equal : Eq.Ghosts T.Denot) (eq : Dict) (alike : PartialEq.Ghosts T.Denot) (same : Dict)
      (ordered : PartialOrd.Ghosts T.Denot) (partial : Dict) where
    -- What is cleared.
    pub clear_once : OneOutput (said.clear.ended T number num cloned clone order ord equal eq alike same ordered partial)
        (clear.Reads.Learnt T laws copies number num cloned clone order ord equal eq alike same ordered partial)
    clear_once _ _ _ _ p q i = (_, (agree p q i, _))

    -- The answer to the test.
    pub is_nothing_once : OneOutput (said.is_nothing.ended T number num cloned clone order ord equal eq alike same ordered partial)
        (is_nothing.Reads.Learnt T laws copies number num cloned clone order ord equal eq alike same ordered partial)
    is_nothing_once _ _ _ _ p q i = (agree p q i, _)

-- The bytes used, and the buffer.
pub bytes_put_byte_once : OneOutput said.bytes.put_byte.ended bytes.put_byte.Reads.Learnt
bytes_put_byte_once _ _ _ _ p q i = (agree p.0 q.0 i, (agree p.1 q.1 i, _))

pub bytes_put_text_once : OneOutput said.bytes.put_text.ended bytes.put_text.Reads.Learnt
bytes_put_text_once _ _ _ _ p q i = (agree p.0 q.0 i, (agree p.1 q.1 i, _))
