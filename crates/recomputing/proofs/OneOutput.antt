-- The contract of each public function leaves one output (`OneOutput` of ground/specs/Unique.antt).
use Rattle.ground.specs.Unique.{OneOutput}
use Rattle.recomputing.specs.contracts as said
use Rattle.ground.proofs.Unique.{agree}
use Rattle.recomputing.proofs.copies
use Rattle.recomputing.proofs.heads
use Rattle.recomputing.proofs.recompute
use Rattle.recomputing.proofs.successors
use Rattle.recomputing.proofs.through

-- Sums, distances along the heads of a tree, and whether it is one.
pub heads_plus_once : OneOutput said.heads.plus.ended heads.plus.Reads.Learnt
heads_plus_once _ _ _ _ p q i = (agree p q i, _)

pub heads_distance_once : OneOutput said.heads.distance.ended heads.distance.Reads.Learnt
heads_distance_once _ _ _ _ p q i = (agree p q i, _)

pub heads_distances_once : OneOutput said.heads.distances.ended heads.distances.Reads.Learnt
heads_distances_once _ _ _ _ p q i = (agree p q i, _)

pub heads_is_tree_once : OneOutput said.heads.is_tree.ended heads.is_tree.Reads.Learnt
heads_is_tree_once _ _ _ _ p q i = (agree p q i, _)

-- A copy, all copies with one of them laid in, and the distances in a copy.
pub copies_copy_of_once : OneOutput said.copies.copy_of.ended copies.copy_of.Reads.Learnt
copies_copy_of_once _ _ _ _ p q i = (agree p q i, _)

pub copies_with_copy_once : OneOutput said.copies.with_copy.ended copies.with_copy.Reads.Learnt
copies_with_copy_once _ _ _ _ p q i = (agree p q i, _)

pub copies_distances_once : OneOutput said.copies.distances.ended copies.distances.Reads.Learnt
copies_distances_once _ _ _ _ p q i = (agree p q i, _)

-- The distances through neighbours, the recomputed tree, and the sets of successors.
pub through_through_neighbours_once : OneOutput said.through.through_neighbours.ended through.through_neighbours.Reads.Learnt
through_through_neighbours_once _ _ _ _ p q i = (agree p q i, _)

pub recompute_recomputed_once : OneOutput said.recompute.recomputed.ended recompute.recomputed.Reads.Learnt
recompute_recomputed_once _ _ _ _ p q i = (agree p q i, _)

pub successors_sets_over_once : OneOutput said.successors.sets_over.ended successors.sets_over.Reads.Learnt
successors_sets_over_once _ _ _ _ p q i = (agree p q i, _)
