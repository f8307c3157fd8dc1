-- The measure is the links left.
use Rattle.recomputing.proofs.heads.+distance.Given as goal

abbrev pub decreases-distance : goal.decreases-distance
decreases-distance l = l.left
