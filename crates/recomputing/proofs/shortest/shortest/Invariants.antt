-- The invariant: what settling units, nearest first, has made of the arrays.
use Rattle.recomputing.proofs.Rounds.{Turned}
use Rattle.recomputing.proofs.shortest.shortest.Given as goal

abbrev pub invariant-loop : goal.invariant-loop
invariant-loop l = Turned l.count l.me l.links l.distances l.settled l.counter
