-- The invariant: the lines of the places below `place` are put.
use Rattle.slices.proofs.Putting.{Put}
use Rattle.frames.specs.MeterTable.{meter_from}
use Rattle.paging.specs.Page.{places_text}
use Rattle.paging.proofs.put_places.Given as goal

abbrev pub invariant-loop-place : goal.invariant-loop-place
invariant-loop-place l =
    Put l.initial.out l.used (places_text (meter_from l.meter) l.place) l.then l.out
