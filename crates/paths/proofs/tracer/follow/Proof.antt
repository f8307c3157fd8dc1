-- `paths::tracer::follow` meets its contract. The invariant: `Underway`; the measure is what the hops leave of the count.
use Prim.Native.Nat.{◌+◌, ◌-◌, ◌*◌, ◌%◌, ◌<◌}
use native.Mathlib.Omega.{arith}
use mathlib.Core.Path.{◌≡◌, ◌∙◌}
use lib.ListN.{length, set, length-set}
use Rattle.ground.specs.Rows.{at}
use Rattle.rules.specs.Tables.{unit_words, network_words, successors_at}
use Rattle.paths.specs.Tracing.{Traceable}
use Rattle.fitness.proofs.SuccessorSets.{Sized, fit_sized}
use Rattle.paths.proofs.Turns.{Underway, begins, set_inside, stored_inside, arrives, strands}
use Rattle.paths.proofs.Turns.{units_some, circles, goes}
use Rattle.paths.proofs.tracer.follow.Statement.{statement}
use Rattle.paths.proofs.tracer.follow.Tie as tie

abbrev invariant_loop : tie.invariant-loop-i
invariant_loop words start destination choices path₀ count i₀ hops₀ path i hops =
    Underway words start destination choices path₀ path i hops

abbrev decreases_loop : tie.decreases-loop-i
decreases_loop words start destination choices path₀ count i₀ hops₀ path i hops = at words 0 - hops

-- The tables, the units and the room are as `requires` says.
asked : (c : tie.At-loop-i invariant_loop decreases_loop)
    → Traceable c.args.words.now
    c.args.start
    c.args.destination
    (length c.args.choices.now)
    (length c.args.path.now)
asked c = c.requires

-- So the tables have their length and count.
sized : (c : tie.At-loop-i invariant_loop decreases_loop) → Sized c.args.words.now
sized c = fit_sized _ (asked c).bytes (asked c).fit

-- The successor set is read within the table.
within : (c : tie.At-loop-i invariant_loop decreases_loop)
    → c.loop-i.i * unit_words + (successors_at + c.args.destination) < network_words
within c = set_inside (asked c) c.loop-i.invariant

-- The path stays as long as the buffer.
stored_long : (c : tie.At-loop-i invariant_loop decreases_loop)
    → length (set c.loop-i.path c.loop-i.hops (c.loop-i.i % 256))
    ≡ length c.args.path.now
stored_long c = length-set c.loop-i.path c.loop-i.hops (c.loop-i.i % 256) ∙ c.loop-i.invariant.long

shared_slice_read_count : tie.Need-bounds-words-0 invariant_loop decreases_loop
shared_slice_read_count c = omega (arith, (fit_sized _ _ c.requires.fit).long)

cast_count : tie.Need-overflow_cast-count invariant_loop decreases_loop
cast_count c = omega (arith, (fit_sized _ _ c.requires.fit).high)

loop_holds : tie.Need-loop-i-init invariant_loop decreases_loop
loop_holds c = begins _ _ _ _ _ c.requires.begun

slice_write_path : tie.Need-bounds-path-hops invariant_loop decreases_loop
slice_write_path c = stored_inside (asked c) c.loop-i.invariant

mul_set : tie.Need-overflow_mul-set invariant_loop decreases_loop
mul_set c = omega (arith, within c.before)

add_set : tie.Need-overflow_add-set invariant_loop decreases_loop
add_set c = omega (arith, within c.before)

add_set_2 : tie.Need-overflow_add-set-in-loop-i invariant_loop decreases_loop
add_set_2 c = omega (arith, within c.before)

mul_set_2 : tie.Need-offset_bounds-words-i invariant_loop decreases_loop
mul_set_2 c = omega (arith, within c.before)

shared_slice_read_set : tie.Need-bounds-words-i invariant_loop decreases_loop
shared_slice_read_set c = omega (arith, within c.before.before, (sized c.before.before).long)

add_if3 : tie.Need-overflow_add-hops invariant_loop decreases_loop
add_if3 c = omega (arith, (sized c.before.before.before).high, c.loop-i.invariant.few)

shared_slice_read_chosen : tie.Need-bounds-choices-hops invariant_loop decreases_loop
shared_slice_read_chosen c = omega (arith, c.if-count-hops.false, (asked c.before.before.before.before.before).chosen)

chosen_requires : tie.Need-chosen-i-requires invariant_loop decreases_loop
chosen_requires c κs =
    let turn = c.before.before.before.before.before in
    ((sized turn).high, units_some (asked turn) turn.loop-i.invariant c.if-i-destination.false c.if-set-eq0.false)

add_hops : tie.Need-overflow_add-hops-in-loop-i invariant_loop decreases_loop
add_hops c =
    let turn = c.before.before.before.before.before.before in
    omega (arith, (sized turn).high, turn.loop-i.invariant.few)

loop_less : tie.Need-loop-i-smaller invariant_loop decreases_loop
loop_less c = omega (arith, c.if-count-hops.false)

loop_again : tie.Need-loop-i-preserved invariant_loop decreases_loop
loop_again c =
    let turn = c.before.before.before.before.before.before in
    rw c.chosen-i.ensures
    (goes (asked turn) turn.loop-i.invariant c.if-i-destination.false c.if-set-eq0.false
    c.if-count-hops.false)

same_length : tie.Need-shape_of-path-then-i-destination invariant_loop decreases_loop
same_length c = stored_long c.before

returns : tie.Need-returns-then-i-destination invariant_loop decreases_loop
returns c = arrives (asked c.before) c.loop-i.invariant c.if-i-destination.true

same_length_2 : tie.Need-shape_of-path-then-set-eq0 invariant_loop decreases_loop
same_length_2 c = stored_long c.before.before.before

returns_2 : tie.Need-returns-then-set-eq0 invariant_loop decreases_loop
returns_2 c =
    let turn = c.before.before.before in
    strands (asked turn) turn.loop-i.invariant c.if-i-destination.false c.if-set-eq0.true

same_length_3 : tie.Need-shape_of-path-then-count-hops invariant_loop decreases_loop
same_length_3 c = stored_long c.before.before.before.before

returns_3 : tie.Need-returns-then-count-hops invariant_loop decreases_loop
returns_3 c =
    let turn = c.before.before.before.before in
    circles (asked turn) turn.loop-i.invariant c.if-i-destination.false c.if-set-eq0.false c.if-count-hops.true

pub follow_spec : {M : Type 1} → statement M
follow_spec =
    tie.close
    (tie.spec
    invariant_loop
    decreases_loop
    shared_slice_read_count
    cast_count
    loop_holds
    (λ c. omega arith)
    slice_write_path
    mul_set
    add_set
    add_set_2
    mul_set_2
    shared_slice_read_set
    add_if3
    shared_slice_read_chosen
    chosen_requires
    add_hops
    loop_less
    loop_again
    same_length
    returns
    same_length_2
    returns_2
    same_length_3
    returns_3)
