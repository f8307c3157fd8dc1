-- `recomputing::recompute::entry_over` meets its contract. The invariant: no unit passed offers unit j its distance.
use Prim.Native.Nat.{ℕ, ◌-◌, ◌≤◌, ◌<◌}
use native.Mathlib.Omega.{arith}
use mathlib.Core.Bool.{false}
use mathlib.Core.Path.{◌≡◌, sym, ◌∙◌}
use borrow.Author.Count.{below_none, below_more}
use borrow.Author.Rules.{rules}
use borrow.Author.Tests.{ne_eqb}
use lib.Dec.{eqb}
use Rattle.ground.specs.Rows.{at}
use Rattle.tree.specs.Shortest.{offer}
use Rattle.tree.proofs.Entries.{Reached, entry_root, entry_far, entry_found, entry_some, entry_low}
use Rattle.recomputing.proofs.recompute.entry_over.Statement.{statement}
use Rattle.recomputing.proofs.recompute.entry_over.Tie as tie

abbrev invariant_loop : tie.invariant-loop-i
invariant_loop count me j links distances i₀ i =
    (i ≤ count) × ((k : ℕ) → k < i → eqb (offer links distances k j) (at distances j) ≡ false)

abbrev decreases_loop : tie.decreases-loop-i
decreases_loop count me j links distances i₀ i = count - i

-- Past the first two tests unit j is reached, and what it is at stays known.
reached : (c : tie.Else-distances-j invariant_loop decreases_loop)
    → Reached c.before.before.args.count c.before.before.args.me c.before.before.args.links c.before.before.args.distances c.before.before.args.j
reached c =
    let pre = c.before.before.requires in
    record { inside = pre.2; other = c.before.if-j-me.false; near = c.if-distances-j.false; facts = pre.5 }

returns : tie.Need-returns-then-j-me invariant_loop decreases_loop
returns c =
    let start = c.before in
    sym (entry_root _ start.args.me start.args.links start.args.distances _ start.requires.2 c.if-j-me.true)

returns_2 : tie.Need-returns-then-distances-j invariant_loop decreases_loop
returns_2 c =
    let start = c.before.before in
    sym (entry_far _ start.args.me start.args.links start.args.distances _ start.requires.2 c.if-distances-j.true)

loop_holds : tie.Need-loop-i-init invariant_loop decreases_loop
loop_holds c = (search rules, below_none _)

add_result : tie.Need-overflow_add-result invariant_loop decreases_loop
add_result c =
    let start = c.before.before.before.before.before.before.before.before in
    let here = c.before.before.before.before.before.loop-i in
    let inside : here.i < start.args.count = c.before.before.before.before.loop-i-test.true in
    let offered : offer start.args.links start.args.distances here.i start.args.j ≡ at start.args.distances start.args.j =
    sym c.before.before.plus.ensures ∙ c.before.if-plus-distances.true in
    omega (arith, entry_low (reached c.before.before.before.before.before.before) start.requires.4 here.i inside offered)

returns_3 : tie.Need-returns-then-plus-distances invariant_loop decreases_loop
returns_3 c =
    let start = c.before.before.before.before.before.before.before.before in
    let here = c.before.before.before.before.before.loop-i in
    let inside : here.i < start.args.count = c.before.before.before.before.loop-i-test.true in
    let offered : offer start.args.links start.args.distances here.i start.args.j ≡ at start.args.distances start.args.j =
    sym c.before.before.plus.ensures ∙ c.before.if-plus-distances.true in
    sym (entry_found (reached c.before.before.before.before.before.before) here.i inside here.invariant.1 offered)

loop_again : tie.Need-loop-i-preserved invariant_loop decreases_loop
loop_again c =
    let here = c.before.before.before.before.loop-i in
    (search rules, below_more _ _ here.invariant.1 (ne_eqb _ _ (λ e. c.if-plus-distances.false (c.before.plus.ensures ∙ e))))

returns_4 : tie.Need-returns invariant_loop decreases_loop
returns_4 c =
    let start = c.before.before.before.before in
    let here = c.before.loop-i in
    let all : here.i ≡ start.args.count = omega arith in
    absurd (entry_some (reached c.before.before) (rw all at here.invariant.1))

pub entry_over_spec : {M : Type 1} → statement M
entry_over_spec =
    tie.close
    (tie.spec
    invariant_loop
    decreases_loop
    returns
    (λ c. search rules) (λ c. search rules)
    returns_2
    loop_holds
    (λ c. search rules) (λ c. search rules) (λ c. search rules) (λ c. search rules) (λ c. search rules)
    (λ c. search rules) (λ c. search rules) (λ c. search rules) (λ c. search rules) (λ c. search rules)
    (λ c. search rules) (λ c. search rules) (λ c. search rules) (λ c. search rules) (λ c. search rules)
    add_result
    returns_3
    (λ c. search rules) (λ c. search rules)
    loop_again
    returns_4)
