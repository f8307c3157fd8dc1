-- Questions to a unit's table: what it tells that nothing refuses the question, and that each answer is within its width.
use Prim.Native.Nat.{ℕ, ◌+◌, ◌-◌, ◌^◌, ◌≤◌, ◌<◌}
use native.Mathlib.Nat.{pow-le-pow_right}
use native.Mathlib.Omega.{arith}
use mathlib.Core.Bool.{Bool, true, not, ◌&&◌}
use mathlib.Core.List.{List, ◌∷◌, ◌++◌, append_assoc}
use mathlib.Core.Logic.{◌⊎◌, inl, inr, ⊎_elim}
use mathlib.Core.Path.{◌≡◌, refl, sym, ap, ◌∙◌}
use borrow.Author.Tests.{eq-eqb, ne_eqb, eqb-true, le-leb, ltb-true, not-false}
use lib.Dec.{eqb, ltb, leb}
use lib.ListN.{length, take, drop, length-append, length-replicate, get_or-append}
use lib.Seq.{drop_at}
use Rattle.std.specs.Prelude.{if◌then◌else◌}
use Rattle.ground.specs.Limits.{unit_limit, far, longest}
use Rattle.ground.specs.Refusal.{accepted, ◌gives◌}
use Rattle.ground.specs.Refused.{number_of}
use Rattle.ground.specs.declared.refusals.Refusal.{Refusal}
use Rattle.ground.specs.Rows.{at, tab, filled}
use Rattle.tree.specs.Tree.{distance_within, distance}
use Rattle.rules.specs.Hub.{question_refusal, hub_question_refusal}
use Rattle.rules.specs.Tables.{successors_at, unit_words, part, laid_row, laid_unit, unit_from, fit_unit_table}
use Rattle.rules.specs.Unit.{Unit, is_active, own_distance, is_successor, successor_set}
use Rattle.ground.proofs.Answers.{number_some}
use Rattle.ground.proofs.Bits.{bits_below}
use Rattle.ground.proofs.Filled.{length_filled, take_filled}
use Rattle.ground.proofs.Lists.{parts, tab_part, at_from}
use Rattle.ground.proofs.Places.{at_filled}
use Rattle.ground.proofs.Refusal.{gives_none, otherwise_none}
use Rattle.ground.proofs.Rows.{length_tab, tab_at, tab_ext}
use Rattle.ground.proofs.Tests.{equal_or_not, less_or_not, if_true, if_false}
use Rattle.tree.proofs.Tree.{distance_legal}
use Rattle.rules.proofs.Fit.{fit_unit_shaped}
use Rattle.rules.proofs.FitUnit.{FitFacts, fit_table_facts}
use Rattle.rules.proofs.Laid.{ShapedUnit, unit_lays_back}
use Rattle.state.specs.Asked.{row_of}
use Rattle.state.specs.Holding.{held_of, unit_of}
use Rattle.state.specs.declared.held.Held.{Held}
use Rattle.state.proofs.Holding.{laid_held, holds_back}

-- A refusal is the answer; where there is none the value is.
module _ (value : ℕ) {refusal : ℕ} where
  pub refused : (why : Refusal) → number_of why ≡ refusal → number_of why ≡ (if eqb refusal accepted then value else refusal)
  refused why e = e ∙ sym (if_false (eqb refusal accepted) value refusal (ne_eqb refusal accepted (λ z. number_some why (e ∙ z))))

  pub answered : accepted ≡ refusal → value ≡ (if eqb refusal accepted then value else refusal)
  answered e = sym (if_true (eqb refusal accepted) value refusal (eq-eqb refusal accepted (sym e)))

-- What `held::load` asks of a table, which a fit one has.
pub loadable : (words : List ℕ) → fit_unit_table words ≡ true → (length words ≡ unit_words) × (at words 0 ≤ unit_limit)
unfolding fit_unit_table unit_from
loadable words e = (eqb-true (length words) unit_words (search parts), (fit_table_facts words e).high)

-- The unit that is loaded has no more units than the limit.
pub loaded_low : (words : List ℕ) → fit_unit_table words ≡ true → {h : Held} → h ≡ held_of (unit_from words) → h.count ≤ unit_limit
unfolding unit_from
loaded_low words e held = omega (arith, ap (λ (h : Held). h.count) held, (loadable words e).1)

-- What a question that nothing refuses tells: the table is fit, and the destination is a unit.
pub record Asked (words : List ℕ) (to : ℕ) : Type 0 where
  pub fit : fit_unit_table words ≡ true
  pub below : to < (unit_from words).count

pub asked : (words : List ℕ) (to : ℕ) → question_refusal words to ≡ accepted → Asked words to
asked words to e =
    let none = otherwise_none (not (fit_unit_table words) gives 2) (hub_question_refusal (unit_from words) to) e in
    record {
      fit = not-false (fit_unit_table words) (gives_none (not (fit_unit_table words)) 1 none.0);
      below =
          ltb-true to (unit_from words).count
          (not-false (ltb to (unit_from words).count) (gives_none (not (ltb to (unit_from words).count)) 2 none.1));
    }

-- A distance over fewer links than the unit limit is within the longest, or unreachable.
pub distance-within : (n root : ℕ) (tree : List ℕ) (j : ℕ) → n ≤ unit_limit → distance n root tree j ≤ far
    → (distance n root tree j ≤ longest) ⊎ (distance n root tree j ≡ far)
distance-within n root tree j low most =
    ⊎_elim
    (λ l. inl (omega (arith, distance_legal n root tree j l)))
    (λ l. inr (omega arith))
    (less_or_not (distance n root tree j) far)

-- The distance in the tree that is loaded is the unit's own, and within that.
pub own_measured : (words : List ℕ) (to : ℕ) → Asked words to → {h : Held} → h ≡ held_of (unit_from words)
    → distance_within h.me (take h.count h.tree) (h.count - 1) to ≡ own_distance (unit_from words) to
own_measured words to a held =
    let u = unit_from words in
    ap (λ (h : Held). distance_within h.me (take h.count h.tree) (h.count - 1) to) held
    ∙ ap (λ (tree : List ℕ). distance u.count u.me tree to)
    (take_filled unit_limit u.tree u.count (fit_unit_shaped words a.fit).tree)

pub own_within : (words : List ℕ) (to : ℕ) → Asked words to → {found : ℕ} → found ≡ own_distance (unit_from words) to → found ≤ far
    → (found ≤ longest) ⊎ (found ≡ far)
own_within words to a own most =
    let u = unit_from words in
    rw own (distance-within u.count u.me u.tree to (fit_table_facts words a.fit).high (omega (arith, sym own)))

-- The feasible distance that is loaded is the unit's.
pub feasible_read : (words : List ℕ) (to : ℕ) {h : Held} → h ≡ held_of (unit_from words)
    → at h.feasible to ≡ at (unit_from words).feasible to
feasible_read words to held =
    ap (λ (h : Held). at h.feasible to) held ∙ at_filled unit_limit (unit_from words).feasible to

-- A feasible distance of a fit unit is.
pub feasible_within : (u : Unit) → FitFacts u → (j : ℕ) → j < u.count
    → (at u.feasible j ≤ longest) ⊎ (at u.feasible j ≡ far)
feasible_within u f j l =
    ⊎_elim
    (λ e. inl (omega (arith, ap (at u.feasible) e, f.own_feasible)))
    (λ d. ⊎_elim inr inl (f.feasible j l d))
    (equal_or_not j u.me)

-- A successor set is below 2 ^ unitLimit, so 100 plus the set fits.
pub set_below : (u : Unit) (j : ℕ) → u.count ≤ unit_limit → successor_set u j < 2 ^ unit_limit
unfolding successor_set
set_below u j low =
    omega (arith, bits_below u.count (is_successor u j), pow-le-pow_right {n = 2} (omega arith) {i = u.count} {j = unit_limit} low)

module _ (u : Unit) (s : ShapedUnit u) where
  -- The numbers before the successor sets.
  abbrev front : List ℕ
  front = u.count ∷ u.me ∷ (laid_row u.costs ++ laid_row u.awaited ++ laid_row u.tree ++ laid_row u.feasible)

  front_length : length front ≡ successors_at
  front_length = simp (length-append, length-replicate) (omega (arith, s.limit, s.costs, s.awaited, s.tree, s.feasible))

  -- The table has the successor set of destination j at its place.
  pub set_at_place : (j : ℕ) → j < u.count → at (laid_unit u) (successors_at + j) ≡ successor_set u j
  set_at_place j l =
      let sets = tab u.count (successor_set u) in
      let long : length (laid_row sets) ≡ unit_limit =
      length_filled unit_limit sets (omega (arith, length_tab u.count (successor_set u), s.limit)) in
      at_from successors_at (laid_unit u) (laid_row sets ++ (held_of u).copies) behind j (successors_at + j) refl
      ∙ get_or-append (laid_row sets) (held_of u).copies 0 j (omega (arith, s.limit))
      ∙ at_filled unit_limit sets j
      ∙ tab_at u.count (successor_set u) j 0 l
    where
      behind : drop successors_at (laid_unit u) ≡ laid_row (tab u.count (successor_set u)) ++ (held_of u).copies
      behind =
          ap (drop successors_at) (sym (laid_held u s))
          ∙ ap (drop successors_at) (append_assoc front (laid_row (tab u.count (successor_set u))) (held_of u).copies)
          ∙ drop_at front (laid_row (tab u.count (successor_set u)) ++ (held_of u).copies) successors_at front_length

-- So a fit table has.
pub fit_set : (words : List ℕ) (to : ℕ) → Asked words to → at words (successors_at + to) ≡ successor_set (unit_from words) to
fit_set words to a =
    ap (λ (xs : List ℕ). at xs (successors_at + to)) (sym (unit_lays_back words a.fit))
    ∙ set_at_place (unit_from words) (fit_unit_shaped words a.fit) to a.below

-- And the sets of all destinations.
fit_sets : (words : List ℕ) → fit_unit_table words ≡ true
    → part words successors_at (unit_from words).count ≡ tab (unit_from words).count (successor_set (unit_from words))
unfolding unit_from
fit_sets words e =
    let n = (unit_from words).count in
    sym (tab_part successors_at n words (omega (arith, (loadable words e).0, (loadable words e).1)))
    ∙ tab_ext n (λ j. at words (successors_at + j)) (successor_set (unit_from words))
    (λ j l. fit_set words j (record { fit = e; below = l }))

-- Whether the unit that is held awaits something.
pub active_held : (words : List ℕ) → fit_unit_table words ≡ true → {h : Held} → h ≡ held_of (unit_from words)
    → (leb h.count unit_limit && is_active (unit_of h)) ≡ is_active (unit_from words)
unfolding unit_from
active_held words e held =
    let low : at words 0 ≤ unit_limit = (loadable words e).1 in
    rw held (rw (le-leb (at words 0) unit_limit low) (ap is_active (holds_back (unit_from words) (fit_unit_shaped words e))))

-- What is asked of a fit table at once, from the unit that is held.
pub row_held : (words : List ℕ) → fit_unit_table words ≡ true → {h : Held} {active : Bool} {distances successors : List ℕ}
    → h ≡ held_of (unit_from words) → active ≡ (leb h.count unit_limit && is_active (unit_of h))
    → distances ≡ filled unit_limit (tab h.count (distance h.count h.me (take h.count h.tree)))
    → successors ≡ filled unit_limit (part words successors_at h.count)
    → record {
      count = h.count;
      active = active;
      distances = distances;
      feasible = h.feasible;
      successors = successors;
    }
    ≡ row_of (unit_from words)
row_held words e {active = active} {distances = distances} {successors = successors} held found measured read =
    let u = unit_from words in
    let s = fit_unit_shaped words e in
    let states : active ≡ is_active u = found ∙ active_held words e held in
    let own : distances ≡ laid_row (tab u.count (own_distance u)) =
    measured
    ∙ ap (λ (h : Held). filled unit_limit (tab h.count (distance h.count h.me (take h.count h.tree)))) held
    ∙ ap (λ (tree : List ℕ). filled unit_limit (tab u.count (distance u.count u.me tree)))
    (take_filled unit_limit u.tree u.count s.tree) in
    let sets : successors ≡ laid_row (tab u.count (successor_set u)) =
    read
    ∙ ap (λ (h : Held). filled unit_limit (part words successors_at h.count)) held
    ∙ ap (filled unit_limit) (fit_sets words e) in
    λ i. record {
      count = (held i).count;
      active = states i;
      distances = own i;
      feasible = (held i).feasible;
      successors = sets i;
    }
