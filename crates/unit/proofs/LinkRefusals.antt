-- The refusals of calls about a link, 2 to 7, from the tests in the order in which the code makes them.
use Prim.Native.Nat.{ℕ, ◌+◌, ◌≤◌, ◌<◌}
use mathlib.Core.Bool.{Bool, true, false, not, ◌||◌}
use mathlib.Core.List.{List}
use mathlib.Core.Logic.{◌≢◌}
use mathlib.Core.Path.{◌≡◌, sym, ap, ◌∙◌}
use borrow.Author.Tests.{eqb-false, ltb-true, ltb-false, not-true, not-false, lt-ltb, le-ltb}
use lib.Dec.{eqb, ltb}
use lib.ListN.{drop}
use lib.Seq.{get_or-take, get_or-drop}
use Rattle.std.specs.Prelude.{if◌then◌else◌}
use Rattle.ground.specs.Limits.{firmware_room, legal_cost}
use Rattle.ground.specs.Refusal.{accepted, ◌gives◌, ◌otherwise◌}
use Rattle.ground.specs.Refused.{number_of}
use Rattle.ground.specs.declared.refusals.Refusal.{Refusal}
use Rattle.ground.specs.Rows.{at}
use Rattle.rules.specs.Hub.{hub_up, hub_cost, hub_down, hub_refusal, table_refusal, too_short}
use Rattle.rules.specs.Network.{bad_ends, link_refusal}
use Rattle.rules.specs.Tables.{unit_from, costs_at, fit_unit_table}
use Rattle.rules.specs.Unit.{is_neighbour}
use Rattle.ground.proofs.Answers.{refusal_first}
use Rattle.ground.proofs.Refusal.{gives_none, otherwise_none, rest_counts, in_a_row}
use Rattle.ground.proofs.Tests.{neither}
use Rattle.rules.proofs.FitUnit.{FitFacts, fit_table_facts}
use Rattle.unit.specs.Calls.{end_refusal, cost_in, link_rest, first_refusal, call_of}
use Rattle.unit.specs.declared.calls.Call.{Call}
use Rattle.unit.specs.declared.calls.Call.TheVariants.{Up, Cost, Down}

-- Each call about a link: the ends first, then the link.
module _ (words : List ℕ) (room to : ℕ) where
  -- 2, and then 3, of the ends; and then the rest.
  grouped : (legal asks : Bool)
      → (not (fit_unit_table words) gives 2
      otherwise bad_ends (unit_from words).count (unit_from words).me to gives 3
      otherwise link_rest (unit_from words) room to legal asks)
      ≡ first_refusal words room to legal asks
  grouped legal asks =
      in_a_row (not (fit_unit_table words) gives 2) (bad_ends (unit_from words).count (unit_from words).me to gives 3)
      (link_rest (unit_from words) room to legal asks)

  pub up_parts : (cost : ℕ) → table_refusal words room (hub_up to cost) ≡ first_refusal words room to (legal_cost cost) true
  unfolding table_refusal hub_refusal
  up_parts cost = grouped (legal_cost cost) true

  pub cost_parts : (cost : ℕ) → table_refusal words room (hub_cost to cost) ≡ first_refusal words room to (legal_cost cost) false
  unfolding table_refusal hub_refusal
  cost_parts cost = grouped (legal_cost cost) false

  pub down_parts : table_refusal words room (hub_down to) ≡ first_refusal words room to true false
  unfolding table_refusal hub_refusal
  down_parts = grouped true false

  -- By a cost that is found legal or not.
  by_cost : (asks : Bool) {test legal : Bool} → test ≡ legal
      → first_refusal words room to test asks ≡ first_refusal words room to legal asks
  by_cost asks found = ap (λ (t : Bool). first_refusal words room to t asks) found

  module _ (legal asks : Bool) where
    -- A refusal of the ends counts.
    pub ends_first : (refusal : Refusal) → number_of refusal ≡ end_refusal words to → number_of refusal ≡ first_refusal words room to legal asks
    ends_first refusal e = refusal_first refusal _ _ e

    -- Where there is none, the rest does: 4 first.
    module _ (none : accepted ≡ end_refusal words to) where
      rest : first_refusal words room to legal asks ≡ link_rest (unit_from words) room to legal asks
      rest = rest_counts (end_refusal words to) _ (sym none)

      pub cost_next : legal ≡ false → 4 ≡ first_refusal words room to legal asks
      cost_next illegal = sym (rest ∙ rw illegal)

      -- Then 5 or 6, of the link as the table's cost has it.
      module _ (is-legal : legal ≡ true) {cost : ℕ} (read : cost ≡ cost_in words to) where
        linked : first_refusal words room to legal asks ≡ (link_refusal (not (eqb cost 0)) asks otherwise too_short room gives 7)
        linked = rest ∙ rw (is-legal, read)

        pub link_next : (refusal : Refusal) → number_of refusal ≡ link_refusal (not (eqb cost 0)) asks
            → number_of refusal ≡ first_refusal words room to legal asks
        link_next refusal e = refusal_first refusal _ _ e ∙ sym linked

        -- And 7.
        pub room_next : accepted ≡ link_refusal (not (eqb cost 0)) asks → (too_short room gives 7) ≡ first_refusal words room to legal asks
        room_next z = sym (linked ∙ rest_counts _ _ (sym z))

-- The refusal of a call, once it is known which it is.
module _ (words : List ℕ) (room : ℕ) (bytes : List ℕ) {call : Call} {number : ℕ} where
  pub by_call : {known : Call} → call ≡ known → number ≡ table_refusal words room (call_of known bytes)
      → number ≡ table_refusal words room (call_of call bytes)
  by_call told e = e ∙ ap (λ (c : Call). table_refusal words room (call_of c bytes)) (sym told)

  -- A call with a cost that is found legal or not.
  module _ {to cost : ℕ} {legal : Bool} where
    pub up_refused : call ≡ Up to cost → legal ≡ legal_cost cost → number ≡ first_refusal words room to legal true
        → number ≡ table_refusal words room (call_of call bytes)
    up_refused told found e =
        by_call told (e ∙ by_cost words room to true found ∙ sym (up_parts words room to cost))

    pub cost_refused : call ≡ Cost to cost → legal ≡ legal_cost cost → number ≡ first_refusal words room to legal false
        → number ≡ table_refusal words room (call_of call bytes)
    cost_refused told found e =
        by_call told (e ∙ by_cost words room to false found ∙ sym (cost_parts words room to cost))

  pub down_refused : {to : ℕ} → call ≡ Down to → number ≡ first_refusal words room to true false
      → number ≡ table_refusal words room (call_of call bytes)
  down_refused {to} told e = by_call told (e ∙ sym (down_parts words room to))

-- The ends' refusal: the table's fitness decides first, then the numbers.
pub end_unfit : (words : List ℕ) (to : ℕ) → fit_unit_table words ≡ false → end_refusal words to ≡ 2
end_unfit words to e = rw e

pub end_numbers : (words : List ℕ) (to : ℕ) → fit_unit_table words ≡ true → (bad : Bool) → bad ≡ bad_ends (at words 0) (at words 1) to
    → end_refusal words to ≡ (if bad then 3 else 0)
unfolding unit_from
end_numbers words to e true t = rw (e, ← t)
end_numbers words to e false t = rw (e, ← t)

-- What it tells that the ends are not refused.
pub record Ends (words : List ℕ) (to : ℕ) : Type 0 where
  pub fit : fit_unit_table words ≡ true
  pub facts : FitFacts (unit_from words)
  pub below : to < (unit_from words).count
  pub other : to ≢ (unit_from words).me

pub ends : (words : List ℕ) (to : ℕ) → end_refusal words to ≡ accepted → Ends words to
unfolding bad_ends
ends words to e =
    let u = unit_from words in
    let none = otherwise_none (not (fit_unit_table words) gives 2) (bad_ends u.count u.me to gives 3) e in
    let fit = not-false (fit_unit_table words) (gives_none (not (fit_unit_table words)) 1 none.0) in
    let good = gives_none (bad_ends u.count u.me to) 2 none.1 in
    let apart = neither (not (ltb u.me u.count) || not (ltb to u.count)) (eqb u.me to) good in
    let inside = neither (not (ltb u.me u.count)) (not (ltb to u.count)) apart.0 in
    record {
      fit = fit;
      facts = fit_table_facts words fit;
      below = ltb-true to u.count (not-false (ltb to u.count) inside.1);
      other = λ same. eqb-false u.me to apart.1 (sym same);
    }

-- The word of a fit table for a link's cost.
pub cost_word : (words : List ℕ) (to : ℕ) → Ends words to → at words (costs_at + to) ≡ cost_in words to
unfolding unit_from
cost_word words to h =
    sym (get_or-take (at words 0) (drop costs_at words) to 0 h.below ∙ get_or-drop costs_at words to 0)

-- What it tells that a call about a link has no refusal of 2 to 7.
pub record Passed (words : List ℕ) (room to : ℕ) (legal asks : Bool) : Type 0 where
  pub ends : Ends words to
  pub cost : legal ≡ true
  pub link : link_refusal (is_neighbour (unit_from words) to) asks ≡ accepted
  pub roomy : firmware_room ≤ room

pub passed : (words : List ℕ) (room to : ℕ) (legal asks : Bool) {number : ℕ}
    → number ≡ first_refusal words room to legal asks → number ≡ accepted → Passed words room to legal asks
passed words room to legal asks e none =
    let link : ℕ = link_refusal (is_neighbour (unit_from words) to) asks in
    let parts = otherwise_none (end_refusal words to) (link_rest (unit_from words) room to legal asks) (sym e ∙ none) in
    let own = otherwise_none (not legal gives 4) (link otherwise too_short room gives 7) parts.1 in
    let last = otherwise_none link (too_short room gives 7) own.1 in
    record {
      ends = ends words to parts.0;
      cost = not-false legal (gives_none (not legal) 3 own.0);
      link = last.0;
      roomy = ltb-false room firmware_room (gives_none (too_short room) 6 last.1);
    }

-- A link that a call about one that should be up is not refused for.
pub linked_up : (words : List ℕ) (to : ℕ) → link_refusal (is_neighbour (unit_from words) to) false ≡ accepted
    → at (unit_from words).costs to ≢ 0
linked_up words to e =
    let up : Bool = is_neighbour (unit_from words) to in
    eqb-false (cost_in words to) 0 (not-true (eqb (cost_in words to) 0) (not-false up (gives_none (not up) 5 e)))

-- The room, short or not.
pub room_short : (room : ℕ) → room < firmware_room → (too_short room gives 7) ≡ 7
room_short room h = rw (lt-ltb room firmware_room h)

pub room_enough : (room : ℕ) → firmware_room ≤ room → (too_short room gives 7) ≡ 0
room_enough room h = rw (le-ltb room firmware_room h)
