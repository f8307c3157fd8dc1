-- What the pieces of the code's reaction come to, over arrays that hold a fit unit: together, the reaction of steps B to F.
use Prim.Native.Nat.{ℕ, ◌≤◌, ◌<◌, min}
use native.Mathlib.Nat.{zero-add}
use mathlib.Core.Bool.{Bool, true, false, not, ◌&&◌, ◌||◌}
use mathlib.Core.List.{List, [], ◌++◌}
use mathlib.Core.Path.{◌≡◌, refl, sym, ap, ◌∙◌}
use lib.Dec.{eqb}
use lib.ListN.{length, get_or, take, drop}
use lib.Seq.{get_or-take}
use Rattle.std.specs.Prelude.{if◌then◌else◌}
use Rattle.ground.specs.Limits.{unit_limit}
use Rattle.ground.specs.Rows.{at, tab, counted, filled, filled_rows, joined, laid_after}
use Rattle.tree.specs.Recompute.{through_neighbours, recomputed}
use Rattle.tree.specs.Tree.{distance, is_tree}
use Rattle.rules.specs.Event.{changed, is_alone}
use Rattle.rules.specs.Hub.{outgoing_to, outgoing}
use Rattle.rules.specs.Tables.{laid_row}
use Rattle.rules.specs.Unit.{Unit, is_active, own_distance, successor_set}
use Rattle.ground.proofs.Filled.{take_filled}
use Rattle.ground.proofs.Filling.{filled_tab_at}
use Rattle.ground.proofs.Rows.{tab_at, tab_ext}
use Rattle.tree.proofs.Costs.{through_costs, recomputed_costs}
use Rattle.rules.proofs.FitUnit.{FitFacts, fit_facts, feasible_far}
use Rattle.ground.proofs.Limits.{filled_counted}
use Rattle.recomputing.specs.Flat.{through_in}
use Rattle.recomputing.specs.Legal.{LegalCosts, LegalCopies, recomputed_from}
use Rattle.recomputing.proofs.CopiedRows.{whole_of, through_whole}
use Rattle.recomputing.proofs.Recomputing.{recomputed-from}
use Rattle.state.specs.Holding.{unit_of}
use Rattle.unit.specs.Reacted.{FitHeld, through_of, lowering_for, lowered_to, lowered_row, awaited_row, reacted_of, reacted_out}
use Rattle.rules.specs.Event.{new_tree, lowered, new_feasible, is_sent_update, new_awaited, message_to, reaction_by}
use Rattle.unit.specs.Sending.{sent_bytes}
use Rattle.recomputing.specs.Successors.{sets_over}
use Rattle.unit.specs.declared.event.Lowering.{Lowering}
use Rattle.unit.specs.declared.event.Reacted.{Reacted}
use Rattle.state.specs.declared.held.Held.{Held}
use Rattle.steps.proofs.FitReaction.{length_by, tree_by, unit_by, facts_by}
use Rattle.unit.proofs.HeldFit.{held_shaped, held_flat}
use Rattle.state.proofs.Successors.{sets_held}

module _ (h : Held) where
  -- The unit, and its count.
  abbrev U : Unit
  U = unit_of h

  abbrev N : ℕ
  N = h.count

  -- A number of a row, and of the row that the unit has.
  row-at : (row : List ℕ) (k : ℕ) → k < N → at row k ≡ at (take N row) k
  row-at row k l = sym (get_or-take N row k 0 l)

  -- The distances through neighbours, from the array of costs.
  pub through_held : filled_rows unit_limit (through_neighbours N h.costs U.copies) ≡ through_of U
  through_held = ap (filled_rows unit_limit) (through_costs N h.costs U.costs (row-at h.costs) U.copies)

  -- The recomputed tree, from the array of costs.
  pub recomputed_held : recomputed N h.me h.costs U.copies ≡ recomputed N h.me U.costs U.copies
  recomputed_held = recomputed_costs N h.costs U.costs (row-at h.costs) h.me U.copies

  module _ (p : FitHeld h) where
    -- What is fit of the unit.
    facts : FitFacts U
    facts = fit_facts U p.fit

    -- The costs in the array are legal.
    pub costs_held : LegalCosts N h.costs
    costs_held k l = rw (row-at h.costs k l) (facts.cost k l)

    -- The copies of neighbours are trees.
    pub copies_held : LegalCopies N h.costs U.copies
    copies_held k l up = facts.copy_up k l (rw (row-at h.costs k l) at up)

    -- From these the engine gives the recomputed tree.
    from_held : {through : List (List ℕ)} → through ≡ through_of U
        → recomputed_from N h.me h.costs h.copies through ≡ recomputed N h.me U.costs U.copies
    from_held {through} e =
        recomputed-from N h.me h.costs h.copies through (whole_of N h.copies facts.high (held_flat p)) facts.me
        costs_held copies_held (e ∙ sym through_held)
        ∙ recomputed_held

    pub row_held : {through : List (List ℕ)} {row : List ℕ} → through ≡ through_of U
        → row ≡ laid_row (recomputed_from N h.me h.costs h.copies through)
        → row ≡ laid_row (recomputed N h.me U.costs U.copies)
    row_held e er = er ∙ ap laid_row (from_held e)

    -- The distances through neighbours that it gives.
    pub through-of : {through : List (List ℕ)} → through ≡ filled_rows unit_limit (through_in N h.costs h.copies) → through ≡ through_of U
    through-of e = e ∙ through_whole N h.costs h.copies facts.high (held_flat p) ∙ through_held

    -- The successor sets.
    pub sets_of : {sets : List ℕ} (through : List (List ℕ)) (feasible : List ℕ)
        → sets ≡ filled unit_limit (counted N (sets_over N through feasible))
        → sets ≡ filled unit_limit (sets_over N through feasible)
    sets_of through feasible e = e ∙ filled_counted N _ facts.high

    -- The new tree, from the answers of the functions that find it.
    pub tree_composed : (was : Bool) {active kept : Bool} {tree : List ℕ}
        → active ≡ is_active U
        → kept ≡ was && active
        → tree ≡ laid_row (if kept then U.tree else recomputed N h.me U.costs U.copies)
        → tree ≡ laid_row (new_tree U was)
    unfolding new_tree
    tree_composed was ea ek et = rw (et, ek, ea)

    -- It is read back from its array.
    tree_held : (was : Bool) (tree : List ℕ) → tree ≡ laid_row (new_tree U was) → take N tree ≡ new_tree U was
    tree_held was tree e =
        ap (take N) e ∙ take_filled unit_limit (new_tree U was) N (length_by U was (held_shaped p).tree)

    -- It is a tree.
    pub tree_rooted : (was : Bool) (tree : List ℕ) → tree ≡ laid_row (new_tree U was) → is_tree N h.me (take N tree) ≡ true
    tree_rooted was tree e = rw (tree_held was tree e) (tree_by U was facts)

  -- Where a feasible distance and the distances in the old and the new tree lead.
  lowered-to : (alone was now : Bool) (x y z : ℕ)
      → lowered_to (lowering_for alone was now) x y z
      ≡ (if alone then z else if not was then min x z else if now then x else min y z)
  lowered-to true was now x y z = refl
  lowered-to false false now x y z = refl
  lowered-to false true true x y z = refl
  lowered-to false true false x y z = refl

  -- The distances in a tree, in an array.
  abbrev pub distances_in : List ℕ → List ℕ
  distances_in tree = filled unit_limit (tab N (distance N h.me tree))

  -- The functions that find them count units up to the limit.
  pub distances_counted : N ≤ unit_limit → (tree : List ℕ) {row : List ℕ} → row ≡ filled unit_limit (counted N (tab N (distance N h.me tree)))
      → row ≡ distances_in tree
  distances_counted l tree e = e ∙ filled_counted N _ l

  -- A distance in it.
  distance_at : (tree : List ℕ) (j : ℕ) → j < N → at (distances_in tree) j ≡ distance N h.me tree j
  distance_at tree = filled_tab_at unit_limit N (distance N h.me tree)

  module _ (was : Bool) (t : List ℕ) where
    -- Whether the tree changed and there is no neighbour.
    abbrev alone_by : Bool
    alone_by = changed U t && is_alone U

    -- The feasible distances.
    feasible-held
        : filled unit_limit
        (lowered_row N (lowering_for alone_by was (is_active U)) h.feasible (distances_in U.tree) (distances_in t))
        ≡ laid_row (new_feasible U was t)
    unfolding new_feasible
    feasible-held =
        ap laid_row
        (tab_ext N
        (λ j. lowered_to how (at h.feasible j) (at (distances_in U.tree) j) (at (distances_in t) j))
        (λ j. if alone_by then distance N h.me t j else lowered U was t j)
        (λ j l.
        rw (row-at h.feasible j l, distance_at U.tree j l, distance_at t j l)
        (lowered-to alone_by was (is_active U) (at U.feasible j) (own_distance U j) (distance N h.me t j))))
      where
        how : Lowering
        how = lowering_for alone_by was (is_active U)

    -- The same from the answers of the functions that find them.
    pub feasible_composed : {isChanged left active : Bool} {how : Lowering} {old new row : List ℕ}
        → active ≡ is_active U
        → isChanged ≡ changed U t
        → left ≡ isChanged && is_alone U
        → how ≡ lowering_for left was active
        → old ≡ distances_in U.tree
        → new ≡ distances_in t
        → row ≡ filled unit_limit (lowered_row N how h.feasible old new)
        → row ≡ laid_row (new_feasible U was t)
    feasible_composed ea ec eb eh eo en er = rw (er, eo, en, eh, eb, ec, ea) feasible-held

    -- The waits.
    awaited_held : (new : ℕ)
        → filled unit_limit (awaited_row N h.costs h.awaited (changed U t) new) ≡ laid_row (new_awaited U t new)
    unfolding new_awaited is_sent_update
    awaited_held new =
        ap laid_row
        (tab_ext N
        (λ k. if not (eqb (at h.costs k) 0) && (changed U t || eqb k new) then 1 else at h.awaited k)
        (λ k. if not (eqb (at U.costs k) 0) && (changed U t || eqb k new) then 1 else at U.awaited k)
        (λ k l. rw (row-at h.costs k l, row-at h.awaited k l)))

  module _ (was : Bool) (new owed : ℕ) where
    -- The new tree.
    abbrev T : List ℕ
    T = new_tree U was

    -- The bytes of the messages.
    sent_held : outgoing (reaction_by U was new owed) ≡ sent_bytes U T new owed
    unfolding outgoing reaction_by
    sent_held =
        ap joined
        (tab_ext N
        (λ k. outgoing_to k (get_or (tab N (message_to U T new owed)) k []))
        (λ k. outgoing_to k (message_to U T new owed k))
        (λ k l. ap (outgoing_to k) (tab_at N (message_to U T new owed) k [] l)))

    -- The buffer.
    buffer_held : (buffer : List ℕ) → laid_after 0 (sent_bytes U T new owed) buffer ≡ reacted_out U was new owed buffer
    unfolding reacted_out
    buffer_held buffer =
        rw (zero-add (length (sent_bytes U T new owed)))
        (ap (λ (bytes : List ℕ). bytes ++ drop (length bytes) buffer) (sym sent_held))

    module _ (p : FitHeld h) (tree : List ℕ) (et : tree ≡ laid_row T) where
      -- The new tree without its zeros.
      back : take N tree ≡ T
      back = tree_held p was tree et

      -- The unit, its successor sets and the bytes used, from the answers of the functions that find them.
      pub composed : {isChanged : Bool} {through : List (List ℕ)} {awaited feasible successors : List ℕ} {used : ℕ}
          → through ≡ through_of U
          → isChanged ≡ changed U (take N tree)
          → awaited ≡ filled unit_limit (awaited_row N h.costs h.awaited isChanged new)
          → feasible ≡ laid_row (new_feasible U was (take N tree))
          → successors ≡ filled unit_limit (sets_over N through feasible)
          → used ≡ length (sent_bytes U (take N tree) new owed)
          → ◌≡◌ {A = Reacted}
          (record {
            unit = record {
              count = N;
              me = h.me;
              costs = h.costs;
              awaited = awaited;
              tree = tree;
              feasible = feasible;
              copies = h.copies;
            };
            successors = successors;
            used = used;
          })
          (reacted_of U was new owed)
      unfolding reacted_of reaction_by
      composed {isChanged} {through} {awaited} {feasible} {successors} {used} eh ec ea ef es eu =
          λ i. record {
            unit = record {
              count = N;
              me = h.me;
              costs = (p.padded i).costs;
              awaited = waits i;
              tree = et i;
              feasible = near i;
              copies = (p.padded i).copies;
            };
            successors = sets i;
            used = bytes i;
          }
        where
          W : Unit
          W = unit_by U was new owed

          waits : awaited ≡ laid_row (new_awaited U T new)
          waits = rw (ea, ec, back) (awaited_held was T new)

          near : feasible ≡ laid_row (new_feasible U was T)
          near = rw (ef, back)

          sets : successors ≡ laid_row (tab N (successor_set W))
          sets = rw (es, eh, near) (sets_held W (feasible_far W (facts_by U was new owed (facts p))))

          bytes : used ≡ length (outgoing (reaction_by U was new owed))
          bytes = rw (eu, back, sent_held)

      -- What the buffer holds then.
      pub buffer_composed : (buffer : List ℕ) {after : List ℕ} → after ≡ laid_after 0 (sent_bytes U (take N tree) new owed) buffer
          → after ≡ reacted_out U was new owed buffer
      buffer_composed buffer e = rw (e, back) (buffer_held buffer)
