-- Laws of all messages of an event: what fit tables and a new tree give for the message to each neighbour, that it is
-- legal, that the bytes laid for it are those of the rules, and that there is room for all.
use Prim.Native.Nat.{ℕ, ◌+◌, ◌≤◌, ◌<◌}
use native.Mathlib.Omega.{arith}
use mathlib.Core.Bool.{Bool, true, false, not, ◌&&◌, ◌||◌}
use mathlib.Core.List.{List, []}
use mathlib.Core.Logic.{◌≢◌, ⊎_elim}
use mathlib.Core.Path.{◌≡◌, refl, sym, ap, ◌∙◌}
use borrow.Author.Tests.{eq-eqb, ne_eqb}
use lib.Dec.{eqb}
use lib.ListN.{length, take}
use lib.Seq.{get_or-take}
use Rattle.std.specs.Option.{option_eq}
use Rattle.std.specs.Prelude.{Option, Some, unwrap_or, if◌then◌else◌}
use Rattle.ground.specs.Limits.{unit_limit, message_room, firmware_room}
use Rattle.ground.specs.Rows.{at, tab, zeros, joined}
use Rattle.tree.specs.Tree.{is_tree}
use Rattle.rules.specs.Hub.{outgoing_to}
use Rattle.rules.specs.Message.{update, differences, legal_message}
use Rattle.message.specs.Fields.{fields_of}
use Rattle.ground.proofs.Joined.{joined_most, joined_skip}
use Rattle.ground.proofs.Lists.{at_zeros}
use Rattle.ground.proofs.Rows.{tab_ext}
use Rattle.ground.proofs.Tests.{less_or_not, equal_or_not}
use Rattle.tree.proofs.Rooted.{zeros_tree}
use Rattle.rules.proofs.Differences.{differences_ext}
use Rattle.rules.proofs.FitUnit.{FitFacts, fit_facts}
use Rattle.rules.proofs.LegalDifferences.{legal_update, legal_acknowledgment}
use Rattle.rules.proofs.TreeEntries.{tree_short}
use Rattle.rules.proofs.LegalMessages.{legal_of}
use Rattle.rules.proofs.Written.{written-length}
use Rattle.state.specs.Holding.{unit_of}
use Rattle.rules.specs.Event.{is_sent_update, differences_for, message_to}
use Rattle.unit.specs.Sending.{Small, listed, kind_for, bytes_to, Sendable, SendableAll, sent_bytes}
use Rattle.state.specs.declared.held.Held.{Held}
use Rattle.unit.specs.declared.send.Changes.{Changes}
use Rattle.unit.proofs.LaidMessages.{is_given, sent_to, list_in, list_fits, list_back, bytes_outgoing}

-- The changes that the code picks for a neighbour.
abbrev pub picked : (sent is_new : Bool) (whole some : Changes) → Changes
picked sent is_new whole some = if sent then (if is_new then whole else some) else listed []

-- They have place in their array.
picked_fits : (sent is_new : Bool) {whole some : Changes} (xs ys : List ℕ) → whole ≡ listed xs → some ≡ listed ys
    → (picked sent is_new whole some).number ≤ length (picked sent is_new whole some).list
picked_fits true true xs ys w s = list_fits xs w
picked_fits true false xs ys w s = list_fits ys s
picked_fits false is_new xs ys w s = list_fits [] refl

-- They are those that were listed.
picked_back : (sent is_new : Bool) {whole some : Changes} (xs ys : List ℕ) → whole ≡ listed xs → some ≡ listed ys
    → list_in (picked sent is_new whole some) ≡ (if sent then (if is_new then xs else ys) else [])
picked_back true true xs ys w s = list_back xs w
picked_back true false xs ys w s = list_back ys s
picked_back false is_new xs ys w s = list_back [] refl

-- What the code finds for neighbour k, where the new neighbour and the one that is owed may be none.
module _ (n k : ℕ) (below : k < n) (costs : List ℕ) (isChanged : Bool) (new : Option ℕ) {is_new sent : Bool}
    (e : is_new ≡ option_eq eqb new (Some k)) (s : sent ≡ not (eqb (at costs k) 0) && (isChanged || is_new)) where
  new_as : is_new ≡ eqb k (unwrap_or new n)
  new_as = e ∙ is_given new n k below

  sent_as : sent ≡ sent_to costs isChanged (unwrap_or new n) k
  sent_as = s ∙ ap (λ (t : Bool). not (eqb (at costs k) 0) && (isChanged || t)) new_as

  pub picked_as : (whole some : Changes) {changes : Changes} → changes ≡ picked sent is_new whole some
      → changes ≡ picked (sent_to costs isChanged (unwrap_or new n) k) (eqb k (unwrap_or new n)) whole some
  picked_as whole some p = p ∙ rw (sent_as, new_as)

  pub kind_as : (owed : Option ℕ) {owes : Bool} {number : ℕ} → owes ≡ option_eq eqb owed (Some k) → number ≡ kind_for sent owes
      → number ≡ kind_for (sent_to costs isChanged (unwrap_or new n) k) (eqb k (unwrap_or owed n))
  kind_as owed f p = p ∙ rw (sent_as, f, is_given owed n k below)

-- The bytes that the code lays for neighbour k, from what it holds before its loop.
unfoldable pub bytes_for : (isChanged : Bool) (new owed me : ℕ) (costs : List ℕ) (some whole : Changes) (k : ℕ) → List ℕ
bytes_for isChanged new owed me costs some whole k =
    bytes_to k (kind_for (sent_to costs isChanged new k) (eqb k owed)) me
    (list_in (picked (sent_to costs isChanged new k) (eqb k new) whole some))

module _ (h : Held) (tree : List ℕ) (isChanged : Bool) (owed room : ℕ) (all : SendableAll h tree isChanged owed room) where
  -- What a fit unit is.
  pub facts : FitFacts (unit_of h)
  facts = fit_facts (unit_of h) all.fit.fit

  -- A place below the count.
  taken : (xs : List ℕ) (j : ℕ) → j < h.count → at (take h.count xs) j ≡ at xs j
  taken xs j l = get_or-take h.count xs j 0 l

  -- The new tree's entries leave room for the unit's byte.
  pub small_tree : Small h.count tree
  small_tree j l =
      omega (
        arith,
        taken tree j l,
        tree_short h.count h.me (take h.count tree) all.rooted (omega (arith, facts.high)) j l,
      )

  -- No unit has a link to itself.
  own_cost : at h.costs h.me ≡ 0
  own_cost = sym (taken h.costs h.me facts.me) ∙ facts.own_cost

  module _ (new : ℕ) where
    -- The changes in an update to neighbour k, as the rules have them.
    abbrev changes_to : ℕ → List ℕ
    changes_to k = differences h.count (if eqb k new then zeros h.count else take h.count h.tree) (take h.count tree)

    -- What they differ from is a tree.
    old_tree : (b : Bool) → is_tree h.count h.me (if b then zeros h.count else take h.count h.tree) ≡ true
    old_tree true = zeros_tree h.count h.me
    old_tree false = facts.tree

    -- An update is legal.
    legal_sent : (k kind : ℕ) → update ≤ kind → kind ≤ 3
        → legal_message h.count (record { kind = kind; sender = h.me; changes = changes_to k }) ≡ true
    legal_sent k kind low high =
        legal_update h.count h.me _ _ (omega (arith, facts.high)) facts.me (old_tree (eqb k new)) all.rooted kind low high

    -- Each message is legal.
    legal_one : (k : ℕ) (sent owes : Bool) → kind_for sent owes ≢ 0
        → legal_message h.count (record { kind = kind_for sent owes; sender = h.me; changes = if sent then changes_to k else [] }) ≡ true
    legal_one k true true some = legal_sent k 3 (omega arith) (omega arith)
    legal_one k true false some = legal_sent k 2 (omega arith) (omega arith)
    legal_one k false true some = legal_acknowledgment h.count h.me facts.me
    legal_one k false false some = absurd (some refl)

    -- The changes that the code picks from are the same.
    same_changes : (sent is_new : Bool)
        → (if sent
        then (if is_new then differences h.count (zeros unit_limit) tree else differences h.count h.tree tree)
        else [])
        ≡ (if sent then differences h.count (if is_new then zeros h.count else take h.count h.tree) (take h.count tree) else [])
    same_changes true true =
        differences_ext h.count _ _ _ _ (λ j l. at_zeros unit_limit j ∙ sym (at_zeros h.count j)) (λ j l. sym (taken tree j l))
    same_changes true false =
        differences_ext h.count _ _ _ _ (λ j l. sym (taken h.tree j l)) (λ j l. sym (taken tree j l))
    same_changes false is_new = refl

    module _ (some whole : Changes) (s : some ≡ listed (differences h.count h.tree tree))
        (w : whole ≡ listed (differences h.count (zeros unit_limit) tree)) where
      -- Whether neighbour k is sent an update.
      abbrev sends : ℕ → Bool
      sends k = sent_to h.costs isChanged new k

      -- The kind of its message.
      abbrev kind_to : ℕ → ℕ
      kind_to k = kind_for (sends k) (eqb k owed)

      -- The bytes that the code lays.
      abbrev laid : ℕ → List ℕ
      laid = bytes_for isChanged new owed h.me h.costs some whole

      -- The changes that it picks have place in their array.
      pub place_for : (k : ℕ)
          → (picked (sends k) (eqb k new) whole some).number ≤ length (picked (sends k) (eqb k new) whole some).list
      place_for k =
          picked_fits (sends k) (eqb k new) (differences h.count (zeros unit_limit) tree) (differences h.count h.tree tree) w s

      -- They are those of the rules.
      list_of : (k : ℕ) → list_in (picked (sends k) (eqb k new) whole some) ≡ (if sends k then changes_to k else [])
      list_of k = picked_back (sends k) (eqb k new) _ _ w s ∙ same_changes (sends k) (eqb k new)

      -- So is the choice of who is sent an update.
      same_sent : (k : ℕ) → k < h.count → is_sent_update (unit_of h) (take h.count tree) new k ≡ sends k
      unfolding is_sent_update
      same_sent k l = rw (taken h.costs k l, all.tells)

      -- So are the bytes.
      bytes-for : (k : ℕ) → k < h.count → laid k ≡ outgoing_to k (message_to (unit_of h) (take h.count tree) new owed k)
      unfolding bytes_for message_to differences_for
      bytes-for k l =
          ap (bytes_to k (kind_to k) h.me) (list_of k)
          ∙ rw (same_sent k l) (bytes_outgoing k h.me (sends k) (eqb k owed) (changes_to k))

      -- This unit is sent nothing.
      own_none : kind_to h.me ≡ 0
      own_none = rw (eq-eqb (at h.costs h.me) 0 own_cost, ne_eqb h.me owed (λ q. all.other (sym q)))

      -- So no bytes are laid for it.
      own_bytes : laid h.me ≡ []
      unfolding bytes_for
      own_bytes = rw own_none

      -- The fields that the code hands over are legal.
      legal_picked : (k : ℕ) → kind_to k ≢ 0
          → legal_message h.count (record { kind = kind_to k; sender = h.me; changes = list_in (picked (sends k) (eqb k new) whole some) }) ≡ true
      legal_picked k there = rw (list_of k) (legal_one k (sends k) (eqb k owed) there)

      -- Each takes at most the neighbour's number and the longest message.
      bytes_most : (k : ℕ) → k < h.count → length (laid k) ≤ 1 + message_room
      unfolding bytes_for
      bytes_most k l = ⊎_elim (λ e. rw e (omega arith)) long (equal_or_not (kind_to k) 0)
        where
          long : kind_to k ≢ 0 → length (laid k) ≤ 1 + message_room
          long there =
              let m = fields_of (kind_to k) h.me (list_in (picked (sends k) (eqb k new) whole some)) in
              rw (ne_eqb (kind_to k) 0 there)
              (omega (arith, written-length m, (legal_of h.count m (legal_picked k there)).entries, facts.high))

      -- At another unit there is room for one more.
      room_for : (k : ℕ) → k < h.count → k ≢ h.me → length (joined (tab k laid)) + (1 + message_room) ≤ firmware_room
      room_for k l d =
          ⊎_elim
          (λ b. omega (arith, joined_most (1 + message_room) h.count laid bytes_most k (omega arith), facts.me, facts.high))
          (λ b. omega (arith, joined_skip (1 + message_room) h.count laid bytes_most h.me own_bytes k (omega arith) (omega arith), facts.high))
          (less_or_not k h.me)

      -- All of them are few.
      pub sent_short : length (joined (tab h.count laid)) ≤ firmware_room
      sent_short =
          omega
          (arith, joined_skip (1 + message_room) h.count laid bytes_most h.me own_bytes h.count (omega (arith, facts.me)) (omega arith), facts.high)

      -- Each message can be laid.
      pub sendable_one : (k used : ℕ) → k < h.count → used ≡ length (joined (tab k laid))
          → Sendable h.count h.me k (kind_to k) (list_in (picked (sends k) (eqb k new) whole some)) room used
      sendable_one k used l e =
          record {
            low = facts.low;
            high = facts.high;
            sender = facts.me;
            receiver = l;
            fits = λ there. omega (arith, room_for k l (λ q. there (ap kind_to q ∙ own_none)), all.fits);
            legal = legal_picked k;
          }

      -- All bytes are those of the rules.
      pub sent_all : joined (tab h.count laid) ≡ sent_bytes (unit_of h) (take h.count tree) new owed
      sent_all = ap joined (tab_ext h.count laid _ bytes-for)
