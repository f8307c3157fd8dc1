-- The messages of an event where `outgoing` lays them, at most one to each unit: each is found there again as a parcel.
use Prim.Native.Nat.{ℕ, zero, suc, ◌+◌, ◌-◌, ◌≤◌, ◌<◌}
use native.Mathlib.Omega.{arith}
use mathlib.Core.List.{List, [], ◌∷◌, ◌++◌, append_assoc, append-nil}
use mathlib.Core.Logic.{◌⊎◌, inl, inr, ⊎_elim}
use mathlib.Core.Path.{◌≡◌, refl, sym, ap, ◌∙◌}
use lib.ListN.{length, get_or, drop, length-append, get_or-append, drop_of_length-le}
use lib.Seq.{drop-cons, drop-append_seam, drop-drop, take_at}
use Rattle.ground.specs.Limits.{unit_limit}
use Rattle.ground.specs.Rows.{at, tab, joined}
use Rattle.rules.specs.Event.{Reaction}
use Rattle.rules.specs.Hub.{outgoing_to, outgoing}
use Rattle.rules.specs.Message.{Message, written}
use Rattle.ground.proofs.Joined.{joined_suc}
use Rattle.ground.proofs.Lists.{at_from}
use Rattle.ground.proofs.Rows.{length_tab, tab_at}
use Rattle.rules.proofs.LegalMessages.{Legal}
use Rattle.rules.proofs.Written.{written-length}
use Rattle.queues.specs.Parcels.{parcel_length, parcel_at, parcels_to, message_for}
use Rattle.queues.proofs.OneParcel.{past_used, to_other, whole_parcel}
use Rattle.queues.proofs.QueueMessages.{message_short}

-- One message that is legal in a network of n units.
abbrev pub Lone : (n : ℕ) → List Message → Type 0
Lone n ms = (m : Message) × (ms ≡ m ∷ []) × Legal n m

-- No message, or one.
abbrev pub Single : (n : ℕ) → List Message → Type 0
Single n ms = (ms ≡ []) ⊎ Lone n ms

-- A buffer in whose parcels the messages s, to each unit at most one, are found, and no others.
pub record Parcels (n : ℕ) (s : ℕ → List Message) (sent : List ℕ) (used : ℕ) : Type 0 where
  pub nothing : (k : ℕ) → k < n → s k ≡ [] → parcel_at sent used k (parcels_to sent used k) ≡ 0
  pub parcel : (k : ℕ) → k < n → (p : Lone n (s k))
      → parcel_at sent used k (parcels_to sent used k) ≡ 1 + length (written p.0)
  pub message : (k : ℕ) → k < n → (p : Lone n (s k)) → message_for sent used k ≡ written p.0

-- What follows the parcels to the units below k: nothing, or a parcel to k or to a unit above it.
abbrev Next : (k : ℕ) → List ℕ → Type 0
Next k xs = (xs ≡ []) ⊎ ((k ≤ at xs 0) × (5 ≤ length xs))

module _ (n : ℕ) (low : n ≤ unit_limit) (s : ℕ → List Message) (single : (k : ℕ) → k < n → Single n (s k))
    (rest : List ℕ) where
  -- The parcel to unit k.
  unfoldable parcel_to : ℕ → List ℕ
  parcel_to k = outgoing_to k (s k)

  -- There is none where nothing is sent to k.
  to_none : (k : ℕ) → s k ≡ [] → parcel_to k ≡ []
  unfolding parcel_to outgoing_to
  to_none k e = rw e

  -- It is k's number and the message.
  to_one : (k : ℕ) (p : Lone n (s k)) → parcel_to k ≡ k ∷ written p.0
  unfolding parcel_to outgoing_to
  to_one k p = rw p.1 (ap (λ (xs : List ℕ). k ∷ xs) (append-nil (written p.0)))

  -- All parcels.
  abbrev all : List ℕ
  all = joined (tab n parcel_to)

  -- The buffer that they lie in.
  abbrev sent : List ℕ
  sent = all ++ rest

  -- The bytes used.
  abbrev used : ℕ
  used = length all

  -- The parcels to the units below k.
  abbrev below : ℕ → List ℕ
  below k = joined (tab k parcel_to)

  -- The parcels to those from k on.
  abbrev onward : ℕ → List ℕ
  onward k = joined (drop k (tab n parcel_to))

  -- From k on there is k's parcel first.
  onward_first : (k : ℕ) → k < n → onward k ≡ parcel_to k ++ onward (suc k)
  onward_first k h =
      ap joined (drop-cons (tab n parcel_to) k [] (rw length_tab h))
      ∙ ap (λ (xs : List ℕ). xs ++ onward (suc k)) (tab_at n parcel_to k [] h)

  -- Or the parcels above k, where it is sent nothing.
  onward_none : (k : ℕ) → k < n → s k ≡ [] → onward k ≡ onward (suc k)
  onward_none k h e = onward_first k h ∙ ap (λ (xs : List ℕ). xs ++ onward (suc k)) (to_none k e)

  -- Or its number and message, and those above.
  onward_one : (k : ℕ) → k < n → (p : Lone n (s k)) → onward k ≡ k ∷ (written p.0 ++ onward (suc k))
  onward_one k h p = onward_first k h ∙ ap (λ (xs : List ℕ). xs ++ onward (suc k)) (to_one k p)

  -- What follows those below k, found from the last unit down.
  next : (d k : ℕ) → d + k ≡ n → Next k (onward k)
  unfolding written
  next zero k e = inl (ap joined (drop_of_length-le (tab n parcel_to) {i = k} (rw length_tab (omega arith))))
  next (suc d) k e =
      ⊎_elim
      (λ q. rw (onward_none k (omega arith) q) (later (next d (suc k) (omega arith))))
      (λ p. rw (onward_one k (omega arith) p) (inr (omega arith, omega arith)))
      (single k (omega arith))
    where
      later : {xs : List ℕ} → Next (suc k) xs → Next k xs
      later (inl q) = inl q
      later (inr p) = inr (omega arith, p.1)

  -- All parcels are those below k and those from k on.
  split : (k : ℕ) → k ≤ n → all ≡ below k ++ onward k
  split zero h = refl
  split (suc k) h =
      split k (omega arith)
      ∙ ap (λ (xs : List ℕ). below k ++ xs) (onward_first k h)
      ∙ sym (append_assoc (below k) (parcel_to k) (onward (suc k)))
      ∙ ap (λ (xs : List ℕ). xs ++ onward (suc k)) (sym (joined_suc k parcel_to))

  -- So the buffer goes on from there.
  goes_on : (k : ℕ) → k ≤ n → drop (length (below k)) sent ≡ onward k ++ rest
  goes_on k h =
      ap (λ (xs : List ℕ). drop (length (below k)) (xs ++ rest)) (split k h)
      ∙ ap (drop (length (below k))) (append_assoc (below k) (onward k) rest)
      ∙ drop-append_seam (below k) (onward k ++ rest)

  -- The bytes used are theirs together.
  used_split : (k : ℕ) → k ≤ n → used ≡ length (below k) + length (onward k)
  used_split k h = ap length (split k h) ∙ length-append (below k) (onward k)

  -- No parcel to k is found where it is sent nothing.
  no_parcel : (k : ℕ) → k < n → s k ≡ [] → parcel_at sent used k (length (below k)) ≡ 0
  no_parcel k h e =
      let place : ℕ = length (below k) in
      let same : onward k ≡ onward (suc k) = onward_none k h e in
      ⊎_elim
      (λ q. past_used sent used k place (omega (arith, used_split k (omega arith), ap length (same ∙ q))))
      (λ p.
      let first : at sent place ≡ at (onward (suc k)) 0 =
      at_from place sent (onward k ++ rest) (goes_on k (omega arith)) 0 place (omega arith)
      ∙ ap (λ (xs : List ℕ). at (xs ++ rest) 0) same
      ∙ get_or-append (onward (suc k)) rest 0 0 (omega arith) in
      to_other sent used k place (λ z. omega (arith, first, p.0)))
      (next (n - suc k) (suc k) (omega arith))

  -- A message to unit k.
  module _ (k : ℕ) (h : k < n) (p : Lone n (s k)) where
    -- The buffer goes on with its number and the message.
    goes_on_one : drop (length (below k)) sent ≡ k ∷ (written p.0 ++ (onward (suc k) ++ rest))
    goes_on_one =
        goes_on k (omega arith)
        ∙ ap (λ (xs : List ℕ). xs ++ rest) (onward_one k h p)
        ∙ ap (λ (xs : List ℕ). k ∷ xs) (append_assoc (written p.0) (onward (suc k)) rest)

    -- The parcel there has the length of its number and the message.
    its_length : parcel_length sent (length (below k)) ≡ 1 + length (written p.0)
    unfolding written
    its_length =
        let place : ℕ = length (below k) in
        let entries : at sent (place + 4) ≡ length p.0.changes = at_from place sent _ goes_on_one 4 (place + 4) refl in
        omega (arith, written-length p.0)

    -- It is found.
    a_parcel : parcel_at sent used k (length (below k)) ≡ 1 + length (written p.0)
    a_parcel =
        let place : ℕ = length (below k) in
        let long : length (onward k) ≡ 1 + (length (written p.0) + length (onward (suc k))) =
        omega (arith, ap length (onward_one k h p), length-append (written p.0) (onward (suc k))) in
        whole_parcel sent used k place
        (omega (arith, length-append all rest))
        (omega (arith, its_length, used_split k (omega arith)))
        (omega (arith, its_length, message_short n low p.0 p.2))
        (at_from place sent _ goes_on_one 0 place (omega arith))
        ∙ its_length

  -- The parcel that is found for unit k is its own.
  found : (k : ℕ) → k < n → parcel_at sent used k (length (below k)) ≡ length (parcel_to k)
  found k h =
      ⊎_elim
      (λ e. no_parcel k h e ∙ sym (ap length (to_none k e)))
      (λ p. omega (arith, a_parcel k h p, ap length (to_one k p)))
      (single k h)

  -- Where the parcels to the units below k end.
  places : (k : ℕ) → k ≤ n → parcels_to sent used k ≡ length (below k)
  unfolding parcels_to
  places zero h = refl
  places (suc k) h =
      rw (places k (omega arith), found k h)
      (sym (length-append (below k) (parcel_to k)) ∙ ap length (sym (joined_suc k parcel_to)))

  -- Its number of bytes there.
  parcel_there : (k : ℕ) → k < n → parcel_at sent used k (parcels_to sent used k) ≡ length (parcel_to k)
  parcel_there k h = rw (places k (omega arith)) (found k h)

  -- The message in it.
  message_there : (k : ℕ) → k < n → (p : Lone n (s k)) → message_for sent used k ≡ written p.0
  unfolding message_for
  message_there k h p =
      let long : 1 + length (written p.0) - 1 ≡ length (written p.0) = omega arith in
      rw (places k (omega arith), a_parcel k h p, long, ← drop-drop 1 (length (below k)) sent, goes_on_one k h p)
      (take_at (written p.0) (onward (suc k) ++ rest) (length (written p.0)) refl)

  -- So the messages are found in the buffer.
  parcels : Parcels n s sent used
  parcels =
      record {
        nothing = λ k h e. parcel_there k h ∙ ap length (to_none k e);
        parcel = λ k h p. omega (arith, parcel_there k h, ap length (to_one k p));
        message = message_there;
      }

-- What a reaction sends to unit k.
abbrev pub sent_by : Reaction → (k : ℕ) → List Message
sent_by r k = get_or r.sent k []

-- The messages of a reaction are found where they are laid, whatever follows them.
pub outgoing_parcels : (n : ℕ) → n ≤ unit_limit → (r : Reaction) → r.unit.count ≡ n
    → ((k : ℕ) → k < n → Single n (sent_by r k)) → (rest : List ℕ)
    → Parcels n (sent_by r) (outgoing r ++ rest) (length (outgoing r))
unfolding outgoing parcel_to
outgoing_parcels n low r e single rest = rw e (parcels n low (sent_by r) single rest)
