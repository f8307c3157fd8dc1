-- Laws of the messages of an event as the code lays them: the changes that a loop lists, one message in the buffer, the
-- bytes that a loop lays one after the other, and the bytes that a neighbour's message has.
use Prim.Native.Nat.{ℕ, suc, ◌+◌, ◌-◌, ◌%◌, ◌≤◌, ◌<◌}
use native.Mathlib.Nat.{add-zero, zero-add}
use native.Mathlib.Numerals.{add-one}
use native.Mathlib.Omega.{arith}
use mathlib.Core.Bool.{Bool, true, false, not, ◌&&◌, ◌||◌}
use mathlib.Core.List.{List, [], ◌∷◌, ◌++◌, append-nil}
use mathlib.Core.Logic.{◌≢◌}
use mathlib.Core.Path.{◌≡◌, refl, sym, ap, ◌∙◌}
use borrow.Author.Tests.{eqb-true, eq-eqb, ne_eqb, le-ltb}
use lib.Dec.{eqb}
use lib.ListN.{length, set, take, drop, length-append, length-set, take-append-drop}
use lib.Seq.{take-suc-set, drop-set-lt, append_snoc, take-append_seam, drop-append-add, drop-drop}
use Rattle.std.specs.Option.{option_eq}
use Rattle.std.specs.Prelude.{Option, None, Some, Result, Ok, Err, unwrap_or, if◌then◌else◌}
use Rattle.ground.specs.Limits.{unit_limit, entry_limit, message_room}
use Rattle.ground.specs.Refusal.{accepted, answer_base}
use Rattle.ground.specs.Rows.{at, tab, zeros, filled, joined, laid_after}
use Rattle.ground.specs.Refused.{answer_of}
use Rattle.ground.specs.declared.refusals.Refusal.{Refusal}
use Rattle.rules.specs.Hub.{outgoing_to}
use Rattle.rules.specs.Message.{acknowledgment, update, change, body_for, differences, written, written_length, write_refusal}
use Rattle.message.specs.Fields.{fields_of}
use Rattle.message.specs.Kind.{kind_number}
use Rattle.message.specs.Writing.{write_answer, frame_after}
use Rattle.message.specs.declared.kind.Kind.{Kind}
use Rattle.message.specs.declared.kind.Kind.TheVariants.{Acknowledgment, Update, Both}
use Rattle.ground.proofs.Answers.{number_below}
use Rattle.ground.proofs.Filled.{filled_more, take_filled}
use Rattle.ground.proofs.Joined.{joined_more}
use Rattle.ground.proofs.Limits.{count_legal}
use Rattle.ground.proofs.Tests.{same_tests}
use Rattle.rules.proofs.Differences.{differences_most, differences_same, differences_other}
use Rattle.rules.proofs.LegalMessages.{legal_of}
use Rattle.rules.proofs.Written.{written-length}
use Rattle.unit.specs.Sending.{listed, kind_for, number_for, bytes_to, Sendable}
use Rattle.unit.specs.declared.send.Changes.{Changes}

-- The differences of the units below j, in an array with their number.
abbrev pub Listed : (j : ℕ) (old new : List ℕ) (number : ℕ) (list : List ℕ) → Type 0
Listed j old new number list =
    (number ≡ length (differences j old new)) × (list ≡ filled unit_limit (differences j old new))

-- A turn of the loop at a unit whose entry stays.
pub listed_same : (j : ℕ) (old new : List ℕ) (number : ℕ) (list : List ℕ) → Listed j old new number list
    → at old j ≡ at new j → Listed (j + 1) old new number list
listed_same j old new number list told e = rw (differences_same j old new e) told

-- A turn of the loop at a unit whose entry is another.
pub listed_other : (j : ℕ) (old new : List ℕ) (number : ℕ) (list : List ℕ) (c : ℕ) → Listed j old new number list
    → at old j ≢ at new j → j < unit_limit → c ≡ change j (body_for (at new j))
    → Listed (j + 1) old new (number + 1) (set list number c)
listed_other j old new number list c told d l e =
    let ds = differences j old new in
    let few : length ds ≤ j = differences_most j old new in
    rw (differences_other j old new d, e) (
      omega (arith, length-append ds (change j (body_for (at new j)) ∷ []), told.0),
      ap (λ (xs : List ℕ). set xs number (change j (body_for (at new j)))) told.1
          ∙ filled_more unit_limit ds number (change j (body_for (at new j))) (sym told.0) (omega (arith, told.0)),
    )

-- No message uses no bytes and leaves the buffer.
pub laid_none : (k kind sender : ℕ) (changes buffer : List ℕ) (used : ℕ) → kind ≡ 0
    → (used ≡ used + length (bytes_to k kind sender changes))
    × (buffer ≡ laid_after used (bytes_to k kind sender changes) buffer)
laid_none k kind sender changes buffer used e =
    rw (eq-eqb kind 0 e, append-nil (take used buffer), add-zero used) (refl, sym (take-append-drop used buffer))

-- The buffer is as long as before once the neighbour's number is stored.
pub numbered_long : (k : ℕ) (buffer : List ℕ) (used : ℕ) {places : ℕ} → places ≡ length (set buffer used (k % 256)) → places ≡ length buffer
numbered_long k buffer used e = e ∙ length-set buffer used (k % 256)

-- The number of a kind that is there: it is not that of none.
kind_there : (kind : Kind) → kind_number kind ≢ 0
kind_there Acknowledgment e = absurd (omega arith)
kind_there Update e = absurd (omega arith)
kind_there Both e = absurd (omega arith)

pub number_there : {given : Option Kind} {kind : Kind} → given ≡ Some kind → number_for given ≢ 0
number_there {given} {kind} e none = kind_there kind (ap number_for (sym e) ∙ none)

pub number_by : {given : Option Kind} {kind : Kind} {number : ℕ} → given ≡ Some kind → number ≡ kind_number kind → number ≡ number_for given
number_by e found = found ∙ ap number_for (sym e)

module _ (n me k kind : ℕ) (changes buffer : List ℕ) (used : ℕ) (can : Sendable n me k kind changes (length buffer) used) (some : kind ≢ 0) where
  -- The buffer once the neighbour's number is stored.
  abbrev numbered : List ℕ
  numbered = set buffer used (k % 256)

  -- There are few entries.
  entries_few : length changes ≤ entry_limit
  entries_few = omega (arith, (legal_of n (fields_of kind me changes) (can.legal some)).entries, can.high)

  -- The writer does not refuse the message.
  unrefused : write_refusal n (fields_of kind me changes) (length numbered) (used + 1) ≡ accepted
  unrefused =
      let room : used + (1 + message_room) ≤ length numbered = rw length-set (can.fits some) in
      let few : length changes ≤ entry_limit = entries_few in
      rw (
        count_legal n can.low can.high,
        le-ltb (length numbered) (used + 1) (omega arith),
        le-ltb (length numbered - (used + 1)) (written_length (length changes)) (omega arith),
        can.legal some,
      )

  -- It answers the message's length, and no refusal.
  answered : write_answer n (fields_of kind me changes) (length numbered) (used + 1) ≡ answer_base + written_length (length changes)
  unfolding write_answer
  answered = rw unrefused

  module _ (answer : Result ℕ Refusal) (e : answer_of answer ≡ write_answer n (fields_of kind me changes) (length numbered) (used + 1)) where
    pub bytes_by : {bytes : ℕ} → answer ≡ Ok bytes → bytes ≡ written_length (length changes)
    bytes_by {bytes} f = omega (arith, ap answer_of (sym f) ∙ e ∙ answered)

    pub not_refused : (refusal : Refusal) → answer ≡ Err refusal → ⊥
    not_refused refusal f = absurd (omega (arith, number_below refusal, ap answer_of (sym f) ∙ e ∙ answered))

  -- The bytes used then.
  used_one : used + 1 + written_length (length changes) ≡ used + length (bytes_to k kind me changes)
  used_one = rw (ne_eqb kind 0 some) (omega (arith, written-length (fields_of kind me changes)))

  pub used-by : {bytes : ℕ} → bytes ≡ written_length (length changes) → used + 1 + bytes ≡ used + length (bytes_to k kind me changes)
  used-by e = ap (λ (bytes : ℕ). used + 1 + bytes) e ∙ used_one

  -- The neighbour's number and then the message lie in the buffer.
  laid_one : frame_after n (fields_of kind me changes) numbered (used + 1) ≡ laid_after used (bytes_to k kind me changes) buffer
  unfolding frame_after
  laid_one =
      let m = fields_of kind me changes in
      let below : used < length buffer = omega (arith, can.fits some) in
      let number : k % 256 ≡ k = omega (arith, can.receiver, can.high) in
      let after : used + 1 + length (written m) ≡ used + suc (length (written m)) = omega arith in
      rw (
        unrefused,
        ne_eqb kind 0 some,
        after,
        drop-set-lt (used + suc (length (written m))) buffer used (k % 256) (omega arith),
        add-one used,
        take-suc-set buffer used (k % 256) below,
        number,
        append_snoc,
      )

  pub laid_by : {out : List ℕ} → out ≡ frame_after n (fields_of kind me changes) numbered (used + 1) → out ≡ laid_after used (bytes_to k kind me changes) buffer
  laid_by e = e ∙ laid_one

-- What is needed to lay a message, said of equal fields and an equal room.
pub sendable_as : {n me k kind kind' : ℕ} {changes changes' : List ℕ} {room room' used : ℕ} → Sendable n me k kind changes room used
    → kind' ≡ kind → changes' ≡ changes → room' ≡ room → Sendable n me k kind' changes' room' used
sendable_as can a b c = rw (a, b, c) can

-- Bytes that a loop has laid from the start of a buffer on: those of the neighbours below k, and how many they are.
abbrev pub Laid : (k : ℕ) (f : ℕ → List ℕ) (buffer : List ℕ) (used : ℕ) (out : List ℕ) → Type 0
Laid k f buffer used out = (used ≡ length (joined (tab k f))) × (out ≡ laid_after 0 (joined (tab k f)) buffer)

-- Bytes laid after others that were laid from the start on.
laid_again : (first more buffer : List ℕ)
    → laid_after (length first) more (laid_after 0 first buffer) ≡ laid_after 0 (first ++ more) buffer
laid_again first more buffer =
    rw (
      zero-add (length first),
      take-append_seam first (drop (length first) buffer),
      drop-append-add first (drop (length first) buffer) (length more),
      drop-drop (length more) (length first) buffer,
      zero-add (length (first ++ more)),
      length-append first more,
    )

-- A turn of the loop.
pub laid_more : (k : ℕ) (f : ℕ → List ℕ) (buffer : List ℕ) {used used' : ℕ} {out out' : List ℕ} (bytes : List ℕ) → Laid k f buffer used out
    → bytes ≡ f k → used' ≡ used + length bytes → out' ≡ laid_after used bytes out → Laid (k + 1) f buffer used' out'
laid_more k f buffer {used} {used'} {out} {out'} bytes told same u o =
    rw (joined_more k f, ← same) (
      omega (arith, told.0, u, length-append (joined (tab k f)) bytes),
      o ∙ rw (told.1, told.0) (laid_again (joined (tab k f)) bytes buffer),
    )

-- Whether neighbour k is sent an update, as the code tests it.
abbrev pub sent_to : (costs : List ℕ) (isChanged : Bool) (new k : ℕ) → Bool
sent_to costs isChanged new k = not (eqb (at costs k) 0) && (isChanged || eqb k new)

-- Whether k is the unit that is given, where it is below the count that stands for none.
same_unit : (j k : ℕ) → eqb j k ≡ eqb k j
same_unit j k = same_tests (eqb j k) (eqb k j) (λ e. eq-eqb k j (sym (eqb-true j k e))) (λ e. eq-eqb j k (sym (eqb-true k j e)))

pub is_given : (given : Option ℕ) (n k : ℕ) → k < n → option_eq eqb given (Some k) ≡ eqb k (unwrap_or given n)
is_given None n k below = sym (ne_eqb k n (λ e. omega arith))
is_given (Some j) n k below = same_unit j k

-- The changes that an array and their number hold.
abbrev pub list_in : Changes → List ℕ
list_in c = take c.number c.list

-- An array has place for the changes that were listed.
pub list_fits : (xs : List ℕ) {c : Changes} → c ≡ listed xs → c.number ≤ length c.list
list_fits xs e = rw e (omega (arith, length-append xs (zeros (unit_limit - length xs))))

-- It holds them.
pub list_back : (xs : List ℕ) {c : Changes} → c ≡ listed xs → list_in c ≡ xs
list_back xs e = rw e (take_filled unit_limit xs (length xs) refl)

-- The bytes for a neighbour, by whether it is sent an update and whether it is owed an acknowledgment, are its message's.
pub bytes_outgoing : (k me : ℕ) (sent owes : Bool) (xs : List ℕ)
    → bytes_to k (kind_for sent owes) me (if sent then xs else [])
    ≡ outgoing_to k
    (if sent
    then record { kind = if owes then acknowledgment + update else update; sender = me; changes = xs } ∷ []
    else if owes then record { kind = acknowledgment; sender = me; changes = [] } ∷ []
    else [])
unfolding outgoing_to
bytes_outgoing k me true true xs = ap (λ (l : List ℕ). k ∷ l) (sym (append-nil _))
bytes_outgoing k me true false xs = ap (λ (l : List ℕ). k ∷ l) (sym (append-nil _))
bytes_outgoing k me false true xs = ap (λ (l : List ℕ). k ∷ l) (sym (append-nil _))
bytes_outgoing k me false false xs = refl
