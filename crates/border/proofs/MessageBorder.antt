-- What the reader and the writer at the border come to: the fields over their bytes, and the refusals of bytes that are not those
-- of changes.
use Prim.Native.Nat.{ℕ, zero, suc, ◌+◌, ◌-◌, ◌*◌, ◌/◌, ◌%◌, ◌≤◌, ◌<◌}
use native.Mathlib.Nat.{not-suc-le-zero}
use native.Mathlib.Omega.{arith}
use mathlib.Core.Bool.{Bool, true, false, not}
use mathlib.Core.List.{List, [], ◌++◌}
use mathlib.Core.Logic.{◌≢◌, ⊎_elim}
use mathlib.Core.Path.{◌≡◌, refl, sym, ap, ◌∙◌}
use borrow.Author.Tests.{eq-eqb, ne_eqb, lt-ltb, le-ltb, leb-true}
use borrow.Rule.Slice.PartMut.{put_mid}
use lib.Dec.{eqb, ltb, leb}
use lib.ListN.{length, take, drop}
use Rattle.ground.specs.Limits.{unit_limit, entry_limit, legal_count}
use Rattle.ground.specs.Refusal.{accepted, answer_base, ◌gives◌, ◌otherwise◌}
use Rattle.ground.specs.Rows.{zeros, filled}
use Rattle.rules.specs.Message.{Message, message_of, readable, no_room, legal_message, write_refusal}
use Rattle.rules.specs.Tables.{bytes_of, words_of}
use Rattle.ground.proofs.Filled.{take_filled}
use Rattle.ground.proofs.Refusal.{otherwise_none, gives_below, otherwise_below}
use Rattle.ground.proofs.Tests.{both, not_yes, yes_or_no}
use Rattle.rules.proofs.LegalMessages.{legal_of}
use Rattle.message.specs.Numbers.{field_places, fields_refusal, read_answer, laid_fields, fields_laid, fields_after}
use Rattle.message.specs.Fields.{fields_of}
use Rattle.message.specs.Writing.{write_answer, frame_after, room_refusal}
use Rattle.border.specs.MessageBytes.{field_bytes, border_fields, are_changes, broken_refusal, border_write_answer, border_frame}
use Rattle.border.proofs.Numbers.{length_words}

module _ (n : ℕ) (bytes fields : List ℕ) where
  -- What is refused before the bytes are looked at: a count that is not legal, and then a table that is too short.
  pub read_bad : legal_count n ≡ false → (1 ≡ read_answer n bytes (length fields / 4)) × (fields ≡ border_fields n bytes fields)
  unfolding read_answer border_fields
  read_bad e = (rw e, rw e)

  module _ (legal : legal_count n ≡ true) where
    pub read_short : length fields < field_bytes → (7 ≡ read_answer n bytes (length fields / 4)) × (fields ≡ border_fields n bytes fields)
    unfolding read_answer border_fields
    read_short short =
        let t : ltb (length fields / 4) field_places ≡ true = lt-ltb (length fields / 4) field_places (omega arith) in
        (rw (legal, t), rw (legal, t))

    module _ (room : field_bytes ≤ length fields) (numbers : List ℕ) (many : length numbers ≡ field_places) where
      -- With room, the number of places makes no difference.
      roomy : ltb (length fields / 4) field_places ≡ false
      roomy = le-ltb (length fields / 4) field_places (omega arith)

      exact : ltb (length numbers) field_places ≡ false
      exact = le-ltb (length numbers) field_places (omega arith)

      same_refusal : fields_refusal n bytes (length numbers) ≡ fields_refusal n bytes (length fields / 4)
      same_refusal = rw (roomy, exact)

      same_answer : read_answer n bytes (length numbers) ≡ read_answer n bytes (length fields / 4)
      unfolding read_answer
      same_answer = rw same_refusal

      low : fields_refusal n bytes (length fields / 4) < answer_base
      low =
          otherwise_below (gives_below (not (legal_count n)) 1 (omega arith))
          (otherwise_below (gives_below (ltb (length fields / 4) field_places) 7 (omega arith))
          (gives_below (not (readable n bytes)) 9 (omega arith)))

      -- Which of the two it is, by the answer.
      is_refused : read_answer n bytes (length fields / 4) < answer_base → eqb (fields_refusal n bytes (length fields / 4)) accepted ≡ false
      unfolding read_answer
      is_refused l = ⊎_elim (λ e. absurd (omega (arith, above e))) (λ e. e) (yes_or_no (eqb (fields_refusal n bytes (length fields / 4)) accepted))
        where
          above : eqb (fields_refusal n bytes (length fields / 4)) accepted ≡ true → answer_base + length (message_of bytes).changes < answer_base
          above e = rw e at l

      is_taken : answer_base ≤ read_answer n bytes (length fields / 4) → eqb (fields_refusal n bytes (length fields / 4)) accepted ≡ true
      unfolding read_answer
      is_taken l = ⊎_elim (λ e. e) (λ e. absurd (omega (arith, below e, low))) (yes_or_no (eqb (fields_refusal n bytes (length fields / 4)) accepted))
        where
          below : eqb (fields_refusal n bytes (length fields / 4)) accepted ≡ false → answer_base ≤ fields_refusal n bytes (length fields / 4)
          below e = rw e at l

      pub read_refused : {answer : ℕ} → answer ≡ read_answer n bytes (length numbers) → answer < answer_base
          → (answer ≡ read_answer n bytes (length fields / 4)) × (fields ≡ border_fields n bytes fields)
      unfolding border_fields
      read_refused e l =
          let told = e ∙ same_answer in
          (told, rw (is_refused (omega (arith, told))))

      pub read_laid : {answer : ℕ} {after : List ℕ} → numbers ≡ zeros field_places → answer ≡ read_answer n bytes (length numbers)
          → answer_base ≤ answer → after ≡ fields_after n bytes numbers
          → (answer ≡ read_answer n bytes (length fields / 4))
          × (put_mid 0 field_bytes fields (bytes_of after) ≡ border_fields n bytes fields)
      unfolding border_fields fields_after laid_fields
      read_laid {answer} {after} blank e l laid =
          let told = e ∙ same_answer in
          let taken = is_taken (omega (arith, told)) in
          let numbered : after ≡ fields_laid (message_of bytes) [] = laid ∙ rw (same_refusal, taken, blank) in
          (told, rw (taken, numbered))

-- Zeros without the first of them.
drop_zeros : (i m : ℕ) → i ≤ m → drop i (zeros m) ≡ zeros (m - i)
drop_zeros zero m l = let same : m ≡ m - 0 = omega arith in ap zeros same
drop_zeros (suc i) zero l = absurd (not-suc-le-zero l)
drop_zeros (suc i) (suc m) l =
    let same : m - i ≡ suc m - suc i = omega arith in
    drop_zeros i m (omega arith) ∙ ap zeros same

-- The changes in bytes that are 4 for each.
module _ (changes : List ℕ) where
  pub changes_filled : (entries : ℕ) → length changes ≡ 4 * entries → entries ≤ entry_limit
      → put_mid 0 entries (zeros entry_limit) (words_of changes) ≡ filled entry_limit (words_of changes)
  changes_filled entries e few =
      let many = length_words changes entries e in
      let rest : entry_limit - length (words_of changes) ≡ entry_limit - entries = omega (arith, many) in
      ap (λ (zs : List ℕ). words_of changes ++ zs) (drop_zeros entries entry_limit few ∙ ap zeros (sym rest))

  pub changes_taken : (entries : ℕ) → length changes ≡ 4 * entries → {numbers : List ℕ} → numbers ≡ filled entry_limit (words_of changes)
      → take entries numbers ≡ words_of changes
  changes_taken entries e same = ap (take entries) same ∙ take_filled entry_limit (words_of changes) entries (length_words changes entries e)

-- Where the fields are never legal, 9 comes behind 1 and 7.
nine_last : (count room fields : Bool) → (count ≡ true → fields ≡ false)
    → (not count gives 1 otherwise room gives 7 otherwise not fields gives 9) ≡ ((not count gives 1 otherwise room gives 7) otherwise 9)
nine_last false room fields h = refl
nine_last true true fields h = refl
nine_last true false fields h = rw (h refl)

module _ (n kind sender : ℕ) (changes frame : List ℕ) (offset : ℕ) where
  -- Bytes that are not 4 for each change.
  pub write_broken : length changes % 4 ≢ 0 → {answer : ℕ} → answer ≡ broken_refusal n (length changes / 4) (length frame) offset
      → (answer ≡ border_write_answer n kind sender changes (length frame) offset)
      × (frame ≡ border_frame n kind sender changes frame offset)
  unfolding border_write_answer border_frame
  write_broken d e =
      let odd = ne_eqb (length changes % 4) 0 d in
      (rw odd e, rw odd)

  module _ (whole : length changes % 4 ≡ 0) where
    abbrev m : Message
    m = fields_of kind sender (words_of changes)

    fours : are_changes changes ≡ true
    fours = eq-eqb (length changes % 4) 0 whole

    entries : length (words_of changes) ≡ length changes / 4
    entries = length_words changes (length changes / 4) (omega arith)

    -- More changes than a message holds are refused too: no such message is legal.
    pub write_many : entry_limit < length changes / 4 → {answer : ℕ}
        → answer ≡ broken_refusal n (length changes / 4) (length frame) offset
        → (answer ≡ border_write_answer n kind sender changes (length frame) offset)
        × (frame ≡ border_frame n kind sender changes frame offset)
    unfolding border_write_answer border_frame write_answer frame_after
    write_many more e =
        let refused = ne_eqb _ accepted never_accepted in
        (rw (fours, same_refusal, refused) e, rw (fours, same_refusal, refused))
      where
        illegal : legal_count n ≡ true → legal_message n m ≡ false
        illegal count =
            not_yes (legal_message n m) (λ yes.
            let most = leb-true n unit_limit (both (leb 2 n) (leb n unit_limit) count).1 in
            absurd (omega (arith, (legal_of n m yes).entries, entries, most)))

        same_refusal : write_refusal n m (length frame) offset ≡ broken_refusal n (length changes / 4) (length frame) offset
        same_refusal =
            nine_last (legal_count n) (no_room (length frame) offset (length (words_of changes))) (legal_message n m) illegal
            ∙ ap (λ (k : ℕ). broken_refusal n k (length frame) offset) entries

        never_accepted : broken_refusal n (length changes / 4) (length frame) offset ≢ accepted
        never_accepted z =
            absurd (omega (arith, (otherwise_none (room_refusal n (length changes / 4) (length frame) offset) 9 z).1))

    -- Else the writer decides.
    pub write_all : {given after : List ℕ} {answer : ℕ} → given ≡ words_of changes
        → (answer ≡ write_answer n (fields_of kind sender given) (length frame) offset)
        × (after ≡ frame_after n (fields_of kind sender given) frame offset)
        → (answer ≡ border_write_answer n kind sender changes (length frame) offset)
        × (after ≡ border_frame n kind sender changes frame offset)
    unfolding border_write_answer border_frame
    write_all same done = (rw (fours, ← same) done.0, rw (fours, ← same) done.1)
