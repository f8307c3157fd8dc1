-- What the writer's tests and stores come to: which refusal, the message's bytes one store after the other, and what is said.
use Prim.Native.Nat.{ℕ, ◌+◌, ◌-◌, ◌*◌, ◌/◌, ◌%◌, ◌≤◌, ◌<◌}
use native.Mathlib.Numerals.{add-one}
use native.Mathlib.Omega.{arith}
use mathlib.Core.Bool.{true, false, not}
use mathlib.Core.List.{List, [], ◌∷◌, ◌++◌, map, append_assoc}
use mathlib.Core.Path.{◌≡◌, refl, sym, ap, ◌∙◌}
use mir.Syntax.{w32}
use mir.Val.{Fits}
use borrow.Author.Tests.{eq-eqb, ne_eqb, le-ltb, lt-ltb, ltb-false, leb-true, not-false}
use borrow.Rule.Slice.PartMut.{put_mid}
use lib.Dec.{eqb, leb, ltb}
use lib.ListN.{length, set, take, drop, length-append, length-map}
use lib.Seq.{take-suc, length-take-le, drop-drop}
use Rattle.ground.specs.Limits.{legal_count, unit_limit, message_room, entry_base, change_base}
use Rattle.ground.specs.Refusal.{accepted, answer_base, ◌gives◌, ◌otherwise◌}
use Rattle.ground.specs.Refused.{number_of}
use Rattle.ground.specs.Rows.{at, filled}
use Rattle.ground.specs.declared.refusals.Refusal.{Refusal}
use Rattle.rules.specs.Message.{Message, changed_unit, body_bytes, written, no_room, legal_message, write_refusal, message_laid}
use Rattle.ground.proofs.Answers.{number_some, refusal_first}
use Rattle.ground.proofs.Filled.{filled_more, take_filled}
use Rattle.ground.proofs.Parts.{to_end, put_to_end}
use Rattle.ground.proofs.Refusal.{gives_none, otherwise_none, rest_counts, in_a_row}
use Rattle.ground.proofs.Tests.{both, neither, if_true, if_false}
use Rattle.rules.proofs.LegalMessages.{legal_of}
use Rattle.rules.proofs.Written.{length_bodies, written-length}
use Rattle.message.specs.Writing.{write_answer, frame_after, Fitting, room_refusal, laid_at_start}

-- The room, counted in fours.
pub past_the_end : (places offset entries : ℕ) → places < offset → no_room places offset entries ≡ true
past_the_end places offset entries h = rw (lt-ltb places offset h)

pub too_short : (places offset entries : ℕ) → offset ≤ places → (places - offset) / 4 ≤ entries → no_room places offset entries ≡ true
too_short places offset entries h short =
    rw (le-ltb places offset h) (lt-ltb (places - offset) (4 + 4 * entries) (omega arith))

pub long_enough : (places offset entries : ℕ) → offset ≤ places → entries < (places - offset) / 4 → no_room places offset entries ≡ false
long_enough places offset entries h long =
    rw (le-ltb places offset h) (le-ltb (places - offset) (4 + 4 * entries) (omega arith))

-- The count and the room are looked at first, and then the fields decide.
module _ (n : ℕ) (m : Message) (places offset : ℕ) where
  in_order : write_refusal n m places offset ≡ (room_refusal n (length m.changes) places offset otherwise not (legal_message n m) gives 9)
  in_order = in_a_row (not (legal_count n) gives 1) (no_room places offset (length m.changes) gives 7) (not (legal_message n m) gives 9)

  pub by_room : (refusal : Refusal) → number_of refusal ≡ room_refusal n (length m.changes) places offset
      → number_of refusal ≡ write_refusal n m places offset
  by_room refusal e = refusal_first refusal _ _ e ∙ sym in_order

  pub by_fields : accepted ≡ room_refusal n (length m.changes) places offset
      → write_refusal n m places offset ≡ (not (legal_message n m) gives 9)
  by_fields none = in_order ∙ rest_counts _ _ (sym none)

-- One more element of a list, mapped: what a turn of the loop over the contents adds.
map_snoc : (f : ℕ → ℕ) (xs : List ℕ) (x : ℕ) → map f (xs ++ (x ∷ [])) ≡ map f xs ++ (f x ∷ [])
map_snoc f [] x = refl
map_snoc f (y ∷ xs) x = ap (λ (l : List ℕ). f y ∷ l) (map_snoc f xs x)

-- The bodies of one change more.
bodies_snoc : (xs : List ℕ) (c : ℕ)
    → body_bytes (xs ++ (c ∷ [])) ≡ body_bytes xs ++ (c / entry_base % 256 ∷ []) ++ (c / 256 % 256 ∷ []) ++ (c % 256 ∷ [])
unfolding body_bytes
bodies_snoc [] c = refl
bodies_snoc (x ∷ xs) c = ap (λ (l : List ℕ). x / entry_base % 256 ∷ x / 256 % 256 ∷ x % 256 ∷ l) (bodies_snoc xs c)

-- Three numbers stored one after the other.
filled_three : (m : ℕ) (xs : List ℕ) (k a b c : ℕ) → length xs ≡ k → k + 2 < m
    → set (set (set (filled m xs) k a) (k + 1) b) (k + 2) c ≡ filled m (xs ++ (a ∷ []) ++ (b ∷ []) ++ (c ∷ []))
filled_three m xs k a b c e room =
    ap (λ (l : List ℕ). set (set l (k + 1) b) (k + 2) c) (filled_more m xs k a e (omega arith))
    ∙ ap (λ (l : List ℕ). set l (k + 2) c) (filled_more m (xs ++ (a ∷ [])) (k + 1) b one (omega arith))
    ∙ filled_more m (xs ++ (a ∷ []) ++ (b ∷ [])) (k + 2) c two room
  where
    one : length (xs ++ (a ∷ [])) ≡ k + 1
    one = simp length-append (omega arith)

    two : length (xs ++ (a ∷ []) ++ (b ∷ [])) ≡ k + 2
    two = simp length-append (omega arith)

module _ (m : ℕ) (front changes : List ℕ) (i : ℕ) (below : i < length changes) where
  next : take (i + 1) changes ≡ take i changes ++ (at changes i ∷ [])
  next = rw add-one (take-suc changes i 0 below)

  passed : length (take i changes) ≡ i
  passed = length-take-le i changes (omega arith)

  -- A turn of the loop over the contents.
  pub contents_more : length front + i < m
      → set (filled m (front ++ map changed_unit (take i changes))) (length front + i) (changed_unit (at changes i))
      ≡ filled m (front ++ map changed_unit (take (i + 1) changes))
  contents_more room =
      filled_more m (front ++ map changed_unit (take i changes)) (length front + i) (changed_unit (at changes i)) long room
      ∙ ap (filled m) (append_assoc front _ _ ∙ ap (λ (l : List ℕ). front ++ l) (sym (rw next (map_snoc changed_unit (take i changes) (at changes i)))))
    where
      long : length (front ++ map changed_unit (take i changes)) ≡ length front + i
      long = simp (length-append, length-map) (omega (arith, passed))

  -- A turn of the loop over the bodies: three stores.
  pub bodies_more : (k : ℕ) → k ≡ length front + 3 * i → k + 2 < m
      → set
      (set
      (set (filled m (front ++ body_bytes (take i changes))) k (at changes i / entry_base % 256))
      (k + 1)
      (at changes i / 256 % 256))
      (k + 2)
      (at changes i % 256)
      ≡ filled m (front ++ body_bytes (take (i + 1) changes))
  bodies_more k e room =
      filled_three m (front ++ body_bytes (take i changes)) k _ _ _ long room
      ∙ ap (filled m) whole
    where
      whole : front ++ body_bytes (take i changes) ++ (at changes i / entry_base % 256 ∷ []) ++ (at changes i / 256 % 256 ∷ []) ++ (at changes i % 256 ∷ [])
          ≡ front ++ body_bytes (take (i + 1) changes)
      whole = rw (next, bodies_snoc) (simp append_assoc)

      long : length (front ++ body_bytes (take i changes)) ≡ k
      long = simp (length-append, length_bodies) (omega (arith, passed))

-- A number below 256 is its own low byte; the high byte of a number of four bytes is what is left of it.
pub low_byte : (x : ℕ) → x < 256 → x % 256 ≡ x
low_byte x h = omega arith

pub high_byte : (c : ℕ) → Fits w32 c → c / change_base % 256 ≡ changed_unit c
high_byte c h = omega (arith, h)

-- What is known of a message that the writer does not refuse: it fits, and there is room for it from the offset on.
pub record Writable (m : Message) (places offset : ℕ) : Type 0 where
  pub fitting : Fitting m.kind m.sender m.changes
  pub inside : offset ≤ places
  pub room : 4 + 4 * length m.changes ≤ places - offset

-- What no refusal tells: the count is legal, there is room, and the fields are legal.
pub record Unrefused (n : ℕ) (m : Message) (places offset : ℕ) : Type 0 where
  pub count : legal_count n ≡ true
  pub space : no_room places offset (length m.changes) ≡ false
  pub fields : legal_message n m ≡ true

pub unrefused : (n : ℕ) (m : Message) (places offset : ℕ) → write_refusal n m places offset ≡ accepted → Unrefused n m places offset
unrefused n m places offset e =
    let later = no_room places offset (length m.changes) gives 7 otherwise not (legal_message n m) gives 9 in
    let first = otherwise_none (not (legal_count n) gives 1) later e in
    let rest = otherwise_none (no_room places offset (length m.changes) gives 7) (not (legal_message n m) gives 9) first.1 in
    record {
      count = not-false (legal_count n) (gives_none (not (legal_count n)) 0 first.0);
      space = gives_none (no_room places offset (length m.changes)) 6 rest.0;
      fields = not-false (legal_message n m) (gives_none (not (legal_message n m)) 8 rest.1);
    }

pub writable : (n : ℕ) (m : Message) (places offset : ℕ) → write_refusal n m places offset ≡ accepted → Writable m places offset
writable n m places offset e =
    let tests = unrefused n m places offset e in
    let room = neither (ltb places offset) _ tests.space in
    let legal = legal_of n m tests.fields in
    let most = leb-true n unit_limit (both (leb 2 n) (leb n unit_limit) tests.count).1 in
    record {
      fitting = record { small_kind = omega arith; small_sender = omega arith; few = omega arith };
      inside = ltb-false places offset room.0;
      room = ltb-false (places - offset) (4 + 4 * length m.changes) room.1;
    }

-- The copy of a built message to the start of a place.
pub laid_by : (m : Message) (built place : List ℕ) (bytes : ℕ) → built ≡ filled message_room (written m) → bytes ≡ 4 + 4 * length m.changes
    → take bytes built ++ drop bytes place ≡ laid_at_start m place
unfolding laid_at_start
laid_by m built place bytes b e =
    let long : length (written m) ≡ bytes = written-length m ∙ sym e in
    rw (b, take_filled message_room (written m) bytes long, ← long)

-- The message at the start of the frame's part from the offset on is the message in the frame.
pub laid_in_frame : (m : Message) (frame : List ℕ) (offset : ℕ)
    → put_mid offset (length frame - offset) frame (laid_at_start m (take (length frame - offset) (drop offset frame)))
    ≡ message_laid m frame offset
unfolding laid_at_start
laid_in_frame m frame offset =
    rw (put_to_end frame offset, to_end frame offset, drop-drop) (sym (append_assoc (take offset frame) (written m) _))

-- The answer and the frame.
module _ (n : ℕ) (m : Message) (frame : List ℕ) (offset : ℕ) where
  pub refused_writing : (refusal : Refusal) → number_of refusal ≡ write_refusal n m (length frame) offset
      → (number_of refusal ≡ write_answer n m (length frame) offset) × (frame ≡ frame_after n m frame offset)
  unfolding write_answer frame_after
  refused_writing refusal e =
      let some : eqb (write_refusal n m (length frame) offset) accepted ≡ false = ne_eqb _ accepted (λ none. number_some refusal (e ∙ none)) in
      (e ∙ sym (if_false _ _ _ some), sym (if_false _ _ _ some))

  module _ (none : accepted ≡ write_refusal n m (length frame) offset) where
    pub writable_by : Writable m (length frame) offset
    writable_by = writable n m (length frame) offset (sym none)

    pub laid_writing : {part : List ℕ} → part ≡ laid_at_start m (take (length frame - offset) (drop offset frame))
        → (answer_base + (4 + 4 * length m.changes) ≡ write_answer n m (length frame) offset)
        × (put_mid offset (length frame - offset) frame part ≡ frame_after n m frame offset)
    unfolding write_answer frame_after
    laid_writing e =
        let yes : eqb (write_refusal n m (length frame) offset) accepted ≡ true = eq-eqb _ accepted (sym none) in
        (sym (if_true _ _ _ yes), ap (put_mid offset (length frame - offset) frame) e ∙ laid_in_frame m frame offset ∙ sym (if_true _ _ _ yes))
