-- Bytes that are fed to what is lent: those that are taken print all that they should, and what is lent keeps the session.
use Prim.Native.Nat.{ℕ, suc, ◌+◌, ◌≤◌, ◌<◌}
use native.Mathlib.Omega.{arith}
use mathlib.Core.Bool.{true, false}
use mathlib.Core.List.{List, [], ◌∷◌, ◌++◌}
use mathlib.Core.Logic.{◌⊎◌, inl, inr}
use mathlib.Core.Path.{◌≡◌, refl, ap, ◌∙◌}
use borrow.Author.Tests.{leb-true}
use lib.Dec.{eqb}
use lib.ListN.{length, take, length-append}
use Rattle.ground.specs.Bytes.{newline}
use Rattle.std.specs.Prelude.{if◌then◌else◌}
use Rattle.ground.proofs.Choices.{by_choice}
use Rattle.ground.proofs.Lists.{parts}
use Rattle.ground.proofs.Tests.{not_both}
use Rattle.slices.proofs.Putting.{Put, put_as, put_none, put_then}
use Rattle.script.specs.Answers.{answer_room}
use Rattle.script.proofs.Room.{answer_laid}
use Rattle.session.specs.Feeding.{Session, then_byte, byte_text, then_bytes, bytes_text}
use Rattle.session.specs.Lending.{Lent, goes_on, is_ready, answered, kept, fed}
use Rattle.session.proofs.Keeping.{Keeps, held_text, keeps_byte, keeps_newline}

-- A byte that is taken.
record Took (lent : Lent) (s : Session) (byte : ℕ) (next : Lent) : Type 0 where
  pub keeps : Keeps next (then_byte s byte)
  pub put : Put lent.out lent.used (byte_text s byte) next.used next.out
  pub all : next.used ≡ lent.used + length (byte_text s byte)
  pub place : next.place ≡ suc lent.place

-- Every answer has room.
ready_room : (lent : Lent) → is_ready lent ≡ true → lent.used + answer_room ≤ length lent.out
unfolding goes_on
ready_room lent ready = leb-true (lent.used + answer_room) (length lent.out) (search parts)

module _ (lent : Lent) (s : Session) (keeps : Keeps lent s) (byte : ℕ) where
  took_newline : is_ready lent ≡ true → eqb byte newline ≡ true → Took lent s byte (answered lent)
  unfolding answered byte_text
  took_newline ready ends =
      let line = take lent.held lent.line in
      let laid = answer_laid lent.words lent.bytes lent.meter line lent.out lent.used (ready_room lent ready) in
      record {
        keeps = keeps_newline lent s keeps byte ends;
        put = rw ends (put_as lent.out lent.used (held_text lent s keeps) (refl, refl));
        all = rw ends (laid.0 ∙ ap (λ (text : List ℕ). lent.used + length text) (held_text lent s keeps));
        place = refl;
      }

  took_other : eqb byte newline ≡ false → Took lent s byte (kept lent byte)
  unfolding kept byte_text
  took_other other =
      record {
        keeps = keeps_byte lent s keeps byte other;
        put = rw other (put_none lent.out lent.used);
        all = rw other (omega arith);
        place = refl;
      }

  took : is_ready lent ≡ true → Took lent s byte (if eqb byte newline then answered lent else kept lent byte)
  took ready = by_choice (Took lent s byte) (eqb byte newline) (answered lent) (kept lent byte) (took_newline ready) took_other

-- Some bytes are taken, in front of the rest: none is left, or every answer might not have room; and where every answer has
-- room, one is taken.
pub record Went (lent : Lent) (s : Session) (input : List ℕ) (next : Lent) : Type 0 where
  pub front : List ℕ
  pub rest : List ℕ
  pub whole : input ≡ front ++ rest
  pub keeps : Keeps next (then_bytes s front)
  pub put : Put lent.out lent.used (bytes_text s front) next.used next.out
  pub all : next.used ≡ lent.used + length (bytes_text s front)
  pub place : next.place ≡ lent.place + length front
  pub stopped : (rest ≡ []) ⊎ (is_ready next ≡ false)
  pub further : is_ready lent ≡ true → 0 < length input → 0 < length front

-- None is taken.
went_none : (lent : Lent) (s : Session) (input : List ℕ) → Keeps lent s → (input ≡ []) ⊎ (is_ready lent ≡ false)
    → (is_ready lent ≡ true → 0 < length input → 0 < 0) → Went lent s input lent
unfolding then_bytes bytes_text
went_none lent s input keeps stopped never =
    record {
      front = [];
      rest = input;
      whole = refl;
      keeps = keeps;
      put = put_none lent.out lent.used;
      all = omega arith;
      place = omega arith;
      stopped = stopped;
      further = never;
    }

-- One is, and then others.
went_more : (lent : Lent) (s : Session) (byte : ℕ) (input : List ℕ) (one next : Lent) → Took lent s byte one
    → Went one (then_byte s byte) input next → Went lent s (byte ∷ input) next
unfolding then_bytes bytes_text
went_more lent s byte input one next first more =
    let first-text = byte_text s byte in
    let more-text = bytes_text (then_byte s byte) more.front in
    record {
      front = byte ∷ more.front;
      rest = more.rest;
      whole = ap (λ (l : List ℕ). byte ∷ l) more.whole;
      keeps = more.keeps;
      put = put_then lent.out lent.used first-text more-text first.put more.put;
      all = omega (arith, more.all, first.all, length-append first-text more-text);
      place = omega (arith, more.place, first.place);
      stopped = more.stopped;
      further = λ ready some. omega arith;
    }

-- What is fed.
pub fed_went : (input : List ℕ) (lent : Lent) (s : Session) → Keeps lent s → Went lent s input (fed lent input)
unfolding fed
fed_went [] lent s keeps = went_none lent s [] keeps (inl refl) (λ ready some. some)
fed_went (byte ∷ input) lent s keeps =
    by_choice (Went lent s (byte ∷ input)) (is_ready lent)
    (fed (if eqb byte newline then answered lent else kept lent byte) input) lent
    (λ ready.
    let first = took lent s keeps byte ready in
    went_more lent s byte input _ _ first (fed_went input _ (then_byte s byte) first.keeps))
    (λ full. went_none lent s (byte ∷ input) keeps (inr full) (λ ready some. absurd (not_both (is_ready lent) ready full)))
