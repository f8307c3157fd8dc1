-- Texts put into a buffer one behind the other are their join put once, and laid where they have room.
use Prim.Native.Nat.{ℕ, suc, ◌+◌, ◌≤◌, ◌<◌}
use native.Mathlib.Nat.{add-zero, suc-add, add-suc}
use native.Mathlib.Omega.{arith}
use mathlib.Core.List.{List, [], ◌∷◌, ◌++◌}
use mathlib.Core.Logic.{⊎_elim}
use mathlib.Core.Path.{◌≡◌, refl, sym, ap, ◌∙◌}
use lib.ListN.{length, set, length-append}
use lib.Seq.{sets, sets-eq, length-sets, set_out}
use Rattle.ground.specs.Rows.{laid_after}
use Rattle.ground.proofs.Tests.{less_or_not}
use Rattle.slices.specs.Putting.{put_after, used_after}

-- A text put into a buffer from a place on: the bytes used then, and what the buffer then holds.
abbrev pub Put : (buffer : List ℕ) (start : ℕ) (text : List ℕ) (used : ℕ) (out : List ℕ) → Type 0
Put buffer start text used out = (used ≡ used_after start text buffer) × (out ≡ put_after start text buffer)

-- The same of an equal text.
pub put_as : (buffer : List ℕ) (start : ℕ) {text text' : List ℕ} {used : ℕ} {out : List ℕ} → text ≡ text'
    → Put buffer start text used out → Put buffer start text' used out
put_as buffer start e put = rw (← e) put

-- No text.
pub put_none : (buffer : List ℕ) (start : ℕ) → Put buffer start [] start buffer
unfolding put_after
put_none buffer start = (omega arith, refl)

-- Where there is no room, nothing is stored.
sets_past : (text buffer : List ℕ) (start : ℕ) → length buffer ≤ start → sets buffer start text ≡ buffer
sets_past [] buffer start h = refl
sets_past (byte ∷ text) buffer start h =
    ap (λ (l : List ℕ). sets l (suc start) text) (set_out buffer start byte h)
    ∙ sets_past text buffer (suc start) (omega arith)

-- One byte, with room and without.
pub put_byte : (buffer : List ℕ) (start byte : ℕ) → start < length buffer
    → Put buffer start (byte ∷ []) (start + 1) (set buffer start byte)
unfolding put_after
put_byte buffer start byte h = (omega arith, refl)

pub put_past : (buffer : List ℕ) (start byte : ℕ) → length buffer ≤ start → Put buffer start (byte ∷ []) start buffer
unfolding put_after
put_past buffer start byte h = (omega arith, sym (sets_past (byte ∷ []) buffer start h))

-- Two texts stored one behind the other.
sets_append : (first more buffer : List ℕ) (start : ℕ)
    → sets buffer start (first ++ more) ≡ sets (sets buffer start first) (start + length first) more
sets_append [] more buffer start = rw add-zero
sets_append (byte ∷ first) more buffer start =
    rw (add-suc, ← suc-add) (sets_append first more (set buffer start byte) (suc start))

-- Two texts, the second put behind the first.
pub put_then : (buffer : List ℕ) (start : ℕ) (first more : List ℕ) {used used' : ℕ} {out out' : List ℕ}
    → Put buffer start first used out → Put out used more used' out' → Put buffer start (first ++ more) used' out'
unfolding put_after
put_then buffer start first more {used} {used'} {out} {out'} a b =
    let same : length out ≡ length buffer = ap length a.1 ∙ length-sets buffer start first in (
      omega (arith, a.0, b.0, length-append first more),
      b.1 ∙ ap (λ (l : List ℕ). sets l used more) a.1 ∙ behind ∙ sym (sets_append first more buffer start),
    )
  where
    behind : sets (sets buffer start first) used more ≡ sets (sets buffer start first) (start + length first) more
    behind =
        let many = length-sets buffer start first in
        ⊎_elim
        (λ full.
        sets_past more (sets buffer start first) used (omega (arith, a.0))
        ∙ sym (sets_past more (sets buffer start first) (start + length first) (omega arith)))
        (λ fits.
        let all : used ≡ start + length first = omega (arith, a.0) in
        ap (λ (n : ℕ). sets (sets buffer start first) n more) all)
        (less_or_not (length buffer) (start + length first))

-- A text that has room is laid.
pub put_laid : (buffer text : List ℕ) (start : ℕ) {used : ℕ} {out : List ℕ} → start + length text ≤ length buffer
    → Put buffer start text used out → (used ≡ start + length text) × (out ≡ laid_after start text buffer)
unfolding put_after
put_laid buffer text start h put = (omega (arith, put.0), put.1 ∙ sets-eq text buffer start h)
