-- The kinds of message and their numbers: no two kinds have one number, and fields with a number that no kind has are not legal.
use Prim.Native.Nat.{ℕ, zero, suc}
use native.Mathlib.Omega.{arith}
use mathlib.Core.Bool.{true, false, ◌&&◌}
use mathlib.Core.Logic.{◌≢◌}
use mathlib.Core.Path.{◌≡◌, refl, sym, ap, ◌∙◌}
use borrow.Author.Tests.{lt-leb}
use lib.Dec.{eqb, leb}
use Rattle.std.specs.Prelude.{if◌then◌else◌}
use Rattle.ground.proofs.Tests.{and_false, and_no}
use Rattle.rules.specs.Message.{Message, legal_message}
use Rattle.message.specs.Kind.{kind_number}
use Rattle.message.specs.declared.kind.Kind.{Kind}
use Rattle.message.specs.declared.kind.Kind.TheVariants.{Acknowledgment, Update, Both}

-- The way back from a number to its kind.
with_number : ℕ → Kind
with_number n = if eqb n 1 then Acknowledgment else if eqb n 2 then Update else Both

back : (kind : Kind) → with_number (kind_number kind) ≡ kind
unfolding with_number
back Acknowledgment = refl
back Update = refl
back Both = refl

pub kind_once : (a b : Kind) → kind_number a ≡ kind_number b → a ≡ b
kind_once a b e = sym (back a) ∙ ap with_number e ∙ back b

no_kind : (number : ℕ) → ((kind : Kind) → kind_number kind ≢ number) → leb 1 number && leb number 3 ≡ false
no_kind zero none = refl
no_kind (suc zero) none = absurd (none Acknowledgment refl)
no_kind (suc (suc zero)) none = absurd (none Update refl)
no_kind (suc (suc (suc zero))) none = absurd (none Both refl)
no_kind (suc (suc (suc (suc more)))) none = and_false _ _ (lt-leb (suc (suc (suc (suc more)))) 3 (omega arith))

pub kindless : (n : ℕ) (m : Message) → ((kind : Kind) → kind_number kind ≢ m.kind) → legal_message n m ≡ false
unfolding legal_message
kindless n m none = simp (no_kind m.kind none, and_no)

pub legal_kind : (kind : Kind) → leb 1 (kind_number kind) && leb (kind_number kind) 3 ≡ true
legal_kind Acknowledgment = refl
legal_kind Update = refl
legal_kind Both = refl
