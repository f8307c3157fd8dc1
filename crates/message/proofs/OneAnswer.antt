-- What is said leaves one answer: two answers of the reader that say the same are the same.
use Prim.Native.Nat.{ℕ}
use native.Mathlib.Omega.{arith}
use mathlib.Core.Path.{◌≡◌, ap}
use lib.ListN.{length}
use Rattle.std.specs.Prelude.{Result, Ok, Err}
use Rattle.ground.specs.Rows.{at}
use Rattle.ground.specs.Said.{Said}
use Rattle.ground.specs.declared.refusals.Refusal.{Refusal}
use Rattle.ground.proofs.Answers.{number_once}
use Rattle.message.specs.Reading.{reading_said}
use Rattle.message.specs.declared.reader.Header.{Header}
use Rattle.message.proofs.KindNumbers.{kind_once}

-- The values are the same, place by place, and there are as many.
pub values_at : (i : ℕ) {a b : Said} → a ≡ b → at a.values i ≡ at b.values i
values_at i e = ap (λ (s : Said). at s.values i) e

as_many : {a b : Said} → a ≡ b → length a.values ≡ length b.values
as_many e = ap (λ (s : Said). length s.values) e

pub one_reading : (a b : Result Header Refusal) → reading_said a ≡ reading_said b → a ≡ b
one_reading (Ok a) (Ok b) e =
    let kind = kind_once a.kind b.kind (values_at 0 e) in
    let sender : a.sender ≡ b.sender = values_at 1 e in
    let entries : a.entries ≡ b.entries = values_at 2 e in
    λ i. Ok (record { kind = kind i; sender = sender i; entries = entries i })
one_reading (Ok a) (Err b) e = absurd (omega (arith, as_many e))
one_reading (Err a) (Ok b) e = absurd (omega (arith, as_many e))
one_reading (Err a) (Err b) e = ap Err (number_once a b (ap (λ (s : Said). s.number) e))
