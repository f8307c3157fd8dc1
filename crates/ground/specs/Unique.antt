-- Rule: what it is that a function's contract leaves one output: proofs/OneOutput.antt of each crate proves it of every public
-- function. `of` is the function's signature with what its contract may speak of at the exit, as Rattle generates it (`ended`);
-- the contract is what a caller learns from its `ensures` (`Reads.Learnt`).
use Rattle.std.specs.Prelude.{◌≡◌}
use contract.Lifetimes.{Lfts}
use denote.Triple.Clauses.{Ended, Lasts, AtExit, at_exit}
use denote.Triple.Entry.{Args, Res}

module _ (of : Ended) where
  -- The lifetimes of what is lent.
  abbrev pub Times : Type 0
  Times = Lfts of.signature.lifetimes

  -- What a contract says: of the arguments with what is lent at the entry, of the answer, and of what is lent at the exit.
  abbrev pub Contract : Type 1
  Contract = (times : Times) → Args of.signature times → Res of.signature times → AtExit of times → Type 0

  -- All that a call gives: its answer, and what each slice that is lent for writing holds at the exit.
  abbrev pub Output : (times : Times) → Args of.signature times → Type 0
  Output times call = Res of.signature times × Lasts of times call

  -- Two outputs of one call that both meet the contract are equal.
  abbrev pub OneOutput : Contract → Type 0
  OneOutput meets = (times : Times) (call : Args of.signature times) (first second : Output times call)
      → meets times call first.0 (at_exit of times call first.1)
      → meets times call second.0 (at_exit of times call second.1)
      → first ≡ second
