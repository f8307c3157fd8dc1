-- Two that are both what a contract says are equal: each clause of a contract that leaves one output is used so.
use mathlib.Core.Path.{◌≡◌, sym, ◌∙◌}

pub agree {ℓ} : {Of : Type ℓ} {first second said : Of} → first ≡ said → second ≡ said → first ≡ second
agree p q = p ∙ sym q
