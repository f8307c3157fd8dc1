-- `Kind::acknowledges` meets its contract. What the test for another kind shows first is written out.
use Prim.Native.Nat.{◌%◌}
use mathlib.Core.Bool.{not}
use mathlib.Core.Path.{◌≡◌, refl, ◌∙◌}
use denote.Enum.Bare.{sameb}
use lib.Dec.{eqb}
use Rattle.message.specs.Kind.{kind_number}
use Rattle.message.specs.contracts.kind.Kind.{the_type}
use Rattle.message.specs.declared.kind.Kind.{Kind}
use Rattle.message.specs.declared.kind.Kind.TheVariants.{Acknowledgment, Update, Both}
use Rattle.message.proofs.kind.Kind.acknowledges.Goals as goal

by_kind : (kind : Kind) → not (sameb the_type kind Update) ≡ eqb (kind_number kind % 2) 1
by_kind Acknowledgment = refl
by_kind Update = refl
by_kind Both = refl

pub returns : goal.returns
returns c = c.ne.ensures ∙ by_kind c.args.self
