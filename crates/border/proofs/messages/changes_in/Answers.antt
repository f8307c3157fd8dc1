-- `border::messages::changes_in` meets its contract: the changes are taken to the start of an array of zeros.
use native.Mathlib.Omega.{arith}
use mathlib.Core.Path.{ap, ◌∙◌}
use borrow.Rule.Slice.PartMut.{put_mid}
use lib.ListN.{length-take}
use Rattle.ground.specs.Limits.{entry_limit}
use Rattle.ground.specs.Rows.{zeros}
use Rattle.border.proofs.MessageBorder.{changes_filled}
use Rattle.border.proofs.messages.changes_in.Goals as goal

pub slice_bounds-take_numbers-end : goal.slice_bounds-take_numbers-end
slice_bounds-take_numbers-end c = simp length-take (omega arith)

pub take_numbers-requires : goal.take_numbers-requires
take_numbers-requires c = simp length-take (omega arith)

pub returns : goal.returns
returns c =
    ap (put_mid 0 c.args.entries (zeros entry_limit)) c.take_numbers.ensures
    ∙ changes_filled c.args.bytes.now c.args.entries c.requires.0 c.requires.1
