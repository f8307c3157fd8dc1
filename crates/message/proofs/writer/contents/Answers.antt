-- `message::writer::contents` meets its contract. The invariant: the array holds the contents up to unit i, and zeros.
use Prim.Native.Nat.{ℕ}
use native.Mathlib.Omega.{arith}
use mathlib.Core.List.{List, ◌++◌, map}
use mathlib.Core.Path.{◌≡◌, ap, ◌∙◌}
use borrow.Author.Rules.{rules}
use lib.ListN.{length}
use lib.Seq.{take_all}
use Rattle.ground.specs.Limits.{message_room}
use Rattle.ground.specs.Rows.{filled}
use Rattle.rules.specs.Message.{changed_unit}
use Rattle.message.specs.Writing.{contents_of}
use Rattle.message.proofs.Writings.{contents_more, low_byte, high_byte}
use Rattle.message.proofs.writer.contents.Goals as goal
use Rattle.message.proofs.writer.contents.Invariants.{front, contents_up_to}

all_contents : (kind sender : ℕ) (changes : List ℕ) (i : ℕ) → i ≡ length changes
    → contents_up_to kind sender changes i ≡ contents_of kind sender changes
all_contents kind sender changes i e =
    ap (λ (l : List ℕ). front kind sender changes ++ map changed_unit l) (take_all i changes (omega arith))

pub loop-i-init : goal.loop-i-init
loop-i-init c =
    let sender = low_byte c.args.sender c.requires.small_sender in
    let kind = low_byte c.args.kind c.requires.small_kind in
    let number = low_byte (length c.args.changes.now) (omega arith) in
    (search rules, rw (sender, kind, number))

pub loop-i-preserved : goal.loop-i-preserved
loop-i-preserved c =
    let here = c.loop-i in
    let args = c.args in
    let byte = high_byte _ (c.type_inv.changes here.i) in
    (search rules, rw (here.invariant.1, byte) (contents_more message_room (front args.kind args.sender args.changes.now) _ here.i c.loop-i-test.true (omega arith)))

pub returns : goal.returns
returns c = c.loop-i.invariant.1 ∙ ap (filled message_room) (all_contents _ _ c.args.changes.now c.loop-i.i (omega arith))
