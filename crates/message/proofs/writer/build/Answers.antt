-- `message::writer::build` meets its contract. The invariant: the array holds the contents, the first i bodies, and zeros.
use Prim.Native.Nat.{ℕ, ◌+◌, ◌*◌}
use native.Mathlib.Omega.{arith}
use mathlib.Core.List.{List, [], ◌++◌, append-nil}
use mathlib.Core.Path.{◌≡◌, sym, ap, ◌∙◌}
use borrow.Author.Rules.{rules}
use lib.ListN.{length, take, length-map}
use lib.Seq.{take_all}
use Rattle.ground.specs.Limits.{message_room}
use Rattle.ground.specs.Rows.{filled}
use Rattle.rules.specs.Message.{body_bytes, written}
use Rattle.message.specs.Fields.{fields_of}
use Rattle.message.specs.Writing.{contents_of}
use Rattle.message.proofs.Writings.{bodies_more}
use Rattle.message.proofs.writer.build.Goals as goal

-- Before the first body, and after the last.
module _ (kind sender : ℕ) (changes : List ℕ) where
  no_bodies : filled message_room (contents_of kind sender changes) ≡ filled message_room (contents_of kind sender changes ++ [])
  no_bodies = ap (filled message_room) (sym (append-nil (contents_of kind sender changes)))

  all_bodies : (i : ℕ) → i ≡ length changes
      → filled message_room (contents_of kind sender changes ++ body_bytes (take i changes))
      ≡ filled message_room (written (fields_of kind sender changes))
  unfolding written
  all_bodies i e =
      ap (λ (l : List ℕ). filled message_room (contents_of kind sender changes ++ body_bytes l)) (take_all i changes (omega arith))

  contents_long : (i : ℕ) → 4 + length changes + 3 * i ≡ length (contents_of kind sender changes) + 3 * i
  contents_long i = simp length-map (omega arith)

pub contents-built-requires : goal.contents-built-requires
contents-built-requires c = c.requires

pub loop-i-init : goal.loop-i-init
unfolding body_bytes
loop-i-init c =
    (search rules, c.contents-built.ensures ∙ no_bodies c.args.kind c.args.sender c.args.changes.now)

pub loop-i-preserved : goal.loop-i-preserved
loop-i-preserved c =
    let here = c.loop-i in
    let args = c.args in
    (search rules, rw here.invariant.1 (bodies_more message_room (contents_of args.kind args.sender args.changes.now) args.changes.now here.i c.loop-i-test.true _ (contents_long args.kind args.sender args.changes.now here.i) (omega arith)))

pub returns : goal.returns
returns c =
    let args = c.args in
    c.loop-i.invariant.1 ∙ all_bodies args.kind args.sender args.changes.now c.loop-i.i (omega arith)
