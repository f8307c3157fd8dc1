-- `message::reader::is_framed` meets its contract: each return rewrites the definition by the tests that led there.
use Prim.Native.Nat.{ℕ, ◌+◌, ◌*◌, ◌<◌}
use native.Mathlib.Omega.{arith}
use mathlib.Core.Bool.{false, ◌&&◌}
use mathlib.Core.List.{List}
use mathlib.Core.Path.{◌≡◌, sym, ap}
use borrow.Author.Tests.{eq-eqb, ne_eqb}
use lib.Dec.{eqb}
use lib.ListN.{length}
use Rattle.ground.specs.Rows.{at}
use Rattle.rules.specs.Message.{edition, written_length}
use Rattle.ground.proofs.Tests.{and_false}
use Rattle.message.specs.Reading.{is_framed}
use Rattle.message.proofs.reader.is_framed.Goals as goal

-- Fewer than 4 bytes are no message, whatever they hold.
too_few : (bytes : List ℕ) → length bytes < 4 → eqb (at bytes 0) edition && eqb (length bytes) (written_length (at bytes 3)) ≡ false
too_few bytes h = and_false (eqb (at bytes 0) edition) _ (ne_eqb (length bytes) (written_length (at bytes 3)) (λ e. omega arith))

pub returns-then-bytes-lt4 : goal.returns-then-bytes-lt4
unfolding is_framed
returns-then-bytes-lt4 c = sym (too_few c.args.bytes.now c.if-bytes-lt4.true)

pub returns-then-bytes-ne1 : goal.returns-then-bytes-ne1
unfolding is_framed
returns-then-bytes-ne1 c = simp (ne_eqb _ _ c.if-bytes-ne1.true)

pub returns : goal.returns
unfolding is_framed
returns c = simp (eq-eqb _ _ c.if-bytes-ne1.false) (ap (λ (x : ℕ). eqb (length c.args.bytes.now) (4 + 4 * x)) c.from.ensures)
