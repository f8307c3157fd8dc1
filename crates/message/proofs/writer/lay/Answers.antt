-- `message::writer::lay` meets its contract: what is built and then copied is the message.
use mathlib.Core.Path.{refl}
use Rattle.message.specs.Fields.{fields_of}
use Rattle.message.proofs.Writings.{laid_by}
use Rattle.message.proofs.writer.lay.Goals as goal

pub returns : goal.returns
returns c =
    rw c.copy_from_slice.ensures.after
    (laid_by (fields_of c.args.kind c.args.sender c.args.changes.now) _ _ _ c.build-built.ensures refl)
