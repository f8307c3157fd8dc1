-- Words: the message with the given fields.
-- Order: `legal_from`: what makes a change legal once the units before it are known (proofs/Rising.antt).
use Rattle.std.specs.Prelude.{ℕ, Bool, not, ◌&&◌, List, eqb, ltb, leb}
use Rattle.rules.specs.Message.{Message, changed_unit, body_of, legal_body}

abbrev pub fields_of : (kind sender : ℕ) (changes : List ℕ) → Message
fields_of kind sender changes = record { kind = kind; sender = sender; changes = changes }

-- A legal change of a unit from `lowest` on, the unit after the change before it.
unfoldable pub legal_from : (n sender lowest change : ℕ) → Bool
legal_from n sender lowest change =
    leb lowest (changed_unit change)
    && (ltb (changed_unit change) n && (not (eqb (changed_unit change) sender) && legal_body n (changed_unit change) (body_of change)))
