-- Order: a unit as the code holds it, in arrays of fixed length with zeros from the count on, and the unit that such arrays
-- hold. proofs/Holding.antt leads from `unit_from` and to `laid_unit`, proofs/Tables.antt so for any numbers.
use Rattle.std.specs.Prelude.{ℕ, ◌+◌, ◌/◌, ◌%◌, ◌&&◌, List, ◌∷◌, ◌++◌, map, eqb, ltb, leb, length, take}
use Rattle.std.specs.Prelude.{if◌then◌else◌}
use Rattle.ground.specs.Limits.{unit_limit}
use Rattle.ground.specs.Rows.{at, tab, zeros, filled, joined}
use Rattle.rules.specs.Tables.{unit_words, laid_row, unit_from, copy_at}
use Rattle.rules.specs.Unit.{Unit}
use Rattle.recomputing.specs.Flat.{copies_in, flat_length}
use Rattle.state.specs.declared.held.Held.{Held}

-- The arrays that hold a unit.
abbrev pub held_of : Unit → Held
held_of u =
    record {
      count = u.count;
      me = u.me;
      costs = laid_row u.costs;
      awaited = laid_row u.awaited;
      tree = laid_row u.tree;
      feasible = laid_row u.feasible;
      copies = filled flat_length (joined (map laid_row u.copies));
    }

-- The unit that arrays hold.
abbrev pub unit_of : Held → Unit
unit_of h =
    record {
      count = h.count;
      me = h.me;
      costs = take h.count h.costs;
      awaited = take h.count h.awaited;
      tree = take h.count h.tree;
      feasible = take h.count h.feasible;
      copies = copies_in h.count h.copies;
    }

-- Place i of the copies in a table of numbers, 0 where it doesn't count; and all of them.
abbrev pub copy_place : (n : ℕ) (words : List ℕ) (i : ℕ) → ℕ
copy_place n words i = if ltb (i / unit_limit) n && ltb (i % unit_limit) n then at words (copy_at 0 + i) else 0

abbrev pub flat_copies : (n : ℕ) (words : List ℕ) → List ℕ
flat_copies n words = tab flat_length (copy_place n words)

-- The whole table, from the arrays and the successor sets.
abbrev pub laid_with : Held → (successors : List ℕ) → List ℕ
laid_with h successors =
    h.count
    ∷ h.me
    ∷ (h.costs ++ h.awaited ++ h.tree ++ h.feasible ++ successors ++ h.copies)

-- No unit; the unit that any numbers hold; and any numbers with a unit laid over them, where they are a table.
abbrev pub no_unit : Held
no_unit =
    record {
      count = 0;
      me = 0;
      costs = zeros unit_limit;
      awaited = zeros unit_limit;
      tree = zeros unit_limit;
      feasible = zeros unit_limit;
      copies = zeros flat_length;
    }

unfoldable pub held_from : (words : List ℕ) → Held
held_from words =
    if eqb (length words) unit_words && leb (at words 0) unit_limit then held_of (unit_from words) else no_unit

unfoldable pub with_unit : (words : List ℕ) → Held → (successors : List ℕ) → List ℕ
with_unit words h successors =
    if eqb (length words) unit_words && (leb h.count unit_limit && leb h.me unit_limit) then laid_with h successors
    else words
