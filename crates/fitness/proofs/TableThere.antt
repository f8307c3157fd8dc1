-- One unit's table among those of all: its numbers are a part of theirs, and another is laid over that part.
use Prim.Native.Nat.{ℕ, ◌+◌, ◌*◌, ◌≤◌, ◌<◌}
use native.Mathlib.Omega.{arith}
use mathlib.Core.Bool.{true, false, not}
use mathlib.Core.List.{List}
use mathlib.Core.Logic.{◌≢◌}
use mathlib.Core.Path.{◌≡◌, sym, ◌∙◌}
use borrow.Author.Tests.{eq-eqb, ne_eqb, lt-ltb, le-ltb}
use lib.Dec.{eqb}
use lib.ListN.{length}
use lib.Seq.{paste}
use Rattle.ground.specs.Limits.{unit_limit}
use Rattle.ground.specs.Rows.{at, zeros}
use Rattle.ground.proofs.Tests.{and_false, both_of, if_true, if_false}
use Rattle.rules.specs.Tables.{unit_words, network_words, part, costs_at}
use Rattle.slices.specs.Slices.{laid_over}
use Rattle.slices.proofs.Stretches.{copied, replaced}
use Rattle.fitness.specs.UnitTables.{has_table, table_of, with_table, is_linked}

-- Numbers of all tables, among which one is unit i's.
pub record There (words : List ℕ) (i : ℕ) : Type 0 where
  pub long : length words ≡ network_words
  pub unit : i < unit_limit

module _ (words : List ℕ) (i : ℕ) where
  -- There is none where the numbers are not those of all tables.
  pub other_length : length words ≢ network_words → has_table words i ≡ false
  unfolding has_table
  other_length d = rw (ne_eqb (length words) network_words d)

  -- Nor where i numbers no unit that can be.
  pub no-unit : unit_limit ≤ i → has_table words i ≡ false
  unfolding has_table
  no-unit h = and_false (eqb (length words) network_words) _ (le-ltb i unit_limit h)

  module _ (none : has_table words i ≡ false) where
    -- Then there are zeros.
    pub load_none : zeros unit_words ≡ table_of words i
    unfolding table_of
    load_none = sym (if_false (has_table words i) _ _ none)

    -- Another table changes nothing.
    pub put_none : (table : List ℕ) → words ≡ with_table words i table
    unfolding with_table
    put_none table = sym (if_false (has_table words i) _ _ none)

    -- No link is up.
    pub linked_none : (b : ℕ) → false ≡ is_linked words i b
    unfolding is_linked
    linked_none b = sym (rw none)

  module _ (t : There words i) where
    -- The test holds.
    there : has_table words i ≡ true
    unfolding has_table
    there = both_of _ _ (eq-eqb _ _ t.long) (lt-ltb i unit_limit t.unit)

    -- The unit's table is a part of all.
    pub table_is_part : table_of words i ≡ part words (i * unit_words) unit_words
    unfolding table_of
    table_is_part = if_true _ _ _ there

    -- Another for it is laid over that part.
    pub put_is_paste : (table : List ℕ) → with_table words i table ≡ paste words (i * unit_words) table unit_words
    unfolding with_table
    put_is_paste table = if_true _ _ _ there

    -- That part lies within all.
    pub table_within : i * unit_words + unit_words ≤ length words
    table_within = omega arith

    -- The part, laid over zeros, is the table.
    pub load_there : {table : List ℕ} → table ≡ part words (i * unit_words) unit_words
        → laid_over (zeros unit_words) 0 table ≡ table_of words i
    load_there e = copied words (i * unit_words) unit_words table_within e ∙ sym table_is_part

    -- Another, laid over all from where the table begins.
    pub put_there : (table : List ℕ) → length table ≡ unit_words → {place : ℕ} → place ≡ i * unit_words
        → laid_over words place table ≡ with_table words i table
    put_there table wide e =
        replaced words (i * unit_words) unit_words table_within table wide e ∙ sym (put_is_paste table)

    -- No link to what numbers no unit is up.
    pub linked_not : (b : ℕ) → unit_limit ≤ b → false ≡ is_linked words i b
    unfolding is_linked
    linked_not b h = sym (rw (there, le-ltb b unit_limit h))

    -- The link to b is up where its cost is not 0.
    pub linked_is : (b : ℕ) → b < unit_limit
        → is_linked words i b ≡ not (eqb (at words (i * unit_words + (costs_at + b))) 0)
    unfolding is_linked
    linked_is b h = rw (there, lt-ltb b unit_limit h)
