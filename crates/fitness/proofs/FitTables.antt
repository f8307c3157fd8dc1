-- Unit i's table among the tables of a network that are fit: it is what the network's unit i lays out, and fit.
use Prim.Native.Nat.{ℕ, ◌*◌, ◌<◌}
use native.Mathlib.Omega.{arith}
use mathlib.Core.Bool.{true}
use mathlib.Core.List.{List}
use mathlib.Core.Path.{◌≡◌, sym, ap, ◌∙◌}
use borrow.Author.Tests.{eqb-true, eq-eqb}
use lib.ListN.{length}
use Rattle.ground.specs.Rows.{at}
use Rattle.ground.proofs.Lists.{parts}
use Rattle.ground.proofs.Rows.{eq_same}
use Rattle.ground.proofs.Tests.{both_of}
use Rattle.rules.specs.Network.{unit_at}
use Rattle.rules.specs.Tables.{unit_words, network_words, network_bytes, part, laid_unit, unit_from, network_from, fit_unit_table}
use Rattle.rules.specs.Tables.{fit_tables}
use Rattle.rules.specs.Unit.{Unit, fit_unit}
use Rattle.rules.proofs.Fit.{fit_tables_of, fit_network_shaped}
use Rattle.rules.proofs.Laid.{ShapedUnit, laid_unit_length, unit_reads_back}
use Rattle.rules.proofs.LaidNetwork.{unit_part, network_lays_back}
use Rattle.fitness.specs.UnitTables.{table_of}
use Rattle.fitness.proofs.TableThere.{There, table_is_part}

-- Fit tables have their fixed length.
pub fit_length : (words bytes : List ℕ) → fit_tables words bytes ≡ true → length words ≡ network_words
unfolding fit_tables
fit_length words bytes e = eqb-true (length words) network_words (search parts)

-- So have the queues' bytes.
pub bytes_length : (words bytes : List ℕ) → fit_tables words bytes ≡ true → length bytes ≡ network_bytes
unfolding fit_tables
bytes_length words bytes e = eqb-true (length bytes) network_bytes (search parts)

-- The table of a fit and shaped unit is fit.
pub laid_fit : (u : Unit) → ShapedUnit u → fit_unit u ≡ true → fit_unit_table (laid_unit u) ≡ true
unfolding fit_unit_table
laid_fit u s fit =
    both_of _ _
    (both_of _ _ (eq-eqb _ _ (laid_unit_length u s)) (ap fit_unit (unit_reads_back u s) ∙ fit))
    (eq_same (laid_unit u) (laid_unit (unit_from (laid_unit u))) (sym (ap laid_unit (unit_reads_back u s))))

module _ (words bytes : List ℕ) (e : fit_tables words bytes ≡ true) (i : ℕ) (l : i < at words 0) where
  -- Unit i has a table among them.
  pub table_there : There words i
  unfolding network_from
  table_there =
      record { long = fit_length words bytes e; unit = omega (arith, (fit_tables_of words bytes e).high) }

  -- It is what the network's unit i lays out.
  pub table_is : part words (i * unit_words) unit_words ≡ laid_unit (unit_at (network_from words bytes) i)
  unfolding network_from
  table_is =
      ap (λ (tables : List ℕ). part tables (i * unit_words) unit_words) (sym (network_lays_back words bytes e).0)
      ∙ unit_part (network_from words bytes) (fit_network_shaped words bytes e) i l

  -- So is a copy of it.
  pub table_laid : table_of words i ≡ laid_unit (unit_at (network_from words bytes) i)
  table_laid = table_is_part words i table_there ∙ table_is

  -- Its unit is the network's unit i.
  pub unit_is : unit_from (part words (i * unit_words) unit_words) ≡ unit_at (network_from words bytes) i
  unfolding network_from
  unit_is =
      ap unit_from table_is
      ∙ unit_reads_back (unit_at (network_from words bytes) i) ((fit_network_shaped words bytes e).unit i l)

  -- It is fit.
  pub table_fits : fit_unit_table (part words (i * unit_words) unit_words) ≡ true
  unfolding network_from
  table_fits =
      ap fit_unit_table table_is
      ∙ laid_fit (unit_at (network_from words bytes) i) ((fit_network_shaped words bytes e).unit i l)
      ((fit_tables_of words bytes e).unit i l)
