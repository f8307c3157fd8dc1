-- The lines of a unit from its row are its lines by the rules, and the rows of fit tables are those of the network's units.
use Prim.Native.Nat.{ℕ, ◌≤◌, ◌<◌}
use native.Mathlib.Omega.{arith}
use mathlib.Core.Bool.{true, false}
use mathlib.Core.List.{List, [], ◌++◌}
use mathlib.Core.Logic.{◌≢◌, ⊎_elim}
use mathlib.Core.Path.{◌≡◌, ap, ◌∙◌}
use borrow.Author.Tests.{eq-eqb, ne_eqb, lt-ltb}
use lib.Dec.{eqb}
use Rattle.std.specs.Prelude.{Ok, Err, if◌then◌else◌}
use Rattle.ground.specs.Limits.{unit_limit}
use Rattle.ground.specs.Refused.{number_of}
use Rattle.ground.specs.declared.refusals.Refusal.{Refusal}
use Rattle.ground.specs.declared.refusals.Refusal.TheVariants.{Unfit}
use Rattle.ground.specs.Rows.{at, joined, is_in}
use Rattle.ground.proofs.Bits.{in_bits}
use Rattle.ground.proofs.Filling.{filled_tab_at}
use Rattle.ground.proofs.Places.{at_filled}
use Rattle.ground.proofs.Rows.{tab_ext}
use Rattle.ground.proofs.Tests.{yes_or_no, not_yes}
use Rattle.rules.specs.Network.{unit_at}
use Rattle.rules.specs.Tables.{network_from, fit_tables}
use Rattle.rules.specs.Unit.{Unit, is_active, own_distance, is_successor, successor_set}
use Rattle.rules.proofs.Fit.{FitNetwork, fit_tables_of}
use Rattle.state.specs.Asked.{row_of}
use Rattle.state.specs.declared.questions.Row.{Row}
use Rattle.asking.specs.Asking.{row_at}
use Rattle.texts.specs.Printed.{state_line, pair_line}
use Rattle.texts.proofs.Successors.{joined_ext}
use Rattle.listing.specs.Shown.{pair_lines, unit_lines}
use Rattle.listing.specs.Showing.{way_to, ways_to, row_lines}

-- No line of the unit itself, and the line of any other.
pub way_none : (row : Row) (i j : ℕ) → j ≡ i → [] ≡ way_to row i j
unfolding way_to
way_none row i j e = rw (eq-eqb j i e)

pub way_other : (row : Row) (i j : ℕ) → j ≢ i
    → pair_line row.count i j (at row.distances j) (at row.feasible j) (is_in (at row.successors j)) ≡ way_to row i j
unfolding way_to
way_other row i j d = rw (ne_eqb j i d)

module _ (u : Unit) (i : ℕ) where
  -- The line of a destination, by the rules.
  abbrev pub line_to : (j : ℕ) → List ℕ
  line_to j = if eqb j i then [] else pair_line u.count i j (own_distance u j) (at u.feasible j) (is_successor u j)

  -- That from the row is the same.
  way_line : (j : ℕ) → j < u.count → way_to (row_of u) i j ≡ line_to j
  unfolding way_to successor_set
  way_line j l =
      rw (
        filled_tab_at unit_limit u.count (own_distance u) j l,
        at_filled unit_limit u.feasible j,
        filled_tab_at unit_limit u.count (successor_set u) j l,
        joined_ext u.count (is_in (successor_set u j)) (is_successor u j) (in_bits u.count (is_successor u j)),
      )

  -- All lines of the unit.
  row-lines : row_lines (row_of u) i ≡ unit_lines i u
  unfolding row_lines ways_to unit_lines pair_lines
  row-lines =
      ap (λ (lines : List (List ℕ)). state_line i (is_active u) ++ joined lines)
      (tab_ext u.count (way_to (row_of u) i) line_to way_line)

module _ (words bytes : List ℕ) (fit : fit_tables words bytes ≡ true) where
  -- The network that the tables hold.
  abbrev count : ℕ
  count = (network_from words bytes).count

  -- It is fit.
  known : FitNetwork (network_from words bytes)
  known = fit_tables_of words bytes fit

  -- A unit's row.
  row-at : (i : ℕ) → i < count → row_at words bytes i ≡ Ok (row_of (unit_at (network_from words bytes) i))
  unfolding row_at
  row-at i h = rw (fit, lt-ltb i count h)

  -- Its count is the network's.
  row_count : (i : ℕ) → i < count → (row_of (unit_at (network_from words bytes) i)).count ≡ count
  row_count i h = known.counts i h

-- Tables of which a unit's row is not refused are fit.
fit_unrefused : (words bytes : List ℕ) (i : ℕ) {row : Row} → row_at words bytes i ≡ Ok row → fit_tables words bytes ≡ true
unfolding row_at
fit_unrefused words bytes i e = ⊎_elim (λ t. t) (λ t. let unfit = rw t at e in cc) (yes_or_no (fit_tables words bytes))

-- The first unit's row is refused only where they are not fit, and with the number of that.
pub unfit_refused : (words bytes : List ℕ) {refusal : Refusal} → row_at words bytes 0 ≡ Err refusal
    → (fit_tables words bytes ≡ false) × (number_of refusal ≡ 2)
unfolding row_at
unfit_refused words bytes {refusal} e =
    let told = rw unfit at e in
    let same : refusal ≡ Unfit = cc in
    (unfit, ap number_of same)
  where
    unfit : fit_tables words bytes ≡ false
    unfit =
        not_yes (fit_tables words bytes) (λ fit.
        let row = row-at words bytes fit 0 (omega (arith, (fit_tables_of words bytes fit).low)) in
        cc)

-- What the first unit's row tells where it is not refused.
pub record Shows (words bytes : List ℕ) (first : Row) : Type 0 where
  pub fit : fit_tables words bytes ≡ true
  pub all : first.count ≡ (network_from words bytes).count
  pub high : first.count ≤ unit_limit

-- It tells so by its answer.
pub shows : (words bytes : List ℕ) {first : Row} → row_at words bytes 0 ≡ Ok first → Shows words bytes first
shows words bytes {first} e =
    record { fit = fit; all = all; high = omega (arith, all, (fit_tables_of words bytes fit).high) }
  where
    fit : fit_tables words bytes ≡ true
    fit = fit_unrefused words bytes 0 e

    all : first.count ≡ (network_from words bytes).count
    all =
        let inside : 0 < (network_from words bytes).count = omega (arith, (fit_tables_of words bytes fit).low) in
        let row = row-at words bytes fit 0 inside in
        let same : first ≡ row_of (unit_at (network_from words bytes) 0) = cc in
        ap (λ (row : Row). row.count) same ∙ row_count words bytes fit 0 inside

-- What the rows of the others tell then.
module _ (words bytes : List ℕ) {first : Row} (told : Shows words bytes first) (i : ℕ) (below : i < first.count) where
  inside : i < (network_from words bytes).count
  inside = omega (arith, told.all)

  -- They are not refused.
  pub never_refused : {refusal : Refusal} → row_at words bytes i ≡ Err refusal → ⊥
  never_refused e = let row = row-at words bytes told.fit i inside in cc

  module _ {row : Row} (asked : row_at words bytes i ≡ Ok row) where
    row_is : row ≡ row_of (unit_at (network_from words bytes) i)
    row_is = let row = row-at words bytes told.fit i inside in cc

    -- No more destinations than units.
    pub row_high : row.count ≤ unit_limit
    row_high = omega (arith, told, ap (λ (r : Row). r.count) row_is, row_count words bytes told.fit i inside)

    -- The unit's lines.
    pub row_shown : row_lines row i ≡ unit_lines i (unit_at (network_from words bytes) i)
    row_shown = rw row_is (row-lines (unit_at (network_from words bytes) i) i)
