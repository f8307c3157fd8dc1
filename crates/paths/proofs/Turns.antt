-- The tracer's turns over fit tables: what the table says at a unit, what the trace does there, and how far the loop has
-- come.
use Prim.Native.Nat.{ℕ, zero, suc, ◌+◌, ◌-◌, ◌*◌, ◌%◌, ◌≤◌, ◌<◌}
use native.Mathlib.Numerals.{add-one}
use native.Mathlib.Omega.{arith}
use mathlib.Core.Bool.{true, false}
use mathlib.Core.List.{List, [], ◌∷◌, ◌++◌}
use mathlib.Core.Logic.{◌≢◌}
use mathlib.Core.Path.{◌≡◌, refl, sym, ap, ◌∙◌}
use borrow.Author.Tests.{eq-eqb, ne_eqb, eqb-false}
use lib.Dec.{eqb}
use lib.ListN.{length, set, take, drop, length-set, length-append}
use lib.Seq.{drop-drop, set_split, take-suc-set, drop-set-lt, length-take-le, append_snoc}
use Rattle.ground.specs.Rows.{at, is_in}
use Rattle.ground.proofs.Lists.{at_from}
use Rattle.rules.specs.Network.{Network, unit_at}
use Rattle.rules.specs.Tables.{unit_words, network_words, successors_at, network_from, fit_tables}
use Rattle.rules.specs.Tracer.{Trace, Ending, arrived, stranded, circling, ends_here, goes_on, chosen, trace_from, trace}
use Rattle.rules.specs.Tracer.{path_laid}
use Rattle.rules.specs.Unit.{is_successor, successors, successor_set}
use Rattle.fitness.proofs.SuccessorSets.{Sized, fit_sized, set_at, counted, set_in_place}
use Rattle.paths.specs.Tracing.{units_in, ending_values, values_of, trace_values, Traceable, LaysPath}
use Rattle.paths.proofs.Sets.{units_of_bits, none_alike, rising_under}

module _ (words bytes : List ℕ) (fit : fit_tables words bytes ≡ true) (destination i : ℕ)
    (aimed : destination < at words 0) (inside : i < at words 0) where
  -- The network of the tables.
  abbrev net : Network
  net = network_from words bytes

  -- The units in the set of unit i are its successors.
  units_onward : units_in (at words 0) (set_at words destination i) ≡ successors (unit_at net i) destination
  unfolding successors successor_set
  units_onward =
      rw (
        set_in_place words bytes fit destination i aimed inside,
        ← counted words bytes fit destination i aimed inside,
      )
      (units_of_bits (unit_at net i).count (is_successor (unit_at net i) destination))

  -- It is 0 exactly where there is none.
  none_onward : eqb (length (successors (unit_at net i) destination)) 0 ≡ eqb (set_at words destination i) 0
  unfolding successors successor_set
  none_onward =
      rw (set_in_place words bytes fit destination i aimed inside)
      (none_alike (unit_at net i).count (is_successor (unit_at net i) destination))

module _ (net : Network) (destination i : ℕ) (choices : List ℕ) where
  -- The successors of unit i.
  abbrev onward : List ℕ
  onward = successors (unit_at net i) destination

  -- At the destination the trace ends.
  at_destination : (left : ℕ) → i ≡ destination → trace_from net destination left i choices ≡ ends_here arrived i
  unfolding trace_from
  at_destination zero e = rw (eq-eqb i destination e)
  at_destination (suc left) e = rw (eq-eqb i destination e)

  -- Elsewhere without successors it ends.
  at_stranding : (left : ℕ) → i ≢ destination → eqb (length onward) 0 ≡ true
      → trace_from net destination left i choices ≡ ends_here stranded i
  unfolding trace_from
  at_stranding zero d e = rw (ne_eqb i destination d, e)
  at_stranding (suc left) d e = rw (ne_eqb i destination d, e)

  -- Elsewhere with successors it ends where no hop is left.
  at_circling : i ≢ destination → eqb (length onward) 0 ≡ false
      → trace_from net destination 0 i choices ≡ ends_here circling i
  unfolding trace_from
  at_circling d e = rw (ne_eqb i destination d, e)

  -- Else it goes on at the successor that is chosen.
  at_hop : (left : ℕ) → i ≢ destination → eqb (length onward) 0 ≡ false
      → trace_from net destination (suc left) i choices
      ≡ goes_on i (trace_from net destination left (chosen onward (at choices 0)) (drop 1 choices))
  unfolding trace_from
  at_hop left d e = rw (ne_eqb i destination d, e)

-- A path so far, and the trace that is left.
abbrev resumed : (met : List ℕ) → Trace → Trace
resumed met rest = record { ending = rest.ending; path = met ++ rest.path }

-- How far the loop has come: it is at a unit after some hops, fewer than there are units; the path so far is laid, and
-- the rest of the buffer is as it was; and the whole trace is the path so far and then the trace that is left.
pub record Underway (words : List ℕ) (start destination : ℕ) (choices buffer path : List ℕ) (i hops : ℕ) : Type 0 where
  pub inside : i < at words 0
  pub few : hops < at words 0
  pub long : length path ≡ length buffer
  pub kept : drop hops path ≡ drop hops buffer
  pub left : (bytes : List ℕ) → fit_tables words bytes ≡ true
      → trace (network_from words bytes) start destination choices
      ≡ resumed (take hops path)
      (trace_from (network_from words bytes) destination (at words 0 - (hops + 1)) i (drop hops choices))

-- It begins at the start.
pub begins : (words : List ℕ) (start destination : ℕ) (choices path : List ℕ) → start < at words 0
    → Underway words start destination choices path path start 0
unfolding network_from
begins words start destination choices path l =
    record { inside = l; few = omega arith; long = refl; kept = refl; left = λ bytes fit. refl }

module _ {words : List ℕ} {start destination : ℕ} {choices buffer path : List ℕ} {i hops : ℕ}
    (t : Traceable words start destination (length choices) (length buffer))
    (u : Underway words start destination choices buffer path i hops) where
  -- The tables have their length and count.
  sized : Sized words
  sized = fit_sized words t.bytes t.fit

  -- The successor set is read within the table.
  pub set_inside : i * unit_words + (successors_at + destination) < network_words
  set_inside = omega (arith, sized.high, u.inside, t.aimed)

  -- The unit is stored within the path.
  pub stored_inside : hops < length path
  stored_inside = omega (arith, u.long, u.few, t.room)

  -- The byte that is stored.
  abbrev byte : ℕ
  byte = i % 256

  -- It is the unit.
  byte_unit : byte ≡ i
  byte_unit = omega (arith, sized.high, u.inside)

  -- The path with this unit.
  abbrev met : List ℕ
  met = take hops path ++ (i ∷ [])

  -- It has one unit more than hops.
  met_length : length met ≡ hops + 1
  met_length =
      omega (arith, length-append (take hops path) (i ∷ []), length-take-le hops path (omega (arith, stored_inside)))

  -- The bytes after it are the buffer's.
  kept_after : drop (hops + 1) path ≡ drop (hops + 1) buffer
  kept_after = sym (drop-drop 1 hops path) ∙ ap (drop 1) u.kept ∙ drop-drop 1 hops buffer

  -- What is laid once the byte is stored.
  laid : set path hops byte ≡ met ++ drop (length met) buffer
  laid =
      set_split path hops byte stored_inside
      ∙ rw (byte_unit, ← add-one hops, kept_after, ← met_length)
      (sym (append_snoc (take hops path) i (drop (length met) buffer)))

  -- The ending and the path of a trace that ends at this unit.
  abbrev Ends : Ending → Type 0
  Ends ending =
      ((bytes : List ℕ) → fit_tables words bytes ≡ true
      → ending_values ending hops ≡ trace_values words bytes start destination choices)
      × LaysPath words start destination choices buffer (set path hops byte)

  -- They are right where what is left of the trace is this unit alone.
  ends : (ending : Ending)
      → ((bytes : List ℕ) → fit_tables words bytes ≡ true
      → trace_from (network_from words bytes) destination (at words 0 - (hops + 1)) i (drop hops choices)
      ≡ ends_here ending i)
      → Ends ending
  unfolding trace_values
  ends ending here = (
    λ bytes fit.
        sym
        (ap values_of (whole bytes fit) ∙ ap (ending_values ending) (omega (arith, met_length))),
    λ bytes fit. laid ∙ ap (λ (t : Trace). path_laid t buffer) (sym (whole bytes fit)),
  )
    where
      whole : (bytes : List ℕ) → fit_tables words bytes ≡ true
          → trace (network_from words bytes) start destination choices ≡ resumed (take hops path) (ends_here ending i)
      whole bytes fit = u.left bytes fit ∙ ap (resumed (take hops path)) (here bytes fit)

  -- At the destination it has arrived.
  pub arrives : i ≡ destination → Ends arrived
  arrives e = ends arrived (λ bytes fit. at_destination (network_from words bytes) destination i (drop hops choices) _ e)

  -- Elsewhere with an empty set it is stranded.
  pub strands : i ≢ destination → set_at words destination i ≡ 0 → Ends stranded
  strands d z =
      ends stranded (λ bytes fit.
      at_stranding (network_from words bytes) destination i (drop hops choices) _ d
      (none_onward words bytes fit destination i t.aimed u.inside ∙ eq-eqb (set_at words destination i) 0 z))

  module _ (d : i ≢ destination) (some : set_at words destination i ≢ 0) where
    -- Elsewhere with a set that is not empty there are successors.
    onward_some : (bytes : List ℕ) → fit_tables words bytes ≡ true
        → eqb (length (successors (unit_at (network_from words bytes) i) destination)) 0 ≡ false
    onward_some bytes fit =
        none_onward words bytes fit destination i t.aimed u.inside ∙ ne_eqb (set_at words destination i) 0 some

    -- The set has units.
    pub units_some : 0 < length (units_in (at words 0) (set_at words destination i))
    units_some =
        let found : length (successors (unit_at (network_from words t.bytes) i) destination) ≢ 0 =
        eqb-false _ _ (onward_some t.bytes t.fit) in
        rw (units_onward words t.bytes t.fit destination i t.aimed u.inside) (omega arith)

    -- With no hop left it is circling.
    pub circles : at words 0 ≤ hops + 1 → Ends circling
    circles l =
        ends circling (λ bytes fit.
        let none : at words 0 - (hops + 1) ≡ 0 = omega arith in
        rw none (at_circling (network_from words bytes) destination i (drop hops choices) d (onward_some bytes fit)))

    -- The trace that is left goes on behind the path with this unit.
    further : (rest : Trace)
        → resumed (take hops path) (goes_on i rest) ≡ resumed (take (hops + 1) (set path hops byte)) rest
    further rest =
        ap (λ (xs : List ℕ). resumed [] (record { ending = rest.ending; path = xs }))
        (sym
        (rw (add-one, take-suc-set path hops byte stored_inside, byte_unit)
        (append_snoc (take hops path) i rest.path)))

    -- With a hop left it goes on at the unit of the set that is chosen.
    pub goes : hops + 1 < at words 0
        → Underway words start destination choices buffer (set path hops byte)
        (chosen (units_in (at words 0) (set_at words destination i)) (at choices hops)) (hops + 1)
    goes l =
        record {
          inside = rising_under (at words 0) (at words 0) (is_in (set_at words destination i)) (omega arith) (omega arith) _;
          few = l;
          long = length-set path hops byte ∙ u.long;
          kept = drop-set-lt (hops + 1) path hops byte (omega arith) ∙ kept_after;
          left = λ bytes fit. u.left bytes fit ∙ ap (resumed (take hops path)) (hop bytes fit) ∙ further _;
        }
      where
        hop : (bytes : List ℕ) → fit_tables words bytes ≡ true
            → trace_from (network_from words bytes) destination (at words 0 - (hops + 1)) i (drop hops choices)
            ≡ goes_on i
            (trace_from (network_from words bytes) destination (at words 0 - (hops + 1 + 1))
            (chosen (units_in (at words 0) (set_at words destination i)) (at choices hops)) (drop (hops + 1) choices))
        hop bytes fit =
            let more : at words 0 - (hops + 1) ≡ suc (at words 0 - (hops + 1 + 1)) = omega arith in
            let next : at choices hops ≡ at (drop hops choices) 0 = at_from hops choices _ refl 0 hops (omega arith) in
            rw (
              more,
              units_onward words bytes fit destination i t.aimed u.inside,
              next,
              ← drop-drop 1 hops choices,
            )
            (at_hop (network_from words bytes) destination i (drop hops choices) _ d (onward_some bytes fit))
