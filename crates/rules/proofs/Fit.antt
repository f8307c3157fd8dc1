-- What the fitness tests say, taken apart, and that the states of fit tables are shaped: so each is read back from what it
-- lays out.
use Prim.Native.Nat.{ℕ, ◌*◌, ◌≤◌, ◌<◌}
use native.Mathlib.Omega.{arith}
use mathlib.Core.Bool.{Bool, true, false, ◌&&◌, beq, false≢true}
use mathlib.Core.List.{List, []}
use mathlib.Core.Path.{◌≡◌, refl, sym, ap, ◌∙◌}
use lib.Dec.{eqb}
use lib.ListN.{length}
use borrow.Author.Tests.{leb-true, eqb-true}
use Rattle.ground.specs.Limits.{unit_limit, queue_room}
use Rattle.ground.specs.Rows.{at, tab, every}
use Rattle.ground.proofs.Lists.{parts}
use Rattle.ground.proofs.Rows.{length_tab, tab_at, every_at}
use Rattle.rules.specs.Message.{Message}
use Rattle.rules.specs.Network.{Network, unit_at, queue, is_up, fit_queue, fit_network}
use Rattle.rules.specs.Tables.{unit_words, part, unit_from, fit_unit_table, queue_bytes, queue_from}
use Rattle.rules.specs.Tables.{network_words, queue_at, network_from, fit_tables}
use Rattle.rules.specs.Unit.{fresh_unit, fit_unit}
use Rattle.rules.proofs.Laid.{ShapedUnit, unit_shaped, part_length, ShapedQueue}
use Rattle.rules.proofs.LaidNetwork.{ShapedNetwork}
use Rattle.rules.proofs.QueuedMessages.{proper_shaped, queue_proper}

-- The unit of a fit table is shaped.
pub fit_unit_shaped : (words : List ℕ) → fit_unit_table words ≡ true → ShapedUnit (unit_from words)
unfolding fit_unit_table fit_unit unit_from
fit_unit_shaped words e =
    unit_shaped words (leb-true (at words 0) unit_limit (search parts depth 9))
    (eqb-true (length words) unit_words (search parts))

-- What a fit network is.
pub record FitNetwork (net : Network) : Type 0 where
  pub low : 2 ≤ net.count
  pub high : net.count ≤ unit_limit
  pub counts : (i : ℕ) → i < net.count → (unit_at net i).count ≡ net.count
  pub own : (i : ℕ) → i < net.count → (unit_at net i).me ≡ i
  pub unit : (i : ℕ) → i < net.count → fit_unit (unit_at net i) ≡ true
  pub alike : (a b : ℕ) → a < net.count → b < net.count → is_up net a b ≡ is_up net b a
  pub queued : (a b : ℕ) → a < net.count → b < net.count → fit_queue net a b ≡ true

-- Tests that are found to be the same are.
beq_true : (a b : Bool) → beq a b ≡ true → a ≡ b
beq_true true true e = refl
beq_true true false e = absurd (false≢true e)
beq_true false true e = absurd (false≢true e)
beq_true false false e = refl

module _ (net : Network) (e : fit_network net ≡ true) where
  -- What is tested of a unit.
  abbrev unit_test : ℕ → Bool
  unit_test i = eqb (unit_at net i).count net.count && eqb (unit_at net i).me i && fit_unit (unit_at net i)

  -- What is tested of two units.
  abbrev link_test : (a b : ℕ) → Bool
  link_test a b = beq (is_up net a b) (is_up net b a) && fit_queue net a b

  -- The test of a unit holds of each.
  unit-test : (i : ℕ) → i < net.count → unit_test i ≡ true
  unfolding fit_network
  unit-test i l = every_at net.count unit_test (search parts) i l

  -- The test of two units holds of each two.
  link-test : (a b : ℕ) → a < net.count → b < net.count → link_test a b ≡ true
  unfolding fit_network
  link-test a b l k =
      every_at net.count (link_test a)
      (every_at net.count (λ c. every net.count (link_test c)) (search parts) a l) b k

  -- A network that passes the test is fit.
  pub fit_network_of : FitNetwork net
  unfolding fit_network
  fit_network_of =
      record {
        low = leb-true 2 net.count (search parts);
        high = leb-true net.count unit_limit (search parts);
        counts = λ i l. eqb-true (unit_at net i).count net.count (search (parts, unit-test i l));
        own = λ i l. eqb-true (unit_at net i).me i (search (parts, unit-test i l));
        unit = λ i l. search (parts, unit-test i l);
        alike = λ a b l k. beq_true (is_up net a b) (is_up net b a) (search (parts, link-test a b l k));
        queued = λ a b l k. search (parts, link-test a b l k);
      }

-- A fit queue is shaped.
pub fit_queue_shaped : (net : Network) (a b : ℕ) → fit_queue net a b ≡ true → ShapedQueue net.count (queue net a b)
unfolding fit_queue
fit_queue_shaped net a b e =
    proper_shaped net.count a (queue net a b)
    (leb-true (length (queue net a b)) queue_room (search parts))
    (queue_proper net a b e)

module _ (words bytes : List ℕ) (e : fit_tables words bytes ≡ true) where
  -- The network of fit tables is fit.
  pub fit_tables_of : FitNetwork (network_from words bytes)
  unfolding fit_tables
  fit_tables_of = fit_network_of (network_from words bytes) (search parts)

  -- Each unit is read from a part of the fixed length.
  unit-at : (i : ℕ) → i < at words 0 → unit_at (network_from words bytes) i ≡ unit_from (part words (i * unit_words) unit_words)
  unfolding network_from
  unit-at i l = tab_at (at words 0) (λ j. unit_from (part words (j * unit_words) unit_words)) i (fresh_unit 0 0) l

  -- Each unit is shaped.
  unit_fits : (i : ℕ) → i < at words 0 → ShapedUnit (unit_at (network_from words bytes) i)
  unfolding fit_tables network_from unit_from
  unit_fits i l =
      let long : length words ≡ network_words = eqb-true (length words) network_words (search parts) in
      let count : at (part words (i * unit_words) unit_words) 0 ≡ at words 0 =
      ap (λ u. u.count) (sym (unit-at i l)) ∙ fit_tables_of.counts i l in
      rw (unit-at i l)
      (unit_shaped (part words (i * unit_words) unit_words) (omega (arith, fit_tables_of.high))
      (part_length words (i * unit_words) unit_words (omega (arith, fit_tables_of.high))))

  -- The network of fit tables is shaped.
  pub fit_network_shaped : ShapedNetwork (network_from words bytes)
  unfolding network_from
  fit_network_shaped =
      record {
        low = omega (arith, fit_tables_of.low);
        high = fit_tables_of.high;
        units = length_tab (at words 0) (λ i. unit_from (part words (i * unit_words) unit_words));
        counts = fit_tables_of.counts;
        unit = unit_fits;
        queues = length_tab (at words 0) row;
        row = λ a l. ap length (tab_at (at words 0) row a [] l) ∙ length_tab (at words 0) (queue_of a);
        each = λ a b l k. fit_queue_shaped (network_from words bytes) a b (fit_tables_of.queued a b l k);
      }
    where
      queue_of : (a b : ℕ) → List Message
      queue_of a b = queue_from (part bytes (queue_at a b) queue_bytes)

      row : ℕ → List (List Message)
      row a = tab (at words 0) (queue_of a)
