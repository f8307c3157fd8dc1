-- The fresh network's tables: zeros, and the fresh units' tables laid over them one after the other. Its queues hold
-- nothing.
use Prim.Native.Nat.{ℕ, ◌+◌, ◌*◌, ◌≤◌, ◌<◌}
use native.Mathlib.Omega.{arith}
use mathlib.Core.List.{List, []}
use mathlib.Core.Path.{◌≡◌, sym, ap, ap₂, ◌∙◌}
use lib.ListN.{length, get_or}
use lib.Seq.{paste}
use Rattle.ground.specs.Limits.{unit_limit}
use Rattle.ground.specs.Rows.{tab, zeros, filled, joined}
use Rattle.ground.proofs.Filled.{length_filled}
use Rattle.ground.proofs.Joined.{joined_more}
use Rattle.ground.proofs.Lists.{map_tab, blocks_tab, length_joined}
use Rattle.ground.proofs.Nothing.{filled_zeros, joined_zeros}
use Rattle.ground.proofs.Rows.{length_tab, tab_at, tab_ext}
use Rattle.rules.specs.Message.{Message}
use Rattle.rules.specs.Network.{queue, fresh}
use Rattle.rules.specs.Tables.{unit_words, network_words, laid_unit, laid_units}
use Rattle.rules.specs.Tables.{queue_bytes, network_bytes, laid_queue, laid_queues}
use Rattle.rules.specs.Unit.{fresh_unit}
use Rattle.rules.proofs.Laid.{laid_unit_length}
use Rattle.steps.proofs.Fresh.{fresh_shaped}
use Rattle.slices.proofs.Overlaid.{paste_filled}
use Rattle.fitness.specs.UnitTables.{with_table}
use Rattle.fitness.proofs.TableThere.{There, put_is_paste}

-- Rows of nothing, filled up.
rows_of_zeros : (m w n : ℕ) (f : ℕ → List ℕ) → n * w ≤ m → ((i : ℕ) → i < n → f i ≡ zeros w)
    → filled m (joined (tab n f)) ≡ zeros m
rows_of_zeros m w n f h none =
    ap (λ (rows : List (List ℕ)). filled m (joined rows)) (tab_ext n f (λ i. zeros w) none)
    ∙ ap (filled m) (joined_zeros w n)
    ∙ filled_zeros m (n * w) h

-- The tables of the first k of n fresh units, over zeros.
abbrev pub fresh_tables : (n k : ℕ) → List ℕ
fresh_tables n k = filled network_words (joined (tab k (λ i. laid_unit (fresh_unit n i))))

module _ (n : ℕ) (high : n ≤ unit_limit) where
  -- One turn of a loop that lays them.
  pub fresh_more : (k : ℕ) → k < n → {words : List ℕ} → words ≡ fresh_tables n k
      → with_table words k (laid_unit (fresh_unit n k)) ≡ fresh_tables n (k + 1)
  fresh_more k l e =
      rw (e, joined_more k table)
      (put_is_paste (fresh_tables n k) k there (table k)
      ∙ ap₂ (λ (from width : ℕ). paste (fresh_tables n k) from (table k) width) (sym long) (sym (wide k))
      ∙ paste_filled network_words (joined (tab k table)) (table k) (omega (arith, long, wide k)))
    where
      table : ℕ → List ℕ
      table i = laid_unit (fresh_unit n i)

      wide : (i : ℕ) → length (table i) ≡ unit_words
      wide i = laid_unit_length (fresh_unit n i) (fresh_shaped n i high)

      long : length (joined (tab k table)) ≡ k * unit_words
      long =
          length_joined unit_words (tab k table) (blocks_tab unit_words k table (λ i b. wide i))
          ∙ ap (λ (j : ℕ). j * unit_words) (length_tab k table)

      there : There (fresh_tables n k) k
      there =
          record {
            long = length_filled network_words (joined (tab k table)) (omega (arith, long));
            unit = omega arith;
          }

  -- After the last turn they are the fresh network's.
  pub fresh_all : fresh_tables n n ≡ laid_units (fresh n)
  unfolding laid_units fresh
  fresh_all = ap (λ (tables : List (List ℕ)). filled network_words (joined tables)) (sym (map_tab laid_unit n (fresh_unit n)))

  -- A fresh queue holds nothing.
  fresh_queue : (a b : ℕ) → a < n → b < n → laid_queue (queue (fresh n) a b) ≡ zeros queue_bytes
  unfolding fresh laid_queue
  fresh_queue a b l k =
      let row : List (List Message) = tab n (λ c. []) in
      ap (λ (queues : List (List Message)). laid_queue (get_or queues b [])) (tab_at n (λ c. row) a [] l)
      ∙ ap laid_queue (tab_at n (λ c. []) b [] k)

  -- So all queues do.
  pub fresh_queues : laid_queues (fresh n) ≡ zeros network_bytes
  unfolding laid_queues fresh
  fresh_queues = rows_of_zeros network_bytes (unit_limit * queue_bytes) n _ (omega arith) (λ a l.
      rows_of_zeros (unit_limit * queue_bytes) queue_bytes n _ (omega arith) (λ b k. fresh_queue a b l k))
