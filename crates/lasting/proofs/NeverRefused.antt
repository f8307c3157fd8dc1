-- Tables that calls reach are never refused as unfit, no call over them would make a queue pass 4 messages, and no
-- delivery meets refusals 10 to 12: "A delivery over fit tables that no sequence has reached can meet 10 to 12", one over
-- tables that a sequence has reached cannot.
use Prim.Native.Nat.{ℕ, suc}
use native.Mathlib.Omega.{arith}
use mathlib.Core.Bool.{Bool, true, false, not, ◌&&◌}
use mathlib.Core.List.{List, [], ◌∷◌}
use mathlib.Core.Logic.{◌≢◌}
use mathlib.Core.Path.{◌≡◌, refl}
use borrow.Author.Tests.{ne_eqb}
use lib.Dec.{eqb}
use lib.ListN.{length}
use Rattle.ground.specs.Limits.{legal_count, legal_cost}
use Rattle.ground.specs.Refusal.{accepted, ◌gives◌, ◌otherwise◌}
use Rattle.rules.specs.Event.{message_refusal}
use Rattle.rules.specs.Message.{Message}
use Rattle.rules.specs.Network.{Network, Call, up, cost, down, deliver, unit_at, queue, is_up, next_message}
use Rattle.rules.specs.Network.{fresh, outcome, bad_ends, overflows, refusal_of, call_refusal}
use Rattle.rules.specs.NetworkTable.{network_refusal}
use Rattle.rules.specs.Tables.{network_words, network_bytes}
use Rattle.lasting.specs.ReachedTables.{Tables, run_tables, reached_tables, network_of, start_tables}
use Rattle.loopfree.specs.Reached.{run, reached}
use Rattle.steps.proofs.AcceptedCalls.{Ends, good_ends}
use Rattle.loopfree.proofs.Unrefused.{message_accepted}
use Rattle.lasting.proofs.ReachedFit.{Kept, start_kept, run_kept, reached_kept}
use Rattle.lasting.proofs.ShortQueues.{outcome_never_over}
use Rattle.lasting.proofs.TablesReached.{tables_start, start_tables_refusal, tables_refusal}

-- A refusal that is none of 2 and 10 to 13.
abbrev pub Usual : ℕ → Type 0
Usual r = (r ≢ 2) × (r ≢ 10) × (r ≢ 11) × (r ≢ 12) × (r ≢ 13)

-- One that is given by a test and whose number is one above k, or else another.
usual_first : (t : Bool) (k rest : ℕ) → Usual (suc k) → (t ≡ false → Usual rest) → Usual (t gives suc k otherwise rest)
usual_first true k rest u v = rw (ne_eqb (suc k) accepted (omega arith)) u
usual_first false k rest u v = v refl

module _ (net : Network) (kept : Kept net) where
  -- A delivery's, once its ends and its link are in order.
  usual_message : (a b : ℕ) → Ends net.count a b → (messages : List Message) → queue net a b ≡ messages → (rest : ℕ)
      → (eqb (length messages) 0 ≡ false → message_refusal (unit_at net b) (next_message messages) ≡ accepted → Usual rest)
      → Usual
      (eqb (length messages) 0 gives 8 otherwise message_refusal (unit_at net b) (next_message messages) otherwise rest)
  usual_message a b t [] q rest u = omega arith
  usual_message a b t (m ∷ ms) q rest u =
      let taken : message_refusal (unit_at net b) m ≡ accepted =
      message_accepted net.count net kept.holds a b t.first t.second t.differ m ms q in
      let some : eqb (length (m ∷ ms)) 0 ≡ false = ne_eqb (length (m ∷ ms)) 0 (omega arith) in
      rw (some, taken) (u some taken)

  -- The last: where a result without units, whose queues cannot pass 4, is not refused, the outcome is not refused with 13.
  usual_last : (call : Call) → refusal_of net call (fresh 0) ≡ accepted → Usual (overflows (outcome net call) gives 13)
  usual_last call e = rw (outcome_never_over net kept call (fresh 0) e) (omega arith)

  -- Every call's.
  usual_call : (call : Call) → Usual (call_refusal net call)
  unfolding refusal_of fresh overflows
  usual_call (up a b ca cb) =
      usual_first (bad_ends net.count a b) 2 _ (omega arith) (λ ends.
      usual_first (not (legal_cost ca && legal_cost cb)) 3 _ (omega arith) (λ legal.
      usual_first (is_up net a b) 4 _ (omega arith) (λ closed.
      usual_last (up a b ca cb) (rw (ends, legal, closed)))))
  usual_call (cost a b c) =
      usual_first (bad_ends net.count a b) 2 _ (omega arith) (λ ends.
      usual_first (not (legal_cost c)) 3 _ (omega arith) (λ legal.
      usual_first (not (is_up net a b)) 5 _ (omega arith) (λ opened.
      usual_last (cost a b c) (rw (ends, legal, opened)))))
  usual_call (down a b) =
      usual_first (bad_ends net.count a b) 2 _ (omega arith) (λ ends.
      usual_first (not (is_up net a b)) 5 _ (omega arith) (λ opened.
      usual_last (down a b) (rw (ends, opened))))
  usual_call (deliver a b) =
      usual_first (bad_ends net.count a b) 2 _ (omega arith) (λ ends.
      usual_first (not (is_up net a b)) 5 _ (omega arith) (λ opened.
      usual_message a b (good_ends net.count a b ends) (queue net a b) refl _
      (λ some taken. usual_last (deliver a b) (rw (ends, opened, some, taken)))))

-- A call over tables that calls reach from any that they may start from is refused with none of 2 and 10 to 13.
pub start_usual : (t : Tables) → start_tables t ≡ true → (calls : List Call) (call : Call)
    → Usual (network_refusal (run_tables t calls).words (run_tables t calls).bytes call)
start_usual t s calls call =
    rw (start_tables_refusal t s calls call)
    (usual_call (run (network_of t) calls)
    (run_kept (network_of t) (start_kept (network_of t) (tables_start t s)) calls) call)

-- From fresh tables.
module _ (words bytes : List ℕ) (long : length words ≡ network_words) (wide : length bytes ≡ network_bytes) (n : ℕ)
    (legal : legal_count n ≡ true) (calls : List Call) (call : Call) where
  -- The refusal of a call over tables that calls reach.
  abbrev pub refusal_then : ℕ
  refusal_then = network_refusal (reached_tables words bytes n calls).words (reached_tables words bytes n calls).bytes call

  -- It is none of 2 and 10 to 13.
  usual_then : Usual refusal_then
  usual_then =
      rw (tables_refusal words bytes long wide n legal calls call)
      (usual_call (reached n calls) (reached_kept n legal calls) call)

  -- 2: "tables unfit".
  pub never_unfit : refusal_then ≢ 2
  never_unfit = usual_then.0

  -- 10: "an acknowledgment that isn't awaited".
  pub never_unawaited : refusal_then ≢ 10
  never_unawaited = usual_then.1

  -- 11: "an entry that changes nothing in the copy".
  pub never_idle : refusal_then ≢ 11
  never_idle = usual_then.2

  -- 12: "the changed copy isn't a tree rooted at the sender".
  pub never_uprooted : refusal_then ≢ 12
  never_uprooted = usual_then.3

  -- 13: "some queue would pass 4 messages".
  pub never_full : refusal_then ≢ 13
  never_full = usual_then.4
