-- Step A of each event: it touches only what belongs to the neighbour that the event is about, leaves the tables of
-- links sound, and starts no wait.
use Prim.Native.Nat.{ℕ, ◌≤◌, ◌<◌}
use native.Mathlib.Nat.{le_refl}
use native.Mathlib.Omega.{arith}
use mathlib.Core.Bool.{true}
use mathlib.Core.List.{List, []}
use mathlib.Core.Logic.{◌≢◌}
use mathlib.Core.Path.{◌≡◌, refl, sym, subst, ◌∙◌}
use lib.ListN.{length, set, length-set}
use lib.Seq.{get_or-set_same, get_or-set_other}
use borrow.Author.Tests.{ne_eqb}
use Rattle.std.specs.Prelude.{if◌then◌else◌}
use Rattle.ground.specs.Limits.{highest_cost}
use Rattle.ground.specs.Rows.{at, zeros}
use Rattle.tree.specs.Recompute.{copy_of}
use Rattle.tree.specs.Tree.{is_tree}
use Rattle.tree.proofs.Rooted.{zeros_tree}
use Rattle.rules.specs.Event.{received, link_up, new_cost, link_down, noted}
use Rattle.rules.specs.Message.{Message, holds_update, holds_acknowledgment, applied}
use Rattle.rules.specs.Unit.{Unit}
use Rattle.ground.proofs.Cases.{by_test, by_equal}
use Rattle.steps.proofs.SentMessages.{not_count}
use Rattle.loopfree.proofs.Sound.{Links, links_of, SoundLinks, Sound, Touch}

-- The tables of links with another cost to b; another copy of b's tree; no wait on b.
abbrev with_cost : Links → (b c : ℕ) → Links
with_cost t b c = record { costs = set t.costs b c; copies = t.copies; awaited = t.awaited }

abbrev with_copy : Links → (b : ℕ) (copy : List ℕ) → Links
with_copy t b copy = record { costs = t.costs; copies = set t.copies b copy; awaited = t.awaited }

abbrev without_wait : Links → (b : ℕ) → Links
without_wait t b = record { costs = t.costs; copies = t.copies; awaited = set t.awaited b 0 }

module _ {n me : ℕ} {t : Links} (b : ℕ) (h : b < n) where
  -- Another cost to a neighbour leaves the tables sound.
  sound_cost : (c : ℕ) → c ≤ highest_cost → b ≢ me → SoundLinks n me t → SoundLinks n me (with_cost t b c)
  sound_cost c l d s =
      record {
        costs_length = length-set t.costs b c ∙ s.costs_length;
        copies_length = s.copies_length;
        awaited_length = s.awaited_length;
        legal = λ x. by_equal x b
            (λ e. rw (e, get_or-set_same t.costs b c 0 (rw s.costs_length h)) l)
            (λ e. rw (get_or-set_other t.costs b x c 0 e) (s.legal x));
        self = get_or-set_other t.costs b me c 0 (λ e. d (sym e)) ∙ s.self;
        copied = s.copied;
      }

  -- So does another copy that is a tree.
  sound_copy : (copy : List ℕ) → is_tree n b copy ≡ true → SoundLinks n me t → SoundLinks n me (with_copy t b copy)
  sound_copy copy r s =
      record {
        costs_length = s.costs_length;
        copies_length = length-set t.copies b copy ∙ s.copies_length;
        awaited_length = s.awaited_length;
        legal = s.legal;
        self = s.self;
        copied = λ x l. by_equal x b
            (λ e. rw (e, get_or-set_same t.copies b copy [] (rw s.copies_length h)) r)
            (λ e. rw (get_or-set_other t.copies b x copy [] e) (s.copied x l));
      }

  -- So does a wait that is cleared.
  sound_wait : SoundLinks n me t → SoundLinks n me (without_wait t b)
  sound_wait s =
      record {
        costs_length = s.costs_length;
        copies_length = s.copies_length;
        awaited_length = length-set t.awaited b 0 ∙ s.awaited_length;
        legal = s.legal;
        self = s.self;
        copied = s.copied;
      }

-- A wait that is cleared is no greater.
wait_fewer : (awaited : List ℕ) (k : ℕ) → k < length awaited → (x : ℕ) → at (set awaited k 0) x ≤ at awaited x
wait_fewer awaited k h x =
    by_equal x k
    (λ e. rw (e, get_or-set_same awaited k 0 0 h) (omega arith))
    (λ e. rw (get_or-set_other awaited k x 0 0 e) (le_refl (at awaited x)))

-- What step A leaves on each event about b.
abbrev pub on_received : Unit → Message → (b : ℕ) → Links
on_received u m b =
    record {
      costs = u.costs;
      copies = if holds_update m then set u.copies b (applied (copy_of u.copies b) m.changes) else u.copies;
      awaited = if holds_acknowledgment m then set u.awaited b 0 else u.awaited;
    }

abbrev pub on_up : Unit → (b c : ℕ) → Links
on_up u b c = with_copy (with_cost (links_of u) b c) b (zeros u.count)

abbrev pub on_cost : Unit → (b c : ℕ) → Links
on_cost u b c = with_cost (links_of u) b c

abbrev pub on_down : Unit → (b : ℕ) → Links
on_down u b = without_wait (on_up u b 0) b

module _ (u : Unit) (sound : Sound u) where
  -- A message, by its sender.
  touch_sender : (m : Message) → m.sender < u.count
      → is_tree u.count m.sender (applied (copy_of u.copies m.sender) m.changes) ≡ true
      → Touch u (received m) m.sender (on_received u m m.sender)
  unfolding noted
  touch_sender m h t =
      record {
        touched = refl;
        links = by_test (holds_update m)
            (λ p. rw p (waits (with_copy (links_of u) m.sender copy) refl (sound_copy m.sender h copy t sound.links)))
            (λ p. rw p (waits (links_of u) refl sound.links));
        fewer = λ k. by_test (holds_acknowledgment m)
            (λ q. rw q (wait_fewer u.awaited m.sender (rw sound.links.awaited_length h) k))
            (λ q. rw q (le_refl (at u.awaited k)));
        same_cost = λ k d. refl;
        same_wait = λ k d. by_test (holds_acknowledgment m)
            (λ q. rw q (get_or-set_other u.awaited m.sender k 0 0 d))
            (λ q. rw q);
        same_copy = λ k d. by_test (holds_update m)
            (λ p. rw p (get_or-set_other u.copies m.sender k copy [] d))
            (λ p. rw p);
        not_new = λ k l d. not_count u.count k l;
        no_answer = λ k l d. by_test (holds_update m)
            (λ p. rw p (ne_eqb k m.sender d))
            (λ p. rw p (not_count u.count k l));
      }
    where
      copy : List ℕ
      copy = applied (copy_of u.copies m.sender) m.changes

      waits : (t : Links) → t.awaited ≡ u.awaited → SoundLinks u.count u.me t
          → SoundLinks u.count u.me
          (record {
            costs = t.costs;
            copies = t.copies;
            awaited = if holds_acknowledgment m then set u.awaited m.sender 0 else u.awaited;
          })
      waits t e s =
          by_test (holds_acknowledgment m) (λ q. rw (q, ← e) (sound_wait m.sender h s)) (λ q. rw (q, ← e) s)

  -- A message whose sender is b.
  pub touch_received : (m : Message) (b : ℕ) → m.sender ≡ b → b < u.count
      → is_tree u.count m.sender (applied (copy_of u.copies m.sender) m.changes) ≡ true
      → Touch u (received m) b (on_received u m b)
  touch_received m b s h t =
      subst (λ (x : ℕ). Touch u (received m) x (on_received u m x)) s (touch_sender m (rw s h) t)

  module _ (b : ℕ) (h : b < u.count) (d : b ≢ u.me) where
    -- The link to b comes up.
    pub touch_up : (c : ℕ) → c ≤ highest_cost → Touch u (link_up b c) b (on_up u b c)
    unfolding noted
    touch_up c l =
        record {
          touched = refl;
          links = sound_copy b h (zeros u.count) (zeros_tree u.count b) (sound_cost b h c l d sound.links);
          fewer = λ k. le_refl (at u.awaited k);
          same_cost = λ k q. get_or-set_other u.costs b k c 0 q;
          same_wait = λ k q. refl;
          same_copy = λ k q. get_or-set_other u.copies b k (zeros u.count) [] q;
          not_new = λ k l q. ne_eqb k b q;
          no_answer = λ k l q. not_count u.count k l;
        }

    -- The link to b has another cost.
    pub touch_cost : (c : ℕ) → c ≤ highest_cost → Touch u (new_cost b c) b (on_cost u b c)
    unfolding noted
    touch_cost c l =
        record {
          touched = refl;
          links = sound_cost b h c l d sound.links;
          fewer = λ k. le_refl (at u.awaited k);
          same_cost = λ k q. get_or-set_other u.costs b k c 0 q;
          same_wait = λ k q. refl;
          same_copy = λ k q. refl;
          not_new = λ k l q. not_count u.count k l;
          no_answer = λ k l q. not_count u.count k l;
        }

    -- The link to b goes down.
    pub touch_down : Touch u (link_down b) b (on_down u b)
    unfolding noted
    touch_down =
        record {
          touched = refl;
          links = sound_wait b h
              (sound_copy b h (zeros u.count) (zeros_tree u.count b) (sound_cost b h 0 (omega arith) d sound.links));
          fewer = wait_fewer u.awaited b (rw sound.links.awaited_length h);
          same_cost = λ k q. get_or-set_other u.costs b k 0 0 q;
          same_wait = λ k q. get_or-set_other u.awaited b k 0 0 q;
          same_copy = λ k q. get_or-set_other u.copies b k (zeros u.count) [] q;
          not_new = λ k l q. not_count u.count k l;
          no_answer = λ k l q. not_count u.count k l;
        }
