-- What holds of one unit's tables at all times, and what step A of an event does to them: it touches only what belongs
-- to the neighbour b that the event is about.
use Prim.Native.Nat.{ℕ, ◌≤◌, ◌<◌}
use mathlib.Core.Bool.{Bool, true, false}
use mathlib.Core.List.{List}
use mathlib.Core.Logic.{◌≢◌}
use mathlib.Core.Path.{◌≡◌}
use lib.Dec.{eqb}
use lib.ListN.{length}
use Rattle.ground.specs.Limits.{highest_cost}
use Rattle.ground.specs.Rows.{at}
use Rattle.tree.specs.Recompute.{copy_of, recomputed}
use Rattle.tree.specs.Tree.{is_tree}
use Rattle.rules.specs.Event.{Event, with_links, noted, new_of, owed_of}
use Rattle.rules.specs.Unit.{Unit, is_active, own_distance}

-- The tables with a place for each link: what step A can touch.
pub record Links : Type 0 where
  pub costs : List ℕ
  pub copies : List (List ℕ)
  pub awaited : List ℕ

-- A unit's own.
abbrev pub links_of : Unit → Links
links_of u = record { costs = u.costs; copies = u.copies; awaited = u.awaited }

-- A unit's tables with other tables of links.
abbrev pub having : Unit → Links → Unit
having u t = with_links u t.costs t.copies t.awaited

-- Tables of links of a unit `me` of n: a place for each unit, costs at most the highest and 0 to itself, copies that are
-- trees rooted at their units.
pub record SoundLinks (n me : ℕ) (t : Links) : Type 0 where
  pub costs_length : length t.costs ≡ n
  pub copies_length : length t.copies ≡ n
  pub awaited_length : length t.awaited ≡ n
  pub legal : (k : ℕ) → at t.costs k ≤ highest_cost
  pub self : at t.costs me ≡ 0
  pub copied : (k : ℕ) → k < n → is_tree n k (copy_of t.copies k) ≡ true

-- A unit's tables: those of its links are sound, its tree is a tree rooted at it, and its feasible distances are at most
-- its tree's distances.
pub record Sound (u : Unit) : Type 0 where
  pub links : SoundLinks u.count u.me (links_of u)
  pub rooted : is_tree u.count u.me u.tree ≡ true
  pub own : (j : ℕ) → at u.feasible j ≤ own_distance u j

-- A unit's feasible distances equal its distances.
abbrev pub AtDistances : Unit → Type 0
AtDistances u = (j : ℕ) → j < u.count → at u.feasible j ≡ own_distance u j

-- "a unit that awaits nobody has the tree that recomputing gives and feasible distances equal to its distances"
pub record Settled (u : Unit) : Type 0 where
  pub tree : u.tree ≡ recomputed u.count u.me u.costs u.copies
  pub feasible : AtDistances u

-- A unit of a network: it knows the count and its own number, its tables are sound, and it is settled where it awaits
-- nobody.
pub record Home (n i : ℕ) (u : Unit) : Type 0 where
  pub counted : u.count ≡ n
  pub named : u.me ≡ i
  pub sound : Sound u
  pub settled : is_active u ≡ false → Settled u

-- Whether unit k of n is the neighbour whose link comes up; whether it is the one owed an acknowledgment.
abbrev pub is_new : (n : ℕ) → Event → (k : ℕ) → Bool
is_new n e k = eqb k (new_of n e)

abbrev pub is_owed : (n : ℕ) → Event → (k : ℕ) → Bool
is_owed n e k = eqb k (owed_of n e)

-- Step A of an event about neighbour b leaves the tables t: they are sound, no wait is new, and what belongs to another
-- neighbour stays; only b may be new, and only b may be owed an acknowledgment.
pub record Touch (u : Unit) (e : Event) (b : ℕ) (t : Links) : Type 0 where
  pub touched : noted u e ≡ having u t
  pub links : SoundLinks u.count u.me t
  pub fewer : (k : ℕ) → at t.awaited k ≤ at u.awaited k
  pub same_cost : (k : ℕ) → k ≢ b → at t.costs k ≡ at u.costs k
  pub same_wait : (k : ℕ) → k ≢ b → at t.awaited k ≡ at u.awaited k
  pub same_copy : (k : ℕ) → k ≢ b → copy_of t.copies k ≡ copy_of u.copies k
  pub not_new : (k : ℕ) → k < u.count → k ≢ b → is_new u.count e k ≡ false
  pub no_answer : (k : ℕ) → k < u.count → k ≢ b → is_owed u.count e k ≡ false
