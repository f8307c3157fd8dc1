-- Rule: "Bytes entered equal bytes delivered, dropped and held after any sequence, each figure defined from the accepted calls."
-- Each accepted `enters` is one frame; the accepted calls after it tell what became of it. The four figures are sums over these
-- calls, of the sizes of all frames, and of those that were delivered, that were dropped and that are still held.
use Rattle.std.specs.Prelude.{ℕ, ◌+◌, Bool, true, false, List, [], ◌∷◌, eqb}
use Rattle.std.specs.Prelude.{if◌then◌else◌}
use Rattle.frames.specs.Meter.{MeterCall, enters, moves, drops, Fate, as_held, as_delivered, as_dropped}

-- A call that was accepted, and what its answer says of its frame.
pub record Accepted : Type 0 where
  pub call : MeterCall
  pub fate : Fate

-- The bytes that a call brings.
abbrev pub brought_bytes : MeterCall → ℕ
brought_bytes (enters size unit destination) = size
brought_bytes (moves place unit) = 0
brought_bytes (drops place) = 0

-- Whether a call is about the frame at a place.
abbrev pub is_about : (place : ℕ) → MeterCall → Bool
is_about place (enters size unit destination) = false
is_about place (moves named unit) = eqb named place
is_about place (drops named) = eqb named place

abbrev pub was_held : Fate → Bool
was_held (as_held place) = true
was_held as_delivered = false
was_held as_dropped = false

abbrev pub was_delivered : Fate → Bool
was_delivered (as_held place) = false
was_delivered as_delivered = true
was_delivered as_dropped = false

abbrev pub was_dropped : Fate → Bool
was_dropped (as_held place) = false
was_dropped as_delivered = false
was_dropped as_dropped = true

-- A fate that ends a frame, or else what follows.
abbrev pub ends_or : Fate → (next : Fate) → Fate
ends_or (as_held place) next = next
ends_or as_delivered next = as_delivered
ends_or as_dropped next = as_dropped

-- What became of the frame at a place by the accepted calls that followed, in their order: the first of them that delivered or
-- dropped a frame of this place ended it.
unfoldable pub became_at : (place : ℕ) (later : List Accepted) → Fate
became_at place [] = as_held place
became_at place (accepted ∷ later) =
    if is_about place accepted.call then ends_or accepted.fate (became_at place later) else became_at place later

-- What became of the frame of an accepted call.
unfoldable pub became : Fate → (later : List Accepted) → Fate
became (as_held place) later = became_at place later
became as_delivered later = as_delivered
became as_dropped later = as_dropped

-- The bytes of the frames that entered by some accepted calls, in their order, and came to what is asked for.
unfoldable pub bytes_that : (test : Fate → Bool) (accepted : List Accepted) → ℕ
bytes_that test [] = 0
bytes_that test (accepted ∷ later) =
    (if test (became accepted.fate later) then brought_bytes accepted.call else 0) + bytes_that test later

-- The four figures.
abbrev pub bytes_entered : (accepted : List Accepted) → ℕ
bytes_entered accepted = bytes_that (λ fate. true) accepted

abbrev pub bytes_delivered : (accepted : List Accepted) → ℕ
bytes_delivered accepted = bytes_that was_delivered accepted

abbrev pub bytes_dropped : (accepted : List Accepted) → ℕ
bytes_dropped accepted = bytes_that was_dropped accepted

abbrev pub bytes_held : (accepted : List Accepted) → ℕ
bytes_held accepted = bytes_that was_held accepted
