-- Rule: the tracer: following successors from a start to a destination, each chosen by a byte.
use Rattle.std.specs.Prelude.{ℕ, zero, suc, ◌-◌, ◌%◌, not, ◌||◌, List, [], ◌∷◌, ◌++◌, eqb, ltb, length, drop}
use Rattle.std.specs.Prelude.{if◌then◌else◌}
use Rattle.ground.specs.Refusal.{◌gives◌, ◌otherwise◌}
use Rattle.ground.specs.Rows.{at}
use Rattle.rules.specs.Network.{Network, successors_in}

-- "It ends at the destination (arrived) or at a unit without successors (stranded)"; "after the count less one hops, at
-- a unit that is neither, it answers circling."
pub data Ending : Type 0 where
  arrived : Ending
  stranded : Ending
  circling : Ending

-- How a trace ended, and "the units met, start first".
pub record Trace : Type 0 where
  pub ending : Ending
  pub path : List ℕ

abbrev pub ends_here : Ending → (i : ℕ) → Trace
ends_here ending i = record { ending = ending; path = i ∷ [] }

abbrev pub goes_on : (i : ℕ) → Trace → Trace
goes_on i rest = record { ending = rest.ending; path = i ∷ rest.path }

-- "At each unit that isn't the destination it takes the successor, in rising order, whose place is the next choice byte
-- modulo their number."
abbrev pub chosen : (successors : List ℕ) (choice : ℕ) → ℕ
chosen successors choice = at successors (choice % length successors)

-- The trace from unit i on, `left` hops before it would be circling. "At each unit the destination is looked at first,
-- then the successors, then the hops."
unfoldable pub trace_from : Network → (destination left i : ℕ) (choices : List ℕ) → Trace
trace_from net destination zero i choices =
    if eqb i destination then ends_here arrived i
    else if eqb (length (successors_in net i destination)) 0 then ends_here stranded i
    else ends_here circling i
trace_from net destination (suc left) i choices =
    if eqb i destination then ends_here arrived i
    else if eqb (length (successors_in net i destination)) 0 then ends_here stranded i
    else
    goes_on i
    (trace_from net destination left
    (chosen (successors_in net i destination) (at choices 0))
    (drop 1 choices))

abbrev pub trace : Network → (start destination : ℕ) (choices : List ℕ) → Trace
trace net start destination choices = trace_from net destination (net.count - 1) start choices

abbrev pub hops : Trace → ℕ
hops t = length t.path - 1

-- "Path bytes: the units met, start first; the rest of the buffer stays."
abbrev pub path_laid : Trace → (buffer : List ℕ) → List ℕ
path_laid t buffer = t.path ++ drop (length t.path) buffer

-- 3: "a unit number not below the count"; 7: "path (fewer places than units), choices (fewer than units less one)"
abbrev pub trace_refusal : Network → (start destination choices places : ℕ) → ℕ
trace_refusal net start destination choices places =
    (not (ltb start net.count) || not (ltb destination net.count)) gives 3
    otherwise (ltb places net.count || ltb choices (net.count - 1)) gives 7
