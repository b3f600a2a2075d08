-- The Bland run of a program: its first dictionary, and after each dictionary the one that its next pivot makes (Chvátal, chapter 3).
use Rattle.std.specs.Prelude.{◌≡◌, ◌≢◌, ◌⊎◌, ◌≤◌, ◌+◌, ◌*◌, ℕ, List, [], ◌∷◌, length, AllPairs}
use Rattle.fractions.specs.Rational.{zero_ℚ}
use Rattle.fractions.specs.Vectors.{at}
use Rattle.linear_programs.specs.Program.{Program, IsRegular, IsPoint, Bounds, IsContradictory, IsWayOut, objective_at}
use Rattle.dictionaries.specs.Dictionary.{Dictionary, pivoted, first_of_program, IsDictionaryOf, IsFeasible, SameBasis}
use Rattle.dictionaries.specs.Reading.{multipliers, basic_solution, change_along, point_of}
use Rattle.dictionaries.specs.Narrow.{IsNarrowPivot}
use Rattle.dictionaries.specs.Bland.{NextPivot, one, IsInPhase, IsBestEnd, IsInfeasibleEnd, IsUnboundedEnd, HasEnded}
use Rattle.dictionaries.specs.Count.{choose}

-- the next pivot has been made, each of its numbers narrow
pub record IsNext (d e : Dictionary) : Type 0 where
  pub row : ℕ
  pub column : ℕ
  pub is_next : NextPivot d row column
  pub is_narrow : IsNarrowPivot d row column
  pub after : e ≡ pivoted d row column

-- later are the dictionaries that follow d, one pivot each
abbrev pub Follow : Dictionary → List Dictionary → Type 0
Follow d [] = Unit {0}
Follow d (e ∷ es) = IsNext d e × Follow e es

-- the last of d and the dictionaries after it
abbrev pub last_of : Dictionary → List Dictionary → Dictionary
last_of d [] = d
last_of d (e ∷ es) = last_of e es

-- so many pivots lead from the one dictionary to the other
pub record Leads (pivots : ℕ) (d e : Dictionary) : Type 0 where
  pub later : List Dictionary
  pub follow : Follow d later
  pub count : length later ≡ pivots
  pub end : last_of d later ≡ e

-- a dictionary of the run of a program
abbrev pub IsReached : Program → Dictionary → Type 0
IsReached p d = (k : ℕ) × Leads k (first_of_program p) d

-- a dictionary on the way: it represents the program, and it is the first one or no constant is negative
pub record IsOnTheWay (p : Program) (d : Dictionary) : Type 0 where
  pub dictionary : IsDictionaryOf p d
  pub feasible : (d ≡ first_of_program p) ⊎ IsFeasible d

-- ---- laws
-- each dictionary of a run is on the way
abbrev pub RunStaysOnTheWay : Type 0
RunStaysOnTheWay = (p : Program) (later : List Dictionary) → IsRegular p → Follow (first_of_program p) later → IsOnTheWay p (last_of (first_of_program p) later)

-- a dictionary on the way has one next pivot at most
abbrev pub NextIsDetermined : Type 0
NextIsDetermined = (p : Program) (d : Dictionary) (r c s e : ℕ) → IsOnTheWay p d → NextPivot d r c → NextPivot d s e → (r ≡ s) × (c ≡ e)

-- so a program has one run of each length at most
abbrev pub RunIsDetermined : Type 0
RunIsDetermined = (p : Program) (k : ℕ) (d e : Dictionary) → IsRegular p → Leads k (first_of_program p) d → Leads k (first_of_program p) e → d ≡ e

-- and where it has ended, there is no next pivot
abbrev pub EndIsFinal : Type 0
EndIsFinal = (p : Program) (d : Dictionary) (r c : ℕ) → IsOnTheWay p d → HasEnded d → NextPivot d r c → ⊥

-- where it hasn't ended, there is one
abbrev pub RunGoesOn : Type 0
RunGoesOn = (p : Program) (d : Dictionary) → IsRegular p → IsReached p d → HasEnded d ⊎ ((r : ℕ) × (c : ℕ) × NextPivot d r c)

-- so it comes to its end, or to a pivot that isn't narrow
abbrev pub RunEnds : Type 0
RunEnds = (p : Program) → IsRegular p
    → (k : ℕ) × (d : Dictionary) × Leads k (first_of_program p) d × (HasEnded d ⊎ ((r : ℕ) × (c : ℕ) × NextPivot d r c × ¬ (IsNarrowPivot d r c)))

-- no two dictionaries of a run have the same basic variables
abbrev pub NeverReturns : Type 0
NeverReturns = (p : Program) (d : Dictionary) (later : List Dictionary) → IsOnTheWay p d → Follow d later → AllPairs (λ d e. ¬ (SameBasis d e)) (d ∷ later)

-- so no dictionary stands twice in a run, let alone within one phase
abbrev pub NoneStandsTwice : Type 0
NoneStandsTwice = (p : Program) (d : Dictionary) (later : List Dictionary) → IsOnTheWay p d → Follow d later → AllPairs ◌≢◌ (d ∷ later)

-- a run has at most as many dictionaries as there are choices of the basic variables
abbrev pub RunsAreShort : Type 0
RunsAreShort = (p : Program) (d : Dictionary) (later : List Dictionary) → IsOnTheWay p d → Follow d later
    → length (d ∷ later) ≤ choose (length p.objective + length p.rows + 1) (length p.rows)

-- units that are enough for one program with at most n columns and m rows: one to open it, and one a pivot
abbrev pub enough_units : ℕ → ℕ → ℕ
enough_units n m = 2 + 2 * choose (n + m + 1) m

-- no run of such a program needs more
abbrev pub UnitsAreEnough : Type 0
UnitsAreEnough = (p : Program) (n m : ℕ) (later : List Dictionary) → IsRegular p → length p.objective ≤ n → length p.rows ≤ m → Follow (first_of_program p) later
    → 1 + length later ≤ enough_units n m

-- variable 0 leaves by Bland's rule itself, since its number is the least: a run never comes to where it would have to retire
abbrev pub NeverRetires : Type 0
NeverRetires = (p : Program) (later : List Dictionary) → IsRegular p → Follow (first_of_program p) later
    → let d = last_of (first_of_program p) later in IsInPhase one d → at d.auxiliary 0 ≡ zero_ℚ → ⊥

-- ---- what the end of a run proves
-- phase 2 has an optimum: the basic solution is a point, and the objective's multipliers bound the objective by its value there
pub record ProvesBest (p : Program) (d : Dictionary) : Type 0 where
  pub is_point : IsPoint p (point_of p (basic_solution d))
  pub value : objective_at p (point_of p (basic_solution d)) ≡ at d.objective 0
  pub bounds : Bounds p (multipliers p d.nonbasic d.objective) (at d.objective 0)

-- no row bounds the entering variable of the column c: the basic solution is a point, and the column's direction a way out
pub record ProvesUnbounded (p : Program) (d : Dictionary) (c : ℕ) : Type 0 where
  pub is_point : IsPoint p (point_of p (basic_solution d))
  pub is_way_out : IsWayOut p (point_of p (change_along d c))

-- where a run ends, it has its leaf proof
pub record EndsProve : Type 0 where
  pub best : (p : Program) (d : Dictionary) → IsRegular p → IsOnTheWay p d → IsBestEnd d → ProvesBest p d
  pub infeasible : (p : Program) (d : Dictionary) → IsRegular p → IsOnTheWay p d → IsInfeasibleEnd d → IsContradictory p (multipliers p d.nonbasic d.auxiliary)
  pub unbounded : (p : Program) (d : Dictionary) (c : ℕ) → IsRegular p → IsOnTheWay p d → IsUnboundedEnd d c → ProvesUnbounded p d c
