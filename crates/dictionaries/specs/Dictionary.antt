-- Dictionaries: each basic variable by its constant and the non-basic variables (Chvátal, chapters 2 and 3).
-- Variable 0 is the extra one of phase 1, then come the program's columns, then the slacks of its rows.
use Rattle.std.specs.Prelude.{◌≡◌, ◌≢◌, ◌↔◌, ◌<◌, ◌≤◌, ◌+◌, ℕ, suc, List, [], ◌∷◌, length, map, set, replicate, slice_index, slice_index_or, All, ◌==◌, if◌then◌else◌}
use Rattle.std.specs.List.{range_with_len}
use Rattle.fractions.specs.Rational.{ℚ, neg_ℚ, inv_ℚ, ◌≤ℚ◌, zero_ℚ, one_ℚ}
use Rattle.fractions.specs.Vectors.{dot, at, plus, times, without, only}
use Rattle.fractions.specs.Rows.{Row}
use Rattle.linear_programs.specs.Program.{Program, IsRegular}

-- the basic variable of each row and the non-basic one of each column; a row, as the objective, is its constant and then its entries
pub record Dictionary : Type 0 where
  pub basic : List ℕ
  pub nonbasic : List ℕ
  pub rows : List (List ℚ)
  pub objective : List ℚ
  pub auxiliary : List ℚ

-- the row at i, and no numbers past the last
abbrev pub row_of : Dictionary → ℕ → List ℚ
row_of d i = slice_index_or d.rows i []

-- what a row is at an assignment of all variables
abbrev pub value_of : List ℚ → List ℕ → (ℕ → ℚ) → ℚ
value_of row columns x = dot row (one_ℚ ∷ map x columns)

-- each basic variable is what its row says
abbrev pub Solves : Dictionary → (ℕ → ℚ) → Type 0
Solves d x = (i : ℕ) → i < length d.basic → x (slice_index d.basic i) ≡ value_of (row_of d i) d.nonbasic x

-- a row per basic variable, and in each a constant and an entry per column
pub record IsShaped (d : Dictionary) : Type 0 where
  pub rows : length d.rows ≡ length d.basic
  pub widths : All (λ row. length row ≡ length d.nonbasic + 1) d.rows
  pub objective : length d.objective ≡ length d.nonbasic + 1
  pub auxiliary : length d.auxiliary ≡ length d.nonbasic + 1

-- ---- the first dictionary: the slacks are basic
-- the row of a slack: its bound, variable 0, and the columns with their signs turned
abbrev pub first_row : Row → List ℚ
first_row r = r.bound ∷ one_ℚ ∷ times (neg_ℚ one_ℚ) r.coefficients

-- the slacks by variable 0 and the columns, with the objective, and minus variable 0 as the objective of phase 1
abbrev pub first_of_program : Program → Dictionary
first_of_program p = record {
  basic = range_with_len (suc (length p.objective)) (length p.rows);
  nonbasic = range_with_len 0 (suc (length p.objective));
  rows = map first_row p.rows;
  objective = p.constant ∷ zero_ℚ ∷ p.objective;
  auxiliary = zero_ℚ ∷ neg_ℚ one_ℚ ∷ replicate (length p.objective) zero_ℚ;
}

-- ---- pivots, at the place k of a row: its constant stands at 0
-- the leaving row solved for the entering variable
abbrev pub solved_row : List ℚ → ℕ → List ℚ
solved_row row k = plus (times (neg_ℚ (inv_ℚ (at row k))) (without row k)) (only k (inv_ℚ (at row k)))

-- a row with that in the entering variable's place
abbrev pub substituted : List ℚ → ℕ → List ℚ → List ℚ
substituted row k by = plus (without row k) (times (at row k) by)

-- the dictionary after the basic variable of row r and the non-basic one of column c have changed places
abbrev pub pivoted : Dictionary → ℕ → ℕ → Dictionary
pivoted d r c =
    let by = solved_row (row_of d r) (suc c) in
    record {
      basic = set d.basic r (slice_index d.nonbasic c);
      nonbasic = set d.nonbasic c (slice_index d.basic r);
      rows = set (map (λ row. substituted row (suc c) by) d.rows) r by;
      objective = substituted d.objective (suc c) by;
      auxiliary = substituted d.auxiliary (suc c) by;
    }

-- a place of an entry other than 0
pub record IsPlace (d : Dictionary) (r c : ℕ) : Type 0 where
  pub row : r < length d.basic
  pub column : c < length d.nonbasic
  pub entry : at (row_of d r) (suc c) ≢ zero_ℚ

-- a pivot at such a place keeps the solutions
abbrev pub PivotKeepsSolutions : Type 0
PivotKeepsSolutions = (d : Dictionary) (r c : ℕ) (x : ℕ → ℚ) → IsShaped d → IsPlace d r c → Solves d x ↔ Solves (pivoted d r c) x

-- how often a number stands in a list
abbrev pub times_in : List ℕ → ℕ → ℕ
times_in [] v = 0
times_in (c ∷ cs) v = (if c == v then 1 else 0) + times_in cs v

-- how often a variable is basic or stands at a column
abbrev pub places_of : Dictionary → ℕ → ℕ
places_of d v = times_in d.basic v + times_in d.nonbasic v

-- ---- what a dictionary keeps of a program: a row for each of its rows, one place for each variable, the solutions, and both objectives at them
-- the dictionary represents the program
pub record IsDictionaryOf (p : Program) (d : Dictionary) : Type 0 where
  pub shaped : IsShaped d
  pub height : length d.basic ≡ length p.rows
  pub width : length d.nonbasic ≡ length p.objective + 1
  pub places : (v : ℕ) → places_of d v ≡ places_of (first_of_program p) v
  pub solutions : (x : ℕ → ℚ) → Solves (first_of_program p) x ↔ Solves d x
  pub objective : (x : ℕ → ℚ) → Solves d x → value_of d.objective d.nonbasic x ≡ value_of (first_of_program p).objective (first_of_program p).nonbasic x
  pub auxiliary : (x : ℕ → ℚ) → Solves d x → value_of d.auxiliary d.nonbasic x ≡ value_of (first_of_program p).auxiliary (first_of_program p).nonbasic x

-- no constant is negative
abbrev pub IsFeasible : Dictionary → Type 0
IsFeasible d = (i : ℕ) → i < length d.basic → zero_ℚ ≤ℚ at (row_of d i) 0

-- the variable stands at a column
abbrev pub IsNonBasic : Dictionary → ℕ → Type 0
IsNonBasic d v = (j : ℕ) × (j < length d.nonbasic) × (slice_index d.nonbasic j ≡ v)

-- the variable is basic
abbrev pub IsBasic : Dictionary → ℕ → Type 0
IsBasic d v = (i : ℕ) × (i < length d.basic) × (slice_index d.basic i ≡ v)

-- the same variables are basic
abbrev pub SameBasis : Dictionary → Dictionary → Type 0
SameBasis d e = (v : ℕ) → IsBasic d v ↔ IsBasic e v

-- each variable has at most one place
abbrev pub IsOnce : Dictionary → Type 0
IsOnce d = (v : ℕ) → places_of d v ≤ 1

-- ---- laws
-- the first dictionary is one of the program
abbrev pub FirstIsDictionary : Type 0
FirstIsDictionary = (p : Program) → IsRegular p → IsDictionaryOf p (first_of_program p)

-- and each pivot leads to another one
abbrev pub PivotKeepsDictionary : Type 0
PivotKeepsDictionary = (p : Program) (d : Dictionary) (r c : ℕ) → IsDictionaryOf p d → IsPlace d r c → IsDictionaryOf p (pivoted d r c)
