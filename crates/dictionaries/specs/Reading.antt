-- What is read off a dictionary: a variable's entry in a row, multipliers, solutions, the basic solution and the direction of a column.
use Rattle.std.specs.Prelude.{◌≡◌, ◌⊎◌, ◌<◌, ℕ, suc, List, [], ◌∷◌, length, map, slice_index, ◌==◌, if◌then◌else◌, drop}
use Rattle.std.specs.List.{range_with_len}
use Rattle.fractions.specs.Rational.{ℚ, ◌+ℚ◌, ◌≤ℚ◌, ◌<ℚ◌, neg_ℚ, zero_ℚ, one_ℚ}
use Rattle.fractions.specs.Vectors.{dot, at, only}
use Rattle.linear_programs.specs.Program.{Program, IsPoint, objective_at, AreOpposite}
use Rattle.dictionaries.specs.Dictionary.{Dictionary, row_of, value_of, Solves, first_of_program, IsDictionaryOf, SameBasis}

-- ---- the multipliers that a row gives: for each slack its negated entry, and 0 where it is basic
-- the number that a list gives a variable of another list, and 0 where it isn't there
abbrev pub column_entry : List ℕ → List ℚ → ℕ → ℚ
column_entry [] es v = zero_ℚ
column_entry (c ∷ cs) [] v = zero_ℚ
column_entry (c ∷ cs) (e ∷ es) v = if c == v then e else column_entry cs es v

-- a variable's entry in a row, and 0 where it is basic
abbrev pub entry_of : List ℕ → List ℚ → ℕ → ℚ
entry_of columns row v = column_entry columns (drop 1 row) v

-- the negated entries of the slacks, row by row
abbrev pub multipliers : Program → List ℕ → List ℚ → List ℚ
multipliers p columns row = map (λ v. neg_ℚ (entry_of columns row v)) (range_with_len (suc (length p.objective)) (length p.rows))

-- ---- assignments: the columns' variables get the listed numbers, 0 past their end, and each basic variable what its row says
-- the solution at these numbers of the non-basic variables
abbrev pub solution_at : Dictionary → List ℚ → ℕ → ℚ
solution_at d z v = column_entry d.nonbasic z v +ℚ column_entry d.basic (map (λ row. dot row (one_ℚ ∷ z)) d.rows) v

-- how each variable changes where the variable of column c grows by 1 and the other non-basic ones stay
abbrev pub change_along : Dictionary → ℕ → ℕ → ℚ
change_along d c v = column_entry d.nonbasic (only c one_ℚ) v +ℚ column_entry d.basic (map (λ row. at row (suc c)) d.rows) v

-- the program's columns of an assignment
abbrev pub point_of : Program → (ℕ → ℚ) → List ℚ
point_of p x = map x (range_with_len 1 (length p.objective))

-- where every non-basic variable is 0
abbrev pub basic_solution : Dictionary → ℕ → ℚ
basic_solution d = solution_at d []

-- ---- the first dictionary has the program's points
-- variable 0 is 0, and no variable is negative
abbrev pub IsWithoutExtra : (ℕ → ℚ) → Type 0
IsWithoutExtra x = (x 0 ≡ zero_ℚ) × ((v : ℕ) → zero_ℚ ≤ℚ x v)

-- its solutions with variable 0 at 0 and no variable below 0 are the program's points, with the same objective
pub record FirstKeepsPoints : Type 0 where
  pub is_point : (p : Program) (x : ℕ → ℚ) → Solves (first_of_program p) x → IsWithoutExtra x → IsPoint p (point_of p x)
  pub is_solution : (p : Program) (z : List ℚ) → IsPoint p z → (x : ℕ → ℚ) × Solves (first_of_program p) x × IsWithoutExtra x × (point_of p x ≡ z)
  pub objective : (p : Program) (x : ℕ → ℚ) → value_of (first_of_program p).objective (first_of_program p).nonbasic x ≡ objective_at p (point_of p x)

-- ---- the two columns of one cell
-- at most one of two opposite columns is basic
abbrev pub OneOfTwoIsBasic : Type 0
OneOfTwoIsBasic = (p : Program) (d : Dictionary) (j k a b : ℕ) → IsDictionaryOf p d → AreOpposite p j k → a < length d.basic → b < length d.basic
    → slice_index d.basic a ≡ suc j → slice_index d.basic b ≡ suc k → ⊥

-- and where one is basic, the other never improves the objective
abbrev pub OppositeNeverImproves : Type 0
OppositeNeverImproves = (p : Program) (d : Dictionary) (j k a c : ℕ) → IsDictionaryOf p d → AreOpposite p j k → a < length d.basic → c < length d.nonbasic
    → slice_index d.basic a ≡ suc j → slice_index d.nonbasic c ≡ suc k → at d.objective (suc c) ≡ zero_ℚ

-- so in the basic solution, and in the direction of an entering variable, one of two opposite columns is 0
pub record OneOfTwoIsZero : Type 0 where
  pub solution : (p : Program) (d : Dictionary) (j k : ℕ) → IsDictionaryOf p d → AreOpposite p j k → (basic_solution d (suc j) ≡ zero_ℚ) ⊎ (basic_solution d (suc k) ≡ zero_ℚ)
  pub direction : (p : Program) (d : Dictionary) (j k c : ℕ) → IsDictionaryOf p d → AreOpposite p j k → c < length d.nonbasic → zero_ℚ <ℚ at d.objective (suc c)
      → (change_along d c (suc j) ≡ zero_ℚ) ⊎ (change_along d c (suc k) ≡ zero_ℚ)

-- ---- a dictionary is told by its basic variables
-- the same constant, and the same entry of each variable
pub record SameRow (d e : Dictionary) (u v : List ℚ) : Type 0 where
  pub constant : at u 0 ≡ at v 0
  pub entries : (w : ℕ) → entry_of d.nonbasic u w ≡ entry_of e.nonbasic v w

-- the same dictionary but for the order of rows and columns
pub record SameDictionary (d e : Dictionary) : Type 0 where
  pub rows : (i k : ℕ) → i < length d.basic → k < length e.basic → slice_index d.basic i ≡ slice_index e.basic k → SameRow d e (row_of d i) (row_of e k)
  pub objective : SameRow d e d.objective e.objective
  pub auxiliary : SameRow d e d.auxiliary e.auxiliary

-- dictionaries of one program with the same basic variables are the same
abbrev pub BasisTellsDictionary : Type 0
BasisTellsDictionary = (p : Program) (d e : Dictionary) → IsDictionaryOf p d → IsDictionaryOf p e → SameBasis d e → SameDictionary d e
