-- Values put in for the parameters of a statement's forms.
use Rattle.std.specs.Prelude.{◌≡◌, ◌+◌, ◌<◌, ◌≤◌, ℕ, List, [], length, map, All, Option, Some, None}
use Rattle.std.specs.Option.{option_map}
use Rattle.optimality.specs.Problem.{Problem, Row, Worth, greatest}
use Rattle.calculations.specs.Calculation.{Calculation, exact, narrow, followed_by, turned_into}
use Rattle.affine_forms.specs.Assigned.{ReachTo, assigned}
use Rattle.affine_forms.specs.Forms.{Assignment, AffineForm, worth}
use Rattle.linear_models.specs.Agreement.{IsGroupIn, IsOwn, SidesReach}
use Rattle.linear_models.specs.Conditions.{Conditions, statement_of}
use Rattle.linear_models.specs.Linear.{first_wide, number_or}
use Rattle.linear_models.specs.Statement.{Constraint, Statement, not_negative_in}
use Rattle.parameter_laws.specs.Putting.{joined, put_in}

-- ---- forms with values
-- of both sides of a row, the left one first
abbrev pub sides_put_in : ℕ → Assignment → AffineForm × AffineForm → Calculation (AffineForm × AffineForm)
sides_put_in n y s = followed_by (put_in n y s.0) (λ left. turned_into (λ right. (left, right)) (put_in n y s.1))

abbrev pub form_at : ℕ → Assignment → AffineForm → AffineForm
form_at n y f = exact (put_in n y f)

abbrev pub sides_at : ℕ → Assignment → List (AffineForm × AffineForm) → List (AffineForm × AffineForm)
sides_at n y sides = map (λ s. exact (sides_put_in n y s)) sides

-- what is stated over the decisions alone
abbrev pub statement_at : Conditions → Assignment → AffineForm → List (AffineForm × AffineForm) → Statement
statement_at c y f sides = statement_of c (form_at c.decisions y f) (sides_at c.decisions y sides)

-- where the values meet a number that isn't narrow: 0 in the objective, and else the number of the first row, from 1 on
abbrev pub wide_set : Conditions → Assignment → AffineForm → List (AffineForm × AffineForm) → Option ℕ
wide_set c y f sides = number_or 0 (narrow (put_in c.decisions y f)) (first_wide 1 (map (sides_put_in c.decisions y) sides))

-- ---- what is stated over decisions and parameters
-- a statement, of whose decisions there are `count` more in its forms than it counts
pub record IsStatedOver (count : ℕ) (s : Statement) : Type 0 where
  pub few : s.decisions ≤ 512
  pub few_rows : length s.rows ≤ 256
  pub own : All (IsOwn s.decisions) s.rows
  pub sides : All (SidesReach (s.decisions + count)) s.rows
  pub objective : (f : AffineForm) → s.objective ≡ Some f → ReachTo f.terms (s.decisions + count)
  pub whole : All (λ j. j < s.decisions) s.whole
  pub binary : All (λ j. j < s.decisions) s.binary
  pub groups : All (IsGroupIn s.decisions) s.groups
  pub goal : s.objective ≡ None → s.goal ≡ greatest

-- there are two sides for each row, and with them it is such a statement
abbrev pub FitsOver : ℕ → Conditions → AffineForm → List (AffineForm × AffineForm) → Type 0
FitsOver count c f sides = (length sides ≡ length c.rows) × IsStatedOver count (statement_of c f sides)

-- ---- the problem that is stated where the parameters have values: each form counts with these
abbrev pub worth_with : ℕ → Assignment → AffineForm → Worth
worth_with n y f a = Some (worth (joined n (assigned a) y) f)

abbrev pub row_with : ℕ → Assignment → Constraint → Row
row_with n y r = record { left = worth_with n y r.left; relation = r.relation; right = worth_with n y r.right }

abbrev pub stated_with : Assignment → Statement → Problem
stated_with y s = record {
  decisions = s.decisions;
  rows = map (row_with s.decisions y) s.rows;
  whole = s.whole;
  binary = s.binary;
  not_negative = not_negative_in s;
  numbered = s.groups;
  different = [];
  objective = option_map (worth_with s.decisions y) s.objective;
  goal = s.goal;
}
