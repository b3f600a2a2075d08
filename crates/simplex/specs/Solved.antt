-- What each answer says of the program.
use Rattle.std.specs.Prelude.{◌≡◌, ◌<◌, ℕ, List, slice_index}
use Rattle.fractions.specs.Rational.{ℚ}
use Rattle.linear_programs.specs.Program.{Program, IsPointOfCells, Bounds, IsContradictory, IsWayOutOfCells, objective_at, cell_numbers}
use Rattle.dictionaries.specs.Dictionary.{Dictionary}
use Rattle.dictionaries.specs.Reading.{basic_solution, change_along, point_of, multipliers}
use Rattle.dictionaries.specs.Narrow.{IsNarrowPivot}
use Rattle.dictionaries.specs.Bland.{NextPivot, IsBestEnd, IsInfeasibleEnd, IsUnboundedEnd}
use Rattle.simplex.specs.declared.answer.LpStop.{LpStop}
use Rattle.simplex.specs.declared.answer.LpStop.TheVariants.{WidePivot, Spent, Memory}
use Rattle.simplex.specs.declared.answer.LpAnswer.{LpAnswer}
use Rattle.simplex.specs.declared.answer.LpAnswer.TheVariants.{Best, Infeasible, Unbounded}

-- phase 2 has its optimum: the run's point, by its cells, its multipliers, the objective's value there, and that no point has a greater one
pub record IsBest (p : Program) (d : Dictionary) (v : List ℚ) (value : ℚ) (y : List ℚ) : Type 0 where
  pub end : IsBestEnd d
  pub the_point : v ≡ cell_numbers p (point_of p (basic_solution d))
  pub the_multipliers : y ≡ multipliers p d.nonbasic d.objective
  pub is_point : IsPointOfCells p v
  pub the_value : objective_at p (point_of p (basic_solution d)) ≡ value
  pub bounds : Bounds p y value

-- phase 1 has its optimum below 0: the multipliers of its objective, which no point meets
pub record IsInfeasibleAnswer (p : Program) (d : Dictionary) (y : List ℚ) : Type 0 where
  pub end : IsInfeasibleEnd d
  pub the_multipliers : y ≡ multipliers p d.nonbasic d.auxiliary
  pub contradictory : IsContradictory p y

-- no row bounds what enters: the run's point and its direction, by their cells
pub record IsUnboundedAnswer (p : Program) (d : Dictionary) (v way : List ℚ) : Type 0 where
  pub end : (c : ℕ) × IsUnboundedEnd d c × (way ≡ cell_numbers p (point_of p (change_along d c)))
  pub the_point : v ≡ cell_numbers p (point_of p (basic_solution d))
  pub is_point : IsPointOfCells p v
  pub is_way : IsWayOutOfCells p way

-- the answer is true of the program, with its leaf proof, and is the one of the dictionary, where the run has ended
abbrev pub IsAnswer : Program → Dictionary → LpAnswer → Type 0
IsAnswer p d (Best v value y) = IsBest p d v.items value y.items
IsAnswer p d (Infeasible y) = IsInfeasibleAnswer p d y.items
IsAnswer p d (Unbounded v way) = IsUnboundedAnswer p d v.items way.items

-- the next pivot, named by its two variables, is not narrow
pub record IsWidePivot (d : Dictionary) (given : List ℕ) (leaves enters : ℕ) : Type 0 where
  pub basis : given ≡ d.basic
  pub row : ℕ
  pub column : ℕ
  pub is_next : NextPivot d row column
  pub is_wide : ¬ (IsNarrowPivot d row column)
  pub leaving : leaves ≡ slice_index d.basic row
  pub entering : enters ≡ slice_index d.nonbasic column

-- a stop: the next pivot is not narrow, or there is one and no unit is left
abbrev pub IsStop : Dictionary → ℕ → LpStop → Type 0
IsStop d left (WidePivot basis leaving entering) = (0 < left) × IsWidePivot d basis.items leaving entering
IsStop d left Spent = (left ≡ 0) × ((r : ℕ) × (c : ℕ) × NextPivot d r c)
IsStop d left Memory = Unit {0}
