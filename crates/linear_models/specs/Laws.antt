-- What is true of every model.
use Rattle.std.specs.Prelude.{◌≡◌, ◌↔◌, Bool, List, length, All}
use Rattle.fractions.specs.Rational.{ℚ}
use Rattle.optimality.specs.Problem.{Assignment}
use Rattle.optimality.specs.Optimal.{Permitted}
use Rattle.linear_programs.specs.Program.{Program, IsPointOfCells, objective_at, cell_numbers}
use Rattle.linear_programs.specs.StandardFields.{IsSmall}
use Rattle.linear_models.specs.Worths.{form_at}
use Rattle.linear_models.specs.Box.{Box, InBox}
use Rattle.linear_models.specs.Model.{Model, IsPoint, RowHolds, IsValid, problem_of}
use Rattle.linear_models.specs.Standard.{standard, wanted}

-- the problem of a model permits its points and no other assignment
abbrev pub PointsArePermitted : Type 0
PointsArePermitted = (m : Model) (a : Assignment) → Permitted (problem_of m) a ↔ IsPoint m a

-- ---- boxes of a model
-- a bound on either side for each decision
pub record IsBoxOf (m : Model) (box : Box) : Type 0 where
  pub least : length box.least ≡ length m.whole
  pub greatest : length box.greatest ≡ length m.whole

-- an assignment in the box that meets the rows
pub record IsBoxPoint (m : Model) (box : Box) (a : Assignment) : Type 0 where
  pub one_each : length a ≡ length m.whole
  pub rows : All (RowHolds a) m.rows
  pub bounds : InBox box a

-- the columns of the program give exactly the points of the box, with the same objective
pub record GivesPoints (m : Model) (box : Box) (plain : Bool) (p : Program) : Type 0 where
  pub points : (a : Assignment) → IsPointOfCells p a ↔ IsBoxPoint m box a
  pub objective : (y : List ℚ) → objective_at p y ≡ form_at (wanted m plain) (cell_numbers p y)

-- so does the standard program of each box of a valid model, and it is one that the simplex method takes
pub record StandardKeepsPoints : Type 0 where
  pub points : (m : Model) (box : Box) (plain : Bool) → IsValid m → IsBoxOf m box → GivesPoints m box plain (standard m box plain)
  pub regular : (m : Model) (box : Box) (plain : Bool) → IsValid m → IsBoxOf m box → IsSmall (standard m box plain)
