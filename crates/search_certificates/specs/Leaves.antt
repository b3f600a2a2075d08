-- The leaves of a search's tree, with their multipliers.
use Rattle.std.specs.Prelude.{◌≡◌, List, [], ◌∷◌, if◌then◌else◌}
use Rattle.fractions.specs.Rational.{ℚ, zero_ℚ, eq_ℚ}
use Rattle.linear_programs.specs.Program.{Program}
use Rattle.dictionaries.specs.Dictionary.{Dictionary}
use Rattle.dictionaries.specs.Reading.{multipliers}
use Rattle.dictionaries.specs.Bland.{IsBestEnd, IsInfeasibleEnd}
use Rattle.dictionaries.specs.Run.{IsReached}
use Rattle.linear_models.specs.Model.{Model}
use Rattle.searches.specs.Trees.{Node, in_leaf}
use Rattle.searches.specs.Trails.{State, node_program}
use Rattle.search_certificates.specs.Nodes.{IsOpened, IsWaiting}

-- ---- lists without the zeros at their end
abbrev pub put_before : ℚ → List ℚ → List ℚ
put_before y [] = if eq_ℚ y zero_ℚ then [] else y ∷ []
put_before y (z ∷ zs) = y ∷ z ∷ zs

abbrev pub without_last_zeros : List ℚ → List ℚ
without_last_zeros [] = []
without_last_zeros (y ∷ ys) = put_before y (without_last_zeros ys)

-- ---- what the last dictionary of a program's run gives
-- phase 2 has its optimum: the multipliers are those of the objective's row
pub record GivesBest (p : Program) (ys : List ℚ) : Type 0 where
  pub dictionary : Dictionary
  pub reached : IsReached p dictionary
  pub ended : IsBestEnd dictionary
  pub are : ys ≡ without_last_zeros (multipliers p dictionary.nonbasic dictionary.objective)

-- phase 1 has its optimum, below 0: they are those of its own objective's row
pub record GivesEmpty (p : Program) (ys : List ℚ) : Type 0 where
  pub dictionary : Dictionary
  pub reached : IsReached p dictionary
  pub ended : IsInfeasibleEnd dictionary
  pub are : ys ≡ without_last_zeros (multipliers p dictionary.nonbasic dictionary.auxiliary)

-- ---- leaves
-- the program of the node has no point
abbrev pub IsEmptyLeaf : Model → State → Node → List ℚ → Type 0
IsEmptyLeaf m s n ys = IsOpened s n in_leaf × GivesEmpty (node_program m s.way n) ys

-- its value was no better than that of the point found then, or its own point was found
abbrev pub IsBestLeaf : Model → State → Node → List ℚ → Type 0
IsBestLeaf m s n ys = IsOpened s n in_leaf × GivesBest (node_program m s.way n) ys

-- a node that still waits has no multipliers
abbrev pub IsWaitingLeaf : State → Node → List ℚ → Type 0
IsWaitingLeaf s n ys = IsWaiting s n × (ys ≡ [])
