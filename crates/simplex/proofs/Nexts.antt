-- The next pivot from the entering column and the row that is chosen, and where it stands.
use Rattle.std.proofs.Common.{ℕ, subst, ◌≡◌, List}
use Rattle.fractions.specs.Rational.{ℚ}
use Rattle.dictionaries.specs.Dictionary.{Dictionary}
use Rattle.dictionaries.specs.Bland.{NextPivot, goes_on, Enters, IsPivotRow, Phase, goal_of, IsInPhase}
use Rattle.dictionaries.specs.Run.{IsOnTheWay}
use Rattle.dictionaries.proofs.Runs.{next_is_place}
use Rattle.linear_programs.specs.Program.{Program}
use Rattle.simplex.specs.Next.{IsNextOf, IsAtPlace}
use Rattle.simplex.specs.declared.choose.Next.{Next}
use Rattle.simplex.specs.declared.choose.Next.TheVariants.{Pivot, Best, Infeasible, Unbounded}

pub pivot_next : (h : Phase) (d : Dictionary) (row : List ℚ) (r c : ℕ) → IsInPhase h d → row ≡ goal_of h d → Enters d row c → IsPivotRow d c r → NextPivot d r c
pivot_next h d row r c i q e p = goes_on h i record { enters = subst (λ row. Enters d row c) q e; pivot_row = p }

pub at_place : (p : Program) (d : Dictionary) (n : Next) → IsOnTheWay p d → IsNextOf d n → IsAtPlace d n
at_place p d (Pivot r c) w n = next_is_place p d r c w n
at_place p d Best w n = tt
at_place p d Infeasible w n = tt
at_place p d (Unbounded c) w n = n.enters.improves.column
