-- Leaves whose program is solved anew. No public clause cites this module.
use Rattle.std.specs.Prelude.{◌≡◌, ◌⊎◌, ◌++◌, ℕ, List, [], ◌∷◌}
use Rattle.fractions.specs.Rational.{ℚ, zero_ℚ}
use Rattle.linear_programs.specs.Program.{Program}
use Rattle.dictionaries.specs.Dictionary.{Dictionary, first_of_program}
use Rattle.dictionaries.specs.Bland.{IsBestEnd, IsInfeasibleEnd}
use Rattle.dictionaries.specs.Run.{Leads}
use Rattle.opt_certificate.specs.Nodes.{Node, split_at, best_leaf, empty_leaf, clash_leaf}
use Rattle.search_certificates.specs.Leaves.{GivesBest, GivesEmpty}

abbrev pub EndsInZero : List ℚ → Type 0
EndsInZero ys = (zs : List ℚ) × (ys ≡ zs ++ zero_ℚ ∷ [])

-- after so many pivots the program's run has ended at a best point or without a point
abbrev pub RunEnds : Program → ℕ → Type 0
RunEnds p k = (d : Dictionary) × Leads k (first_of_program p) d × (IsBestEnd d ⊎ IsInfeasibleEnd d)

-- the leaf has the multipliers of the program
abbrev pub IsLeafOf : Program → Node → Type 0
IsLeafOf p (best_leaf ys) = GivesBest p ys
IsLeafOf p (empty_leaf ys) = GivesEmpty p ys
IsLeafOf p (clash_leaf i j) = ⊥
IsLeafOf p (split_at j f lower upper) = ⊥
