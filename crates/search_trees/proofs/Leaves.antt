-- A run that has ended before is not unbounded, too wide or too long.
use Rattle.std.proofs.Common.{◌≡◌, ℕ, ◌+◌, List, arith}
use Rattle.fractions.specs.Rational.{ℚ}
use Rattle.linear_programs.specs.Program.{Program, IsRegular}
use Rattle.dictionaries.specs.Dictionary.{Dictionary, first_of_program}
use Rattle.dictionaries.specs.Run.{Leads}
use Rattle.simplex.specs.Solved.{IsUnboundedAnswer, IsWidePivot, IsStop}
use Rattle.simplex.specs.declared.answer.LpStop.TheVariants.{Spent}
use Rattle.search_trees.specs.Solved.{RunEnds}
use Rattle.search_trees.proofs.Runs.{still_to_come, not_unbounded}

pub never_unbounded : (p : Program) (d : Dictionary) (k n : ℕ) (v way : List ℚ) → IsRegular p → RunEnds p n → Leads k (first_of_program p) d → IsUnboundedAnswer p d v way → ⊥
never_unbounded p d k n v way g e l h = not_unbounded p k n h.end.0 d g l e h.end.1

pub never_wide : (p : Program) (d : Dictionary) (k n : ℕ) (given : List ℕ) (leaves enters : ℕ) → IsRegular p → RunEnds p n → Leads k (first_of_program p) d → IsWidePivot d given leaves enters → ⊥
never_wide p d k n given leaves enters g e l h = h.is_wide (still_to_come p k n d h.row h.column g l e h.is_next).1

pub never_spent : (p : Program) (d : Dictionary) (k n left : ℕ) → IsRegular p → RunEnds p n → Leads k (first_of_program p) d → k + left ≡ n → IsStop d left Spent → ⊥
never_spent p d k n left g e l c h =
    let few = (still_to_come p k n d h.1.0 h.1.1 g l e h.1.2).0 in
    let none = h.0 in
    omega (arith, few, none, c)
