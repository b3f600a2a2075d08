-- Statements of names without a fault.
use Rattle.std.proofs.Common.{◌≡◌, ℕ, Bool, true, false, ◌++◌, Option, Some, None, refl}
use Rattle.std.specs.Prelude.{Ok, if◌then◌else◌}
use Rattle.fractions.specs.Rational.{zero_ℚ}
use Rattle.optimality.specs.Problem.{Goal, greatest}
use Rattle.cell_refs.specs.declared.cell.Cell.{Cell}
use Rattle.solver_names.specs.declared.faults.Fault.{Fault}
use Rattle.solver_names.specs.declared.faults.Fault.TheVariants as fault
use Rattle.solver_names.specs.declared.name.Name.TheVariants as name
use Rattle.solver_names.specs.declared.said.Said.{Said}
use Rattle.solver_names.specs.declared.said.Said.TheVariants.{Absent, Unformed, Says}
use Rattle.solver_names.specs.Faults.{bad_options, cells_unformed, decisions_of, faults, first, no_decisions, of_constraints, too_many, where_so}
use Rattle.solver_names.specs.Read.{Read}
use Rattle.solver_names.specs.Statement.{Statement}
use Rattle.solver_names.specs.Stated.{goal_by, said_objective, stated, unless_fault}
use Rattle.solver_names.specs.Texts.{is_absent, is_unformed, or_else}
use Rattle.solver_names.proofs.Firsts.{none_first, none_later}

-- a statement is made of names without a fault
pub no_fault : (s t : Statement) (o : Option Fault) → unless_fault s o ≡ Ok t → (o ≡ None) × (s ≡ t)
no_fault s t None h = (refl, cc)
no_fault s t (Some f) h = absurd cc

-- ---- no objective, no goal
formed : (r : Read) → first (faults r) ≡ None → is_unformed r.objective ≡ false
formed r none =
    let others = of_constraints (decisions_of r) r.constraints ++ (bad_options r ++ too_many (decisions_of r) r.constraints) in
    of_none (is_unformed r.objective)
    (none_later (where_so (is_unformed r.decisions) (fault.Reference name.Decisions)) (where_so (is_unformed r.objective) (fault.Reference name.Objective))
    (none_first (cells_unformed r) others (none_later (no_decisions r) (cells_unformed r ++ others) none)))
  where
    of_none : (b : Bool) → first (where_so b (fault.Reference name.Objective)) ≡ None → b ≡ false
    of_none true e = absurd cc
    of_none false e = refl

greatest_without : (o : Said Cell) (g : Goal) → is_unformed o ≡ false → said_objective o ≡ None → (if is_absent o then greatest else g) ≡ greatest
greatest_without Absent g h e = refl
greatest_without Unformed g h e = absurd cc
greatest_without (Says c) g h e = absurd cc

-- the greatest is wanted where there is no objective
pub no_objective : (sheet : ℕ) (r : Read) → first (faults r) ≡ None → (stated sheet r).objective ≡ None → (stated sheet r).goal ≡ greatest
no_objective sheet r none e = greatest_without r.objective (goal_by (or_else r.goal 1) (or_else r.value zero_ℚ)) (formed r none) e
