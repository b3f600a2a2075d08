-- The faults where the cells to be decided are of their form.
use Rattle.std.proofs.Common.{◌≡◌, false, List, [], ◌++◌, Some, None, sym, ap, ◌∙◌}
use Rattle.cell_refs.specs.declared.cell.Cell.{Cell}
use Rattle.solver_names.specs.declared.faults.Fault.{Fault}
use Rattle.solver_names.specs.declared.faults.Fault.TheVariants as fault
use Rattle.solver_names.specs.declared.name.Name.TheVariants as name
use Rattle.solver_names.specs.declared.said.Said.TheVariants.{Says}
use Rattle.solver_names.specs.Faults.{bad_options, faults, first, of_constraints, too_many, where_so}
use Rattle.solver_names.specs.Read.{Read}
use Rattle.solver_names.specs.Texts.{is_absent, is_unformed, or_else}
use Rattle.solver_names.proofs.Firsts.{first_here, first_later}

module _ (r : Read) (decisions : List Cell) (said : r.decisions ≡ Says decisions) where
  -- what is left of the faults
  abbrev behind : List Fault
  behind = of_constraints decisions r.constraints ++ (bad_options r ++ too_many decisions r.constraints)

  faults_are : faults r ≡ where_so (is_unformed r.objective) (fault.Reference name.Objective) ++ behind
  faults_are =
      ap (λ d. where_so (is_absent d) fault.NoNames ++ ((where_so (is_unformed d) (fault.Reference name.Decisions) ++ where_so (is_unformed r.objective) (fault.Reference name.Objective))
      ++ (of_constraints (or_else d []) r.constraints ++ (bad_options r ++ too_many (or_else d []) r.constraints)))) said

  module _ (formed : is_unformed r.objective ≡ false) where
    past : first (faults r) ≡ first behind
    past = ap first faults_are ∙ ap (λ b. first (where_so b (fault.Reference name.Objective) ++ behind)) formed

    module _ (fitting : None ≡ first (of_constraints decisions r.constraints)) where
      further : first (faults r) ≡ first (bad_options r ++ too_many decisions r.constraints)
      further = past ∙ first_later (of_constraints decisions r.constraints) (bad_options r ++ too_many decisions r.constraints) (sym fitting)

      pub option_first : (f : Fault) → Some f ≡ first (bad_options r) → Some f ≡ first (faults r)
      option_first f e = sym (further ∙ first_here (bad_options r) (too_many decisions r.constraints) f (sym e))
