-- What is printed of a model.
use Rattle.std.proofs.Common.{◌≡◌, ◌<◌, refl, sym, ap, subst, ◌∙◌, Option, Some, None, option_map, ℕ, List, [], ◌∷◌, length, map}
use Rattle.std.specs.List.{AllByRecursion}
use Rattle.std.proofs.lemmas.List.Elements.{recursion_from_All}
use Rattle.std.proofs.lemmas.List.FromFn.{length-map-range_with_len}
use Rattle.std.proofs.lemmas.List.{length-map}
use Rattle.optimality.specs.Problem.{Goal}
use Rattle.affine_forms.specs.Assigned.{ReachTo}
use Rattle.affine_forms.specs.Forms.{AffineForm}
use Rattle.cell_refs.specs.declared.cell.Cell.{Cell}
use Rattle.optimality.specs.Kinds.{goal_of}
use Rattle.optimality.specs.declared.kinds.Goal.{Goal as Aim}
use Rattle.linear_models.specs.Agreement.{Fits, IsGroupIn}
use Rattle.linear_models.specs.Bounds.{is_marked}
use Rattle.linear_models.specs.Conditions.{objective_where}
use Rattle.linear_models.specs.Model.{Model}
use Rattle.model_lines.specs.Groups.{AreGroups}
use Rattle.workbook.specs.State.{State}
use Rattle.solver_names.specs.Answers.{row_of}
use Rattle.form_needs.specs.FromSheetProblems.{condition_of, conditions_of}
use Rattle.form_needs.proofs.FromSheetProblems.{forms_fit}
use Rattle.sheet_linear_model.specs.Answers.{prepared_of}
use Rattle.sheet_linear_model.specs.Prepared.{IsPrepared, Prepared, rows_of}
use Rattle.sheet_linear_model.specs.declared.prepared.Prepared.{Prepared as Declared}

members_below : (n : ℕ) (groups : List (List ℕ)) → AllByRecursion (IsGroupIn n) groups → AreGroups n groups
members_below n [] h = tt
members_below n (g ∷ groups) h = (recursion_from_All (λ j. j < n) g h.0.below, members_below n groups h.1)

module _ (book : State) (sheet : ℕ) (p : Prepared) (h : IsPrepared book sheet p) where
  -- the model has a mark for each decision
  pub one_mark_each : length p.statement.decisions ≡ length p.model.whole
  one_mark_each =
      sym (ap (λ (m : Model). length m.whole) h.model ∙ length-map-range_with_len (is_marked (rows_of p.statement p.objective p.sides)) 0 (length p.statement.decisions))

  fits : Fits (conditions_of p.statement) p.objective p.sides
  fits = forms_fit book sheet p.statement p.objective p.sides h.forms.stated h.forms.forms

  -- the objective reaches the decisions alone
  pub objective_reaches : ReachTo p.objective.terms (length p.statement.decisions)
  objective_reaches = by p.statement.objective refl
    where
      by : (o : Option Cell) → p.statement.objective ≡ o → ReachTo p.objective.terms (length p.statement.decisions)
      by None e = subst (λ (f : AffineForm). ReachTo f.terms (length p.statement.decisions)) (sym (h.forms.none e)) tt
      by (Some c) e = fits.1.objective p.objective (ap (λ (o : Option Cell). objective_where (option_map (λ (c : Cell). p.statement.goal) o) p.objective) e)

  -- and so does each group
  pub groups_are_decisions : AreGroups (length p.statement.decisions) p.statement.different
  groups_are_decisions = members_below (length p.statement.decisions) p.statement.different (recursion_from_All (IsGroupIn (length p.statement.decisions)) p.statement.different fits.1.groups)

-- there are two sides for each row
pub sides_of_rows : (book : State) (sheet : ℕ) (of : Declared) → IsPrepared book sheet (prepared_of of) → length of.sides.items ≡ length of.statement.rows.items
sides_of_rows book sheet of h =
    (fits book sheet (prepared_of of) h).0 ∙ length-map (map row_of of.statement.rows.items) (condition_of of.statement.adj) ∙ length-map of.statement.rows.items row_of

-- what is wanted of the objective
pub aim_is : (g : Option Aim) (o : Option Cell) (wanted : Goal) (f : AffineForm) → option_map goal_of g ≡ option_map (λ c. wanted) o → option_map {U = Goal × AffineForm} (λ g. (goal_of g, f)) g ≡ option_map {U = Goal × AffineForm} (λ c. (wanted, f)) o
aim_is None None wanted f h = refl
aim_is None (Some c) wanted f h = cc
aim_is (Some g) None wanted f h = cc
aim_is (Some g) (Some c) wanted f h = let same : goal_of g ≡ wanted = cc in ap (λ (w : Goal). Some (w, f)) same
