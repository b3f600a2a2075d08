-- What the branches of IF come to, and arguments that are certainly an error.
use Rattle.std.proofs.Common.{◌≡◌, ◌≤◌, refl, ap, ◌∙◌, drop, true, false, true≢false, List, [], ◌∷◌, ◌++◌, length, map, Option, Some, None, sym, arith}
use Rattle.std.specs.Prelude.{slice_get, option_map, ◌==◌, slice_index_or}
use Rattle.std.proofs.lemmas.Bool.Decides.{nat_tests}
use Rattle.cell_refs.specs.declared.cell.Cell.{Cell}
use Rattle.cell_refs.specs.declared.span.Span.{Span}
use Rattle.formula_ast.specs.declared.func.Func.TheVariants as func
use Rattle.recalculation.specs.Evaluation.{if_place}
use Rattle.recalculation.specs.Looks.{all_looks, choosing_looks, chosen_looks, decided, then_cells}
use Rattle.affine_forms.specs.Forms.{AffineForm}
use Rattle.affine_forms.specs.declared.rel.Rel.{Rel}
use Rattle.sheet_model.specs.declared.value.Value.TheVariants.{Logical}
use Rattle.form_values.specs.declared.abs.Abs.{Abs}
use Rattle.form_values.specs.declared.abs.Abs.TheVariants.{Known}
use Rattle.form_values.specs.declared.abs.AbsArg.{AbsArg}
use Rattle.form_values.specs.declared.abs.AbsArg.TheVariants.{One}
use Rattle.form_table.specs.Choosing.{if_test}
use Rattle.form_table.specs.Wanted.{value_of}
use Rattle.form_extraction.specs.Calls.{both_branches, by_test, if_outcome, is_no_choice_in, is_unlooked_error, on_branch}
use Rattle.form_extraction.specs.Deciding.{by_form, truth_in}
use Rattle.form_extraction.specs.Parts.{Part, argument, on_outcome, outcome_by, value_in}
use Rattle.form_extraction.specs.declared.forms.Outcome.{Outcome}
use Rattle.form_extraction.specs.declared.forms.Outcome.TheVariants.{Gives}
use Rattle.form_calls.specs.Steps.{branch_outcome}
use Rattle.form_calls.proofs.Outcomes.{goes_on}

branch_goes_on : (b : Option Part) (f : AbsArg → Outcome) → on_branch b f ≡ on_outcome (branch_outcome b (Gives (One (Known (Logical false))))) f
branch_goes_on (Some p) f = refl
branch_goes_on None f = refl

-- both branches of an open test
pub branches_go_on : (whole : Span) (p : Part) (others : List Part) (t : AffineForm) (r : Rel) (one other : AbsArg)
    → branch_outcome (slice_get others 0) (Gives (One (Known (Logical false)))) ≡ Gives one → branch_outcome (slice_get others 1) (Gives (One (Known (Logical false)))) ≡ Gives other
    → both_branches whole p others t r ≡ outcome_by whole (p ∷ others) (if_test t r one other)
branches_go_on whole p others t r one other d e =
    let f : AbsArg → AbsArg → Outcome = λ a b. outcome_by whole (p ∷ others) (if_test t r a b) in
    branch_goes_on (slice_get others 0) (λ a. on_branch (slice_get others 1) (f a))
    ∙ ap (λ o. on_outcome o (λ a. on_branch (slice_get others 1) (f a))) d
    ∙ branch_goes_on (slice_get others 1) (f one) ∙ ap (λ o. on_outcome o (f one)) e

-- the first argument, and the others
pub first_part : (args : List Part) (p : Part) → 1 ≤ length args → p ≡ slice_index_or args 0 p → args ≡ p ∷ drop 1 args
first_part [] p h e = absurd (omega (arith, h))
first_part (q ∷ others) p h e = ap (λ r. r ∷ others) (sym e)

-- IF of an open test looks at its test and at all others, and comes to both branches
module _ (whole : Span) (args : List Part) (test : Part) (others : List Part) (is : args ≡ test ∷ others) (a : AbsArg) (value : value_in test.outcome ≡ Some a) (b : Abs) (same : b ≡ value_of a) where
  open_looks : (looks : List Cell) → looks ≡ test.looks → truth_in b ≡ None → looks ++ all_looks (map argument others) ≡ choosing_looks by_form func.If (map argument args)
  open_looks looks own open_truth =
      ap (λ cells. cells ++ all_looks (map argument others)) own
      ∙ sym (ap (λ ps. choosing_looks by_form func.If (map argument ps)) is
      ∙ ap (λ o. test.looks ++ then_cells o (λ v. chosen_looks func.If (map argument others) (decided by_form func.If v))) value
      ∙ ap (λ t. test.looks ++ chosen_looks func.If (map argument others) (option_map if_place t)) (ap truth_in (sym same) ∙ open_truth))

  open_outcome : by_test whole test others b ≡ if_outcome whole args
  open_outcome = sym (ap (if_outcome whole) is ∙ goes_on test.outcome (λ v. by_test whole test others (value_of v)) a value ∙ ap (by_test whole test others) (sym same))

  abbrev part_with : List Cell → Outcome → Part
  part_with looks outcome = record { span = whole; looks = looks; outcome = outcome; reference = None }

  pub open_tested : (looks : List Cell) → looks ≡ test.looks → truth_in b ≡ None
      → part_with (looks ++ all_looks (map argument others)) (by_test whole test others b) ≡ part_with (choosing_looks by_form func.If (map argument args)) (if_outcome whole args)
  open_tested looks own open_truth =
      ap (λ cells. part_with cells (by_test whole test others b)) (open_looks looks own open_truth)
      ∙ ap (λ outcome. part_with (choosing_looks by_form func.If (map argument args)) outcome) open_outcome

-- an argument that looks at nothing is such an error by its value, and another isn't
pub unlooked : (l : List Cell) (o : Outcome) → (length l == 0) ≡ true → is_no_choice_in (value_in o) ≡ is_unlooked_error l o
unlooked [] o e = refl
unlooked (c ∷ l) o e = let none : length (c ∷ l) ≡ 0 = grind (arith, nat_tests) in absurd (omega (arith, none))

pub looked : (l : List Cell) (o : Outcome) → (length l == 0) ≡ false → is_unlooked_error l o ≡ false
looked [] o e = absurd (true≢false e)
looked (c ∷ l) o e = refl
