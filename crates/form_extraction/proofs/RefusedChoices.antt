-- Refusals of IF, IFERROR and CHOOSE are right.
use Rattle.std.specs.Prelude.{slice_get, ℤ}
use Rattle.std.specs.List.{list_all}
use Rattle.std.proofs.Common.{◌≡◌, refl, sym, ap, ◌∙◌, subst, Bool, true, false, if◌then◌else◌, [], ◌∷◌, Option, Some, None, Result, Ok, Err, ℕ, zero, suc, ◌⊎◌, inl, inr}
use Rattle.fractions.specs.Rational.{ℚ}
use Rattle.calculations.specs.Calculation.{exact, done}
use Rattle.cell_refs.specs.declared.cell.Cell.{Cell}
use Rattle.cell_refs.specs.declared.span.Span.{Span}
use Rattle.cell_refs.specs.declared.error_kind.ErrorKind.{ErrorKind}
use Rattle.cell_refs.specs.declared.error_kind.ErrorKind.TheVariants as kind
use Rattle.formula_ast.specs.Tree.{Tree, Trees, none, more}
use Rattle.formula_ast.specs.Tree as tree
use Rattle.formula_ast.specs.declared.func.Func.TheVariants as func
use Rattle.sheet_model.specs.Conversions.{logical_in}
use Rattle.sheet_model.specs.Operators.{single}
use Rattle.sheet_model.specs.declared.value.Value.{Value}
use Rattle.sheet_model.specs.declared.value.Value.TheVariants.{Logical}
use Rattle.sheet_model.specs.declared.grid.Arg.TheVariants as arg
use Rattle.sheet_funcs.specs.Arguments.{elements_of, value_of, on_ok}
use Rattle.recalculation.specs.Evaluation as evaluation
use Rattle.recalculation.specs.Evaluation.{evaluated, all_evaluated, at_chosen, choosing, if_place, if_without, iferror_place, choose_place, choose_without}
use Rattle.affine_forms.specs.Forms.{Assignment, AffineForm}
use Rattle.affine_forms.specs.declared.rel.Rel.{Rel}
use Rattle.affine_forms.specs.declared.rel.Rel.TheVariants as rel
use Rattle.affine_forms.proofs.Exact.{exact-followed_by, exact-turned_into}
use Rattle.form_values.specs.Meaning.{arg_at}
use Rattle.form_values.proofs.Opening.{IsSound}
use Rattle.form_values.specs.Refusals.{Varies}
use Rattle.form_values.specs.Trials.{Refusal, Undecided}
use Rattle.form_values.specs.declared.abs.Abs.{Abs}
use Rattle.form_values.specs.declared.abs.Abs.TheVariants.{Known, Affine, Test}
use Rattle.form_values.specs.declared.abs.AbsArg.{AbsArg}
use Rattle.form_values.specs.declared.abs.AbsArg.TheVariants.{One}
use Rattle.form_table.specs.Wanted.{Wanted, form, open_test, none as no_number, known_number}
use Rattle.form_table.specs.Wanted as wanted
use Rattle.form_table.specs.Choosing.{if_test, choose_by, choose_of, choose_form}
use Rattle.form_truth.specs.Laws.{asked, chosen}
use Rattle.form_truth.specs.Picks.{IsPick}
use Rattle.form_truth.specs.Rows.{IsOutcomeOf, ArgumentVaries}
use Rattle.form_truth.proofs.Chosen.{chosen_is_right}
use Rattle.form_truth.proofs.Rows.{choice_is_right}
use Rattle.form_extraction.specs.declared.forms.Why.{Why}
use Rattle.form_extraction.specs.declared.forms.Why.TheVariants as why
use Rattle.form_extraction.specs.Parts.{span_at, outcome_by}
use Rattle.form_extraction.specs.declared.forms.Outcome.{Outcome}
use Rattle.form_extraction.specs.declared.forms.Outcome.TheVariants.{Gives, Refused}
use Rattle.form_extraction.specs.Deciding.{is_known_error, place_in}
use Rattle.form_extraction.specs.Calls.{chosen_or, on_branch, both_branches, by_test, if_outcome, by_error, iferror_outcome, fails, is_no_argument, by_place, choose_outcome}
use Rattle.form_extraction.specs.Formulas.{part_of, parts_of}
use Rattle.form_extraction.specs.Refuted.{first, IsRefuted}
use Rattle.form_extraction.proofs.Worth.{Agree}
use Rattle.form_extraction.proofs.Refusing.{Behind, gives_never, Own, too_wide, behind, breaks, undecided, tried_own, AmongRefuted, first_refuted, later_refuted, PartIsRefuted, ArePartsRefuted, IsOf, part_first, argument_varies}
use Rattle.form_extraction.proofs.RefusedRows.{some_same, whole_refuted, wide_so, break_so, in_arguments, only_among}

module _ (forms : Cell → Option Abs) (values : Assignment → Cell → Value) (agree : (x : Assignment) → Agree x forms (values x)) where
  abbrev Refuted : Trees → Span → Why → Type 0
  Refuted ts at cause = AmongRefuted values ts at cause

  -- ---- what is chosen
  part_chosen : (t : Tree) (ts : Trees) → PartIsRefuted forms values agree t → (w : AbsArg) (at : Span) (cause : Why) → chosen_or w (Some (part_of forms t)) ≡ Refused at cause → Refuted (more t ts) at cause
  part_chosen t ts h w at cause e = by (part_first forms values agree t h (λ a. Gives (wanted.single a)) at cause e)
    where
      by : IsRefuted values t at cause ⊎ Behind (IsOf forms values agree t) (λ a. Gives (wanted.single a)) at cause → Refuted (more t ts) at cause
      by (inl r) = first_refuted values t ts at cause r
      by (inr b) = absurd (gives_never _ at cause b.goes)

  place_chosen : (ts : Trees) → ArePartsRefuted forms values agree ts → (n : ℕ) (w : AbsArg) (at : Span) (cause : Why) → chosen_or w (slice_get (parts_of forms ts) n) ≡ Refused at cause → Refuted ts at cause
  place_chosen none h n w at cause e = absurd (gives_never w at cause e)
  place_chosen (more t ts) h zero w at cause e = part_chosen t ts h.0 w at cause e
  place_chosen (more t ts) h (suc n) w at cause e = later_refuted values t ts at cause (place_chosen ts h.1 n w at cause e)

  chosen_refuted : (ts : Trees) → ArePartsRefuted forms values agree ts → (o : Option ℕ) (w : AbsArg) (at : Span) (cause : Why) → chosen_or w (at_chosen (parts_of forms ts) o) ≡ Refused at cause → Refuted ts at cause
  chosen_refuted ts h (Some n) w at cause e = place_chosen ts h n w at cause e
  chosen_refuted ts h None w at cause e = absurd (gives_never w at cause e)

  -- ---- branches of IF
  -- what a branch is: a part's value, or FALSE where there is none
  abbrev IsBranch : Trees → ℕ → AbsArg → Type 0
  IsBranch none n v = v ≡ One (Known (Logical false))
  IsBranch (more t ts) zero v = IsOf forms values agree t v
  IsBranch (more t ts) (suc n) v = IsBranch ts n v

  branch_value : (x : Assignment) (ts : Trees) (n : ℕ) (v : AbsArg) → IsBranch ts n v → exact (evaluation.chosen_or (arg.One (Logical false)) (slice_get (all_evaluated (values x) ts) n)) ≡ single (arg_at x v)
  branch_value x none n v k = ap (λ v. single (arg_at x v)) (sym k)
  branch_value x (more t ts) zero v k = exact-turned_into single (evaluated (values x) t) ∙ ap single (k.1 x)
  branch_value x (more t ts) (suc n) v k = branch_value x ts n v k

  branch_first : (ts : Trees) → ArePartsRefuted forms values agree ts → (n : ℕ) (f : AbsArg → Outcome) (at : Span) (cause : Why) → on_branch (slice_get (parts_of forms ts) n) f ≡ Refused at cause
      → Refuted ts at cause ⊎ Behind (IsBranch ts n) f at cause
  branch_first none h n f at cause e = inr (record { value = One (Known (Logical false)); is = refl; goes = e })
  branch_first (more t ts) h zero f at cause e = by (part_first forms values agree t h.0 f at cause e)
    where
      by : IsRefuted values t at cause ⊎ Behind (IsOf forms values agree t) f at cause → Refuted (more t ts) at cause ⊎ Behind (IsBranch (more t ts) zero) f at cause
      by (inl r) = inl (first_refuted values t ts at cause r)
      by (inr b) = inr (record { value = b.value; is = b.is; goes = b.goes })
  branch_first (more t ts) h (suc n) f at cause e = by (branch_first ts h.1 n f at cause e)
    where
      by : Refuted ts at cause ⊎ Behind (IsBranch ts n) f at cause → Refuted (more t ts) at cause ⊎ Behind (IsBranch (more t ts) (suc n)) f at cause
      by (inl r) = inl (later_refuted values t ts at cause r)
      by (inr b) = inr (record { value = b.value; is = b.is; goes = b.goes })

  branch_varies : (s : Span) (ts : Trees) (n : ℕ) (v : AbsArg) → IsBranch ts n v → Varies (λ x. arg_at x v) → (at : Span) → span_at s (parts_of forms ts) n ≡ at → (cause : Why) → cause ≡ why.Undecided → Refuted ts at cause
  branch_varies s none n v k y at e cause c = absurd (y.differ (ap (arg_at y.one) k ∙ sym (ap (arg_at y.other) k)))
  branch_varies s (more t ts) zero v k y at e cause c =
      let r = argument_varies forms values agree s (more t none) (v ∷ []) (k, tt) 0 (record { argument = v; is_there = refl; varies = y }) at e cause c in
      record { part = r.part; is_among = first t ts (only_among r.part t r.is_among); is_there = r.is_there; is_so = r.is_so }
  branch_varies s (more t ts) (suc n) v k y at e cause c = later_refuted values t ts at cause (branch_varies s ts n v k y at e cause c)

  -- ---- IF
  module _ (s : Span) (t : Tree) (ts : Trees) where
    abbrev all : Trees
    all = more t ts

    abbrev whole : Tree
    whole = tree.Call s func.If all

    if_value : (a one other : AbsArg) → IsOf forms values agree t a → IsBranch ts 0 one → IsBranch ts 1 other → (x : Assignment)
        → exact (chosen (arg_at x a) (arg_at x one) (arg_at x other)) ≡ exact (evaluated (values x) whole)
    if_value a one other k l m x =
        sym (exact-followed_by (evaluated (values x) t) _
        ∙ ap (λ v. exact (evaluation.chosen_or (arg.One (if_without (logical_in (value_of v)))) (at_chosen (all_evaluated (values x) ts) (if_place (logical_in (value_of v)))))) (k.1 x)
        ∙ by_test (logical_in (value_of (arg_at x a))))
      where
        by_test : (r : Result Bool ErrorKind) → exact (evaluation.chosen_or (arg.One (if_without r)) (at_chosen (all_evaluated (values x) ts) (if_place r)))
            ≡ exact (on_ok r (λ b. done (single (if b then arg_at x one else arg_at x other))))
        by_test (Ok true) = branch_value x ts 0 one l
        by_test (Ok false) = branch_value x ts 1 other m
        by_test (Err e) = refl

    if_own : (a one other : AbsArg) → IsOf forms values agree t a → IsBranch ts 0 one → IsBranch ts 1 other → (f : AffineForm) (r : Rel) → asked (wanted.value_of a) ≡ Some (f, r) → (at : Span) (cause : Why)
        → Own s (part_of forms t ∷ parts_of forms ts) (if_test f r one other) Gives at cause → IsRefuted values whole at cause
    if_own a one other k l m f r q at cause (too_wide e c) = whole_refuted values whole at cause e (wide_so values whole cause c)
    if_own a one other k l m f r q at cause (behind v) = absurd (gives_never v.value at cause v.goes)
    if_own a one other k l m f r q at cause (breaks d e c) =
        whole_refuted values whole at cause e
        (break_so values whole cause c
        (some_same _ _ (λ x. ap elements_of (if_value a one other k l m x))
        (subst (IsOutcomeOf (λ x. exact (chosen (arg_at x a) (arg_at x one) (arg_at x other))) (a ∷ one ∷ other ∷ [])) d (choice_is_right a one other f r q))))
    if_own a one other k l m f r q at cause (undecided i d e c) =
        in_arguments values s func.If all at cause
        (by i (subst (IsOutcomeOf (λ x. exact (chosen (arg_at x a) (arg_at x one) (arg_at x other))) (a ∷ one ∷ other ∷ [])) d (choice_is_right a one other f r q)) e)
      where
        it_varies : (b : AbsArg) (i : ℕ) → (v : ArgumentVaries arg_at (a ∷ one ∷ other ∷ []) i) → v.argument ≡ b → Varies (λ x. arg_at x b)
        it_varies b i v e = subst (λ b. Varies (λ x. arg_at x b)) e v.varies

        by : (i : ℕ) → ArgumentVaries arg_at (a ∷ one ∷ other ∷ []) i → span_at s (part_of forms t ∷ parts_of forms ts) i ≡ at → Refuted all at cause
        by zero v e =
            let r = argument_varies forms values agree s (more t none) (a ∷ []) (k, tt) 0 (record { argument = a; is_there = refl; varies = it_varies a 0 v (let n = v.is_there in cc) }) at e cause c in
            record { part = r.part; is_among = first t ts (only_among r.part t r.is_among); is_there = r.is_there; is_so = r.is_so }
        by (suc zero) v e = later_refuted values t ts at cause (branch_varies s ts 0 one l (it_varies one 1 v (let n = v.is_there in cc)) at e cause c)
        by (suc (suc zero)) v e = later_refuted values t ts at cause (branch_varies s ts 1 other m (it_varies other 2 v (let n = v.is_there in cc)) at e cause c)
        by (suc (suc (suc i))) v e = let n : ◌≡◌ {A = Option AbsArg} None (Some v.argument) = v.is_there in cc

    other_first : (a one : AbsArg) → IsOf forms values agree t a → IsBranch ts 0 one → (f : AffineForm) (r : Rel) → asked (wanted.value_of a) ≡ Some (f, r) → (at : Span) (cause : Why)
        → Refuted ts at cause ⊎ Behind (IsBranch ts 1) (λ other. outcome_by s (part_of forms t ∷ parts_of forms ts) (if_test f r one other)) at cause → IsRefuted values whole at cause
    other_first a one k l f r q at cause (inl u) = in_arguments values s func.If all at cause (later_refuted values t ts at cause u)
    other_first a one k l f r q at cause (inr b) =
        if_own a one b.value k l b.is f r q at cause (tried_own s (part_of forms t ∷ parts_of forms ts) (if_test f r one b.value) Gives at cause b.goes)

    abbrev with_other : AffineForm → Rel → AbsArg → Outcome
    with_other f r one = on_branch (slice_get (parts_of forms ts) 1) (λ other. outcome_by s (part_of forms t ∷ parts_of forms ts) (if_test f r one other))

    open_refuted : ArePartsRefuted forms values agree ts → (a : AbsArg) → IsOf forms values agree t a → (f : AffineForm) (r : Rel) → asked (wanted.value_of a) ≡ Some (f, r) → (at : Span) (cause : Why)
        → both_branches s (part_of forms t) (parts_of forms ts) f r ≡ Refused at cause → IsRefuted values whole at cause
    open_refuted h a k f r q at cause e = by (branch_first ts h 0 (with_other f r) at cause e)
      where
        by : Refuted ts at cause ⊎ Behind (IsBranch ts 0) (with_other f r) at cause → IsRefuted values whole at cause
        by (inl u) = in_arguments values s func.If all at cause (later_refuted values t ts at cause u)
        by (inr b) = other_first a b.value k b.is f r q at cause (branch_first ts h 1 (λ other. outcome_by s (part_of forms t ∷ parts_of forms ts) (if_test f r b.value other)) at cause b.goes)

    test_refuted : ArePartsRefuted forms values agree ts → (a : AbsArg) → IsOf forms values agree t a → (b : Abs) → wanted.value_of a ≡ b → (at : Span) (cause : Why)
        → by_test s (part_of forms t) (parts_of forms ts) b ≡ Refused at cause → IsRefuted values whole at cause
    test_refuted h a k (Known v) q at cause e =
        in_arguments values s func.If all at cause (later_refuted values t ts at cause (chosen_refuted ts h (if_place (logical_in v)) (One (Known (if_without (logical_in v)))) at cause e))
    test_refuted h a k (Affine o) q at cause e = open_refuted h a k o.form rel.Ne (ap asked q) at cause e
    test_refuted h a k (Test o r) q at cause e = open_refuted h a k o.form r (ap asked q) at cause e

  pub if_refuted : (s : Span) (ts : Trees) → ArePartsRefuted forms values agree ts → (at : Span) (cause : Why) → if_outcome s (parts_of forms ts) ≡ Refused at cause → IsRefuted values (tree.Call s func.If ts) at cause
  if_refuted s none h at cause e = absurd (gives_never _ at cause e)
  if_refuted s (more t ts) h at cause e = by (part_first forms values agree t h.0 (λ a. by_test s (part_of forms t) (parts_of forms ts) (wanted.value_of a)) at cause e)
    where
      by : IsRefuted values t at cause ⊎ Behind (IsOf forms values agree t) (λ a. by_test s (part_of forms t) (parts_of forms ts) (wanted.value_of a)) at cause → IsRefuted values (tree.Call s func.If (more t ts)) at cause
      by (inl r) = in_arguments values s func.If (more t ts) at cause (first_refuted values t ts at cause r)
      by (inr b) = test_refuted s t ts h.1 b.value b.is (wanted.value_of b.value) refl at cause b.goes

  -- ---- IFERROR
  pub iferror_refuted : (s : Span) (ts : Trees) → ArePartsRefuted forms values agree ts → (at : Span) (cause : Why) → iferror_outcome (parts_of forms ts) ≡ Refused at cause
      → IsRefuted values (tree.Call s func.IfError ts) at cause
  iferror_refuted s none h at cause e = absurd (gives_never _ at cause e)
  iferror_refuted s (more t ts) h at cause e = by (part_first forms values agree t h.0 (λ a. by_error (parts_of forms ts) (wanted.single a)) at cause e)
    where
      by : IsRefuted values t at cause ⊎ Behind (IsOf forms values agree t) (λ a. by_error (parts_of forms ts) (wanted.single a)) at cause → IsRefuted values (tree.Call s func.IfError (more t ts)) at cause
      by (inl r) = in_arguments values s func.IfError (more t ts) at cause (first_refuted values t ts at cause r)
      by (inr b) =
          in_arguments values s func.IfError (more t ts) at cause
          (later_refuted values t ts at cause (chosen_refuted ts h.1 (iferror_place (is_known_error (wanted.single b.value))) (wanted.single b.value) at cause b.goes))

  -- ---- CHOOSE
  -- a place that isn't known varies
  place_varies : (a : AbsArg) → IsSound a → (w : Wanted) → wanted.number_of a ≡ w → (c : Option ℚ) → known_number w ≡ c → place_in w c ≡ None → ArgumentVaries arg_at (a ∷ []) 0
  place_varies a k w q c d n = by (exact (choose_form {A = AbsArg} a [])) refl (chosen_is_right a [])
    where
      open_place : (w : Wanted) → (c : Option ℚ) → known_number w ≡ c → place_in w c ≡ None → exact (choose_of {A = AbsArg} [] w) ≡ Err (Undecided 0)
      open_place (no_number k) c d n = cc
      open_place (form f) (Some y) d n = cc
      open_place (form f) None d n = ap (λ c. exact (choose_by {A = AbsArg} [] c)) d
      open_place open_test (Some y) d n = cc
      open_place open_test None d n = refl

      is_open : exact (choose_form {A = AbsArg} a []) ≡ Err (Undecided 0)
      is_open = ap (λ w. exact (choose_of {A = AbsArg} [] w)) q ∙ open_place w c d n

      by : (r : Result (Result AbsArg ErrorKind) Refusal) → exact (choose_form {A = AbsArg} a []) ≡ r → IsPick (λ x. Rattle.form_truth.specs.Picks.chosen_by [] (Rattle.sheet_funcs.specs.Rounding.number_of (arg_at x a))) (a ∷ []) r
          → ArgumentVaries arg_at (a ∷ []) 0
      by r e h = subst (IsPick (λ x. Rattle.form_truth.specs.Picks.chosen_by [] (Rattle.sheet_funcs.specs.Rounding.number_of (arg_at x a))) (a ∷ [])) (sym e ∙ is_open) h

  only_open : (place at : Span) (cause : Why) (b : Bool) → (if b then fails kind.Value else Refused place why.Undecided) ≡ Refused at cause → Refused place why.Undecided ≡ Refused at cause
  only_open place at cause true e = absurd (gives_never _ at cause e)
  only_open place at cause false e = e

  choose_at : (s : Span) (t : Tree) (ts : Trees) → ArePartsRefuted forms values agree ts → (a : AbsArg) → IsOf forms values agree t a → (o : Option (Result ℤ ErrorKind))
      → place_in (wanted.number_of a) (known_number (wanted.number_of a)) ≡ o → (at : Span) (cause : Why) → by_place (part_of forms t) (parts_of forms ts) o ≡ Refused at cause → Refuted (more t ts) at cause
  choose_at s t ts h a k (Some n) q at cause e = later_refuted values t ts at cause (chosen_refuted ts h (choose_place n) (One (Known (choose_without n))) at cause e)
  choose_at s t ts h a k None q at cause e =
      let only : Refused (part_of forms t).span why.Undecided ≡ Refused at cause = only_open (part_of forms t).span at cause (list_all is_no_argument (parts_of forms ts)) e in
      let here : (part_of forms t).span ≡ at = cc in
      let so : why.Undecided ≡ cause = cc in
      let r = argument_varies forms values agree s (more t none) (a ∷ []) (k, tt) 0 (place_varies a k.0 (wanted.number_of a) refl (known_number (wanted.number_of a)) refl q) at here cause (sym so) in
      record { part = r.part; is_among = first t ts (only_among r.part t r.is_among); is_there = r.is_there; is_so = r.is_so }

  pub choose_refuted : (s : Span) (ts : Trees) → ArePartsRefuted forms values agree ts → (at : Span) (cause : Why) → choose_outcome (parts_of forms ts) ≡ Refused at cause
      → IsRefuted values (tree.Call s func.Choose ts) at cause
  choose_refuted s none h at cause e = absurd (gives_never _ at cause e)
  choose_refuted s (more t ts) h at cause e =
      by (part_first forms values agree t h.0 (λ a. by_place (part_of forms t) (parts_of forms ts) (place_in (wanted.number_of a) (known_number (wanted.number_of a)))) at cause e)
    where
      by : IsRefuted values t at cause ⊎ Behind (IsOf forms values agree t) (λ a. by_place (part_of forms t) (parts_of forms ts) (place_in (wanted.number_of a) (known_number (wanted.number_of a)))) at cause
          → IsRefuted values (tree.Call s func.Choose (more t ts)) at cause
      by (inl r) = in_arguments values s func.Choose (more t ts) at cause (first_refuted values t ts at cause r)
      by (inr b) = in_arguments values s func.Choose (more t ts) at cause (choose_at s t ts h.1 b.value b.is _ refl at cause b.goes)
