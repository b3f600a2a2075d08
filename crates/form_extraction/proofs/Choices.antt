-- IF, IFERROR and CHOOSE under an assignment.
use Rattle.std.specs.Prelude.{slice_get, ℤ}
use Rattle.std.specs.List.{list_all}
use Rattle.std.proofs.Common.{◌≡◌, refl, sym, ap, ◌∙◌, subst, Bool, true, false, true≢false, if◌then◌else◌, List, [], ◌∷◌, Option, Some, None, Result, Ok, Err, ℕ, zero, suc}
use Rattle.std.proofs.lemmas.Bool.{and_parts}
use Rattle.std.specs.Result.{result_map_both}
use Rattle.fractions.specs.Rational.{ℚ}
use Rattle.fractions.specs.Floor.{floor_ℚ}
use Rattle.calculations.specs.Calculation.{exact}
use Rattle.cell_refs.specs.declared.cell.Cell.{Cell}
use Rattle.cell_refs.specs.declared.span.Span.{Span}
use Rattle.cell_refs.specs.declared.error_kind.ErrorKind.{ErrorKind}
use Rattle.cell_refs.specs.declared.error_kind.ErrorKind.TheVariants as kind
use Rattle.formula_ast.specs.Tree.{Tree, Trees, none, more}
use Rattle.formula_ast.specs.declared.func.Func.TheVariants as func
use Rattle.sheet_model.specs.Conversions.{logical_in, number_in}
use Rattle.sheet_model.specs.Operators.{single}
use Rattle.sheet_model.specs.declared.value.Value.{Value}
use Rattle.sheet_model.specs.declared.value.Value.TheVariants.{Number, Text, Logical, Empty, Error}
use Rattle.sheet_model.specs.declared.grid.Arg.{Arg}
use Rattle.sheet_model.specs.declared.grid.Arg.TheVariants as arg
use Rattle.sheet_funcs.specs.Arguments.{value_of}
use Rattle.sheet_funcs.specs.Rounding.{place_of}
use Rattle.recalculation.specs.Evaluation as evaluation
use Rattle.recalculation.specs.Evaluation.{evaluated, all_evaluated, at_chosen, choosing, if_place, if_without, iferror_place, is_one_error, choose_place, choose_without}
use Rattle.affine_forms.specs.Forms.{Assignment, worth}
use Rattle.affine_forms.specs.declared.rel.Rel.{Rel}
use Rattle.affine_forms.specs.declared.rel.Rel.TheVariants as rel
use Rattle.affine_forms.proofs.Exact.{exact-followed_by, exact-turned_into}
use Rattle.form_values.specs.Meaning.{abs_at, arg_at}
use Rattle.form_values.proofs.Opening.{IsAbs, IsSound, arg_sound}
use Rattle.affine_forms.specs.Relations.{holds}
use Rattle.form_values.specs.declared.open_form.Open.{Open}
use Rattle.form_values.specs.declared.abs.Abs.{Abs}
use Rattle.form_values.specs.declared.abs.Abs.TheVariants.{Known, Affine, Test}
use Rattle.form_values.specs.declared.abs.AbsArg.{AbsArg}
use Rattle.form_values.specs.declared.abs.AbsArg.TheVariants.{One, Area}
use Rattle.form_table.specs.Wanted.{Wanted, form, open_test, known_number}
use Rattle.form_table.specs.Wanted as wanted
use Rattle.form_table.specs.Choosing.{if_test}
use Rattle.form_table.specs.Certain.{is_no_choice}
use Rattle.form_truth.proofs.Arguments.{value_at, value_sound}
use Rattle.form_truth.proofs.Chosen.{no_choice_at}
use Rattle.form_truth.proofs.Choosing.{single_sound}
use Rattle.form_truth.proofs.Fitting.{constant_is, Fits, is_none, is_form, is_open, fits}
use Rattle.form_truth.proofs.SingleRows.{not_zero}
use Rattle.form_truth.proofs.Singles.{single_at}
use Rattle.form_truth.proofs.Table.{table_right}
use Rattle.form_extraction.specs.Parts.{Part, outcome_by}
use Rattle.form_extraction.specs.declared.forms.Outcome.{Outcome}
use Rattle.form_extraction.specs.declared.forms.Outcome.TheVariants.{Gives, Refused, Without}
use Rattle.form_extraction.specs.declared.forms.Why.TheVariants as why
use Rattle.form_extraction.specs.Deciding.{is_known_error, place_in}
use Rattle.form_extraction.specs.Calls.{fails, chosen_or, on_branch, both_branches, by_test, if_outcome, by_error, iferror_outcome, is_unlooked_error, is_no_argument, by_place, choose_outcome}
use Rattle.form_extraction.specs.Formulas.{part_of, parts_of}
use Rattle.form_extraction.proofs.Parts.{given_first, tried_first, gives_same}
use Rattle.form_extraction.proofs.Worth.{IsWorth, PartIsTrue, ArePartsTrue}

-- an error
pub error_worth : (x : Assignment) (k : ErrorKind) (a : AbsArg) → fails k ≡ Gives a → IsWorth x (arg.One (Error k)) a
error_worth x k a h = subst (IsWorth x (arg.One (Error k))) (gives_same _ a h) ((tt, tt), refl)

module _ (x : Assignment) (forms : Cell → Option Abs) (values : Cell → Value) where
  -- ---- what is chosen
  -- a part as a single value
  part_chosen : (t : Tree) → PartIsTrue x forms values t → (v : Arg) (w a : AbsArg) → chosen_or w (Some (part_of forms t)) ≡ Gives a
      → IsWorth x (exact (evaluation.chosen_or v (Some (evaluated values t)))) a
  part_chosen t h v w a e =
      let g = given_first (part_of forms t).outcome (λ b. Gives (wanted.single b)) a e in
      let r = h g.value g.is in
      subst (IsWorth x (exact (evaluation.chosen_or v (Some (evaluated values t))))) (gives_same _ a g.goes)
      (single_sound g.value r.0, exact-turned_into single (evaluated values t) ∙ ap single r.1 ∙ single_at x g.value)

  place_chosen : (ts : Trees) → ArePartsTrue x forms values ts → (n : ℕ) (v : Arg) (w a : AbsArg) → IsWorth x v w → chosen_or w (slice_get (parts_of forms ts) n) ≡ Gives a
      → IsWorth x (exact (evaluation.chosen_or v (slice_get (all_evaluated values ts) n))) a
  place_chosen none h n v w a k e = subst (IsWorth x v) (gives_same w a e) k
  place_chosen (more t ts) h zero v w a k e = part_chosen t h.0 v w a e
  place_chosen (more t ts) h (suc n) v w a k e = place_chosen ts h.1 n v w a k e

  choice_true : (ts : Trees) → ArePartsTrue x forms values ts → (o : Option ℕ) (v : Arg) (w a : AbsArg) → IsWorth x v w → chosen_or w (at_chosen (parts_of forms ts) o) ≡ Gives a
      → IsWorth x (exact (evaluation.chosen_or v (at_chosen (all_evaluated values ts) o))) a
  choice_true ts h (Some n) v w a k e = place_chosen ts h n v w a k e
  choice_true ts h None v w a k e = subst (IsWorth x v) (gives_same w a e) k

  -- ---- IF
  -- a branch has a value
  record Branch (ts : Trees) (n : ℕ) (f : AbsArg → Outcome) (a : AbsArg) : Type 0 where
    value : AbsArg
    sound : IsSound value
    is : exact (evaluation.chosen_or (arg.One (Logical false)) (slice_get (all_evaluated values ts) n)) ≡ single (arg_at x value)
    goes : f value ≡ Gives a

  branch : (ts : Trees) → ArePartsTrue x forms values ts → (n : ℕ) (f : AbsArg → Outcome) (a : AbsArg) → on_branch (slice_get (parts_of forms ts) n) f ≡ Gives a → Branch ts n f a
  branch none h n f a e = record { value = One (Known (Logical false)); sound = (tt, tt); is = refl; goes = e }
  branch (more t ts) h zero f a e =
      let g = given_first (part_of forms t).outcome f a e in
      let r = h.0 g.value g.is in
      record { value = g.value; sound = r.0; is = exact-turned_into single (evaluated values t) ∙ ap single r.1; goes = g.goes }
  branch (more t ts) h (suc n) f a e = let b = branch ts h.1 n f a e in record { value = b.value; sound = b.sound; is = b.is; goes = b.goes }

  abbrev if_value : Trees → Value → Arg
  if_value ts v = exact (evaluation.chosen_or (arg.One (if_without (logical_in v))) (at_chosen (all_evaluated values ts) (if_place (logical_in v))))

  open_true : (s : Span) (p : Part) (ts : Trees) → ArePartsTrue x forms values ts → (t : Open) (r : Rel) → (a : AbsArg) → both_branches s p (parts_of forms ts) t.form r ≡ Gives a
      → IsWorth x (if_value ts (Logical (holds r (worth x t.form)))) a
  open_true s p ts h t r a e =
      let one = branch ts h 0 (λ one. on_branch (slice_get (parts_of forms ts) 1) (λ other. outcome_by s (p ∷ parts_of forms ts) (if_test t.form r one other))) a e in
      let other = branch ts h 1 (λ other. outcome_by s (p ∷ parts_of forms ts) (if_test t.form r one.value other)) a one.goes in
      let g = tried_first s (p ∷ parts_of forms ts) (if_test t.form r one.value other.value) Gives a other.goes in
      let c = table_right.choice (One (Test t r)) one.value other.value g.value t.form r refl g.is in
      subst (IsWorth x _) (gives_same _ a g.goes) (arg_sound g.value, by_test (holds r (worth x t.form)) one.value other.value one.is other.is ∙ c x)
    where
      by_test : (b : Bool) (one other : AbsArg)
          → exact (evaluation.chosen_or (arg.One (Logical false)) (slice_get (all_evaluated values ts) 0)) ≡ single (arg_at x one)
          → exact (evaluation.chosen_or (arg.One (Logical false)) (slice_get (all_evaluated values ts) 1)) ≡ single (arg_at x other)
          → if_value ts (Logical b) ≡ single (if b then arg_at x one else arg_at x other)
      by_test true one other d e = d
      by_test false one other d e = e

  test_true : (s : Span) (p : Part) (ts : Trees) → ArePartsTrue x forms values ts → (b : Abs) → IsAbs b → (a : AbsArg) → by_test s p (parts_of forms ts) b ≡ Gives a → IsWorth x (if_value ts (abs_at x b)) a
  test_true s p ts h (Known v) o a e =
      choice_true ts h (if_place (logical_in v)) (arg.One (if_without (logical_in v))) (One (Known (if_without (logical_in v)))) a ((tt, tt), refl) e
  test_true s p ts h (Affine t) o a e =
      subst (λ b. IsWorth x (exact (evaluation.chosen_or (arg.One (if_without (Ok b))) (at_chosen (all_evaluated values ts) (if_place (Ok b))))) a) (sym (not_zero (worth x t.form)))
      (open_true s p ts h t rel.Ne a e)
  test_true s p ts h (Test t r) o a e = open_true s p ts h t r a e

  pub if_true : (s : Span) (ts : Trees) → ArePartsTrue x forms values ts → (a : AbsArg) → if_outcome s (parts_of forms ts) ≡ Gives a
      → IsWorth x (exact (choosing func.If (all_evaluated values ts))) a
  if_true s none h a e = error_worth x kind.Value a e
  if_true s (more t ts) h a e =
      let g = given_first (part_of forms t).outcome (λ b. by_test s (part_of forms t) (parts_of forms ts) (wanted.value_of b)) a e in
      let r = h.0 g.value g.is in
      subst (λ v. IsWorth x v a)
      (sym (exact-followed_by (evaluated values t) _ ∙ ap (λ v. if_value ts (value_of v)) r.1 ∙ ap (if_value ts) (value_at x g.value)))
      (test_true s (part_of forms t) ts h.1 (wanted.value_of g.value) (value_sound g.value r.0) a g.goes)

  -- ---- IFERROR
  error_at : (b : AbsArg) → is_one_error (arg_at x b) ≡ is_known_error b
  error_at (One (Known (Number y))) = refl
  error_at (One (Known (Text y))) = refl
  error_at (One (Known (Logical y))) = refl
  error_at (One (Known Empty)) = refl
  error_at (One (Known (Error k))) = refl
  error_at (One (Affine f)) = refl
  error_at (One (Test f r)) = refl
  error_at (Area g) = refl

  abbrev iferror_value : Trees → Arg → Arg
  iferror_value ts v = exact (evaluation.chosen_or v (at_chosen (all_evaluated values ts) (iferror_place (is_one_error v))))

  pub iferror_true : (ts : Trees) → ArePartsTrue x forms values ts → (a : AbsArg) → iferror_outcome (parts_of forms ts) ≡ Gives a
      → IsWorth x (exact (choosing func.IfError (all_evaluated values ts))) a
  iferror_true none h a e = error_worth x kind.Value a e
  iferror_true (more t ts) h a e =
      let g = given_first (part_of forms t).outcome (λ b. by_error (parts_of forms ts) (wanted.single b)) a e in
      let r = h.0 g.value g.is in
      subst (λ v. IsWorth x v a)
      (sym (exact-followed_by (evaluated values t) _ ∙ ap (λ v. iferror_value ts (single v)) r.1 ∙ ap (iferror_value ts) (single_at x g.value)
      ∙ ap (λ b. exact (evaluation.chosen_or (arg_at x (wanted.single g.value)) (at_chosen (all_evaluated values ts) (iferror_place b)))) (error_at (wanted.single g.value))))
      (choice_true ts h.1 (iferror_place (is_known_error (wanted.single g.value))) (arg_at x (wanted.single g.value)) (wanted.single g.value) a (single_sound g.value r.0, refl) g.goes)

  -- ---- CHOOSE
  abbrev choose_value : Trees → Result ℤ ErrorKind → Arg
  choose_value ts n = exact (evaluation.chosen_or (arg.One (choose_without n)) (at_chosen (all_evaluated values ts) (choose_place n)))

  known_place : (ts : Trees) → ArePartsTrue x forms values ts → (n m : Result ℤ ErrorKind) → n ≡ m → (a : AbsArg) → chosen_or (One (Known (choose_without m))) (at_chosen (parts_of forms ts) (choose_place m)) ≡ Gives a
      → IsWorth x (choose_value ts n) a
  known_place ts h n m d a e =
      subst (λ n. IsWorth x (choose_value ts n) a) (sym d)
      (choice_true ts h (choose_place m) (arg.One (choose_without m)) (One (Known (choose_without m))) a ((tt, tt), refl) e)

  -- arguments that are certainly the error for none
  record NoArgument (o : Outcome) : Type 0 where
    value : AbsArg
    is : o ≡ Gives value
    error : is_no_choice value ≡ true

  no_argument : (l : List Cell) (o : Outcome) → is_unlooked_error l o ≡ true → NoArgument o
  no_argument [] (Gives a) h = record { value = a; is = refl; error = h }
  no_argument [] (Refused at cause) h = absurd (true≢false (sym h))
  no_argument [] Without h = absurd (true≢false (sym h))
  no_argument (c ∷ l) o h = absurd (true≢false (sym h))

  certain_at : (ts : Trees) → ArePartsTrue x forms values ts → list_all is_no_argument (parts_of forms ts) ≡ true → (n : ℕ)
      → exact (evaluation.chosen_or (arg.One (Error kind.Value)) (slice_get (all_evaluated values ts) n)) ≡ arg.One (Error kind.Value)
  certain_at none h e n = refl
  certain_at (more t ts) h e zero =
      let p = no_argument (part_of forms t).looks (part_of forms t).outcome (and_parts (is_no_argument (part_of forms t)) (list_all is_no_argument (parts_of forms ts)) e).0 in
      exact-turned_into single (evaluated values t) ∙ ap single (h.0 p.value p.is).1 ∙ no_choice_at x p.value p.error
  certain_at (more t ts) h e (suc n) = certain_at ts h.1 (and_parts (is_no_argument (part_of forms t)) (list_all is_no_argument (parts_of forms ts)) e).1 n

  certain_choice : (ts : Trees) → ArePartsTrue x forms values ts → list_all is_no_argument (parts_of forms ts) ≡ true → (o : Option ℕ)
      → exact (evaluation.chosen_or (arg.One (Error kind.Value)) (at_chosen (all_evaluated values ts) o)) ≡ arg.One (Error kind.Value)
  certain_choice ts h e (Some n) = certain_at ts h e n
  certain_choice ts h e None = refl

  open_place : (ts : Trees) → ArePartsTrue x forms values ts → (at : Span) (q : ℚ) (n : Result ℚ ErrorKind) → n ≡ Ok q → (b : Bool) → list_all is_no_argument (parts_of forms ts) ≡ b
      → (a : AbsArg) → (if b then fails kind.Value else Refused at why.Undecided) ≡ Gives a → IsWorth x (choose_value ts (result_map_both floor_ℚ (λ k. k) n)) a
  open_place ts h at q n d true e a g =
      let s : One (Known (Error kind.Value)) ≡ a = cc in
      subst (IsWorth x (choose_value ts (result_map_both floor_ℚ (λ k. k) n))) s
      ((tt, tt), ap (λ r. choose_value ts (result_map_both floor_ℚ (λ k. k) r)) d ∙ certain_choice ts h e (choose_place (Ok (floor_ℚ q))))
  open_place ts h at q n d false e a g = cc

  place_true : (ts : Trees) → ArePartsTrue x forms values ts → (p : Part) (b : Abs) (w : Wanted) → Fits b w → (c : Option ℚ) → known_number w ≡ c → (a : AbsArg) → by_place p (parts_of forms ts) (place_in w c) ≡ Gives a
      → IsWorth x (choose_value ts (result_map_both floor_ℚ (λ k. k) (number_in (abs_at x b)))) a
  place_true ts h p b (wanted.none k) (is_none l d) c q a e = known_place ts h _ (Err l) (ap (result_map_both floor_ℚ (λ k. k)) (d x)) a e
  place_true ts h p b (form f) (is_form g i u d) (Some y) q a e =
      known_place ts h _ (Ok (floor_ℚ y)) (ap (result_map_both floor_ℚ (λ k. k)) (d x ∙ ap Ok (constant_is g y q x))) a e
  place_true ts h p b (form f) (is_form g i u d) None q a e = open_place ts h p.span (worth x g) _ (d x) (list_all is_no_argument (parts_of forms ts)) refl a e
  place_true ts h p b open_test (is_open d v) (Some y) q a e = cc
  place_true ts h p b open_test (is_open d v) None q a e = open_place ts h p.span (d x).0 _ (d x).1 (list_all is_no_argument (parts_of forms ts)) refl a e

  pub choose_true : (ts : Trees) → ArePartsTrue x forms values ts → (a : AbsArg) → choose_outcome (parts_of forms ts) ≡ Gives a
      → IsWorth x (exact (choosing func.Choose (all_evaluated values ts))) a
  choose_true none h a e = error_worth x kind.Value a e
  choose_true (more t ts) h a e =
      let g = given_first (part_of forms t).outcome (λ b. by_place (part_of forms t) (parts_of forms ts) (place_in (wanted.number_of b) (known_number (wanted.number_of b)))) a e in
      let r = h.0 g.value g.is in
      subst (λ v. IsWorth x v a)
      (sym (exact-followed_by (evaluated values t) _ ∙ ap (λ v. choose_value ts (place_of v)) r.1
      ∙ ap (λ v. choose_value ts (result_map_both floor_ℚ (λ k. k) (number_in v))) (value_at x g.value)))
      (place_true ts h.1 (part_of forms t) (wanted.value_of g.value) (wanted.number_of g.value) (fits (wanted.value_of g.value) (value_sound g.value r.0)) (known_number (wanted.number_of g.value)) refl a g.goes)
