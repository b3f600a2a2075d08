-- What is refused in a formula, and in a cell, is so under recalculation.
use Rattle.std.specs.Prelude.{is_some, ◌<◌}
use Rattle.std.proofs.Common.{◌≡◌, refl, sym, ap, ap₂, ◌∙◌, subst, Bool, true, false, if◌then◌else◌, List, [], ◌∷◌, map, take, Option, Some, None, ℕ}
use Rattle.fractions.specs.Rational.{◌*ℚ◌}
use Rattle.calculations.specs.Calculation.{exact}
use Rattle.cell_refs.specs.declared.cell.Cell.{Cell}
use Rattle.cell_refs.specs.declared.span.Span.{Span}
use Rattle.formula_ast.specs.Tree.{Tree, Trees, none, more}
use Rattle.formula_ast.specs.Tree as tree
use Rattle.formula_ast.specs.declared.func.Func.{Func}
use Rattle.formula_ast.specs.declared.func.Func.TheVariants as func
use Rattle.sheet_model.specs.Operators.{minus_of, percent_of}
use Rattle.sheet_model.specs.declared.value.Value.{Value}
use Rattle.sheet_model.specs.declared.value.Value.TheVariants.{Number}
use Rattle.sheet_funcs.specs.Arguments.{at, grid_of}
use Rattle.sheet_funcs.specs.Products.{factor, factors_at, product_of, transposed}
use Rattle.recalculation.specs.Entries.{Book, Entry, Constant, Formula, Malformed, entry}
use Rattle.formula_ast.specs.Measures.{listed}
use Rattle.recalculation.specs.Evaluation.{CellGrid, grid_of_areas, evaluated, all_evaluated}
use Rattle.recalculation.specs.Looks.{elements, exchanged as exchanged_cells}
use Rattle.recalculation.proofs.GridCells.{exchanged_values}
use Rattle.recalculation.specs.Recalculation.{val}
use Rattle.recalculation.specs.Walks.{is_circular}
use Rattle.affine_forms.specs.Forms.{Assignment}
use Rattle.form_values.specs.Meaning.{arg_at}
use Rattle.form_values.specs.declared.abs.Abs.{Abs}
use Rattle.form_values.specs.declared.abs.AbsArg.{AbsArg}
use Rattle.form_values.specs.declared.abs.AbsArg.TheVariants.{One, Area}
use Rattle.form_table.specs.Operators.{minus_form, percent_form}
use Rattle.form_table.specs.Table.{form_called}
use Rattle.form_table.specs.Wanted as wanted
use Rattle.form_truth.specs.Laws.{called_at}
use Rattle.form_truth.specs.Products.{FactorsBend, PairBends}
use Rattle.form_truth.specs.Rows.{IsOutcome}
use Rattle.form_truth.proofs.Rows.{sum_is_right, average_is_right, count_is_right, min_is_right, max_is_right, abs_is_right, int_is_right, mod_is_right, power_is_right, round_is_right, and_is_right, or_is_right, not_is_right, n_is_right, isnumber_is_right, isblank_is_right, transpose_is_right, match_is_right, countif_is_right, sumproduct_is_right, mmult_is_right, minus_is_right, percent_is_right, known_or_row, true_is_right, false_is_right}
use Rattle.form_extraction.specs.declared.forms.CellForm.{CellForm}
use Rattle.form_extraction.specs.declared.forms.CellForm.TheVariants.{Form}
use Rattle.form_extraction.specs.declared.forms.CellForm.TheVariants as result
use Rattle.form_extraction.specs.declared.forms.Why.{Why}
use Rattle.form_extraction.specs.declared.forms.Outcome.{Outcome}
use Rattle.form_extraction.specs.declared.forms.Outcome.TheVariants.{Gives, Refused, Without}
use Rattle.form_extraction.specs.Sources.{exchanged}
use Rattle.form_extraction.specs.Calls.{call_outcome}
use Rattle.form_extraction.specs.Formulas.{part_of, parts_of, of_forms}
use Rattle.form_extraction.specs.Places.{form_in, Decisions, overriding, least_without, by_outcome, by_looks, entry_form, decision_or, form_of}
use Rattle.form_extraction.specs.Refuted.{in_plus, in_minus, in_percent, IsRefuted, PartBends, ProductBends, MatrixBends, HasRefuted, RefusalsAreRight}
use Rattle.form_extraction.proofs.Worth.{Agree}
use Rattle.form_extraction.proofs.Agreeing.{form_is}
use Rattle.form_extraction.proofs.Books.{form_worth}
use Rattle.form_extraction.proofs.Lookups.{exchanged_matches}
use Rattle.form_extraction.proofs.Refusing.{gives_never, PartIsRefuted, ArePartsRefuted, IsOf, AreOf, all_are}
use Rattle.form_extraction.proofs.RefusedRows.{bends_same, in_parts, turned_refuted, infix_refuted, called_refuted, plain_refuted}
use Rattle.form_extraction.proofs.RefusedChoices.{if_refuted, iferror_refuted, choose_refuted}
use Rattle.form_extraction.proofs.RefusedPicks.{size_refuted, index_refuted, lookup_refuted, sumif_refuted}

module _ (forms : Cell → Option Abs) (values : Assignment → Cell → Value) (agree : (x : Assignment) → Agree x forms (values x)) where
  -- ---- SUMPRODUCT and MMULT
  factors_bend : (ts : Trees) (args : List AbsArg) → AreOf forms values agree ts args → FactorsBend args → ProductBends (λ x. map exact (all_evaluated (values x) ts))
  factors_bend ts args k b =
      record {
        place = b.place;
        count = b.count;
        bent = bends_same _ _ (λ x. ap (λ vs. Number (exact (product_of (take b.count (factors_at (map grid_of vs) b.place))))) (sym (all_are forms values agree x ts args k))) b.bent;
      }

  pair_bends : (t u : Tree) (a b : AbsArg) → IsOf forms values agree t a → IsOf forms values agree u b → PairBends a b → MatrixBends (λ x. exact (evaluated (values x) t)) (λ x. exact (evaluated (values x) u))
  pair_bends t u a b k l p =
      record {
        row = p.row;
        column = p.column;
        inner = p.inner;
        is_row = λ x. subst (λ n. p.row < n) (rows_at x a ∙ ap (λ v. (grid_of v).rows) (sym (k.1 x))) p.is_row;
        is_column = λ x. subst (λ n. p.column < n) (columns_at x b ∙ ap (λ v. (grid_of v).columns) (sym (l.1 x))) p.is_column;
        is_inner = λ x. subst (λ n. p.inner < n) (columns_at x a ∙ ap (λ v. (grid_of v).columns) (sym (k.1 x))) p.is_inner;
        bent = bends_same _ _ (λ x. ap₂ (λ v w. Number (factor (at (grid_of v) p.row p.inner) *ℚ factor (at (grid_of w) p.inner p.column))) (sym (k.1 x)) (sym (l.1 x))) p.bent;
      }
    where
      rows_at : (x : Assignment) (a : AbsArg) → (wanted.grid_of a).rows ≡ (grid_of (arg_at x a)).rows
      rows_at x (One a) = refl
      rows_at x (Area g) = refl

      columns_at : (x : Assignment) (a : AbsArg) → (wanted.grid_of a).columns ≡ (grid_of (arg_at x a)).columns
      columns_at x (One a) = refl
      columns_at x (Area g) = refl

  -- of MMULT with two arguments, and with others
  abbrev MatrixCase : Trees → List AbsArg → Type 0
  MatrixCase (more t (more u none)) (a ∷ b ∷ []) = PairBends a b
  MatrixCase _ _ = ⊥

  abbrev AsMatrix : Trees → List AbsArg → Type 0
  AsMatrix ts args = IsOutcome (called_at func.MMult args) args (MatrixCase ts args) (exact (form_called func.MMult args))

  matrix_right : (ts : Trees) (args : List AbsArg) → AreOf forms values agree ts args → AsMatrix ts args
  matrix_right none [] k = known_or_row func.MMult [] ⊥ (λ n. λ x. refl)
  matrix_right (more t none) (a ∷ []) k = known_or_row func.MMult (a ∷ []) ⊥ (λ n. λ x. refl)
  matrix_right (more t (more u none)) (a ∷ b ∷ []) k = mmult_is_right a b
  matrix_right (more t (more u (more v ts))) (a ∷ b ∷ c ∷ args) k = known_or_row func.MMult (a ∷ b ∷ c ∷ args) ⊥ (λ n. λ x. refl)
  matrix_right none (a ∷ args) k = absurd k
  matrix_right (more t ts) [] k = absurd k
  matrix_right (more t none) (a ∷ b ∷ args) k = absurd k.1
  matrix_right (more t (more u ts)) (a ∷ []) k = absurd k.1
  matrix_right (more t (more u none)) (a ∷ b ∷ c ∷ args) k = absurd k.1.1
  matrix_right (more t (more u (more v ts))) (a ∷ b ∷ []) k = absurd k.1.1

  matrix_bends : (s : Span) (ts : Trees) (args : List AbsArg) → AreOf forms values agree ts args → MatrixCase ts args → PartBends values (tree.Call s func.MMult ts)
  matrix_bends s (more t (more u none)) (a ∷ b ∷ []) k p = pair_bends t u a b k.0 k.1.0 p
  matrix_bends s none args k p = absurd p
  matrix_bends s (more t none) args k p = absurd p
  matrix_bends s (more t (more u (more v ts))) args k p = absurd p
  matrix_bends s (more t (more u none)) [] k p = absurd p
  matrix_bends s (more t (more u none)) (a ∷ []) k p = absurd p
  matrix_bends s (more t (more u none)) (a ∷ b ∷ c ∷ args) k p = absurd p

  -- ---- all calls
  call_refuted : (s : Span) (f : Func) (ts : Trees) → ArePartsRefuted forms values agree ts → (at : Span) (cause : Why) → call_outcome forms s f (parts_of forms ts) ≡ Refused at cause → IsRefuted values (tree.Call s f ts) at cause
  call_refuted s func.If ts h at cause e = if_refuted forms values agree s ts h at cause e
  call_refuted s func.IfError ts h at cause e = iferror_refuted forms values agree s ts h at cause e
  call_refuted s func.Choose ts h at cause e = choose_refuted forms values agree s ts h at cause e
  call_refuted s func.Index ts h at cause e = index_refuted forms values agree s ts h at cause e
  call_refuted s func.VLookup ts h at cause e = lookup_refuted forms values agree s func.VLookup (λ g. g) (λ g. g) (λ r. r) (λ x g w. refl) (λ x g r m. m) ts h at cause e
  call_refuted s func.HLookup ts h at cause e = lookup_refuted forms values agree s func.HLookup exchanged_cells exchanged transposed (λ x g w. exchanged_values g w (values x)) (λ x g r m. exchanged_matches x g r m) ts h at cause e
  call_refuted s func.SumIf ts h at cause e = sumif_refuted forms values agree s ts h at cause e
  call_refuted s func.Rows ts h at cause e = size_refuted forms values agree s func.Rows (λ g. g.rows) ts h at cause e
  call_refuted s func.Columns ts h at cause e = size_refuted forms values agree s func.Columns (λ g. g.columns) ts h at cause e
  call_refuted s func.SumProduct ts h at cause e =
      called_refuted forms values agree s func.SumProduct ts FactorsBend (λ args k. sumproduct_is_right args) (factors_bend ts) h at cause e
  call_refuted s func.MMult ts h at cause e = called_refuted forms values agree s func.MMult ts (MatrixCase ts) (matrix_right ts) (matrix_bends s ts) h at cause e
  call_refuted s func.Sum ts h at cause e = plain_refuted forms values agree s func.Sum ts sum_is_right (λ x. refl) (λ b. b) h at cause e
  call_refuted s func.Average ts h at cause e = plain_refuted forms values agree s func.Average ts average_is_right (λ x. refl) (λ b. b) h at cause e
  call_refuted s func.Count ts h at cause e = plain_refuted forms values agree s func.Count ts count_is_right (λ x. refl) (λ b. b) h at cause e
  call_refuted s func.Transpose ts h at cause e = plain_refuted forms values agree s func.Transpose ts transpose_is_right (λ x. refl) (λ b. b) h at cause e
  call_refuted s func.Match ts h at cause e = plain_refuted forms values agree s func.Match ts match_is_right (λ x. refl) (λ b. b) h at cause e
  call_refuted s func.CountIf ts h at cause e = plain_refuted forms values agree s func.CountIf ts countif_is_right (λ x. refl) (λ b. b) h at cause e
  call_refuted s func.And ts h at cause e = plain_refuted forms values agree s func.And ts and_is_right (λ x. refl) (λ b. b) h at cause e
  call_refuted s func.Or ts h at cause e = plain_refuted forms values agree s func.Or ts or_is_right (λ x. refl) (λ b. b) h at cause e
  call_refuted s func.Not ts h at cause e = plain_refuted forms values agree s func.Not ts not_is_right (λ x. refl) (λ b. b) h at cause e
  call_refuted s func.True ts h at cause e = plain_refuted forms values agree s func.True ts true_is_right (λ x. refl) (λ b. b) h at cause e
  call_refuted s func.False ts h at cause e = plain_refuted forms values agree s func.False ts false_is_right (λ x. refl) (λ b. b) h at cause e
  call_refuted s func.Abs ts h at cause e = plain_refuted forms values agree s func.Abs ts abs_is_right (λ x. refl) (λ b. b) h at cause e
  call_refuted s func.Min ts h at cause e = plain_refuted forms values agree s func.Min ts min_is_right (λ x. refl) (λ b. b) h at cause e
  call_refuted s func.Max ts h at cause e = plain_refuted forms values agree s func.Max ts max_is_right (λ x. refl) (λ b. b) h at cause e
  call_refuted s func.Int ts h at cause e = plain_refuted forms values agree s func.Int ts int_is_right (λ x. refl) (λ b. b) h at cause e
  call_refuted s func.Mod ts h at cause e = plain_refuted forms values agree s func.Mod ts mod_is_right (λ x. refl) (λ b. b) h at cause e
  call_refuted s func.Round ts h at cause e = plain_refuted forms values agree s func.Round ts round_is_right (λ x. refl) (λ b. b) h at cause e
  call_refuted s func.Power ts h at cause e = plain_refuted forms values agree s func.Power ts power_is_right (λ x. refl) (λ b. b) h at cause e
  call_refuted s func.N ts h at cause e = plain_refuted forms values agree s func.N ts n_is_right (λ x. refl) (λ b. b) h at cause e
  call_refuted s func.IsNumber ts h at cause e = plain_refuted forms values agree s func.IsNumber ts isnumber_is_right (λ x. refl) (λ b. b) h at cause e
  call_refuted s func.IsBlank ts h at cause e = plain_refuted forms values agree s func.IsBlank ts isblank_is_right (λ x. refl) (λ b. b) h at cause e

  -- ---- all parts
  reference_never : (g : CellGrid) (o : Option (List Abs)) (at : Span) (cause : Why) → of_forms g o ≡ Refused at cause → ⊥
  reference_never g (Some items) at cause e = gives_never _ at cause e
  reference_never g None at cause e = without_never at cause e
    where
      without_never : (at : Span) (cause : Why) → Without ≡ Refused at cause → ⊥
      without_never at cause e = cc

  mutual
    pub part_refuted : (t : Tree) → PartIsRefuted forms values agree t
    part_refuted (tree.Number s y) at cause e = absurd (gives_never _ at cause e)
    part_refuted (tree.Text s y) at cause e = absurd (gives_never _ at cause e)
    part_refuted (tree.Logical s y) at cause e = absurd (gives_never _ at cause e)
    part_refuted (tree.Fault s y) at cause e = absurd (gives_never _ at cause e)
    part_refuted (tree.Missing s) at cause e = absurd (gives_never _ at cause e)
    part_refuted (tree.Array s rows columns items) at cause e = absurd (gives_never _ at cause e)
    part_refuted (tree.Reference s areas) at cause e = absurd (reference_never (grid_of_areas (listed areas)) (elements forms (grid_of_areas (listed areas)).cells) at cause e)
    part_refuted (tree.Call s f args) at cause e = call_refuted s f args (parts_refuted args) at cause e
    part_refuted (tree.Plus s t) at cause e = in_parts values t (tree.Plus s t) (λ p h. in_plus s t h) at cause (part_refuted t at cause e)
    part_refuted (tree.Minus s t) at cause e =
        turned_refuted forms values agree s minus_form minus_of minus_is_right t (tree.Minus s t) (λ p h. in_minus s t h) refl (λ x. refl) (λ b. b) (λ a c d. part_refuted t a c d) at cause e
    part_refuted (tree.Percent s t) at cause e =
        turned_refuted forms values agree s percent_form percent_of percent_is_right t (tree.Percent s t) (λ p h. in_percent s t h) refl (λ x. refl) (λ b. b) (λ a c d. part_refuted t a c d) at cause e
    part_refuted (tree.Infix s o t u) at cause e = infix_refuted forms values agree s o t u (λ a c d. part_refuted t a c d) (λ a c d. part_refuted u a c d) at cause e
    part_refuted (tree.WideNumber s y) at cause e = absurd (gives_never _ at cause e)
    part_refuted (tree.Name s n) at cause e = absurd (gives_never _ at cause e)
    part_refuted (tree.Unknown s n args) at cause e = absurd (gives_never _ at cause e)

    pub parts_refuted : (ts : Trees) → ArePartsRefuted forms values agree ts
    parts_refuted none = tt
    parts_refuted (more t ts) = (λ at cause e. part_refuted t at cause e, parts_refuted ts)

-- ---- cells
module _ (book : Book) (decisions : Decisions) where
  abbrev forms_there : Cell → Option Abs
  forms_there b = form_in (form_of book decisions b)

  of_form : (f : CellForm) (a : Abs) → form_in f ≡ Some a → f ≡ Form a
  of_form (Form b) a e = let s : b ≡ a = cc in ap Form s
  of_form (result.Refused at cause) a e = cc
  of_form (result.Blocked by) a e = cc
  of_form result.Circular a e = cc
  of_form result.Malformed a e = cc

  pub agreed : (x : Assignment) → Agree x forms_there (val book (overriding decisions x))
  agreed x = record {
    sound = λ c a e. (form_worth book decisions c a (of_form (form_of book decisions c) a e) x).0;
    same = λ c a e. (form_worth book decisions c a (of_form (form_of book decisions c) a e) x).1;
  }

  outcome_refused : (o : Outcome) (at : Span) (cause : Why) → by_outcome o ≡ result.Refused at cause → o ≡ Refused at cause
  outcome_refused (Gives a) at cause e = cc
  outcome_refused (Refused s c) at cause e = cc
  outcome_refused Without at cause e = cc

  pub looks_refused : (l : Option Cell) (o : Outcome) (at : Span) (cause : Why) → by_looks l o ≡ result.Refused at cause → o ≡ Refused at cause
  looks_refused (Some b) o at cause e = cc
  looks_refused None o at cause e = outcome_refused o at cause e

  entry_refused : (a : Cell) (e : Option Entry) → entry book a ≡ e → (at : Span) (cause : Why) → entry_form forms_there e ≡ result.Refused at cause → HasRefuted book decisions a at cause
  entry_refused a None d at cause e = cc
  entry_refused a (Some (Constant v)) d at cause e = cc
  entry_refused a (Some Malformed) d at cause e = cc
  entry_refused a (Some (Formula t)) d at cause e =
      record {
        formula = t;
        is_formula = d;
        refuted = part_refuted forms_there (λ x. val book (overriding decisions x)) agreed t at cause (looks_refused (least_without forms_there (part_of forms_there t).looks) (part_of forms_there t).outcome at cause e);
      }

  cell_refused : (a : Cell) (d : Option ℕ) (circular : Bool) (at : Span) (cause : Why) → decision_or d (if circular then result.Circular else entry_form forms_there (entry book a)) ≡ result.Refused at cause → HasRefuted book decisions a at cause
  cell_refused a (Some j) circular at cause e = cc
  cell_refused a None true at cause e = cc
  cell_refused a None false at cause e = entry_refused a (entry book a) refl at cause e

pub refusals_are_right : RefusalsAreRight
refusals_are_right book decisions a at cause h =
    cell_refused book decisions a (decisions a) (is_circular book (λ b. is_some (decisions b)) a) at cause (sym (form_is book decisions a) ∙ h)
