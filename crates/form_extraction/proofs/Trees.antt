-- The form of a formula is its value under an assignment.
use Rattle.std.specs.Prelude.{◌≡◌}
use Rattle.std.proofs.Common.{refl, sym, ap, ap₂, ◌∙◌, subst, false, List, [], ◌∷◌, map, Option, Ok}
use Rattle.std.specs.List.{AllByRecursion}
use Rattle.calculations.specs.Calculation.{Calculation, exact, followed_by, for_each}
use Rattle.cell_refs.specs.declared.cell.Cell.{Cell}
use Rattle.cell_refs.specs.declared.span.Span.{Span}
use Rattle.cell_refs.specs.declared.op.Op.{Op}
use Rattle.formula_ast.specs.Tree.{Tree, Trees, none, more}
use Rattle.formula_ast.specs.Tree as tree
use Rattle.formula_ast.specs.Measures.{listed}
use Rattle.formula_ast.specs.declared.func.Func.{Func}
use Rattle.formula_ast.specs.declared.func.Func.TheVariants as func
use Rattle.sheet_model.specs.Operators.{infix_of, minus_of, percent_of}
use Rattle.sheet_model.specs.declared.value.Value.{Value}
use Rattle.sheet_model.specs.declared.grid.Arg.{Arg}
use Rattle.sheet_funcs.specs.Table.{called}
use Rattle.recalculation.specs.Evaluation.{evaluated, all_evaluated, call_of, grid_of_areas}
use Rattle.affine_forms.specs.Forms.{Assignment}
use Rattle.affine_forms.proofs.Exact.{exact-followed_by, exact-turned_into}
use Rattle.form_values.specs.Meaning.{arg_at}
use Rattle.form_values.proofs.Opening.{IsSound, arg_sound}
use Rattle.form_values.specs.Trials.{Trial}
use Rattle.form_values.specs.declared.abs.Abs.{Abs}
use Rattle.form_values.specs.declared.abs.AbsArg.{AbsArg}
use Rattle.form_table.specs.Operators.{infix_form, minus_form, percent_form}
use Rattle.form_table.specs.Table.{form_called}
use Rattle.form_extraction.specs.Parts.{outcome_by, on_part, on_parts}
use Rattle.form_extraction.specs.declared.forms.Outcome.{Outcome}
use Rattle.form_extraction.specs.declared.forms.Outcome.TheVariants.{Gives}
use Rattle.recalculation.specs.Looks.{elements}
use Rattle.form_extraction.specs.Calls.{call_outcome}
use Rattle.form_extraction.specs.Formulas.{part_of, parts_of}
use Rattle.form_extraction.proofs.Worth.{IsWorth, Agree, PartIsTrue, ArePartsTrue}
use Rattle.form_extraction.proofs.Parts.{given_first, tried_first, gives_same, plain_true, reference_true}
use Rattle.form_truth.specs.Rows.{Represents}
use Rattle.form_truth.specs.Table.{is_special}
use Rattle.form_truth.proofs.Table.{table_right}
use Rattle.form_extraction.proofs.AllPicks.{picks_true}
use Rattle.form_extraction.proofs.Choices.{if_true, iferror_true, choose_true}

module _ (x : Assignment) (forms : Cell → Option Abs) (values : Cell → Value) (agree : Agree x forms values) where
  -- what represents a value under every assignment
  worth_at : (v : Assignment → Arg) (a : AbsArg) → Represents v a → IsWorth x (v x) a
  worth_at v a h = (arg_sound a, h x)

  -- ---- operators
  turned_true : (s : Span) (f : AbsArg → Trial AbsArg) (g : Arg → Calculation Arg) → ((b c : AbsArg) → IsSound b → exact (f b) ≡ Ok c → IsWorth x (exact (g (arg_at x b))) c)
      → (t : Tree) → PartIsTrue x forms values t → (a : AbsArg) → on_part (part_of forms t) (λ b. outcome_by s (part_of forms t ∷ []) (f b)) ≡ Gives a
      → IsWorth x (exact (followed_by (evaluated values t) g)) a
  turned_true s f g row t h a e =
      let p = given_first (part_of forms t).outcome (λ b. outcome_by s (part_of forms t ∷ []) (f b)) a e in
      let q = tried_first s (part_of forms t ∷ []) (f p.value) Gives a p.goes in
      let same = gives_same q.value a q.goes in
      let r = h p.value p.is in
      subst (IsWorth x _) same (subst (λ v. IsWorth x v q.value) (sym (exact-followed_by (evaluated values t) g ∙ ap (λ v. exact (g v)) r.1)) (row p.value q.value r.0 q.is))

  infix_true : (s : Span) (o : Op) (t u : Tree) → PartIsTrue x forms values t → PartIsTrue x forms values u → (a : AbsArg)
      → on_part (part_of forms t) (λ b. on_part (part_of forms u) (λ c. outcome_by s (part_of forms t ∷ part_of forms u ∷ []) (infix_form o b c))) ≡ Gives a
      → IsWorth x (exact (followed_by (evaluated values t) (λ b. followed_by (evaluated values u) (infix_of o b)))) a
  infix_true s o t u h k a e =
      let ps = part_of forms t ∷ part_of forms u ∷ [] in
      let p = given_first (part_of forms t).outcome (λ b. on_part (part_of forms u) (λ c. outcome_by s (part_of forms t ∷ part_of forms u ∷ []) (infix_form o b c))) a e in
      let l = given_first (part_of forms u).outcome (λ c. outcome_by s (part_of forms t ∷ part_of forms u ∷ []) (infix_form o p.value c)) a p.goes in
      let q = tried_first s (part_of forms t ∷ part_of forms u ∷ []) (infix_form o p.value l.value) Gives a l.goes in
      let same = gives_same q.value a q.goes in
      let r = h p.value p.is in
      let w = k l.value l.is in
      subst (IsWorth x _) same
      (subst (λ v. IsWorth x v q.value)
      (sym (exact-followed_by (evaluated values t) _ ∙ exact-followed_by (evaluated values u) (infix_of o (exact (evaluated values t))) ∙ ap₂ (λ v w. exact (infix_of o v w)) r.1 w.1))
      (worth_at _ _ (table_right.pairs o p.value l.value q.value q.is)))

  -- ---- calls that look at all their arguments
  pub record Values (ts : Trees) (f : List AbsArg → Outcome) (a : AbsArg) : Type 0 where
    pub args : List AbsArg
    pub sound : AllByRecursion IsSound args
    pub same : exact (for_each (λ c. c) (all_evaluated values ts)) ≡ map (arg_at x) args
    pub goes : f args ≡ Gives a

  parts_first : (ts : Trees) → ArePartsTrue x forms values ts → (f : List AbsArg → Outcome) (a : AbsArg) → on_parts (parts_of forms ts) f ≡ Gives a → Values ts f a
  parts_first none h f a e = record { args = []; sound = tt; same = refl; goes = e }
  parts_first (more t ts) h f a e =
      let p = given_first (part_of forms t).outcome (λ b. on_parts (parts_of forms ts) (λ args. f (b ∷ args))) a e in
      let r = h.0 p.value p.is in
      let q = parts_first ts h.1 (λ args. f (p.value ∷ args)) a p.goes in
      record {
        args = p.value ∷ q.args;
        sound = (r.0, q.sound);
        same = exact-followed_by (evaluated values t) _ ∙ exact-turned_into (λ ys. exact (evaluated values t) ∷ ys) (for_each (λ c. c) (all_evaluated values ts)) ∙ ap₂ (λ v vs. v ∷ vs) r.1 q.same;
        goes = q.goes;
      }

  called_true : (s : Span) (f : Func) (ts : Trees) → is_special f ≡ false → ArePartsTrue x forms values ts → (a : AbsArg)
      → on_parts (parts_of forms ts) (λ args. outcome_by s (parts_of forms ts) (form_called f args)) ≡ Gives a
      → IsWorth x (exact (followed_by (for_each (λ c. c) (all_evaluated values ts)) (called f))) a
  called_true s f ts n h a e =
      let p = parts_first ts h (λ args. outcome_by s (parts_of forms ts) (form_called f args)) a e in
      let q = tried_first s (parts_of forms ts) (form_called f p.args) Gives a p.goes in
      let same = gives_same q.value a q.goes in
      subst (IsWorth x _) same
      (subst (λ v. IsWorth x v q.value) (sym (exact-followed_by (for_each (λ c. c) (all_evaluated values ts)) (called f) ∙ ap (λ vs. exact (called f vs)) p.same)) (worth_at _ _ (table_right.calls f p.args q.value n q.is)))

  call_true : (s : Span) (f : Func) (ts : Trees) → ArePartsTrue x forms values ts → (a : AbsArg) → call_outcome forms s f (parts_of forms ts) ≡ Gives a → IsWorth x (exact (call_of f (all_evaluated values ts))) a
  call_true s func.If ts h a e = if_true x forms values s ts h a e
  call_true s func.IfError ts h a e = iferror_true x forms values ts h a e
  call_true s func.Choose ts h a e = choose_true x forms values ts h a e
  call_true s func.Index ts h a e = picks_true x forms values agree s func.Index ts refl h a e
  call_true s func.VLookup ts h a e = picks_true x forms values agree s func.VLookup ts refl h a e
  call_true s func.HLookup ts h a e = picks_true x forms values agree s func.HLookup ts refl h a e
  call_true s func.SumIf ts h a e = picks_true x forms values agree s func.SumIf ts refl h a e
  call_true s func.Rows ts h a e = picks_true x forms values agree s func.Rows ts refl h a e
  call_true s func.Columns ts h a e = picks_true x forms values agree s func.Columns ts refl h a e
  call_true s f ts h a e = called_true s f ts refl h a e

  -- ---- all parts
  mutual
    pub part_true : (t : Tree) → PartIsTrue x forms values t
    part_true (tree.Number s y) a e = plain_true x _ a e
    part_true (tree.Text s y) a e = plain_true x _ a e
    part_true (tree.Logical s y) a e = plain_true x _ a e
    part_true (tree.Fault s k) a e = plain_true x _ a e
    part_true (tree.Missing s) a e = plain_true x _ a e
    part_true (tree.Array s rows columns items) a e = plain_true x _ a e
    part_true (tree.Reference s areas) a e = reference_true x forms values agree (grid_of_areas (listed areas)) a (elements forms _) refl e
    part_true (tree.Call s f args) a e = call_true s f args (parts_true args) a e
    part_true (tree.Plus s t) a e = part_true t a e
    part_true (tree.Minus s t) a e = turned_true s minus_form minus_of (λ b c o r. worth_at _ _ (table_right.minus b c r)) t (λ b d. part_true t b d) a e
    part_true (tree.Percent s t) a e = turned_true s percent_form percent_of (λ b c o r. worth_at _ _ (table_right.percent b c r)) t (λ b d. part_true t b d) a e
    part_true (tree.Infix s o t u) a e = infix_true s o t u (λ b d. part_true t b d) (λ b d. part_true u b d) a e
    part_true (tree.WideNumber s y) a e = plain_true x _ a e
    part_true (tree.Name s name) a e = plain_true x _ a e
    part_true (tree.Unknown s name args) a e = plain_true x _ a e

    pub parts_true : (ts : Trees) → ArePartsTrue x forms values ts
    parts_true none = tt
    parts_true (more t ts) = (λ a e. part_true t a e, parts_true ts)
