-- Functions that pick from a reference are right over parts that are right.
use Rattle.std.specs.Prelude.{◌≡◌}
use Rattle.std.proofs.Common.{sym, ap, ◌∙◌, subst, Bool, true, false, true≢false, List, [], ◌∷◌, map, Option, pos}
use Rattle.fractions.specs.Whole.{whole_ℚ}
use Rattle.calculations.specs.Calculation.{Calculation, exact, followed_by, for_each}
use Rattle.cell_refs.specs.declared.cell.Cell.{Cell}
use Rattle.cell_refs.specs.declared.span.Span.{Span}
use Rattle.cell_refs.specs.declared.error_kind.ErrorKind.TheVariants as kind
use Rattle.formula_ast.specs.Tree.{Tree, Trees, none, more}
use Rattle.formula_ast.specs.declared.func.Func.{Func}
use Rattle.formula_ast.specs.declared.func.Func.TheVariants as func
use Rattle.sheet_model.specs.declared.value.Value.{Value}
use Rattle.sheet_model.specs.declared.value.Value.TheVariants.{Number}
use Rattle.sheet_model.specs.declared.grid.Arg.{Arg}
use Rattle.sheet_model.specs.declared.grid.Arg.TheVariants as arg
use Rattle.sheet_funcs.specs.Arguments as functions
use Rattle.sheet_funcs.specs.Information.{rows_of, columns_of}
use Rattle.sheet_funcs.specs.Table.{called}
use Rattle.recalculation.specs.Evaluation.{evaluated, all_evaluated, call_of}
use Rattle.affine_forms.specs.Forms.{Assignment}
use Rattle.affine_forms.proofs.Exact.{exact-followed_by}
use Rattle.form_values.specs.declared.abs.Abs.{Abs}
use Rattle.form_values.specs.declared.abs.Abs.TheVariants.{Known}
use Rattle.form_values.specs.declared.abs.AbsArg.{AbsArg}
use Rattle.form_values.specs.declared.abs.AbsArg.TheVariants.{One}
use Rattle.form_extraction.specs.declared.forms.Outcome.TheVariants.{Gives}
use Rattle.form_extraction.specs.Calls.{size_of, call_outcome}
use Rattle.form_extraction.specs.Formulas.{part_of, parts_of}
use Rattle.form_extraction.proofs.Worth.{IsWorth, Agree, PartIsTrue, ArePartsTrue}
use Rattle.form_extraction.proofs.Choices.{error_worth}
use Rattle.form_extraction.proofs.Picking.{source_first, rows_true}
use Rattle.form_extraction.proofs.Indexing.{each_exact, index_true}
use Rattle.form_extraction.proofs.Lookups.{vlookup_true, hlookup_true}
use Rattle.form_extraction.proofs.Conditional.{sumif_true}

module _ (x : Assignment) (forms : Cell → Option Abs) (values : Cell → Value) (agree : Agree x forms values) where
  columns_true : (t : Tree) → PartIsTrue x forms values t → (a : AbsArg) → size_of (λ s. s.columns) forms (part_of forms t ∷ []) ≡ Gives a
      → IsWorth x (arg.One (Number (whole_ℚ (pos (functions.grid_of (exact (evaluated values t))).columns)))) a
  columns_true t h a e =
      let s = source_first x forms values agree t h (λ s. Gives (One (Known (Number (whole_ℚ (pos s.columns)))))) a e in
      let q : One (Known (Number (whole_ℚ (pos s.source.columns)))) ≡ a = let r = s.goes in cc in
      subst (IsWorth x _) q ((tt, tt), ap (λ n. arg.One (Number (whole_ℚ (pos n)))) (sym s.matches.columns))

  pub rows_of_true : (ts : Trees) → ArePartsTrue x forms values ts → (a : AbsArg) → size_of (λ s. s.rows) forms (parts_of forms ts) ≡ Gives a
      → IsWorth x (exact (functions.of_one rows_of (map exact (all_evaluated values ts)))) a
  rows_of_true none h a e = error_worth x kind.Value a e
  rows_of_true (more t none) h a e = rows_true x forms values agree t h.0 a e
  rows_of_true (more t (more u ts)) h a e = error_worth x kind.Value a e

  pub columns_of_true : (ts : Trees) → ArePartsTrue x forms values ts → (a : AbsArg) → size_of (λ s. s.columns) forms (parts_of forms ts) ≡ Gives a
      → IsWorth x (exact (functions.of_one columns_of (map exact (all_evaluated values ts)))) a
  columns_of_true none h a e = error_worth x kind.Value a e
  columns_of_true (more t none) h a e = columns_true t h.0 a e
  columns_of_true (more t (more u ts)) h a e = error_worth x kind.Value a e

-- a function that looks at all its arguments, by their values
by_values : (x : Assignment) (f : Func) (cs : List (Calculation Arg)) (a : AbsArg) → IsWorth x (exact (called f (map exact cs))) a → IsWorth x (exact (followed_by (for_each (λ c. c) cs) (called f))) a
by_values x f cs a h = subst (λ v. IsWorth x v a) (sym (exact-followed_by (for_each (λ c. c) cs) (called f) ∙ ap (λ vs. exact (called f vs)) (each_exact cs))) h

-- functions that pick from a reference
abbrev pub picks : Func → Bool
picks func.Index = true
picks func.VLookup = true
picks func.HLookup = true
picks func.SumIf = true
picks func.Rows = true
picks func.Columns = true
picks _ = false

pub picks_true : (x : Assignment) (forms : Cell → Option Abs) (values : Cell → Value) → Agree x forms values → (s : Span) (f : Func) (ts : Trees) → picks f ≡ true → ArePartsTrue x forms values ts
    → (a : AbsArg) → call_outcome forms s f (parts_of forms ts) ≡ Gives a → IsWorth x (exact (call_of f (all_evaluated values ts))) a
picks_true x forms values agree s func.Index ts p h a e = by_values x func.Index (all_evaluated values ts) a (index_true x forms values agree s ts h a e)
picks_true x forms values agree s func.VLookup ts p h a e = by_values x func.VLookup (all_evaluated values ts) a (vlookup_true x forms values agree s ts h a e)
picks_true x forms values agree s func.HLookup ts p h a e = by_values x func.HLookup (all_evaluated values ts) a (hlookup_true x forms values agree s ts h a e)
picks_true x forms values agree s func.SumIf ts p h a e = by_values x func.SumIf (all_evaluated values ts) a (sumif_true x forms values agree s ts h a e)
picks_true x forms values agree s func.Rows ts p h a e = by_values x func.Rows (all_evaluated values ts) a (rows_of_true x forms values agree ts h a e)
picks_true x forms values agree s func.Columns ts p h a e = by_values x func.Columns (all_evaluated values ts) a (columns_of_true x forms values agree ts h a e)
picks_true x forms values agree s _ ts p h a e = absurd (true≢false (sym p))
