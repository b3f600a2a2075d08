-- The form table as a whole.
use Rattle.std.proofs.Common.{◌≡◌, subst, false, true≢false, List, [], ◌∷◌, Result, Ok, Err, refl}
use Rattle.calculations.specs.Calculation.{exact}
use Rattle.formula_ast.specs.declared.func.Func.{Func}
use Rattle.formula_ast.specs.declared.func.Func.TheVariants as func
use Rattle.sheet_model.specs.declared.grid.Arg.{Arg}
use Rattle.affine_forms.specs.Forms.{Assignment}
use Rattle.form_values.specs.Trials.{Refusal}
use Rattle.form_values.specs.declared.abs.AbsArg.{AbsArg}
use Rattle.form_table.specs.Table.{form_called}
use Rattle.form_truth.specs.Rows.{Represents, IsOutcome}
use Rattle.form_truth.specs.Laws.{called_at, CallIsRight}
use Rattle.form_truth.specs.Products.{FactorsBend, PairBends}
use Rattle.form_truth.specs.Table.{is_special, TableIsRight}
use Rattle.form_truth.proofs.Rows.{sum_is_right, average_is_right, count_is_right, min_is_right, max_is_right, abs_is_right, int_is_right, mod_is_right, power_is_right, round_is_right, and_is_right, or_is_right, not_is_right, n_is_right, isnumber_is_right, isblank_is_right, transpose_is_right, match_is_right, countif_is_right, sumproduct_is_right, mmult_is_right, infix_is_right, minus_is_right, percent_is_right, choice_is_right, known_or_row, true_is_right, false_is_right, rows_is_right, columns_is_right}

-- where something is given, it represents the value
given_is : (value : Assignment → Arg) (args : List AbsArg) (B : Type 0) (r : Result AbsArg Refusal) (c : AbsArg) → IsOutcome value args B r → r ≡ Ok c → Represents value c
given_is value args B (Ok a) c h e = let s : a ≡ c = cc in subst (Represents value) s h
given_is value args B (Err r) c h e = cc

call_is : (f : Func) → CallIsRight f → (args : List AbsArg) (c : AbsArg) → exact (form_called f args) ≡ Ok c → Represents (called_at f args) c
call_is f right args c e = given_is (called_at f args) args _ (exact (form_called f args)) c (right args) e

-- MMULT of another number of arguments is an error
matrix : (args : List AbsArg) (c : AbsArg) → exact (form_called func.MMult args) ≡ Ok c → Represents (called_at func.MMult args) c
matrix [] c e = given_is (called_at func.MMult []) [] ⊥ (exact (form_called func.MMult [])) c (known_or_row func.MMult [] ⊥ (λ n. λ x. refl)) e
matrix (a ∷ []) c e = given_is (called_at func.MMult (a ∷ [])) (a ∷ []) ⊥ (exact (form_called func.MMult (a ∷ []))) c (known_or_row func.MMult (a ∷ []) ⊥ (λ n. λ x. refl)) e
matrix (a ∷ b ∷ []) c e = given_is (called_at func.MMult (a ∷ b ∷ [])) (a ∷ b ∷ []) (PairBends a b) (exact (form_called func.MMult (a ∷ b ∷ []))) c (mmult_is_right a b) e
matrix (a ∷ b ∷ d ∷ args) c e =
    given_is (called_at func.MMult (a ∷ b ∷ d ∷ args)) (a ∷ b ∷ d ∷ args) ⊥ (exact (form_called func.MMult (a ∷ b ∷ d ∷ args))) c
    (known_or_row func.MMult (a ∷ b ∷ d ∷ args) ⊥ (λ n. λ x. refl)) e

calls_are : (f : Func) (args : List AbsArg) (c : AbsArg) → is_special f ≡ false → exact (form_called f args) ≡ Ok c → Represents (called_at f args) c
calls_are func.Sum args c s e = call_is func.Sum sum_is_right args c e
calls_are func.Average args c s e = call_is func.Average average_is_right args c e
calls_are func.Count args c s e = call_is func.Count count_is_right args c e
calls_are func.Min args c s e = call_is func.Min min_is_right args c e
calls_are func.Max args c s e = call_is func.Max max_is_right args c e
calls_are func.Abs args c s e = call_is func.Abs abs_is_right args c e
calls_are func.Int args c s e = call_is func.Int int_is_right args c e
calls_are func.Mod args c s e = call_is func.Mod mod_is_right args c e
calls_are func.Power args c s e = call_is func.Power power_is_right args c e
calls_are func.Round args c s e = call_is func.Round round_is_right args c e
calls_are func.And args c s e = call_is func.And and_is_right args c e
calls_are func.Or args c s e = call_is func.Or or_is_right args c e
calls_are func.Not args c s e = call_is func.Not not_is_right args c e
calls_are func.True args c s e = call_is func.True true_is_right args c e
calls_are func.False args c s e = call_is func.False false_is_right args c e
calls_are func.N args c s e = call_is func.N n_is_right args c e
calls_are func.IsNumber args c s e = call_is func.IsNumber isnumber_is_right args c e
calls_are func.IsBlank args c s e = call_is func.IsBlank isblank_is_right args c e
calls_are func.Transpose args c s e = call_is func.Transpose transpose_is_right args c e
calls_are func.Match args c s e = call_is func.Match match_is_right args c e
calls_are func.CountIf args c s e = call_is func.CountIf countif_is_right args c e
calls_are func.SumProduct args c s e = given_is (called_at func.SumProduct args) args (FactorsBend args) (exact (form_called func.SumProduct args)) c (sumproduct_is_right args) e
calls_are func.MMult args c s e = matrix args c e
calls_are func.If args c s e = absurd (true≢false s)
calls_are func.IfError args c s e = absurd (true≢false s)
calls_are func.Choose args c s e = absurd (true≢false s)
calls_are func.Index args c s e = absurd (true≢false s)
calls_are func.VLookup args c s e = absurd (true≢false s)
calls_are func.HLookup args c s e = absurd (true≢false s)
calls_are func.SumIf args c s e = absurd (true≢false s)
calls_are func.Rows args c s e = call_is func.Rows rows_is_right args c e
calls_are func.Columns args c s e = call_is func.Columns columns_is_right args c e

pub table_right : TableIsRight
table_right = record {
  pairs = λ o a b c e. given_is _ (a ∷ b ∷ []) _ _ c (infix_is_right o a b) e;
  minus = λ a c e. given_is _ (a ∷ []) _ _ c (minus_is_right a) e;
  percent = λ a c e. given_is _ (a ∷ []) _ _ c (percent_is_right a) e;
  calls = calls_are;
  choice = λ test one other c t r s e. given_is _ (test ∷ one ∷ other ∷ []) _ _ c (choice_is_right test one other t r s) e;
}
