-- The form table as a whole: what it gives of arguments is their value under every assignment, of all operators, of IF with an
-- open test, and of all functions that look at all of their arguments.
use Rattle.std.specs.Prelude.{◌≡◌, Bool, true, false, List, Some, Ok}
use Rattle.calculations.specs.Calculation.{exact}
use Rattle.cell_refs.specs.declared.op.Op.{Op}
use Rattle.formula_ast.specs.declared.func.Func.{Func}
use Rattle.formula_ast.specs.declared.func.Func.TheVariants as func
use Rattle.sheet_model.specs.Operators.{infix_of, minus_of, percent_of}
use Rattle.affine_forms.specs.Forms.{AffineForm}
use Rattle.affine_forms.specs.declared.rel.Rel.{Rel}
use Rattle.form_values.specs.Meaning.{arg_at}
use Rattle.form_values.specs.declared.abs.AbsArg.{AbsArg}
use Rattle.form_table.specs.Wanted.{value_of}
use Rattle.form_table.specs.Operators.{infix_form, minus_form, percent_form}
use Rattle.form_table.specs.Choosing.{if_test}
use Rattle.form_table.specs.Table.{form_called}
use Rattle.form_truth.specs.Rows.{Represents}
use Rattle.form_truth.specs.Laws.{called_at, asked, chosen}

-- a function that looks at one of its arguments after the other, or not at all of a reference, so that it has no row of its own
abbrev pub is_special : Func → Bool
is_special func.If = true
is_special func.IfError = true
is_special func.Choose = true
is_special func.Index = true
is_special func.VLookup = true
is_special func.HLookup = true
is_special func.SumIf = true
is_special _ = false

-- what is given represents the value of the operator or function
pub record TableIsRight : Type 0 where
  pub pairs : (o : Op) (a b c : AbsArg) → exact (infix_form o a b) ≡ Ok c → Represents (λ x. exact (infix_of o (arg_at x a) (arg_at x b))) c
  pub minus : (a c : AbsArg) → exact (minus_form a) ≡ Ok c → Represents (λ x. exact (minus_of (arg_at x a))) c
  pub percent : (a c : AbsArg) → exact (percent_form a) ≡ Ok c → Represents (λ x. exact (percent_of (arg_at x a))) c
  pub calls : (f : Func) (args : List AbsArg) (c : AbsArg) → is_special f ≡ false → exact (form_called f args) ≡ Ok c → Represents (called_at f args) c
  pub choice : (test one other c : AbsArg) (t : AffineForm) (r : Rel) → asked (value_of test) ≡ Some (t, r) → exact (if_test t r one other) ≡ Ok c
      → Represents (λ x. exact (chosen (arg_at x test) (arg_at x one) (arg_at x other))) c
