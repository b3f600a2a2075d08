-- Parts of formulas that have the values of what they stand for, under one assignment.
use Rattle.std.proofs.Common.{◌≡◌, Option, Some}
use Rattle.std.specs.Prelude.{⊤}
use Rattle.calculations.specs.Calculation.{exact}
use Rattle.cell_refs.specs.declared.cell.Cell.{Cell}
use Rattle.formula_ast.specs.Tree.{Tree, Trees, none, more}
use Rattle.sheet_model.specs.declared.value.Value.{Value}
use Rattle.sheet_model.specs.declared.grid.Arg.{Arg}
use Rattle.recalculation.specs.Evaluation.{evaluated}
use Rattle.affine_forms.specs.Forms.{Assignment}
use Rattle.form_values.specs.Meaning.{abs_at, arg_at}
use Rattle.form_values.proofs.Opening.{IsAbs, IsSound}
use Rattle.form_values.specs.declared.abs.Abs.{Abs}
use Rattle.form_values.specs.declared.abs.AbsArg.{AbsArg}
use Rattle.form_extraction.specs.declared.forms.Outcome.TheVariants.{Gives}
use Rattle.form_extraction.specs.Formulas.{part_of}

-- an open argument has this value
abbrev pub IsWorth : Assignment → Arg → AbsArg → Type 0
IsWorth x v a = IsSound a × (v ≡ arg_at x a)

-- the forms of some cells are their values
pub record Agree (x : Assignment) (forms : Cell → Option Abs) (values : Cell → Value) : Type 0 where
  pub sound : (c : Cell) (a : Abs) → forms c ≡ Some a → IsAbs a
  pub same : (c : Cell) (a : Abs) → forms c ≡ Some a → values c ≡ abs_at x a

-- so is what a part gives
abbrev pub PartIsTrue : Assignment → (Cell → Option Abs) → (Cell → Value) → Tree → Type 0
PartIsTrue x forms values t = (a : AbsArg) → (part_of forms t).outcome ≡ Gives a → IsWorth x (exact (evaluated values t)) a

-- and what each of some parts gives
abbrev pub ArePartsTrue : Assignment → (Cell → Option Abs) → (Cell → Value) → Trees → Type 0
ArePartsTrue x forms values none = ⊤
ArePartsTrue x forms values (more t ts) = PartIsTrue x forms values t × ArePartsTrue x forms values ts
