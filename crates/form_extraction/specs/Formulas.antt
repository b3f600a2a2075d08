-- The form of a formula over the forms of cells: operands from left to right, then the operator.
use Rattle.std.specs.Prelude.{List, [], ◌∷◌, ◌++◌, map, Option, Some, None}
use Rattle.cell_refs.specs.declared.cell.Cell.{Cell}
use Rattle.cell_refs.specs.declared.span.Span.{Span}
use Rattle.cell_refs.specs.declared.op.Op.{Op}
use Rattle.cell_refs.specs.declared.error_kind.ErrorKind.TheVariants as kind
use Rattle.formula_ast.specs.Tree.{Tree, Trees, none, more}
use Rattle.formula_ast.specs.Tree as tree
use Rattle.formula_ast.specs.Measures.{listed}
use Rattle.formula_ast.specs.declared.func.Func.{Func}
use Rattle.sheet_model.specs.declared.value.Value.TheVariants.{Number, Text, Logical, Empty, Error}
use Rattle.sheet_model.specs.declared.grid.Arg.{Arg}
use Rattle.sheet_model.specs.declared.grid.Arg.TheVariants as arg
use Rattle.recalculation.specs.Evaluation.{CellGrid, grid_of_areas, literals}
use Rattle.recalculation.specs.Looks.{elements, call_looks}
use Rattle.form_values.specs.Trials.{Trial}
use Rattle.form_values.specs.declared.abs.Abs.{Abs}
use Rattle.form_values.specs.declared.abs.AbsArg.{AbsArg}
use Rattle.form_values.specs.declared.abs.AbsArg.TheVariants.{Area}
use Rattle.form_values.specs.Known.{known_arg}
use Rattle.form_table.specs.Operators.{infix_form, minus_form, percent_form}
use Rattle.form_extraction.specs.Parts.{Part, argument, outcome_by, on_part}
use Rattle.form_extraction.specs.declared.forms.Outcome.{Outcome}
use Rattle.form_extraction.specs.declared.forms.Outcome.TheVariants.{Gives, Without}
use Rattle.form_extraction.specs.Calls.{call_outcome}
use Rattle.form_extraction.specs.Deciding.{by_form}

-- a part that looks at nothing
abbrev pub plain : Span → Arg → Part
plain at v = record { span = at; looks = []; outcome = Gives (known_arg v); reference = None }

-- a reference
abbrev pub of_forms : CellGrid → Option (List Abs) → Outcome
of_forms g (Some items) = Gives (Area (record { rows = g.rows; columns = g.columns; items = items }))
of_forms g None = Without

abbrev pub referred : (Cell → Option Abs) → Span → CellGrid → Part
referred forms at g = record { span = at; looks = g.cells; outcome = of_forms g (elements forms g.cells); reference = Some g }

-- an operator in front or behind; a plus changes nothing, so that a reference stays one
abbrev pub signed : Span → Part → Part
signed at p = record { span = at; looks = p.looks; outcome = p.outcome; reference = p.reference }

abbrev pub turned : Span → (AbsArg → Trial AbsArg) → Part → Part
turned at f p = record { span = at; looks = p.looks; outcome = on_part p (λ a. outcome_by at (p ∷ []) (f a)); reference = None }

-- an operator between two parts
abbrev pub joined : Span → Op → Part → Part → Part
joined at o p q =
    record {
      span = at;
      looks = p.looks ++ q.looks;
      outcome = on_part p (λ a. on_part q (λ b. outcome_by at (p ∷ q ∷ []) (infix_form o a b)));
      reference = None;
    }

-- a call
abbrev pub call_part : (Cell → Option Abs) → Span → Func → List Part → Part
call_part forms at f ps = record { span = at; looks = call_looks by_form forms f (map argument ps); outcome = call_outcome forms at f ps; reference = None }

abbrev mutual
  -- a part of a formula over the forms of cells
  pub part_of : (Cell → Option Abs) → Tree → Part
  part_of forms (tree.Number s x) = plain s (arg.One (Number x))
  part_of forms (tree.Text s t) = plain s (arg.One (Text t))
  part_of forms (tree.Logical s b) = plain s (arg.One (Logical b))
  part_of forms (tree.Fault s k) = plain s (arg.One (Error k))
  part_of forms (tree.Missing s) = plain s (arg.One Empty)
  part_of forms (tree.Array s rows columns items) = plain s (arg.Area (record { rows = rows; columns = columns; items = literals items }))
  part_of forms (tree.Reference s areas) = referred forms s (grid_of_areas (listed areas))
  part_of forms (tree.Call s f args) = call_part forms s f (parts_of forms args)
  part_of forms (tree.Plus s x) = signed s (part_of forms x)
  part_of forms (tree.Minus s x) = turned s minus_form (part_of forms x)
  part_of forms (tree.Percent s x) = turned s percent_form (part_of forms x)
  part_of forms (tree.Infix s o x y) = joined s o (part_of forms x) (part_of forms y)
  part_of forms (tree.WideNumber s x) = plain s (arg.One (Error kind.Malformed))
  part_of forms (tree.Name s name) = plain s (arg.One (Error kind.Malformed))
  part_of forms (tree.Unknown s name args) = plain s (arg.One (Error kind.Malformed))

  pub parts_of : (Cell → Option Abs) → Trees → List Part
  parts_of forms none = []
  parts_of forms (more t ts) = part_of forms t ∷ parts_of forms ts
