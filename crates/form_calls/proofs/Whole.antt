-- Calls of functions that look at all of their arguments.
use Rattle.std.proofs.Common.{◌≡◌, refl, true, List, map, Option, None}
use Rattle.cell_refs.specs.declared.cell.Cell.{Cell}
use Rattle.cell_refs.specs.declared.span.Span.{Span}
use Rattle.formula_ast.specs.declared.func.Func.{Func}
use Rattle.formula_ast.specs.declared.func.Func.TheVariants as func
use Rattle.recalculation.specs.Looks.{all_looks}
use Rattle.form_values.specs.declared.abs.Abs.{Abs}
use Rattle.form_table.specs.Table.{form_called}
use Rattle.form_extraction.specs.Formulas.{call_part}
use Rattle.form_extraction.specs.Parts.{Part, argument, on_parts, outcome_by}
use Rattle.form_parts.specs.FromFormFunctions.{is_whole}

pub whole_call : (forms : Cell → Option Abs) (at : Span) (f : Func) (ps : List Part) → is_whole f ≡ true
    → record { span = at; looks = all_looks (map argument ps); outcome = on_parts ps (λ args. outcome_by at ps (form_called f args)); reference = None } ≡ call_part forms at f ps
whole_call forms at func.If ps e = cc
whole_call forms at func.IfError ps e = cc
whole_call forms at func.Choose ps e = cc
whole_call forms at func.Index ps e = cc
whole_call forms at func.VLookup ps e = cc
whole_call forms at func.HLookup ps e = cc
whole_call forms at func.SumIf ps e = cc
whole_call forms at func.Rows ps e = cc
whole_call forms at func.Columns ps e = cc
whole_call forms at func.Sum ps e = refl
whole_call forms at func.Average ps e = refl
whole_call forms at func.Count ps e = refl
whole_call forms at func.SumProduct ps e = refl
whole_call forms at func.MMult ps e = refl
whole_call forms at func.Transpose ps e = refl
whole_call forms at func.Match ps e = refl
whole_call forms at func.CountIf ps e = refl
whole_call forms at func.And ps e = refl
whole_call forms at func.Or ps e = refl
whole_call forms at func.Not ps e = refl
whole_call forms at func.True ps e = refl
whole_call forms at func.False ps e = refl
whole_call forms at func.Abs ps e = refl
whole_call forms at func.Min ps e = refl
whole_call forms at func.Max ps e = refl
whole_call forms at func.Int ps e = refl
whole_call forms at func.Mod ps e = refl
whole_call forms at func.Round ps e = refl
whole_call forms at func.Power ps e = refl
whole_call forms at func.N ps e = refl
whole_call forms at func.IsNumber ps e = refl
whole_call forms at func.IsBlank ps e = refl
