-- What a plain tree looks at are the cells of its references, from left to right.
use Rattle.std.proofs.Common.{◌≡◌, ◌∙◌, true, List, [], ◌∷◌, ◌++◌, Option, ap₂, refl, sym, subst, map, append-nil}
use Rattle.std.specs.Prelude.{flat_map, Contains}
use Rattle.std.proofs.lemmas.List.Concat.{flat_map-append}
use Rattle.cell_refs.specs.Areas.{Area, cells_of}
use Rattle.cell_refs.specs.declared.cell.Cell.{Cell}
use Rattle.formula_ast.specs.Measures.{listed, references_of, all_references_of}
use Rattle.formula_ast.specs.Tree.{Tree, Trees, none, more}
use Rattle.formula_ast.specs.Tree as tree
use Rattle.formula_ast.specs.declared.func.Func.{Func}
use Rattle.formula_ast.specs.declared.func.Func.TheVariants as func
use Rattle.form_values.specs.declared.abs.Abs.{Abs}
use Rattle.form_values.specs.declared.abs.AbsArg.{AbsArg}
use Rattle.recalculation.specs.Evaluation.{grid_of_areas}
use Rattle.recalculation.specs.Looks.{Argument, all_looks, call_looks}
use Rattle.recalculation.specs.Walks.{refers}
use Rattle.recalculation.proofs.Lists.{first_true, second_true}
use Rattle.recalculation.proofs.WithinAreas.{referred_are_cells}
use Rattle.form_extraction.specs.Deciding.{by_form}
use Rattle.form_extraction.specs.Formulas.{part_of, parts_of}
use Rattle.form_extraction.specs.Parts.{argument}
use Rattle.plain_formulas.specs.Plain.{PlainLooksAtAll, are_plain, is_plain, takes_all}

-- the cells of a reference
grid_looks : (areas : List Area) → (grid_of_areas areas).cells ≡ flat_map cells_of areas
grid_looks [] = refl
grid_looks (a ∷ []) = sym (append-nil (cells_of a))
grid_looks (a ∷ b ∷ areas) = refl

-- a function that takes all its arguments looks at all at which these look
takes_looks : (forms : Cell → Option Abs) (f : Func) (args : List (Argument AbsArg)) → takes_all f ≡ true → call_looks by_form forms f args ≡ all_looks args
takes_looks forms func.If args h = absurd cc
takes_looks forms func.IfError args h = absurd cc
takes_looks forms func.Choose args h = absurd cc
takes_looks forms func.Index args h = absurd cc
takes_looks forms func.VLookup args h = absurd cc
takes_looks forms func.HLookup args h = absurd cc
takes_looks forms func.SumIf args h = absurd cc
takes_looks forms func.Rows args h = absurd cc
takes_looks forms func.Columns args h = absurd cc
takes_looks forms _ args h = refl

mutual
  looks : (forms : Cell → Option Abs) (t : Tree) → is_plain t ≡ true → (part_of forms t).looks ≡ flat_map cells_of (references_of t)
  looks forms (tree.Number s x) h = refl
  looks forms (tree.Text s x) h = refl
  looks forms (tree.Logical s x) h = refl
  looks forms (tree.Fault s x) h = refl
  looks forms (tree.Missing s) h = refl
  looks forms (tree.Array s rows columns items) h = absurd cc
  looks forms (tree.Reference s areas) h = grid_looks (listed areas)
  looks forms (tree.Call s f args) h =
      takes_looks forms f (map argument (parts_of forms args)) (first_true (takes_all f) (are_plain args) h) ∙ all_look forms args (second_true (takes_all f) (are_plain args) h)
  looks forms (tree.Plus s x) h = looks forms x h
  looks forms (tree.Minus s x) h = looks forms x h
  looks forms (tree.Percent s x) h = looks forms x h
  looks forms (tree.Infix s o x y) h =
      ap₂ ◌++◌ (looks forms x (first_true (is_plain x) (is_plain y) h)) (looks forms y (second_true (is_plain x) (is_plain y) h)) ∙ sym (flat_map-append cells_of (references_of x) (references_of y))
  looks forms (tree.WideNumber s x) h = refl
  looks forms (tree.Name s x) h = refl
  looks forms (tree.Unknown s name args) h = absurd cc

  all_look : (forms : Cell → Option Abs) (ts : Trees) → are_plain ts ≡ true → all_looks (map argument (parts_of forms ts)) ≡ flat_map cells_of (all_references_of ts)
  all_look forms none h = refl
  all_look forms (more t ts) h =
      ap₂ ◌++◌ (looks forms t (first_true (is_plain t) (are_plain ts) h)) (all_look forms ts (second_true (is_plain t) (are_plain ts) h)) ∙ sym (flat_map-append cells_of (references_of t) (all_references_of ts))

pub plain_looks_at_all : PlainLooksAtAll
plain_looks_at_all forms t b h =
    let e = looks forms t h in
    let r = referred_are_cells t b in
    (λ there. r.1 (subst (λ cells. Contains cells b) e there), λ refers. subst (λ cells. Contains cells b) (sym e) (r.0 refers))
