-- Parts of formulas under an assignment.
use Rattle.std.specs.Prelude.{◌≡◌}
use Rattle.std.proofs.Common.{refl, sym, ap₂, subst, List, [], ◌∷◌, map, Option, Some, None, Ok, Err}
use Rattle.std.specs.List.{AllByRecursion}
use Rattle.calculations.specs.Calculation.{exact, narrow}
use Rattle.calculations.proofs.CalculationLaws.{narrow-exact}
use Rattle.cell_refs.specs.declared.cell.Cell.{Cell}
use Rattle.cell_refs.specs.declared.span.Span.{Span}
use Rattle.formula_ast.specs.Tree.{Tree, Trees, none, more}
use Rattle.formula_ast.specs.Tree as tree
use Rattle.formula_ast.specs.Measures.{listed}
use Rattle.sheet_model.specs.declared.value.Value.{Value}
use Rattle.sheet_model.specs.declared.grid.Arg.{Arg}
use Rattle.sheet_model.specs.declared.grid.Arg.TheVariants as arg
use Rattle.recalculation.specs.Evaluation.{CellGrid, grid_of_areas, values_in}
use Rattle.affine_forms.specs.Forms.{Assignment}
use Rattle.form_values.specs.Meaning.{abs_at, arg_at}
use Rattle.form_values.proofs.Opening.{IsAbs, IsSound}
use Rattle.form_values.specs.Trials.{Trial, Refusal, Breaks, Undecided}
use Rattle.form_values.specs.declared.abs.Abs.{Abs}
use Rattle.form_values.specs.declared.abs.Abs.TheVariants.{Known}
use Rattle.form_values.specs.declared.abs.AbsArg.{AbsArg}
use Rattle.form_values.specs.declared.abs.AbsArg.TheVariants.{Area}
use Rattle.form_values.specs.Known.{known_arg}
use Rattle.form_extraction.specs.Parts.{Part, tried, tried_on, refused_at, on_outcome}
use Rattle.form_extraction.specs.declared.forms.Outcome.{Outcome}
use Rattle.form_extraction.specs.declared.forms.Outcome.TheVariants.{Gives, Refused, Without}
use Rattle.recalculation.specs.Looks.{both, elements}
use Rattle.recalculation.proofs.GridCells.{IsWhole, areas_whole}
use Rattle.form_extraction.specs.Formulas.{part_of, of_forms}
use Rattle.form_extraction.proofs.Worth.{IsWorth, Agree}

-- ---- outcomes with a value
-- what is given after a part, given the part's value
pub record Given (o : Outcome) (f : AbsArg → Outcome) (c : AbsArg) : Type 0 where
  pub value : AbsArg
  pub is : o ≡ Gives value
  pub goes : f value ≡ Gives c

pub given_first : (o : Outcome) (f : AbsArg → Outcome) (c : AbsArg) → on_outcome o f ≡ Gives c → Given o f c
given_first (Gives a) f c h = record { value = a; is = refl; goes = h }
given_first (Refused at why) f c h = cc
given_first Without f c h = cc

pub gives_same : (a c : AbsArg) → Gives a ≡ Gives c → a ≡ c
gives_same a c h = cc

-- what a trial gives on narrow numbers it gives exactly
pub record Tried {A : Type 0} (c : Trial A) (f : A → Outcome) (a : AbsArg) : Type 0 where
  pub value : A
  pub is : exact c ≡ Ok value
  pub goes : f value ≡ Gives a

refused_gives_nothing : (s : Span) (ps : List Part) (r : Refusal) (a : AbsArg) → refused_at s ps r ≡ Gives a → ⊥
refused_gives_nothing s ps Breaks a h = cc
refused_gives_nothing s ps (Undecided i) a h = cc

pub tried_first : {A : Type 0} (s : Span) (ps : List Part) (c : Trial A) (f : A → Outcome) (a : AbsArg) → tried_on s ps c f ≡ Gives a → Tried c f a
tried_first s ps c f a h = by_answer (narrow c) refl h
  where
    by_answer : (o : Option _) → narrow c ≡ o → tried s ps f o ≡ Gives a → Tried c f a
    by_answer None e h = cc
    by_answer (Some (Ok v)) e h = record { value = v; is = narrow-exact c (Ok v) e; goes = h }
    by_answer (Some (Err r)) e h = absurd (refused_gives_nothing s ps r a h)

-- ---- a reference is the whole grid of its cells
pub reference_whole : (forms : Cell → Option Abs) (t : Tree) (g : CellGrid) → (part_of forms t).reference ≡ Some g → IsWhole g
reference_whole forms (tree.Reference s areas) g e = let p : grid_of_areas (listed areas) ≡ g = cc in subst IsWhole p (areas_whole (listed areas))
reference_whole forms (tree.Plus s t) g e = reference_whole forms t g e
reference_whole forms (tree.Number s y) g e = cc
reference_whole forms (tree.Text s y) g e = cc
reference_whole forms (tree.Logical s y) g e = cc
reference_whole forms (tree.Fault s y) g e = cc
reference_whole forms (tree.Missing s) g e = cc
reference_whole forms (tree.Array s rows columns items) g e = cc
reference_whole forms (tree.Call s f args) g e = cc
reference_whole forms (tree.Minus s t) g e = cc
reference_whole forms (tree.Percent s t) g e = cc
reference_whole forms (tree.Infix s o t u) g e = cc
reference_whole forms (tree.WideNumber s y) g e = cc
reference_whole forms (tree.Name s n) g e = cc
reference_whole forms (tree.Unknown s n args) g e = cc

-- ---- known values
known_items : (x : Assignment) (items : List Value) → map (abs_at x) (map Known items) ≡ items
known_items x [] = refl
known_items x (v ∷ items) = let e = known_items x items in λ i. v ∷ (e i)

pub known_at : (x : Assignment) (v : Arg) → arg_at x (known_arg v) ≡ v
known_at x (arg.One v) = refl
known_at x (arg.Area g) = let e = known_items x g.items in λ i. arg.Area (record { rows = g.rows; columns = g.columns; items = e i })

are_known : (items : List Value) → AllByRecursion IsAbs (map Known items)
are_known [] = tt
are_known (v ∷ items) = (tt, are_known items)

pub known_abs : (v : Arg) → IsSound (known_arg v)
known_abs (arg.One v) = (tt, tt)
known_abs (arg.Area g) = are_known g.items

pub plain_true : (x : Assignment) (v : Arg) (a : AbsArg) → Gives (known_arg v) ≡ Gives a → IsWorth x v a
plain_true x v a h = let e : known_arg v ≡ a = gives_same _ _ h in subst (IsWorth x v) e (known_abs v, sym (known_at x v))

module _ (x : Assignment) (forms : Cell → Option Abs) (values : Cell → Value) (agree : Agree x forms values) where
  -- ---- references
  cells_true : (cells : List Cell) (items : List Abs) → elements forms cells ≡ Some items → AllByRecursion IsAbs items × (map values cells ≡ map (abs_at x) items)
  cells_true [] items h = let e : items ≡ [] = cc in subst (λ items. AllByRecursion IsAbs items × ([] ≡ map (abs_at x) items)) (sym e) (tt, refl)
  cells_true (c ∷ cells) items h = by_first (forms c) refl (elements forms cells) refl h (λ items e. cells_true cells items e)
    where
      by_first : (o : Option Abs) → forms c ≡ o → (os : Option (List Abs)) → elements forms cells ≡ os → both o os ≡ Some items
          → ((items : List Abs) → elements forms cells ≡ Some items → AllByRecursion IsAbs items × (map values cells ≡ map (abs_at x) items))
          → AllByRecursion IsAbs items × (values c ∷ map values cells ≡ map (abs_at x) items)
      by_first None e os d h ih = cc
      by_first (Some a) e None d h ih = cc
      by_first (Some a) e (Some others) d h ih =
          let s : a ∷ others ≡ items = cc in
          let r = ih others d in
          subst (λ items. AllByRecursion IsAbs items × (values c ∷ map values cells ≡ map (abs_at x) items)) s
          ((agree.sound c a e, r.0), ap₂ (λ v vs. v ∷ vs) (agree.same c a e) r.1)

  pub reference_true : (g : CellGrid) (a : AbsArg) (o : Option (List Abs)) → elements forms g.cells ≡ o → of_forms g o ≡ Gives a → IsWorth x (arg.Area (values_in values g)) a
  reference_true g a None e h = cc
  reference_true g a (Some items) e h =
      let s : Area (record { rows = g.rows; columns = g.columns; items = items }) ≡ a = gives_same _ _ h in
      let r = cells_true g.cells items e in
      subst (IsWorth x (arg.Area (values_in values g))) s (r.0, λ i. arg.Area (record { rows = g.rows; columns = g.columns; items = r.1 i }))
