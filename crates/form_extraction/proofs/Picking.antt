-- Functions that pick from a reference, under an assignment.
use Rattle.std.specs.Prelude.{◌≡◌, slice_get, slice_index_or, ◌+◌, ◌-◌, ◌*◌, flat_map, ◌++◌}
use Rattle.std.proofs.Common.{refl, sym, ap, ap₂, ◌∙◌, subst, List, [], ◌∷◌, map, Option, Some, None, ℕ, zero, suc, pos}
use Rattle.std.specs.List.{AllByRecursion}
use Rattle.fractions.specs.Whole.{whole_ℚ}
use Rattle.calculations.specs.Calculation.{exact}
use Rattle.cell_refs.specs.declared.cell.Cell.{Cell}
use Rattle.formula_ast.specs.Tree.{Tree, Trees, none, more}
use Rattle.formula_ast.specs.Tree as tree
use Rattle.formula_ast.specs.Measures.{listed}
use Rattle.sheet_model.specs.Grids.{Rectangle}
use Rattle.sheet_model.specs.Operators.{single}
use Rattle.sheet_model.specs.declared.value.Value.{Value}
use Rattle.sheet_model.specs.declared.value.Value.TheVariants.{Number, Empty}
use Rattle.sheet_model.specs.declared.grid.Arg.TheVariants as arg
use Rattle.sheet_funcs.specs.Arguments.{value_of}
use Rattle.sheet_funcs.specs.Arguments as functions
use Rattle.sheet_funcs.specs.Picks.{from_to, elements_in, taken_from}
use Rattle.sheet_funcs.specs.declared.pick.Pick.{Pick}
use Rattle.sheet_funcs.specs.declared.pick.Pick.TheVariants.{Part as Picked, Fault}
use Rattle.recalculation.specs.Evaluation.{CellGrid, grid_of_areas, values_in, evaluated}
use Rattle.affine_forms.specs.Forms.{Assignment}
use Rattle.form_values.specs.Meaning.{abs_at, arg_at}
use Rattle.form_values.proofs.Opening.{IsAbs, IsSound}
use Rattle.form_values.specs.declared.abs.Abs.{Abs}
use Rattle.form_values.specs.declared.abs.Abs.TheVariants.{Known}
use Rattle.form_values.specs.declared.abs.AbsArg.{AbsArg}
use Rattle.form_values.specs.declared.abs.AbsArg.TheVariants.{One, Area}
use Rattle.form_table.specs.Wanted.{grid_of}
use Rattle.form_truth.proofs.Choosing.{single_sound}
use Rattle.form_truth.proofs.Singles.{single_at}
use Rattle.form_extraction.specs.declared.forms.Outcome.{Outcome}
use Rattle.form_extraction.specs.declared.forms.Outcome.TheVariants.{Gives}
use Rattle.recalculation.specs.Looks.{both}
use Rattle.form_extraction.specs.Sources.{Source, of_cells, of_raster, in_source, on_source, element, elements_at, on_elements, part_places}
use Rattle.form_extraction.specs.Calls.{raster, picked_from, size_of}
use Rattle.form_extraction.specs.Formulas.{part_of}
use Rattle.form_extraction.proofs.Worth.{IsWorth, Agree, PartIsTrue}
use Rattle.form_extraction.proofs.Parts.{given_first}
use Rattle.form_extraction.proofs.Choices.{error_worth}

-- ---- sources and the grids that they stand for
pub record Matches (x : Assignment) (s : Source) (r : Rectangle) : Type 0 where
  pub rows : s.rows ≡ r.rows
  pub columns : s.columns ≡ r.columns
  pub items : (i : ℕ) (b : Abs) → element (slice_get s.items i) ≡ Some b → IsAbs b × (slice_index_or r.items i Empty ≡ abs_at x b)

module _ (x : Assignment) (forms : Cell → Option Abs) (values : Cell → Value) (agree : Agree x forms values) where
  cells_match : (cells : List Cell) (i : ℕ) (b : Abs) → element (slice_get (map forms cells) i) ≡ Some b → IsAbs b × (slice_index_or (map values cells) i Empty ≡ abs_at x b)
  cells_match [] i b e = let s : Known Empty ≡ b = cc in (subst IsAbs s tt, ap (abs_at x) s)
  cells_match (c ∷ cells) zero b e = (agree.sound c b e, agree.same c b e)
  cells_match (c ∷ cells) (suc i) b e = cells_match cells i b e

  items_match : (items : List Abs) → AllByRecursion IsAbs items → (i : ℕ) (b : Abs) → element (slice_get (map Some items) i) ≡ Some b → IsAbs b × (slice_index_or (map (abs_at x) items) i Empty ≡ abs_at x b)
  items_match [] h i b e = let s : Known Empty ≡ b = cc in (subst IsAbs s tt, ap (abs_at x) s)
  items_match (a ∷ items) h zero b e = let s : a ≡ b = cc in (subst IsAbs s h.0, ap (abs_at x) s)
  items_match (a ∷ items) h (suc i) b e = items_match items h.1 i b e

  pub grid_match : (a : AbsArg) → IsSound a → Matches x (of_raster (grid_of a)) (functions.grid_of (arg_at x a))
  grid_match (One a) h = record { rows = refl; columns = refl; items = items_match (a ∷ []) h }
  grid_match (Area g) h = record { rows = refl; columns = refl; items = items_match g.items h }

  -- a part that is a reference has the grid of its cells
  pub reference_grid : (t : Tree) (g : CellGrid) → (part_of forms t).reference ≡ Some g → exact (evaluated values t) ≡ arg.Area (values_in values g)
  reference_grid (tree.Reference s areas) g e = let p : grid_of_areas (listed areas) ≡ g = cc in ap (λ g. arg.Area (values_in values g)) p
  reference_grid (tree.Plus s t) g e = reference_grid t g e
  reference_grid (tree.Number s y) g e = cc
  reference_grid (tree.Text s y) g e = cc
  reference_grid (tree.Logical s y) g e = cc
  reference_grid (tree.Fault s y) g e = cc
  reference_grid (tree.Missing s) g e = cc
  reference_grid (tree.Array s rows columns items) g e = cc
  reference_grid (tree.Call s f args) g e = cc
  reference_grid (tree.Minus s t) g e = cc
  reference_grid (tree.Percent s t) g e = cc
  reference_grid (tree.Infix s o t u) g e = cc
  reference_grid (tree.WideNumber s y) g e = cc
  reference_grid (tree.Name s n) g e = cc
  reference_grid (tree.Unknown s n args) g e = cc

  -- the forms of a grid of cells and their values
  pub grid_matches : (g : CellGrid) → Matches x (of_cells forms g) (values_in values g)
  grid_matches g = record { rows = refl; columns = refl; items = cells_match g.cells }

  -- so its source is that of these cells
  pub cells_source : (t : Tree) (g : CellGrid) → (part_of forms t).reference ≡ Some g → Matches x (of_cells forms g) (functions.grid_of (exact (evaluated values t)))
  cells_source t g e =
      subst (λ v. Matches x (of_cells forms g) (functions.grid_of v)) (sym (reference_grid t g e)) (record { rows = refl; columns = refl; items = cells_match g.cells })

  -- the source of a part
  pub record Sourced (t : Tree) (f : Source → Outcome) (a : AbsArg) : Type 0 where
    pub source : Source
    pub matches : Matches x source (functions.grid_of (exact (evaluated values t)))
    pub goes : f source ≡ Gives a

  pub source_first : (t : Tree) → PartIsTrue x forms values t → (f : Source → Outcome) (a : AbsArg) → on_source forms (part_of forms t) f ≡ Gives a → Sourced t f a
  source_first t h f a e = by_reference (part_of forms t).reference refl e
    where
      by_reference : (r : Option CellGrid) → (part_of forms t).reference ≡ r → in_source r forms (part_of forms t) f ≡ Gives a → Sourced t f a
      by_reference (Some g) d e =
          record {
            source = of_cells forms g;
            matches = cells_source t g d;
            goes = e;
          }
      by_reference None d e =
          let g = given_first (part_of forms t).outcome (λ a. f (of_raster (grid_of a))) a e in
          let r = h g.value g.is in
          record { source = of_raster (grid_of g.value); matches = subst (λ v. Matches x (of_raster (grid_of g.value)) (functions.grid_of v)) (sym r.1) (grid_match g.value r.0); goes = g.goes }

  -- ---- ROWS and COLUMNS
  pub rows_true : (t : Tree) → PartIsTrue x forms values t → (a : AbsArg) → size_of (λ s. s.rows) forms (part_of forms t ∷ []) ≡ Gives a
      → IsWorth x (arg.One (Number (whole_ℚ (pos (functions.grid_of (exact (evaluated values t))).rows)))) a
  rows_true t h a e =
      let s = source_first t h (λ s. Gives (One (Known (Number (whole_ℚ (pos s.rows)))))) a e in
      let q : One (Known (Number (whole_ℚ (pos s.source.rows)))) ≡ a = let r = s.goes in cc in
      subst (IsWorth x _) q ((tt, tt), ap (λ n. arg.One (Number (whole_ℚ (pos n)))) (sym s.matches.rows))

  -- ---- INDEX
  -- elements in some places
  pub taken_match : (s : Source) (r : Rectangle) → Matches x s r → (places : List ℕ) (items : List Abs) → elements_at s places ≡ Some items
      → AllByRecursion IsAbs items × (map (λ i. slice_index_or r.items i Empty) places ≡ map (abs_at x) items)
  taken_match s r m [] items e = let q : [] ≡ items = cc in subst (λ items. AllByRecursion IsAbs items × ([] ≡ map (abs_at x) items)) q (tt, refl)
  taken_match s r m (i ∷ places) items e = by_first (element (slice_get s.items i)) refl (elements_at s places) refl e (λ others d. taken_match s r m places others d)
    where
      by_first : (o : Option Abs) → element (slice_get s.items i) ≡ o → (os : Option (List Abs)) → elements_at s places ≡ os → both o os ≡ Some items
          → ((others : List Abs) → elements_at s places ≡ Some others → AllByRecursion IsAbs others × (map (λ i. slice_index_or r.items i Empty) places ≡ map (abs_at x) others))
          → AllByRecursion IsAbs items × (slice_index_or r.items i Empty ∷ map (λ i. slice_index_or r.items i Empty) places ≡ map (abs_at x) items)
      by_first None c os d h ih = cc
      by_first (Some b) c None d h ih = cc
      by_first (Some b) c (Some others) d h ih =
          let q : b ∷ others ≡ items = cc in
          let m = m.items i b c in
          let w = ih others d in
          subst (λ items. AllByRecursion IsAbs items × (slice_index_or r.items i Empty ∷ map (λ i. slice_index_or r.items i Empty) places ≡ map (abs_at x) items)) q
          ((m.0, w.0), ap₂ (λ v vs. v ∷ vs) m.1 w.1)

  map_append : {A B : Type 0} (f : A → B) (xs ys : List A) → map f (xs ++ ys) ≡ map f xs ++ map f ys
  map_append f [] ys = refl
  map_append f (y ∷ xs) ys = let e = map_append f xs ys in λ i. f y ∷ (e i)

  pub map_map : {A B C : Type 0} (f : B → C) (g : A → B) (xs : List A) → map f (map g xs) ≡ map (λ a. f (g a)) xs
  map_map f g [] = refl
  map_map f g (y ∷ xs) = let e = map_map f g xs in λ i. f (g y) ∷ (e i)

  map_rows : (f : ℕ → Value) (cell : ℕ → ℕ → ℕ) (columns rows : List ℕ)
      → map f (flat_map (λ row. map (λ column. cell row column) columns) rows) ≡ flat_map (λ row. map (λ column. f (cell row column)) columns) rows
  map_rows f cell columns [] = refl
  map_rows f cell columns (row ∷ rows) =
      map_append f (map (λ column. cell row column) columns) _ ∙ ap₂ (λ a b. a ++ b) (map_map f (λ column. cell row column) columns) (map_rows f cell columns rows)

  elements_match : (s : Source) (r : Rectangle) → Matches x s r → (top left bottom right : ℕ)
      → map (λ i. slice_index_or r.items i Empty) (part_places s top left bottom right) ≡ elements_in r top left bottom right
  elements_match s r m top left bottom right =
      map_rows (λ i. slice_index_or r.items i Empty) (λ row column. row * s.columns + column) (from_to left right) (from_to top bottom)
      ∙ ap (λ n. flat_map (λ row. map (λ column. slice_index_or r.items (row * n + column) Empty) (from_to left right)) (from_to top bottom)) m.columns

  pub raster_worth : (rows columns : ℕ) (items : List Abs) (vs : List Value) → AllByRecursion IsAbs items → vs ≡ map (abs_at x) items
      → IsWorth x (single (arg.Area (record { rows = rows; columns = columns; items = vs }))) (raster rows columns items)
  raster_worth rows columns items vs h e = (
    single_sound (Area (record { rows = rows; columns = columns; items = items })) h,
    ap (λ vs. single (arg.Area (record { rows = rows; columns = columns; items = vs }))) e ∙ single_at x (Area (record { rows = rows; columns = columns; items = items })),
  )

  pub on_some : (o : Option (List Abs)) (f : List Abs → Outcome) (a : AbsArg) → on_elements o f ≡ Gives a → (items : List Abs) × (o ≡ Some items) × (f items ≡ Gives a)
  on_some (Some items) f a h = (items, refl, h)
  on_some None f a h = cc

  pub picked_true : (s : Source) (r : Rectangle) → Matches x s r → (pick : Pick) (a : AbsArg) → picked_from s pick ≡ Gives a → IsWorth x (taken_from r pick) a
  picked_true s r m (Picked top left bottom right) a e =
      let o = on_some (elements_at s (part_places s top left bottom right)) _ a e in
      let t = taken_match s r m (part_places s top left bottom right) o.0 o.1 in
      let q : raster (bottom + 1 - top) (right + 1 - left) o.0 ≡ a = let w = o.2 in cc in
      subst (IsWorth x _) q (raster_worth (bottom + 1 - top) (right + 1 - left) o.0 (elements_in r top left bottom right) t.0 (sym (elements_match s r m top left bottom right) ∙ t.1))
  picked_true s r m (Fault k) a e = error_worth x k a e
