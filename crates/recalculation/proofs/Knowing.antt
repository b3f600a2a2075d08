-- What a formula looks at, and its narrow value, depend on what is known of the cells of its references alone.
use Rattle.std.proofs.Common.{◌≡◌, ◌&&◌, if◌then◌else◌, List, [], ◌∷◌, ◌++◌, refl, ap, ◌∙◌, Option, Some, None}
use Rattle.std.specs.Prelude.{is_some}
use Rattle.std.specs.List.{AllByRecursion}
use Rattle.calculations.specs.Calculation.{narrow}
use Rattle.cell_refs.specs.declared.cell.Cell.{Cell}
use Rattle.cell_refs.specs.Areas.{Area, cells_of}
use Rattle.formula_ast.specs.Tree.{Tree, Trees, none, more}
use Rattle.formula_ast.specs.Tree as tree
use Rattle.formula_ast.specs.Measures.{references_of, all_references_of}
use Rattle.formula_ast.specs.declared.func.Func.{Func}
use Rattle.formula_ast.specs.declared.func.Func.TheVariants as func
use Rattle.sheet_model.specs.declared.value.Value.{Value}
use Rattle.recalculation.specs.Evaluation.{CellGrid}
use Rattle.recalculation.specs.Looks.{Argument, Deciding, all_looks, both, outcomes, elements, then_cells, picked_cells, column_cells, exchanged, record_looks, table_looks, lookup_looks, call_looks}
use Rattle.recalculation.specs.Looking.{by_value, or_empty, known_or_empty, are_known, outcome_of, reference_in, looked_at, arguments}
use Rattle.recalculation.proofs.Lists.{each_left, each_right, each_weaker}
use Rattle.recalculation.proofs.Reading.{EachOf, OfReference, OfArgument, evaluated_alike, column_among, exchanged_among, looked_among, arguments_among}

-- what a call looks at depends on what is known of the cells of its references alone
module _ {A E : Type 0} (d : Deciding A E) (f g : Cell → Option E) where
  -- the same element is known of a cell
  abbrev pub AlikeIn : Cell → Type 0
  AlikeIn b = f b ≡ g b

  -- the elements of such cells
  elements_alike : (cells : List Cell) → AllByRecursion AlikeIn cells → elements f cells ≡ elements g cells
  elements_alike [] h = refl
  elements_alike (b ∷ cells) h = let others = elements_alike cells h.1 in λ i. both (h.0 i) (others i)

  -- what a lookup looks at in a grid
  record_alike : (grid : CellGrid) (args : List (Argument A)) → AllByRecursion AlikeIn grid.cells → record_looks d f grid args ≡ record_looks d g grid args
  record_alike grid args h =
      ap (λ o. (all_looks args ++ column_cells grid 0) ++ then_cells o (λ keys. then_cells (outcomes args) (λ vs. then_cells (d.record_pick grid.columns keys vs) (picked_cells grid))))
      (elements_alike (column_cells grid 0) (column_among AlikeIn grid h 0))

  -- what it looks at in a table
  lookup_alike : (turned : CellGrid → CellGrid) → ((grid : CellGrid) → AllByRecursion AlikeIn grid.cells → AllByRecursion AlikeIn (turned grid).cells)
      → (args : List (Argument A)) → AllByRecursion (OfArgument AlikeIn) args → lookup_looks d f turned args ≡ lookup_looks d g turned args
  lookup_alike turned kept [] h = refl
  lookup_alike turned kept (key ∷ []) h = refl
  lookup_alike turned kept (key ∷ table ∷ rest) h = by table.reference h.1.0.1
    where
      by : (o : Option CellGrid) → OfReference AlikeIn o → table_looks d f turned (key ∷ rest) table o ≡ table_looks d g turned (key ∷ rest) table o
      by None all = refl
      by (Some grid) all = record_alike (turned grid) (key ∷ rest) (kept grid all)

  -- what a function looks at
  pub call_alike : (name : Func) (args : List (Argument A)) → AllByRecursion (OfArgument AlikeIn) args → call_looks d f name args ≡ call_looks d g name args
  call_alike func.VLookup args h = lookup_alike (λ grid. grid) (λ grid all. all) args h
  call_alike func.HLookup args h = lookup_alike exchanged (exchanged_among AlikeIn) args h
  call_alike _ args h = refl

module _ (f g : Cell → Option Value) where
  -- the same is known of a cell
  abbrev Alike : Cell → Type 0
  Alike b = f b ≡ g b

  -- whether some cells are known
  known_alike : (cells : List Cell) → AllByRecursion Alike cells → are_known f cells ≡ are_known g cells
  known_alike [] h = refl
  known_alike (b ∷ cells) h = let others = known_alike cells h.1 in λ i. is_some (h.0 i) && (others i)

  -- the narrow value of a formula that looks at cells of its references
  pub outcome_alike : (t : Tree) (cells : List Cell) → EachOf Alike (references_of t) → AllByRecursion Alike cells → outcome_of f t cells ≡ outcome_of g t cells
  outcome_alike t cells h k =
      let tests = known_alike cells k in
      let values = evaluated_alike (known_or_empty f) (known_or_empty g) t
      (each_weaker (λ (a : Area). AllByRecursion Alike (cells_of a)) (λ (a : Area). AllByRecursion (λ b. known_or_empty f b ≡ known_or_empty g b) (cells_of a))
      (λ a. each_weaker Alike (λ b. known_or_empty f b ≡ known_or_empty g b) (λ b e. ap or_empty e) (cells_of a)) (references_of t) h) in
      λ i. if (tests i) then narrow (values i) else None

  mutual
    -- what a formula looks at
    pub looked_alike : (t : Tree) → EachOf Alike (references_of t) → looked_at f t ≡ looked_at g t
    looked_alike (tree.Call s name args) h = call_alike by_value f g name (arguments f args) (arguments_among Alike f args h) ∙ ap (call_looks by_value g name) (arguments_alike args h)
    looked_alike (tree.Plus s x) h = looked_alike x h
    looked_alike (tree.Minus s x) h = looked_alike x h
    looked_alike (tree.Percent s x) h = looked_alike x h
    looked_alike (tree.Infix s o x y) h =
        let left = looked_alike x (each_left _ (references_of x) (references_of y) h) in
        let right = looked_alike y (each_right _ (references_of x) (references_of y) h) in
        λ i. (left i) ++ (right i)
    looked_alike (tree.Reference s areas) h = refl
    looked_alike (tree.Number s x) h = refl
    looked_alike (tree.Text s t) h = refl
    looked_alike (tree.Logical s b) h = refl
    looked_alike (tree.Fault s k) h = refl
    looked_alike (tree.Missing s) h = refl
    looked_alike (tree.Array s rows columns items) h = refl
    looked_alike (tree.WideNumber s x) h = refl
    looked_alike (tree.Name s name) h = refl
    looked_alike (tree.Unknown s name args) h = refl

    -- its arguments
    arguments_alike : (ts : Trees) → EachOf Alike (all_references_of ts) → arguments f ts ≡ arguments g ts
    arguments_alike none h = refl
    arguments_alike (more t ts) h =
        let own = each_left _ (references_of t) (all_references_of ts) h in
        let looks = looked_alike t own in
        let outcome = outcome_alike t (looked_at f t) own (looked_among Alike f t own) ∙ ap (outcome_of g t) looks in
        let others = arguments_alike ts (each_right _ (references_of t) (all_references_of ts) h) in
        λ i. record { looks = looks i; outcome = outcome i; reference = reference_in t } ∷ (others i)

  -- its value where all of that is known
  pub outcomes_alike : (t : Tree) → EachOf Alike (references_of t) → outcome_of f t (looked_at f t) ≡ outcome_of g t (looked_at g t)
  outcomes_alike t h = outcome_alike t (looked_at f t) h (looked_among Alike f t h) ∙ ap (outcome_of g t) (looked_alike t h)
