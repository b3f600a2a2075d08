-- The cells of the references of a formula: its value depends on them alone, and it looks at no other.
use Rattle.std.proofs.Common.{◌≡◌, ℕ, zero, suc, Bool, true, false, if◌then◌else◌, List, [], ◌∷◌, ◌++◌, refl, ap, Option, Some, None, Result, Ok, Err}
use Rattle.std.specs.Prelude.{map, flat_map, filter, zip, slice_get, option_to_list, is_some, ⊤}
use Rattle.std.specs.List.{AllByRecursion}
use Rattle.calculations.specs.Calculation.{done, followed_by}
use Rattle.cell_refs.specs.declared.cell.Cell.{Cell}
use Rattle.cell_refs.specs.declared.error_kind.ErrorKind.{ErrorKind}
use Rattle.cell_refs.specs.Areas.{Area, cells_of}
use Rattle.formula_ast.specs.Tree.{Tree, Trees, none, more}
use Rattle.formula_ast.specs.Tree as tree
use Rattle.formula_ast.specs.Measures.{references_of, all_references_of, listed}
use Rattle.formula_ast.specs.declared.func.Func.{Func}
use Rattle.formula_ast.specs.declared.func.Func.TheVariants as func
use Rattle.sheet_model.specs.Operators.{infix_of, minus_of, percent_of}
use Rattle.sheet_model.specs.declared.value.Value.{Value}
use Rattle.sheet_model.specs.declared.grid.Arg.{Arg}
use Rattle.sheet_model.specs.declared.grid.Arg.TheVariants.{Area as Elements}
use Rattle.sheet_funcs.specs.Arguments.{value_of, no_error, grid_of, below}
use Rattle.sheet_funcs.specs.Products.{places_of}
use Rattle.sheet_funcs.specs.Picks.{from_to}
use Rattle.sheet_funcs.specs.Criteria.{meets}
use Rattle.sheet_funcs.specs.declared.pick.Pick.{Pick}
use Rattle.sheet_funcs.specs.declared.pick.Pick.TheVariants.{Part as Picked, Fault}
use Rattle.recalculation.specs.Evaluation.{CellGrid, grid_of_areas, values_in, call_of, evaluated, all_evaluated}
use Rattle.recalculation.specs.Looks.{Argument, Deciding, all_looks, outcomes, elements, then_cells, decided, looks_of, undecided_looks, chosen_looks, choosing_looks, cell_in, picked_cells, index_of_looks, index_looks, column_cells, exchanged, record_looks, table_looks, lookup_looks, summed_looks, sum_looks, sumif_looks, size_looks, call_looks}
use Rattle.recalculation.specs.Looking.{met_cells, by_value, reference_in, looked_at, arguments}
use Rattle.recalculation.proofs.Lists.{each_append, each_left, each_right, each_alike}

-- what holds of each cell of some areas
abbrev pub EachOf : (Cell → Type 0) → List Area → Type 0
EachOf P areas = AllByRecursion (λ (a : Area). AllByRecursion P (cells_of a)) areas

-- it holds of each cell of their grid
pub joined : (P : Cell → Type 0) (areas : List Area) → EachOf P areas → AllByRecursion P (flat_map cells_of areas)
joined P [] h = tt
joined P (a ∷ areas) h = each_append P (cells_of a) (flat_map cells_of areas) h.0 (joined P areas h.1)

-- so of each cell of the grid of a reference
pub grid_cells : (P : Cell → Type 0) (areas : List Area) → EachOf P areas → AllByRecursion P (grid_of_areas areas).cells
grid_cells P [] h = tt
grid_cells P (a ∷ []) h = h.0
grid_cells P (a ∷ b ∷ areas) h = joined P (a ∷ b ∷ areas) h

-- ---- values
-- the values of a grid whose cells are alike
pub values_alike : (f g : Cell → Value) (grid : CellGrid) → AllByRecursion (λ b. f b ≡ g b) grid.cells → values_in f grid ≡ values_in g grid
values_alike f g grid h = ap (λ items. record { rows = grid.rows; columns = grid.columns; items = items }) (each_alike f g grid.cells h)

mutual
  -- the value of a formula depends on the cells of its references alone
  pub evaluated_alike : (f g : Cell → Value) (t : Tree) → EachOf (λ b. f b ≡ g b) (references_of t) → evaluated f t ≡ evaluated g t
  evaluated_alike f g (tree.Number s x) h = refl
  evaluated_alike f g (tree.Text s t) h = refl
  evaluated_alike f g (tree.Logical s b) h = refl
  evaluated_alike f g (tree.Fault s k) h = refl
  evaluated_alike f g (tree.Missing s) h = refl
  evaluated_alike f g (tree.Array s rows columns items) h = refl
  evaluated_alike f g (tree.Reference s areas) h =
      ap (λ values. done (Elements values)) (values_alike f g (grid_of_areas (listed areas)) (grid_cells _ (listed areas) h))
  evaluated_alike f g (tree.Call s name args) h = ap (call_of name) (all_evaluated_alike f g args h)
  evaluated_alike f g (tree.Plus s x) h = evaluated_alike f g x h
  evaluated_alike f g (tree.Minus s x) h = ap (λ c. followed_by c minus_of) (evaluated_alike f g x h)
  evaluated_alike f g (tree.Percent s x) h = ap (λ c. followed_by c percent_of) (evaluated_alike f g x h)
  evaluated_alike f g (tree.Infix s o x y) h =
      let left = evaluated_alike f g x (each_left _ (references_of x) (references_of y) h) in
      let right = evaluated_alike f g y (each_right _ (references_of x) (references_of y) h) in
      λ i. followed_by (left i) (λ a. followed_by (right i) (infix_of o a))
  evaluated_alike f g (tree.WideNumber s x) h = refl
  evaluated_alike f g (tree.Name s name) h = refl
  evaluated_alike f g (tree.Unknown s name args) h = refl

  -- those of some formulas
  pub all_evaluated_alike : (f g : Cell → Value) (ts : Trees) → EachOf (λ b. f b ≡ g b) (all_references_of ts) → all_evaluated f ts ≡ all_evaluated g ts
  all_evaluated_alike f g none h = refl
  all_evaluated_alike f g (more t ts) h =
      let one = evaluated_alike f g t (each_left _ (references_of t) (all_references_of ts) h) in
      let others = all_evaluated_alike f g ts (each_right _ (references_of t) (all_references_of ts) h) in
      λ i. (one i) ∷ (others i)

-- ---- what is looked at
-- what holds of each cell of a reference, where there is one
abbrev pub OfReference : (Cell → Type 0) → Option CellGrid → Type 0
OfReference P None = ⊤
OfReference P (Some g) = AllByRecursion P g.cells

-- what holds of each cell at which an argument looks, and of each cell of its reference
abbrev pub OfArgument : {A : Type 0} → (Cell → Type 0) → Argument A → Type 0
OfArgument P a = AllByRecursion P a.looks × OfReference P a.reference

module _ (P : Cell → Type 0) where
  -- of each cell of lists that are joined
  joined_lists : {A : Type 0} (f : A → List Cell) (xs : List A) → ((x : A) → AllByRecursion P (f x)) → AllByRecursion P (flat_map f xs)
  joined_lists f [] h = tt
  joined_lists f (x ∷ xs) h = each_append P (f x) (flat_map f xs) (h x) (joined_lists f xs h)

  -- of all that follows from what there is
  then_among : {A : Type 0} (o : Option A) (f : A → List Cell) → ((x : A) → AllByRecursion P (f x)) → AllByRecursion P (then_cells o f)
  then_among None f h = tt
  then_among (Some x) f h = h x

  -- of the cell at a place
  got_among : (cells : List Cell) (n : ℕ) → AllByRecursion P cells → AllByRecursion P (option_to_list (slice_get cells n))
  got_among [] n h = tt
  got_among (b ∷ cells) zero h = (h.0, tt)
  got_among (b ∷ cells) (suc n) h = got_among cells n h.1

  -- of cells or none, by a test
  in_size_among : (b : Bool) (cells : List Cell) → AllByRecursion P cells → AllByRecursion P (if b then cells else [])
  in_size_among true cells h = h
  in_size_among false cells h = tt

  module _ (g : CellGrid) (all : AllByRecursion P g.cells) where
    -- the cell at a row and a column
    cell_among : (row column : ℕ) → AllByRecursion P (cell_in g row column)
    cell_among row column = got_among g.cells _ all

    -- the cells that are picked
    picked_among : (p : Pick) → AllByRecursion P (picked_cells g p)
    picked_among (Picked top left bottom right) = joined_lists _ (from_to top bottom) (λ row. joined_lists _ (from_to left right) (cell_among row))
    picked_among (Fault k) = tt

    -- the cells of a column
    pub column_among : (column : ℕ) → AllByRecursion P (column_cells g column)
    column_among column = joined_lists _ (below g.rows) (λ row. cell_among row column)

    -- the cells with rows and columns exchanged
    pub exchanged_among : AllByRecursion P (exchanged g).cells
    exchanged_among = joined_lists _ (places_of g.columns g.rows) (λ p. cell_among p.1 p.0)

  module _ {A : Type 0} where
    -- of all at which some arguments look
    looks_among : (args : List (Argument A)) → AllByRecursion (OfArgument P) args → AllByRecursion P (all_looks args)
    looks_among [] h = tt
    looks_among (a ∷ args) h = each_append P a.looks (all_looks args) h.0.0 (looks_among args h.1)

    -- of all at which the argument at a place looks
    at_among : (args : List (Argument A)) (n : ℕ) → AllByRecursion (OfArgument P) args → AllByRecursion P (looks_of (slice_get args n))
    at_among [] n h = tt
    at_among (a ∷ args) zero h = h.0.0
    at_among (a ∷ args) (suc n) h = at_among args n h.1

    -- functions that choose, where it isn't decided which argument
    undecided_among : (f : Func) (others : List (Argument A)) → AllByRecursion (OfArgument P) others → AllByRecursion P (undecided_looks f others)
    undecided_among func.If others h = looks_among others h
    undecided_among _ others h = tt

    -- and where it is
    chosen_among : (f : Func) (others : List (Argument A)) (o : Option (Option ℕ)) → AllByRecursion (OfArgument P) others → AllByRecursion P (chosen_looks f others o)
    chosen_among f others (Some (Some n)) h = at_among others n h
    chosen_among f others (Some None) h = tt
    chosen_among f others None h = undecided_among f others h

    -- ROWS and COLUMNS
    size_among : (args : List (Argument A)) → AllByRecursion (OfArgument P) args → AllByRecursion P (size_looks args)
    size_among [] h = tt
    size_among (a ∷ []) h = elim (is_some a.reference) as (λ b. AllByRecursion P (if b then [] else a.looks)) [ true ↦ tt | false ↦ h.0.0 ]
    size_among (a ∷ b ∷ args) h = looks_among (a ∷ b ∷ args) h

    module _ {E : Type 0} (d : Deciding A E) where
      -- IF, IFERROR and CHOOSE
      choosing_among : (f : Func) (args : List (Argument A)) → AllByRecursion (OfArgument P) args → AllByRecursion P (choosing_looks d f args)
      choosing_among f [] h = tt
      choosing_among f (a ∷ others) h = each_append P a.looks _ h.0.0 (then_among a.outcome _ (λ v. chosen_among f others (decided d f v) h.1))

      -- INDEX
      index_among : (args : List (Argument A)) → AllByRecursion (OfArgument P) args → AllByRecursion P (index_looks d args)
      index_among [] h = tt
      index_among (a ∷ places) h = by a.reference h.0.1
        where
          by : (o : Option CellGrid) → OfReference P o → AllByRecursion P (index_of_looks d a places o)
          by None all = looks_among (a ∷ places) h
          by (Some g) all =
              each_append P (all_looks places) _ (looks_among places h.1)
              (then_among (outcomes places) _ (λ vs. then_among (d.index_pick g.rows g.columns vs) _ (picked_among g all)))

      -- a lookup in a grid
      record_among : (known : Cell → Option E) (g : CellGrid) → AllByRecursion P g.cells → (args : List (Argument A)) → AllByRecursion (OfArgument P) args
          → AllByRecursion P (record_looks d known g args)
      record_among known g all args h =
          each_append P (all_looks args ++ column_cells g 0) _ (each_append P (all_looks args) _ (looks_among args h) (column_among g all 0))
          (then_among (elements known (column_cells g 0)) _ (λ keys. then_among (outcomes args) _ (λ vs. then_among (d.record_pick g.columns keys vs) _ (picked_among g all))))

      -- VLOOKUP and HLOOKUP
      lookup_among : (known : Cell → Option E) (turned : CellGrid → CellGrid) → ((g : CellGrid) → AllByRecursion P g.cells → AllByRecursion P (turned g).cells)
          → (args : List (Argument A)) → AllByRecursion (OfArgument P) args → AllByRecursion P (lookup_looks d known turned args)
      lookup_among known turned kept [] h = tt
      lookup_among known turned kept (key ∷ []) h = looks_among (key ∷ []) h
      lookup_among known turned kept (key ∷ table ∷ rest) h = by table.reference h.1.0.1
        where
          by : (o : Option CellGrid) → OfReference P o → AllByRecursion P (table_looks d known turned (key ∷ rest) table o)
          by None all = looks_among (table ∷ key ∷ rest) (h.1.0, (h.0, h.1.1))
          by (Some g) all = record_among known (turned g) (kept g all) (key ∷ rest) (h.0, h.1.1)

      module _ (sums : (g : CellGrid) (tested criterion : A) → AllByRecursion P g.cells → AllByRecursion P (then_cells (d.summed g tested criterion) (λ cells. cells))) where
        -- the cells that SUMIF sums
        summed_among : (g : CellGrid) → AllByRecursion P g.cells → (args : List A) → AllByRecursion P (summed_looks d g args)
        summed_among g all [] = tt
        summed_among g all (a ∷ []) = tt
        summed_among g all (tested ∷ criterion ∷ []) = sums g tested criterion all
        summed_among g all (a ∷ b ∷ c ∷ args) = tt

        -- SUMIF
        sumif_among : (args : List (Argument A)) → AllByRecursion (OfArgument P) args → AllByRecursion P (sumif_looks d args)
        sumif_among [] h = tt
        sumif_among (a ∷ []) h = looks_among (a ∷ []) h
        sumif_among (a ∷ b ∷ []) h = looks_among (a ∷ b ∷ []) h
        sumif_among (tested ∷ criterion ∷ summed ∷ []) h = by summed.reference h.1.1.0.1
          where
            by : (o : Option CellGrid) → OfReference P o → AllByRecursion P (sum_looks d (tested ∷ criterion ∷ []) summed o)
            by None all = each_append P _ summed.looks (looks_among (tested ∷ criterion ∷ []) (h.0, (h.1.0, tt))) h.1.1.0.0
            by (Some g) all = each_append P _ _ (looks_among (tested ∷ criterion ∷ []) (h.0, (h.1.0, tt))) (then_among (outcomes (tested ∷ criterion ∷ [])) _ (summed_among g all))
        sumif_among (a ∷ b ∷ c ∷ e ∷ args) h = looks_among (a ∷ b ∷ c ∷ e ∷ args) h

        -- a function looks at cells of its arguments alone
        pub call_among : (known : Cell → Option E) (f : Func) (args : List (Argument A)) → AllByRecursion (OfArgument P) args → AllByRecursion P (call_looks d known f args)
        call_among known func.If args h = choosing_among func.If args h
        call_among known func.IfError args h = choosing_among func.IfError args h
        call_among known func.Choose args h = choosing_among func.Choose args h
        call_among known func.Index args h = index_among args h
        call_among known func.VLookup args h = lookup_among known (λ g. g) (λ g all. all) args h
        call_among known func.HLookup args h = lookup_among known exchanged exchanged_among args h
        call_among known func.SumIf args h = sumif_among args h
        call_among known func.Rows args h = size_among args h
        call_among known func.Columns args h = size_among args h
        call_among known _ args h = looks_among args h

  -- the cells beside elements that pass a test
  tested_among : (test : Value → Bool) (items : List Value) (cells : List Cell) → AllByRecursion P cells
      → AllByRecursion P (map (λ (p : Value × Cell). p.1) (filter (λ (p : Value × Cell). test p.0) (zip items cells)))
  tested_among test [] cells h = tt
  tested_among test (v ∷ items) [] h = tt
  tested_among test (v ∷ items) (b ∷ cells) h =
      elim (test v) as (λ w. AllByRecursion P (map (λ (p : Value × Cell). p.1) (if w then (v, b) ∷ filter (λ (p : Value × Cell). test p.0) (zip items cells) else filter (λ (p : Value × Cell). test p.0) (zip items cells)))) [
        | true ↦ (h.0, tested_among test items cells h.1)
        | false ↦ tested_among test items cells h.1
      ]

  -- the cells that SUMIF sums by values are some of the grid
  sums_by_value : (g : CellGrid) (tested criterion : Arg) → AllByRecursion P g.cells → AllByRecursion P (then_cells (by_value.summed g tested criterion) (λ cells. cells))
  sums_by_value g tested criterion all = of_result (no_error (value_of criterion))
    where
      of_result : (r : Result Value ErrorKind) → AllByRecursion P (met_cells g (grid_of tested) r)
      of_result (Ok c) = in_size_among _ _ (tested_among (meets c) (grid_of tested).items g.cells all)
      of_result (Err k) = tt

  -- the cells of a reference are those of its areas
  pub reference_among : (t : Tree) → EachOf P (references_of t) → OfReference P (reference_in t)
  reference_among (tree.Reference s areas) h = grid_cells P (listed areas) h
  reference_among (tree.Plus s x) h = reference_among x h
  reference_among (tree.Number s x) h = tt
  reference_among (tree.Text s t) h = tt
  reference_among (tree.Logical s b) h = tt
  reference_among (tree.Fault s k) h = tt
  reference_among (tree.Missing s) h = tt
  reference_among (tree.Array s rows columns items) h = tt
  reference_among (tree.Call s name args) h = tt
  reference_among (tree.Minus s x) h = tt
  reference_among (tree.Percent s x) h = tt
  reference_among (tree.Infix s o x y) h = tt
  reference_among (tree.WideNumber s x) h = tt
  reference_among (tree.Name s name) h = tt
  reference_among (tree.Unknown s name args) h = tt

  mutual
    -- a formula looks at cells of its references alone
    pub looked_among : (known : Cell → Option Value) (t : Tree) → EachOf P (references_of t) → AllByRecursion P (looked_at known t)
    looked_among known (tree.Reference s areas) h = grid_cells P (listed areas) h
    looked_among known (tree.Call s name args) h = call_among by_value sums_by_value known name (arguments known args) (arguments_among known args h)
    looked_among known (tree.Plus s x) h = looked_among known x h
    looked_among known (tree.Minus s x) h = looked_among known x h
    looked_among known (tree.Percent s x) h = looked_among known x h
    looked_among known (tree.Infix s o x y) h =
        each_append P (looked_at known x) (looked_at known y) (looked_among known x (each_left _ (references_of x) (references_of y) h))
        (looked_among known y (each_right _ (references_of x) (references_of y) h))
    looked_among known (tree.Number s x) h = tt
    looked_among known (tree.Text s t) h = tt
    looked_among known (tree.Logical s b) h = tt
    looked_among known (tree.Fault s k) h = tt
    looked_among known (tree.Missing s) h = tt
    looked_among known (tree.Array s rows columns items) h = tt
    looked_among known (tree.WideNumber s x) h = tt
    looked_among known (tree.Name s name) h = tt
    looked_among known (tree.Unknown s name args) h = tt

    -- so do its arguments
    pub arguments_among : (known : Cell → Option Value) (ts : Trees) → EachOf P (all_references_of ts) → AllByRecursion (OfArgument P) (arguments known ts)
    arguments_among known none h = tt
    arguments_among known (more t ts) h =
        let own = each_left _ (references_of t) (all_references_of ts) h in
        ((looked_among known t own, reference_among t own), arguments_among known ts (each_right _ (references_of t) (all_references_of ts) h))
