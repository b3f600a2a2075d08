-- What a call of a function looks at, given what its arguments look at and come to. Of IF, IFERROR and CHOOSE that is the deciding
-- argument and then the chosen one; of INDEX, VLOOKUP and HLOOKUP of a reference all but the elements that aren't picked; of SUMIF
-- of a reference all but the elements that aren't summed; of ROWS and COLUMNS of a reference nothing. Where what decides comes to
-- something but is undecided, IF looks at both branches and the others at nothing more; where it comes to nothing, all look at
-- nothing more.
use Rattle.std.specs.Prelude.{ℕ, ◌+◌, ◌*◌, Bool, if◌then◌else◌, List, [], ◌∷◌, ◌++◌, flat_map, slice_get, option_to_list, ℤ, Option, Some, None, is_some, option_map, Result}
use Rattle.cell_refs.specs.declared.cell.Cell.{Cell}
use Rattle.cell_refs.specs.declared.error_kind.ErrorKind.{ErrorKind}
use Rattle.formula_ast.specs.declared.func.Func.{Func}
use Rattle.formula_ast.specs.declared.func.Func.TheVariants as func
use Rattle.sheet_funcs.specs.Arguments.{below}
use Rattle.sheet_funcs.specs.Products.{places_of}
use Rattle.sheet_funcs.specs.Picks.{from_to}
use Rattle.sheet_funcs.specs.declared.pick.Pick.{Pick}
use Rattle.sheet_funcs.specs.declared.pick.Pick.TheVariants.{Part as Picked, Fault}
use Rattle.recalculation.specs.Evaluation.{CellGrid, at_chosen, if_place, iferror_place, choose_place}

-- an argument: the cells at which it looks, what it comes to, and its cells where it is a reference. It comes to nothing where
-- something at which it looks does, and where it is refused, as where a number isn't narrow.
pub record Argument (A : Type 0) : Type 0 where
  pub looks : List Cell
  pub outcome : Option A
  pub reference : Option CellGrid

-- what is decided by what arguments come to, A, and by elements of references, E; none where it is undecided
pub record Deciding (A E : Type 0) : Type 0 where
  -- whether the test of IF holds
  pub truth : A → Option (Result Bool ErrorKind)
  -- whether the first argument of IFERROR is an error
  pub is_error : A → Option Bool
  -- the place of CHOOSE
  pub place : A → Option (Result ℤ ErrorKind)
  -- what INDEX picks of so many rows and columns by its places
  pub index_pick : ℕ → ℕ → List A → Option Pick
  -- what a lookup picks of records of so many fields whose first fields are known, by its other arguments
  pub record_pick : ℕ → List E → List A → Option Pick
  -- of the cells that SUMIF may sum, those in the places where the tested grid meets the criterion
  pub summed : CellGrid → A → A → Option (List Cell)

-- ---- lists
-- all that some arguments look at, and what they come to where all come to something
abbrev pub all_looks : {A : Type 0} → List (Argument A) → List Cell
all_looks {A} args = flat_map (λ (a : Argument A). a.looks) args

abbrev pub both : {A : Type 0} → Option A → Option (List A) → Option (List A)
both (Some x) (Some xs) = Some (x ∷ xs)
both _ _ = None

abbrev pub outcomes : {A : Type 0} → List (Argument A) → Option (List A)
outcomes [] = Some []
outcomes (a ∷ args) = both a.outcome (outcomes args)

-- the elements of some cells, where all are known
abbrev pub elements : {E : Type 0} → (Cell → Option E) → List Cell → Option (List E)
elements known [] = Some []
elements known (b ∷ cells) = both (known b) (elements known cells)

-- the cells that follow from what there is
abbrev pub then_cells : {A : Type 0} → Option A → (A → List Cell) → List Cell
then_cells None f = []
then_cells (Some x) f = f x

-- ---- functions that choose
-- which of the arguments behind the first one is chosen, or that none is
abbrev pub decided : {A E : Type 0} → Deciding A E → Func → A → Option (Option ℕ)
decided d func.If a = option_map if_place (d.truth a)
decided d func.IfError a = option_map iferror_place (d.is_error a)
decided d _ a = option_map choose_place (d.place a)

abbrev pub looks_of : {A : Type 0} → Option (Argument A) → List Cell
looks_of (Some a) = a.looks
looks_of None = []

abbrev pub undecided_looks : {A : Type 0} → Func → List (Argument A) → List Cell
undecided_looks func.If others = all_looks others
undecided_looks _ others = []

abbrev pub chosen_looks : {A : Type 0} → Func → List (Argument A) → Option (Option ℕ) → List Cell
chosen_looks f others (Some place) = looks_of (at_chosen others place)
chosen_looks f others None = undecided_looks f others

abbrev pub choosing_looks : {A E : Type 0} → Deciding A E → Func → List (Argument A) → List Cell
choosing_looks d f [] = []
choosing_looks d f (a ∷ others) = a.looks ++ then_cells a.outcome (λ v. chosen_looks f others (decided d f v))

-- ---- functions that pick from a reference
-- the cell at a row and a column, as far as there is one
abbrev pub cell_in : CellGrid → ℕ → ℕ → List Cell
cell_in g row column = option_to_list (slice_get g.cells (row * g.columns + column))

abbrev pub picked_cells : CellGrid → Pick → List Cell
picked_cells g (Picked top left bottom right) = flat_map (λ row. flat_map (λ column. cell_in g row column) (from_to left right)) (from_to top bottom)
picked_cells g (Fault k) = []

-- INDEX looks at its places, and at what they pick
abbrev pub index_of_looks : {A E : Type 0} → Deciding A E → Argument A → List (Argument A) → Option CellGrid → List Cell
index_of_looks d a places None = all_looks (a ∷ places)
index_of_looks d a places (Some g) =
    all_looks places ++ then_cells (outcomes places) (λ vs. then_cells (d.index_pick g.rows g.columns vs) (picked_cells g))

abbrev pub index_looks : {A E : Type 0} → Deciding A E → List (Argument A) → List Cell
index_looks d [] = []
index_looks d (a ∷ places) = index_of_looks d a places a.reference

-- the cells of a column
abbrev pub column_cells : CellGrid → ℕ → List Cell
column_cells g column = flat_map (λ row. cell_in g row column) (below g.rows)

-- rows and columns exchanged
abbrev pub exchanged : CellGrid → CellGrid
exchanged g =
    record { rows = g.columns; columns = g.rows; cells = flat_map (λ (p : ℕ × ℕ). cell_in g p.1 p.0) (places_of g.columns g.rows) }

-- a lookup looks at its other arguments and the keys, and then at the cell that is found
abbrev pub record_looks : {A E : Type 0} → Deciding A E → (Cell → Option E) → CellGrid → List (Argument A) → List Cell
record_looks d known g args =
    (all_looks args ++ column_cells g 0)
    ++ then_cells (elements known (column_cells g 0)) (λ keys. then_cells (outcomes args) (λ vs. then_cells (d.record_pick g.columns keys vs) (picked_cells g)))

abbrev pub table_looks : {A E : Type 0} → Deciding A E → (Cell → Option E) → (CellGrid → CellGrid) → List (Argument A) → Argument A → Option CellGrid → List Cell
table_looks d known turned others table None = all_looks (table ∷ others)
table_looks d known turned others table (Some g) = record_looks d known (turned g) others

abbrev pub lookup_looks : {A E : Type 0} → Deciding A E → (Cell → Option E) → (CellGrid → CellGrid) → List (Argument A) → List Cell
lookup_looks d known turned (key ∷ table ∷ rest) = table_looks d known turned (key ∷ rest) table table.reference
lookup_looks d known turned args = all_looks args

-- SUMIF looks at the tested grid and at the criterion, and then at what is summed
abbrev pub summed_looks : {A E : Type 0} → Deciding A E → CellGrid → List A → List Cell
summed_looks d g (tested ∷ criterion ∷ []) = then_cells (d.summed g tested criterion) (λ cells. cells)
summed_looks d g _ = []

abbrev pub sum_looks : {A E : Type 0} → Deciding A E → List (Argument A) → Argument A → Option CellGrid → List Cell
sum_looks d others summed None = all_looks others ++ summed.looks
sum_looks d others summed (Some g) = all_looks others ++ then_cells (outcomes others) (summed_looks d g)

abbrev pub sumif_looks : {A E : Type 0} → Deciding A E → List (Argument A) → List Cell
sumif_looks d (tested ∷ criterion ∷ summed ∷ []) = sum_looks d (tested ∷ criterion ∷ []) summed summed.reference
sumif_looks d args = all_looks args

-- the size of a reference is no element of it
abbrev pub size_looks : {A : Type 0} → List (Argument A) → List Cell
size_looks (a ∷ []) = if is_some a.reference then [] else a.looks
size_looks args = all_looks args

-- ---- what a function looks at, where elements of references are known
abbrev pub call_looks : {A E : Type 0} → Deciding A E → (Cell → Option E) → Func → List (Argument A) → List Cell
call_looks d known func.If args = choosing_looks d func.If args
call_looks d known func.IfError args = choosing_looks d func.IfError args
call_looks d known func.Choose args = choosing_looks d func.Choose args
call_looks d known func.Index args = index_looks d args
call_looks d known func.VLookup args = lookup_looks d known (λ g. g) args
call_looks d known func.HLookup args = lookup_looks d known exchanged args
call_looks d known func.SumIf args = sumif_looks d args
call_looks d known func.Rows args = size_looks args
call_looks d known func.Columns args = size_looks args
call_looks d known _ args = all_looks args
