-- Calls of functions that pick from a reference, and so all calls.
use Rattle.std.proofs.Common.{◌≡◌, Bool, true, false, ◌&&◌, ◌||◌, if◌then◌else◌, List, [], ◌∷◌, ◌++◌, map, append-nil, ℕ, refl, sym, ap, ◌∙◌, Option, Some, None}
use Rattle.std.specs.Prelude.{pos, is_some, ⊤}
use Rattle.std.specs.Option.{option_and_then}
use Rattle.fractions.specs.Whole.{whole_ℚ}
use Rattle.calculations.specs.Calculation.{done, narrow, followed_by, for_each}
use Rattle.calculations.proofs.CalculationLaws.{narrow-followed_by}
use Rattle.cell_refs.specs.declared.cell.Cell.{Cell}
use Rattle.cell_refs.specs.declared.span.Span.{Span}
use Rattle.formula_ast.specs.Tree.{Tree, Trees, none, more}
use Rattle.formula_ast.specs.Tree as tree
use Rattle.formula_ast.specs.Measures.{listed}
use Rattle.formula_ast.specs.declared.func.Func.{Func}
use Rattle.formula_ast.specs.declared.func.Func.TheVariants as func
use Rattle.sheet_model.specs.Grids.{Rectangle}
use Rattle.sheet_model.specs.declared.value.Value.{Value}
use Rattle.sheet_model.specs.declared.value.Value.TheVariants.{Number}
use Rattle.sheet_model.specs.declared.grid.Arg.{Arg}
use Rattle.sheet_model.specs.declared.grid.Arg.TheVariants.{One, Area as Elements}
use Rattle.sheet_funcs.specs.Arguments.{column_of}
use Rattle.sheet_funcs.specs.Lookups.{record_pick}
use Rattle.sheet_funcs.specs.Picks.{index_of, pick_of, taken_from}
use Rattle.sheet_funcs.specs.Table.{called}
use Rattle.recalculation.specs.Evaluation.{CellGrid, values_in, evaluated, all_evaluated}
use Rattle.recalculation.specs.Looks.{all_looks, both, outcomes, elements, then_cells, picked_cells, column_cells, exchanged, index_looks, index_of_looks, record_looks, table_looks, lookup_looks, sum_looks, size_looks, call_looks}
use Rattle.recalculation.specs.Looking.{by_value, known_or_empty, are_known, outcome_of, reference_in, looked_at, arguments}
use Rattle.recalculation.proofs.Calculating.{in_order}
use Rattle.recalculation.proofs.GridCells.{IsWhole, areas_whole, first_column, exchanged_values, exchanged_whole}
use Rattle.recalculation.proofs.SeenGrids.{keys_alike}
use Rattle.recalculation.proofs.Lists.{both as both_true, first_true, second_true, either_first, either_second}
use Rattle.evaluation.specs.Parts.{part_of}
use Rattle.evaluation.specs.Composed.{narrow_called, picked_outcome, index_of_outcome, index_outcome, record_outcome, table_outcome, lookup_outcome, filled_or, all_filled, size_of_outcome, size_outcome, call_outcome, call_part}
use Rattle.evaluation.proofs.Composing.{filled_in, told, where_known, are_known-append, choosing_told, all_told, whole_told}
use Rattle.evaluation.proofs.Elements.{elements_are}

module _ (known : Cell → Option Value) where
  -- ---- functions that pick from a reference
  -- a reference, or a part of which all is known
  abbrev is_ready : Tree → Bool
  is_ready t = is_some (reference_in t) || told known t

  -- the value of such a part
  filled_told : (t : Tree) → is_ready t ≡ true → filled_or known (reference_in t) (outcome_of known t (looked_at known t)) ≡ narrow (evaluated (filled_in known) t)
  filled_told (tree.Reference s areas) h = refl
  filled_told (tree.Plus s t) h = filled_told t h
  filled_told (tree.Call s name args) h = ap (λ b. where_known known b (narrow (evaluated (filled_in known) (tree.Call s name args)))) h
  filled_told (tree.Minus s t) h = ap (λ b. where_known known b (narrow (evaluated (filled_in known) (tree.Minus s t)))) h
  filled_told (tree.Percent s t) h = ap (λ b. where_known known b (narrow (evaluated (filled_in known) (tree.Percent s t)))) h
  filled_told (tree.Infix s o t u) h = ap (λ b. where_known known b (narrow (evaluated (filled_in known) (tree.Infix s o t u)))) h
  filled_told (tree.Number s x) h = refl
  filled_told (tree.Text s x) h = refl
  filled_told (tree.Logical s b) h = refl
  filled_told (tree.Fault s k) h = refl
  filled_told (tree.Missing s) h = refl
  filled_told (tree.Array s rows columns items) h = refl
  filled_told (tree.WideNumber s x) h = refl
  filled_told (tree.Name s name) h = refl
  filled_told (tree.Unknown s name args) h = refl

  -- all of some parts are such
  abbrev all_ready : Trees → Bool
  all_ready none = true
  all_ready (more t ts) = is_ready t && all_ready ts

  -- their values
  each_filled : (ts : Trees) → all_ready ts ≡ true → all_filled known (arguments known ts) ≡ narrow (for_each (λ c. c) (all_evaluated (filled_in known) ts))
  each_filled none h = refl
  each_filled (more t ts) h =
      let one = filled_told t (first_true (is_ready t) (all_ready ts) h) in
      let others = each_filled ts (second_true (is_ready t) (all_ready ts) h) in
      (λ i. both (one i) (others i)) ∙ sym (in_order (evaluated (filled_in known) t) (all_evaluated (filled_in known) ts))

  -- parts of which all is known
  told_ready : (ts : Trees) → are_known known (all_looks (arguments known ts)) ≡ true → all_ready ts ≡ true
  told_ready none h = refl
  told_ready (more t ts) h =
      let all : (told known t && are_known known (all_looks (arguments known ts))) ≡ true = sym (are_known-append known (looked_at known t) (all_looks (arguments known ts))) ∙ h in
      both_true (is_ready t) (all_ready ts) (either_second (is_some (reference_in t)) (told known t) (first_true (told known t) _ all)) (told_ready ts (second_true (told known t) _ all))

  -- a function that picks, where each argument is ready
  picking_told : (name : Func) (ts : Trees) (cells : List Cell) → (are_known known cells ≡ true → all_ready ts ≡ true)
      → where_known known (are_known known cells) (narrow (followed_by (for_each (λ c. c) (all_evaluated (filled_in known) ts)) (called name)))
      ≡ where_known known (are_known known cells) (narrow_called name (all_filled known (arguments known ts)))
  picking_told name ts cells ready = by (are_known known cells) ready
    where
      by : (b : Bool) → (b ≡ true → all_ready ts ≡ true)
          → where_known known b (narrow (followed_by (for_each (λ c. c) (all_evaluated (filled_in known) ts)) (called name))) ≡ where_known known b (narrow_called name (all_filled known (arguments known ts)))
      by true ready = narrow-followed_by (for_each (λ c. c) (all_evaluated (filled_in known) ts)) (called name) ∙ ap (narrow_called name) (sym (each_filled ts (ready refl)))
      by false ready = refl

  -- the third
  third_ready : (t u v : Tree) → all_ready (more t (more u none)) ≡ true → is_ready v ≡ true → all_ready (more t (more u (more v none))) ≡ true
  third_ready t u v h k =
      both_true (is_ready t) (all_ready (more u (more v none))) (first_true (is_ready t) (all_ready (more u none)) h)
      (both_true (is_ready u) (all_ready (more v none)) (first_true (is_ready u) true (second_true (is_ready t) (all_ready (more u none)) h)) (both_true (is_ready v) true k refl))

  -- what follows from an answer
  behind_known : {A : Type 0} (cells : List Cell) (o : Option A) (next : A → List Cell) (f g : A → Option Arg) → ((v : A) → where_known known (are_known known (next v)) (f v) ≡ g v)
      → where_known known (are_known known (cells ++ then_cells (where_known known (are_known known cells) o) next)) (option_and_then f o) ≡ option_and_then g (where_known known (are_known known cells) o)
  behind_known {A} cells o next f g h =
      ap (λ b. where_known known b (option_and_then f o)) (are_known-append known cells (then_cells (where_known known (are_known known cells) o) next)) ∙ by (are_known known cells)
    where
      on_answer : (o : Option A) → where_known known (are_known known (then_cells o next)) (option_and_then f o) ≡ option_and_then g o
      on_answer None = refl
      on_answer (Some v) = h v

      by : (b : Bool) → where_known known (b && are_known known (then_cells (where_known known b o) next)) (option_and_then f o) ≡ option_and_then g (where_known known b o)
      by true = on_answer o
      by false = refl

  -- a reference is the grid of its cells
  abbrev IsGrid : Tree → Option CellGrid → Type 0
  IsGrid t None = ⊤
  IsGrid t (Some g) = (evaluated (known_or_empty known) t ≡ done (Elements (values_in (known_or_empty known) g))) × IsWhole g

  grid_told : (t : Tree) → IsGrid t (reference_in t)
  grid_told (tree.Reference s areas) = (refl, areas_whole (listed areas))
  grid_told (tree.Plus s x) = grid_told x
  grid_told (tree.Number s x) = tt
  grid_told (tree.Text s t) = tt
  grid_told (tree.Logical s b) = tt
  grid_told (tree.Fault s k) = tt
  grid_told (tree.Missing s) = tt
  grid_told (tree.Array s rows columns items) = tt
  grid_told (tree.Call s name args) = tt
  grid_told (tree.Minus s x) = tt
  grid_told (tree.Percent s x) = tt
  grid_told (tree.Infix s o x y) = tt
  grid_told (tree.WideNumber s x) = tt
  grid_told (tree.Name s name) = tt
  grid_told (tree.Unknown s name args) = tt

  -- an answer in front of others
  first_given : {B : Type 0} (f : List Arg → Option B) (x : Arg) (o : Option (List Arg)) → option_and_then f (both (Some x) o) ≡ option_and_then (λ vs. f (x ∷ vs)) o
  first_given f x None = refl
  first_given f x (Some vs) = refl

  -- INDEX
  index_told : (ts : Trees)
      → where_known known (are_known known (index_looks by_value (arguments known ts))) (narrow (followed_by (for_each (λ c. c) (all_evaluated (filled_in known) ts)) index_of)) ≡ index_outcome known (arguments known ts)
  index_told none = refl
  index_told (more t ts) = by (reference_in t) (grid_told t)
    where
      answers : Option (List Arg)
      answers = narrow (for_each (λ c. c) (all_evaluated (filled_in known) ts))

      by : (o : Option CellGrid) → IsGrid t o
          → where_known known (are_known known (index_of_looks by_value (part_of known t) (arguments known ts) o)) (narrow (followed_by (for_each (λ c. c) (all_evaluated (filled_in known) (more t ts))) index_of))
          ≡ index_of_outcome known (part_of known t) (arguments known ts) o
      by None grid = whole_told known func.Index (more t ts)
      by (Some g) grid =
          let places = all_looks (arguments known ts) in
          let values = values_in (filled_in known) g in
          let next : List Arg → List Cell = λ vs. picked_cells g (pick_of g.rows g.columns vs) in
          let picks : List Arg → Option Arg = λ vs. picked_outcome known g (pick_of g.rows g.columns vs) in
          let value : narrow (followed_by (for_each (λ c. c) (all_evaluated (filled_in known) (more t ts))) index_of) ≡ option_and_then (λ vs. Some (taken_from values (pick_of g.rows g.columns vs))) answers =
          narrow-followed_by (for_each (λ c. c) (all_evaluated (filled_in known) (more t ts))) index_of
          ∙ ap (option_and_then (λ vs. narrow (index_of vs))) (in_order (evaluated (filled_in known) t) (all_evaluated (filled_in known) ts) ∙ ap (λ c. both (narrow c) answers) grid.0)
          ∙ first_given (λ vs. narrow (index_of vs)) (Elements values) answers in
          (λ i. where_known known (are_known known (places ++ then_cells (sym (all_told known ts) i) next)) (value i))
          ∙ behind_known places answers next (λ vs. Some (taken_from values (pick_of g.rows g.columns vs))) picks (λ vs. refl)
          ∙ ap (option_and_then picks) (all_told known ts)

  -- what a lookup makes of a table whose values are a grid's
  abbrev IsLookup : Func → (CellGrid → CellGrid) → Type 0
  IsLookup f turned =
      (g : CellGrid) → IsWhole g → (k : Arg) (xs : List Arg)
      → narrow (called f (k ∷ Elements (values_in (filled_in known) g) ∷ xs))
      ≡ Some (taken_from (values_in (filled_in known) (turned g)) (record_pick (turned g).columns (map (filled_in known) (column_cells (turned g) 0)) (k ∷ xs)))

  -- by the keys of the grid
  by_keys : (g : CellGrid) → IsWhole g → (args : List Arg)
      → record_pick g.columns (column_of (values_in (filled_in known) g) 0) args ≡ record_pick g.columns (map (filled_in known) (column_cells g 0)) args
  by_keys g whole args =
      keys_alike g.columns (column_of (values_in (filled_in known) g) 0) (map (filled_in known) (column_cells g 0)) args (λ some. sym (first_column (filled_in known) g whole some))

  vlookup_is : IsLookup func.VLookup (λ g. g)
  vlookup_is g whole k xs = ap (λ p. Some (taken_from (values_in (filled_in known) g) p)) (by_keys g whole (k ∷ xs))

  hlookup_is : IsLookup func.HLookup exchanged
  hlookup_is g whole k xs =
      ap (λ (v : Rectangle). Some (taken_from v (record_pick v.columns (column_of v 0) (k ∷ xs)))) (sym (exchanged_values g whole (filled_in known)))
      ∙ ap (λ p. Some (taken_from (values_in (filled_in known) (exchanged g)) p)) (by_keys (exchanged g) (exchanged_whole g whole) (k ∷ xs))

  -- an answer between others
  second_given : {B : Type 0} (f : List Arg → Option B) (g : List Arg → Option B) (x : Arg) (o : Option Arg) (p : Option (List Arg)) → ((k : Arg) (xs : List Arg) → f (k ∷ x ∷ xs) ≡ g (k ∷ xs))
      → option_and_then f (both o (both (Some x) p)) ≡ option_and_then g (both o p)
  second_given f g x None None h = refl
  second_given f g x None (Some xs) h = refl
  second_given f g x (Some k) None h = refl
  second_given f g x (Some k) (Some xs) h = h k xs

  -- a lookup in a grid
  record_told : (f : Func) (turned : CellGrid → CellGrid) → IsLookup f turned → (t u : Tree) (us : Trees) (g : CellGrid) → evaluated (filled_in known) u ≡ done (Elements (values_in (filled_in known) g)) → IsWhole g
      → where_known known (are_known known (record_looks by_value known (turned g) (part_of known t ∷ arguments known us)))
      (narrow (followed_by (for_each (λ c. c) (all_evaluated (filled_in known) (more t (more u us)))) (called f)))
      ≡ record_outcome known (turned g) (part_of known t ∷ arguments known us)
  record_told f turned is t u us g grid whole =
      ap (where_known known (are_known known (record_looks by_value known (turned g) (part_of known t ∷ arguments known us)))) value
      ∙ (λ i. where_known known (are_known known ((all_looks (part_of known t ∷ arguments known us) ++ cells) ++ then_cells (keys_are i) (λ keys. then_cells (outcomes (part_of known t ∷ arguments known us)) (next keys))))
      (option_and_then (λ vs. Some (taken_from values (record_pick (turned g).columns (map (filled_in known) cells) vs))) answers))
      ∙ by (are_known known cells) refl
      ∙ ap (option_and_then (λ keys. option_and_then (picks keys) (outcomes (part_of known t ∷ arguments known us)))) (sym keys_are)
    where
      cells : List Cell
      cells = column_cells (turned g) 0

      values : Rectangle
      values = values_in (filled_in known) (turned g)

      answers : Option (List Arg)
      answers = narrow (for_each (λ c. c) (all_evaluated (filled_in known) (more t us)))

      next : List Value → List Arg → List Cell
      next keys vs = picked_cells (turned g) (record_pick (turned g).columns keys vs)

      picks : List Value → List Arg → Option Arg
      picks keys vs = picked_outcome known (turned g) (record_pick (turned g).columns keys vs)

      keys_are : elements known cells ≡ (if are_known known cells then Some (map (filled_in known) cells) else None)
      keys_are = elements_are known cells

      value : narrow (followed_by (for_each (λ c. c) (all_evaluated (filled_in known) (more t (more u us)))) (called f))
          ≡ option_and_then (λ vs. Some (taken_from values (record_pick (turned g).columns (map (filled_in known) cells) vs))) answers
      value =
          narrow-followed_by (for_each (λ c. c) (all_evaluated (filled_in known) (more t (more u us)))) (called f)
          ∙ ap (option_and_then (λ vs. narrow (called f vs)))
          (in_order (evaluated (filled_in known) t) (all_evaluated (filled_in known) (more u us))
          ∙ ap (both (narrow (evaluated (filled_in known) t))) (in_order (evaluated (filled_in known) u) (all_evaluated (filled_in known) us)
          ∙ ap (λ c. both (narrow c) (narrow (for_each (λ c. c) (all_evaluated (filled_in known) us)))) grid))
          ∙ second_given (λ vs. narrow (called f vs)) (λ vs. Some (taken_from values (record_pick (turned g).columns (map (filled_in known) cells) vs))) (Elements (values_in (filled_in known) g))
          (narrow (evaluated (filled_in known) t)) (narrow (for_each (λ c. c) (all_evaluated (filled_in known) us))) (is g whole)
          ∙ ap (option_and_then (λ vs. Some (taken_from values (record_pick (turned g).columns (map (filled_in known) cells) vs))))
          (sym (in_order (evaluated (filled_in known) t) (all_evaluated (filled_in known) us)))

      nothing_known : (xs ys zs : List Cell) → are_known known ys ≡ false → are_known known ((xs ++ ys) ++ zs) ≡ false
      nothing_known xs ys zs h =
          are_known-append known (xs ++ ys) zs ∙ ap (λ b. b && are_known known zs) (are_known-append known xs ys ∙ ap (λ b. are_known known xs && b) h) ∙ no_second (are_known known xs) (are_known known zs)
        where
          no_second : (b c : Bool) → ((b && false) && c) ≡ false
          no_second true c = refl
          no_second false c = refl

      all_known : (xs ys zs : List Cell) → are_known known ys ≡ true → are_known known ((xs ++ ys) ++ zs) ≡ are_known known (xs ++ zs)
      all_known xs ys zs h =
          are_known-append known (xs ++ ys) zs ∙ ap (λ b. b && are_known known zs) (are_known-append known xs ys ∙ ap (λ b. are_known known xs && b) h ∙ with_true (are_known known xs))
          ∙ sym (are_known-append known xs zs)
        where
          with_true : (b : Bool) → (b && true) ≡ b
          with_true true = refl
          with_true false = refl

      by : (b : Bool) → are_known known cells ≡ b
          → where_known known (are_known known ((all_looks (part_of known t ∷ arguments known us) ++ cells) ++ then_cells (if b then Some (map (filled_in known) cells) else None) (λ keys. then_cells (outcomes (part_of known t ∷ arguments known us)) (next keys))))
          (option_and_then (λ vs. Some (taken_from values (record_pick (turned g).columns (map (filled_in known) cells) vs))) answers)
          ≡ option_and_then (λ keys. option_and_then (picks keys) (outcomes (part_of known t ∷ arguments known us))) (if b then Some (map (filled_in known) cells) else None)
      by false e =
          ap (λ w. where_known known w (option_and_then (λ vs. Some (taken_from values (record_pick (turned g).columns (map (filled_in known) cells) vs))) answers))
          (nothing_known (all_looks (part_of known t ∷ arguments known us)) cells [] e)
      by true e =
          let keys : List Value = map (filled_in known) cells in
          let looks = all_looks (part_of known t ∷ arguments known us) in
          let others : List Cell = then_cells (outcomes (part_of known t ∷ arguments known us)) (next keys) in
          ap (λ w. where_known known w (option_and_then (λ vs. Some (taken_from values (record_pick (turned g).columns keys vs))) answers)) (all_known looks cells others e)
          ∙ ap (λ o. where_known known (are_known known (looks ++ then_cells o (next keys))) (option_and_then (λ vs. Some (taken_from values (record_pick (turned g).columns keys vs))) answers)) (sym (all_told known (more t us)))
          ∙ behind_known looks answers (next keys) (λ vs. Some (taken_from values (record_pick (turned g).columns keys vs))) (picks keys) (λ vs. refl)
          ∙ ap (option_and_then (picks keys)) (all_told known (more t us))

  -- VLOOKUP and HLOOKUP
  lookup_told : (f : Func) (turned : CellGrid → CellGrid) → IsLookup f turned → (ts : Trees)
      → where_known known (are_known known (lookup_looks by_value known turned (arguments known ts))) (narrow (followed_by (for_each (λ c. c) (all_evaluated (filled_in known) ts)) (called f)))
      ≡ lookup_outcome known f turned (arguments known ts)
  lookup_told f turned is none = whole_told known f none
  lookup_told f turned is (more t none) = whole_told known f (more t none)
  lookup_told f turned is (more t (more u us)) = by (reference_in u) (grid_told u)
    where
      exchanged_looks : (xs ys zs : List Cell) → are_known known (ys ++ (xs ++ zs)) ≡ are_known known (xs ++ (ys ++ zs))
      exchanged_looks xs ys zs =
          are_known-append known ys (xs ++ zs) ∙ ap (λ b. are_known known ys && b) (are_known-append known xs zs)
          ∙ turned_round (are_known known ys) (are_known known xs) (are_known known zs)
          ∙ sym (are_known-append known xs (ys ++ zs) ∙ ap (λ b. are_known known xs && b) (are_known-append known ys zs))
        where
          turned_round : (b c d : Bool) → (b && (c && d)) ≡ (c && (b && d))
          turned_round true true d = refl
          turned_round true false d = refl
          turned_round false true d = refl
          turned_round false false d = refl

      by : (o : Option CellGrid) → IsGrid u o
          → where_known known (are_known known (table_looks by_value known turned (part_of known t ∷ arguments known us) (part_of known u) o))
          (narrow (followed_by (for_each (λ c. c) (all_evaluated (filled_in known) (more t (more u us)))) (called f)))
          ≡ table_outcome known f turned (part_of known t) (part_of known u) (arguments known us) o
      by None grid =
          ap (λ b. where_known known b (narrow (followed_by (for_each (λ c. c) (all_evaluated (filled_in known) (more t (more u us)))) (called f))))
          (exchanged_looks (looked_at known t) (looked_at known u) (all_looks (arguments known us)))
          ∙ whole_told known f (more t (more u us))
      by (Some g) grid = record_told f turned is t u us g grid.0 grid.1

  -- SUMIF
  sumif_ready : (ts : Trees) → are_known known (call_looks by_value known func.SumIf (arguments known ts)) ≡ true → all_ready ts ≡ true
  sumif_ready none h = refl
  sumif_ready (more t none) h = told_ready (more t none) h
  sumif_ready (more t (more u none)) h = told_ready (more t (more u none)) h
  sumif_ready (more t (more u (more v (more w ws)))) h = told_ready (more t (more u (more v (more w ws)))) h
  sumif_ready (more t (more u (more v none))) h = by (reference_in v) refl h
    where
      looks : List Cell
      looks = all_looks (arguments known (more t (more u none)))

      by : (o : Option CellGrid) → reference_in v ≡ o → are_known known (sum_looks by_value (arguments known (more t (more u none))) (part_of known v) o) ≡ true
          → all_ready (more t (more u (more v none))) ≡ true
      by None e h =
          let all = sym (are_known-append known looks (looked_at known v)) ∙ h in
          third_ready t u v (told_ready (more t (more u none)) (first_true (are_known known looks) _ all)) (either_second (is_some (reference_in v)) (told known v) (second_true (are_known known looks) _ all))
      by (Some g) e h =
          third_ready t u v (told_ready (more t (more u none)) (first_true (are_known known looks) _ (sym (are_known-append known looks _) ∙ h))) (either_first (is_some (reference_in v)) (told known v) (ap is_some e))

  -- ROWS and COLUMNS
  size_told : (f : Func) (size : CellGrid → ℕ) → ((g : CellGrid) → narrow (called f (Elements (values_in (filled_in known) g) ∷ [])) ≡ Some (One (Number (whole_ℚ (pos (size g)))))) → (ts : Trees)
      → where_known known (are_known known (size_looks (arguments known ts))) (narrow (followed_by (for_each (λ c. c) (all_evaluated (filled_in known) ts)) (called f))) ≡ size_outcome f size (arguments known ts)
  size_told f size is none = whole_told known f none
  size_told f size is (more t (more u us)) = whole_told known f (more t (more u us))
  size_told f size is (more t none) = by (reference_in t) (grid_told t)
    where
      by : (o : Option CellGrid) → IsGrid t o
          → where_known known (are_known known (if is_some o then [] else looked_at known t)) (narrow (followed_by (for_each (λ c. c) (all_evaluated (filled_in known) (more t none))) (called f)))
          ≡ size_of_outcome f size (part_of known t) o
      by None grid = ap (λ l. where_known known (are_known known l) (narrow (followed_by (for_each (λ c. c) (all_evaluated (filled_in known) (more t none))) (called f)))) (sym (append-nil (looked_at known t))) ∙ whole_told known f (more t none)
      by (Some g) grid = ap (λ c. narrow (followed_by (for_each (λ c. c) (c ∷ [])) (called f))) grid.0 ∙ is g

  -- ---- calls
  call_told : (s : Span) (name : Func) (ts : Trees) → outcome_of known (tree.Call s name ts) (call_looks by_value known name (arguments known ts)) ≡ call_outcome known name (arguments known ts)
  call_told s func.If ts = choosing_told known func.If ts
  call_told s func.IfError ts = choosing_told known func.IfError ts
  call_told s func.Choose ts = choosing_told known func.Choose ts
  call_told s func.Index ts = index_told ts
  call_told s func.VLookup ts = lookup_told func.VLookup (λ g. g) vlookup_is ts
  call_told s func.HLookup ts = lookup_told func.HLookup exchanged hlookup_is ts
  call_told s func.SumIf ts = picking_told func.SumIf ts _ (sumif_ready ts)
  call_told s func.Rows ts = size_told func.Rows (λ g. g.rows) (λ g. refl) ts
  call_told s func.Columns ts = size_told func.Columns (λ g. g.columns) (λ g. refl) ts
  call_told s name ts = whole_told known name ts

  -- the part of a call
  pub call_part_is : (s : Span) (name : Func) (ts : Trees) → part_of known (tree.Call s name ts) ≡ call_part known name (arguments known ts)
  call_part_is s name ts = ap (λ o. record { looks = call_looks by_value known name (arguments known ts); outcome = o; reference = None }) (call_told s name ts)
