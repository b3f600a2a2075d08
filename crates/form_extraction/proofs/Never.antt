-- Where all that a formula looks at has a form, the formula has one or a part of it is refused.
use Rattle.std.specs.Prelude.{◌+◌, ◌-◌, ◌*◌, ◌&&◌, ◌==◌, slice_get, ℤ, is_some}
use Rattle.std.proofs.Common.{◌≡◌, refl, sym, ap, ap₂, ◌∙◌, Bool, true, false, if◌then◌else◌, List, [], ◌∷◌, map, Option, Some, None, Result, Ok, Err, ℕ, zero, suc}
use Rattle.std.specs.List.{AllByRecursion, list_all}
use Rattle.calculations.specs.Calculation.{narrow}
use Rattle.cell_refs.specs.declared.cell.Cell.{Cell}
use Rattle.cell_refs.specs.declared.span.Span.{Span}
use Rattle.cell_refs.specs.declared.error_kind.ErrorKind.{ErrorKind}
use Rattle.cell_refs.specs.declared.error_kind.ErrorKind.TheVariants as kind
use Rattle.formula_ast.specs.Tree.{Tree, Trees, none, more}
use Rattle.formula_ast.specs.Tree as tree
use Rattle.formula_ast.specs.Measures.{listed}
use Rattle.formula_ast.specs.declared.func.Func.{Func}
use Rattle.formula_ast.specs.declared.func.Func.TheVariants as func
use Rattle.sheet_model.specs.Conversions.{logical_in}
use Rattle.sheet_model.specs.declared.value.Value.TheVariants.{Empty}
use Rattle.sheet_funcs.specs.Products.{places_of}
use Rattle.sheet_funcs.specs.declared.pick.Pick.{Pick}
use Rattle.sheet_funcs.specs.declared.pick.Pick.TheVariants.{Part as Picked, Fault}
use Rattle.recalculation.specs.Entries.{Entry, Constant, Formula, Malformed, entry}
use Rattle.recalculation.specs.Evaluation.{CellGrid, grid_of_areas, at_chosen, if_place, if_without, iferror_place, choose_place}
use Rattle.recalculation.specs.Looks.{both, elements, exchanged as exchanged_cells}
use Rattle.recalculation.specs.Walks.{is_circular}
use Rattle.form_values.specs.Trials.{Trial, Refusal, Breaks, Undecided}
use Rattle.form_values.specs.declared.abs.Abs.{Abs}
use Rattle.form_values.specs.declared.abs.Abs.TheVariants.{Known, Affine, Test}
use Rattle.form_values.specs.declared.abs.AbsArg.{AbsArg}
use Rattle.form_values.specs.declared.abs.AbsArg.TheVariants.{One}
use Rattle.affine_forms.specs.Forms.{AffineForm}
use Rattle.affine_forms.specs.declared.rel.Rel.{Rel}
use Rattle.affine_forms.specs.declared.rel.Rel.TheVariants as rel
use Rattle.form_table.specs.Wanted.{value_of, number_of, known_number, single, grid_of}
use Rattle.form_table.specs.Picks.{pick_form}
use Rattle.form_table.specs.Certain.{index_error}
use Rattle.form_table.specs.CertainRecords.{record_error}
use Rattle.form_table.specs.Lookups.{record_form, kinds_in, known_value, error_of}
use Rattle.form_table.specs.Criteria.{met_places, sum_of_elements, summed_error_by}
use Rattle.form_table.specs.Operators.{infix_form, minus_form, percent_form}
use Rattle.form_table.specs.Choosing.{if_test}
use Rattle.form_table.specs.Table.{form_called}
use Rattle.form_extraction.specs.declared.forms.CellForm.TheVariants.{Circular}
use Rattle.form_extraction.specs.declared.forms.Why.{Why}
use Rattle.form_extraction.specs.declared.forms.Why.TheVariants as why
use Rattle.form_extraction.specs.Parts.{Part, tried, tried_on, outcome_by, on_outcome, on_part, on_parts}
use Rattle.form_extraction.specs.declared.forms.Outcome.{Outcome}
use Rattle.form_extraction.specs.declared.forms.Outcome.TheVariants.{Gives, Refused, Without}
use Rattle.form_extraction.specs.Deciding.{is_known_error, place_in}
use Rattle.form_extraction.specs.Sources.{Source, items_seen, of_cells, of_raster, in_source, on_source, in_turned, on_turned, element, elements_at, on_elements, taken, part_places, exchanged}
use Rattle.form_extraction.specs.Calls.{chosen_or, on_branch, both_branches, by_test, by_error, is_no_argument, by_place, fails, raster, picked_from, picked_at, record_from, lookup_by, lookup_outcome, unless_error, seen_before, sum_at, sum_over, sumif_outcome, size_of, call_outcome}
use Rattle.form_extraction.specs.Formulas.{part_of, parts_of, of_forms}
use Rattle.form_extraction.specs.Laws.{CircularWhereCircle}
use Rattle.form_extraction.specs.Looked.{forms_of}
use Rattle.form_extraction.specs.Places.{least_without, by_looks, formula_form, entry_form, decision_or}
use Rattle.form_extraction.proofs.Agreeing.{form_is}
use Rattle.form_extraction.proofs.Cells.{none_without}
use Rattle.form_extraction.proofs.Looked.{each_of, part_is_same}

-- ---- outcomes that aren't for want of a form
abbrev Never : Outcome → Type 0
Never o = o ≡ Without → ⊥

gives_never : (a : AbsArg) → Never (Gives a)
gives_never a e = cc

refused_never : (s : Span) (w : Why) → Never (Refused s w)
refused_never s w e = cc

first_never : (o : Outcome) (f : AbsArg → Outcome) → Never o → ((a : AbsArg) → Never (f a)) → Never (on_outcome o f)
first_never (Gives a) f h k e = k a e
first_never (Refused s w) f h k e = refused_never s w e
first_never Without f h k e = h refl

trial_never : {A : Type 0} (s : Span) (ps : List Part) (c : Trial A) (f : A → Outcome) → ((a : A) → Never (f a)) → Never (tried_on s ps c f)
trial_never s ps c f k = by (narrow c)
  where
    by : (o : Option (Result _ Refusal)) → Never (tried s ps f o)
    by None e = refused_never s _ e
    by (Some (Ok a)) e = k a e
    by (Some (Err Breaks)) e = refused_never s _ e
    by (Some (Err (Undecided i))) e = refused_never _ _ e

unless_never : (k : Option ErrorKind) (o : Outcome) → Never o → Never (unless_error k o)
unless_never (Some k) o h e = gives_never _ e
unless_never None o h e = h e

abbrev HasForm : Part → Type 0
HasForm p = Never p.outcome

parts_never : (ps : List Part) → AllByRecursion HasForm ps → (f : List AbsArg → Outcome) → ((args : List AbsArg) → Never (f args)) → Never (on_parts ps f)
parts_never [] h f k e = k [] e
parts_never (p ∷ ps) h f k e = first_never p.outcome (λ a. on_parts ps (λ args. f (a ∷ args))) h.0 (λ a. parts_never ps h.1 (λ args. f (a ∷ args)) (λ args. k (a ∷ args))) e

-- ---- sources of which each element has a form
abbrev IsTotal : Source → Type 0
IsTotal s = (i : ℕ) → (b : Abs) × (element (slice_get s.items i) ≡ Some b)

taken_never : (s : Source) → IsTotal s → (places : List ℕ) (f : List Abs → Outcome) → ((items : List Abs) → Never (f items)) → Never (taken s places f)
taken_never s h places f k e = by (elements_at s places) (all places) e
  where
    all : (places : List ℕ) → (items : List Abs) × (elements_at s places ≡ Some items)
    all [] = ([], refl)
    all (i ∷ places) = let b = h i in let others = all places in (b.0 ∷ others.0, ap₂ both b.1 others.1)

    by : (o : Option (List Abs)) → (items : List Abs) × (o ≡ Some items) → on_elements o f ≡ Without → ⊥
    by (Some items) h e = k items e
    by None h e = let n : ◌≡◌ {A = Option (List Abs)} None (Some h.0) = h.1 in cc

items_total : (items : List Abs) (i : ℕ) → (b : Abs) × (element (slice_get (map Some items) i) ≡ Some b)
items_total [] i = (Known Empty, refl)
items_total (a ∷ items) zero = (a, refl)
items_total (a ∷ items) (suc i) = items_total items i

exchanged_total : (s : Source) → IsTotal s → IsTotal (exchanged s)
exchanged_total s h i = by (places_of s.columns s.rows) i
  where
    by : (ps : List (ℕ × ℕ)) (i : ℕ) → (b : Abs) × (element (slice_get (map (λ (p : ℕ × ℕ). element (slice_get s.items (p.1 * s.columns + p.0))) ps) i) ≡ Some b)
    by [] i = (Known Empty, refl)
    by (p ∷ ps) zero = h (p.1 * s.columns + p.0)
    by (p ∷ ps) (suc i) = by ps i

picked_never : (s : Source) → IsTotal s → (p : Pick) → Never (picked_from s p)
picked_never s h (Picked top left bottom right) e =
    taken_never s h (part_places s top left bottom right) (λ items. Gives (raster (bottom + 1 - top) (right + 1 - left) items)) (λ items. gives_never (raster (bottom + 1 - top) (right + 1 - left) items)) e
picked_never s h (Fault k) e = gives_never _ e

record_never : (s : Source) → IsTotal s → (r : Result (ℕ × ℕ) ErrorKind) → Never (record_from s r)
record_never s h (Ok place) e = taken_never s h ((place.0 * s.columns + place.1) ∷ []) (λ items. Gives (raster 1 1 items)) (λ items. gives_never (raster 1 1 items)) e
record_never s h (Err k) e = gives_never _ e

-- ---- over forms of all cells
module _ (forms : Cell → Option Abs) (total : (c : Cell) → (b : Abs) × (forms c ≡ Some b)) where
  cells_total : (cells : List Cell) (i : ℕ) → (b : Abs) × (element (slice_get (map forms cells) i) ≡ Some b)
  cells_total [] i = (Known Empty, refl)
  cells_total (c ∷ cells) zero = total c
  cells_total (c ∷ cells) (suc i) = cells_total cells i

  source_never : (p : Part) → HasForm p → (f : Source → Outcome) → ((s : Source) → IsTotal s → Never (f s)) → Never (on_source forms p f)
  source_never p h f k = by p.reference
    where
      by : (r : Option CellGrid) → Never (in_source r forms p f)
      by (Some g) e = k (of_cells forms g) (cells_total g.cells) e
      by None e = first_never p.outcome (λ a. f (of_raster (grid_of a))) h (λ a. k (of_raster (grid_of a)) (items_total (grid_of a).items)) e

  turned_never : (cells : CellGrid → CellGrid) (turned : Source → Source) → ((s : Source) → IsTotal s → IsTotal (turned s)) → (p : Part) → HasForm p → (f : Source → Outcome) → ((s : Source) → IsTotal s → Never (f s))
      → Never (on_turned forms cells turned p f)
  turned_never cells turned kept p h f k = by p.reference
    where
      by : (r : Option CellGrid) → Never (in_turned r forms cells turned p f)
      by (Some g) e = k (of_cells forms (cells g)) (cells_total (cells g).cells) e
      by None e =
          first_never p.outcome (λ a. f (turned (of_raster (grid_of a)))) h (λ a. k (turned (of_raster (grid_of a))) (kept (of_raster (grid_of a)) (items_total (grid_of a).items))) e

  abbrev HaveForms : List Part → Type 0
  HaveForms ps = AllByRecursion HasForm ps

  -- ---- calls
  chosen_never : (ps : List Part) → HaveForms ps → (o : Option ℕ) (w : AbsArg) → Never (chosen_or w (at_chosen ps o))
  chosen_never ps h None w e = gives_never w e
  chosen_never [] h (Some n) w e = gives_never w e
  chosen_never (p ∷ ps) h (Some zero) w e = first_never p.outcome (λ a. Gives (single a)) h.0 (λ a. gives_never (single a)) e
  chosen_never (p ∷ ps) h (Some (suc n)) w e = chosen_never ps h.1 (Some n) w e

  branch_never : (ps : List Part) → HaveForms ps → (n : ℕ) (f : AbsArg → Outcome) → ((a : AbsArg) → Never (f a)) → Never (on_branch (slice_get ps n) f)
  branch_never [] h n f k e = k _ e
  branch_never (p ∷ ps) h zero f k e = first_never p.outcome f h.0 k e
  branch_never (p ∷ ps) h (suc n) f k e = branch_never ps h.1 n f k e

  both_never : (s : Span) (p : Part) (ps : List Part) → HaveForms ps → (t : AffineForm) (r : Rel) → Never (both_branches s p ps t r)
  both_never s p ps h t r =
      branch_never ps h 0 (λ one. on_branch (slice_get ps 1) (λ other. outcome_by s (p ∷ ps) (if_test t r one other)))
      (λ one. branch_never ps h 1 (λ other. outcome_by s (p ∷ ps) (if_test t r one other)) (λ other. trial_never s (p ∷ ps) (if_test t r one other) Gives gives_never))

  test_never : (s : Span) (p : Part) (ps : List Part) → HaveForms ps → (b : Abs) → Never (by_test s p ps b)
  test_never s p ps h (Known v) = chosen_never ps h (if_place (logical_in v)) (One (Known (if_without (logical_in v))))
  test_never s p ps h (Affine o) = both_never s p ps h o.form rel.Ne
  test_never s p ps h (Test o r) = both_never s p ps h o.form r

  place_never : (p : Part) (ps : List Part) → HaveForms ps → (o : Option (Result ℤ ErrorKind)) → Never (by_place p ps o)
  place_never p ps h (Some n) e = chosen_never ps h (choose_place n) _ e
  place_never p ps h None e = open_never (list_all is_no_argument ps) e
    where
      open_never : (b : Bool) → Never (if b then fails kind.Value else Refused p.span why.Undecided)
      open_never true e = gives_never _ e
      open_never false e = refused_never _ _ e

  lookup_never : (s : Span) (ps : List Part) (src : Source) → IsTotal src → (keys : List Abs) (args : List AbsArg) → Never (lookup_by s ps src keys args)
  lookup_never s ps src h keys [] e = gives_never _ e
  lookup_never s ps src h keys (k ∷ []) e = gives_never _ e
  lookup_never s ps src h keys (k ∷ c ∷ rest) e =
      unless_never (record_error src.columns (items_seen src) keys (value_of k) (number_of c) (kinds_in rest))
      (tried_on s ps (record_form src.columns keys (value_of k) (number_of c) (kinds_in rest)) (record_from src))
      (trial_never s ps (record_form src.columns keys (value_of k) (number_of c) (kinds_in rest)) (record_from src) (λ r. record_never src h r)) e

  lookups_never : (s : Span) (cells : CellGrid → CellGrid) (turned : Source → Source) → ((s : Source) → IsTotal s → IsTotal (turned s)) → (ps : List Part) → HaveForms ps
      → Never (lookup_outcome forms cells turned s ps)
  lookups_never s cells turned kept [] h e = gives_never _ e
  lookups_never s cells turned kept (p ∷ []) h e = gives_never _ e
  lookups_never s cells turned kept (p ∷ q ∷ ps) h e =
      first_never p.outcome _ h.0
      (λ k. turned_never cells turned kept q h.1.0 _
      (λ src t. taken_never src t _ _ (λ keys. parts_never ps h.1.1 (λ args. lookup_by s (p ∷ q ∷ ps) src keys (k ∷ args)) (λ args. lookup_never s (p ∷ q ∷ ps) src t keys (k ∷ args))))) e

  sum_never : (s : Span) (ps : List Part) (src : Source) → IsTotal src → (seen : List Abs) (a c : AbsArg) (o : Option ErrorKind) → Never (unless_error o (sum_at s ps src seen a c))
  sum_never s ps src h seen a c (Some k) e = gives_never _ e
  sum_never s ps src h seen a c None e = by (((grid_of a).rows == src.rows) && ((grid_of a).columns == src.columns)) e
    where
      by_certain : (o : Option ErrorKind) → Never (unless_error o (tried_on s ps (met_places (grid_of a).items (value_of c)) (λ places. taken src places (λ items. outcome_by s ps (sum_of_elements items)))))
      by_certain (Some k) e = gives_never _ e
      by_certain None e =
          trial_never s ps (met_places (grid_of a).items (value_of c)) (λ places. taken src places (λ items. outcome_by s ps (sum_of_elements items)))
          (λ places. taken_never src h places (λ items. outcome_by s ps (sum_of_elements items)) (λ items. trial_never s ps (sum_of_elements items) Gives gives_never)) e

      by : (b : Bool)
          → Never (if b then unless_error (summed_error_by (known_value (value_of c)) seen (grid_of a).items) (tried_on s ps (met_places (grid_of a).items (value_of c)) (λ places. taken src places (λ items. outcome_by s ps (sum_of_elements items)))) else fails kind.Value)
      by true e = by_certain (summed_error_by (known_value (value_of c)) seen (grid_of a).items) e
      by false e = gives_never _ e

  over_never : (s : Span) (ps : List Part) (p q v : Part) → HasForm p → HasForm q → HasForm v → Never (sum_over forms s ps p q v)
  over_never s ps p q v h k l =
      first_never p.outcome (λ a. on_part q (λ c. on_source forms v (λ src. unless_error (error_of (value_of c)) (sum_at s ps src (seen_before v.reference v.outcome) a c)))) h
      (λ a. first_never q.outcome (λ c. on_source forms v (λ src. unless_error (error_of (value_of c)) (sum_at s ps src (seen_before v.reference v.outcome) a c))) k
      (λ c. source_never v l (λ src. unless_error (error_of (value_of c)) (sum_at s ps src (seen_before v.reference v.outcome) a c)) (λ src t. sum_never s ps src t (seen_before v.reference v.outcome) a c (error_of (value_of c)))))

  sumif_never : (s : Span) (ps : List Part) → HaveForms ps → Never (sumif_outcome forms s ps)
  sumif_never s [] h e = gives_never _ e
  sumif_never s (p ∷ []) h e = gives_never _ e
  sumif_never s (p ∷ q ∷ []) h e = over_never s (p ∷ q ∷ []) p q p h.0 h.1.0 h.0 e
  sumif_never s (p ∷ q ∷ v ∷ []) h e = over_never s (p ∷ q ∷ v ∷ []) p q v h.0 h.1.0 h.1.1.0 e
  sumif_never s (p ∷ q ∷ v ∷ w ∷ ps) h e = gives_never _ e

  size_never : (count : Source → ℕ) (ps : List Part) → HaveForms ps → Never (size_of count forms ps)
  size_never count [] h e = gives_never _ e
  size_never count (p ∷ []) h e = source_never p h.0 _ (λ src t. gives_never _) e
  size_never count (p ∷ q ∷ ps) h e = gives_never _ e

  call_never : (s : Span) (fn : Func) (ps : List Part) → HaveForms ps → Never (call_outcome forms s fn ps)
  call_never s func.If [] h e = gives_never _ e
  call_never s func.If (p ∷ ps) h e = first_never p.outcome (λ a. by_test s p ps (value_of a)) h.0 (λ a. test_never s p ps h.1 (value_of a)) e
  call_never s func.IfError [] h e = gives_never _ e
  call_never s func.IfError (p ∷ ps) h e = first_never p.outcome (λ a. by_error ps (single a)) h.0 (λ a. chosen_never ps h.1 (iferror_place (is_known_error (single a))) (single a)) e
  call_never s func.Choose [] h e = gives_never _ e
  call_never s func.Choose (p ∷ ps) h e =
      first_never p.outcome (λ a. by_place p ps (place_in (number_of a) (known_number (number_of a)))) h.0 (λ a. place_never p ps h.1 (place_in (number_of a) (known_number (number_of a)))) e
  call_never s func.Index [] h e = gives_never _ e
  call_never s func.Index (p ∷ ps) h e =
      source_never p h.0 (λ src. on_parts ps (picked_at s (p ∷ ps) src (seen_before p.reference p.outcome)))
      (λ src t. parts_never ps h.1 (picked_at s (p ∷ ps) src (seen_before p.reference p.outcome))
      (λ args. unless_never (index_error src.rows src.columns (seen_before p.reference p.outcome) args) (tried_on s (p ∷ ps) (pick_form src.rows src.columns args) (picked_from src))
      (trial_never s (p ∷ ps) (pick_form src.rows src.columns args) (picked_from src) (picked_never src t)))) e
  call_never s func.VLookup ps h e = lookups_never s (λ g. g) (λ src. src) (λ src t. t) ps h e
  call_never s func.HLookup ps h e = lookups_never s exchanged_cells exchanged exchanged_total ps h e
  call_never s func.SumIf ps h e = sumif_never s ps h e
  call_never s func.Rows ps h e = size_never (λ src. src.rows) ps h e
  call_never s func.Columns ps h e = size_never (λ src. src.columns) ps h e
  call_never s fn ps h e = parts_never ps h (λ args. outcome_by s ps (form_called fn args)) (λ args. trial_never s ps (form_called fn args) Gives gives_never) e

  -- ---- formulas
  elements_all : (cells : List Cell) → (items : List Abs) × (elements forms cells ≡ Some items)
  elements_all [] = ([], refl)
  elements_all (c ∷ cells) = let b = total c in let others = elements_all cells in (b.0 ∷ others.0, ap₂ both b.1 others.1)

  reference_never : (g : CellGrid) → Never (of_forms g (elements forms g.cells))
  reference_never g e = let all = elements_all g.cells in gives_never _ (sym (ap (of_forms g) all.1) ∙ e)

  mutual
    part_never : (t : Tree) → Never (part_of forms t).outcome
    part_never (tree.Number s y) e = gives_never _ e
    part_never (tree.Text s y) e = gives_never _ e
    part_never (tree.Logical s y) e = gives_never _ e
    part_never (tree.Fault s y) e = gives_never _ e
    part_never (tree.Missing s) e = gives_never _ e
    part_never (tree.Array s rows columns items) e = gives_never _ e
    part_never (tree.Reference s areas) e = reference_never (grid_of_areas (listed areas)) e
    part_never (tree.Call s fn args) e = call_never s fn (parts_of forms args) (all_never args) e
    part_never (tree.Plus s t) e = part_never t e
    part_never (tree.Minus s t) e = first_never (part_of forms t).outcome (λ a. outcome_by s (part_of forms t ∷ []) (minus_form a)) (λ d. part_never t d) (λ a. trial_never s (part_of forms t ∷ []) (minus_form a) Gives gives_never) e
    part_never (tree.Percent s t) e = first_never (part_of forms t).outcome (λ a. outcome_by s (part_of forms t ∷ []) (percent_form a)) (λ d. part_never t d) (λ a. trial_never s (part_of forms t ∷ []) (percent_form a) Gives gives_never) e
    part_never (tree.Infix s o t u) e =
        first_never (part_of forms t).outcome (λ a. on_part (part_of forms u) (λ b. outcome_by s (part_of forms t ∷ part_of forms u ∷ []) (infix_form o a b))) (λ d. part_never t d)
        (λ a. first_never (part_of forms u).outcome (λ b. outcome_by s (part_of forms t ∷ part_of forms u ∷ []) (infix_form o a b)) (λ d. part_never u d)
        (λ b. trial_never s (part_of forms t ∷ part_of forms u ∷ []) (infix_form o a b) Gives gives_never)) e
    part_never (tree.WideNumber s y) e = gives_never _ e
    part_never (tree.Name s n) e = gives_never _ e
    part_never (tree.Unknown s n args) e = gives_never _ e

    all_never : (ts : Trees) → HaveForms (parts_of forms ts)
    all_never none = tt
    all_never (more t ts) = (λ e. part_never t e, all_never ts)

-- ---- so where all that is looked at has a form
abbrev or_empty : Option Abs → Abs
or_empty (Some a) = a
or_empty None = Known Empty

outcome_never : (forms : Cell → Option Abs) (t : Tree) → least_without forms (part_of forms t).looks ≡ None → Never (part_of forms t).outcome
outcome_never forms t h e =
    let same = part_is_same forms (λ c. Some (or_empty (forms c))) t (each_of (λ c. forms c ≡ Some (or_empty (forms c))) (part_of forms t).looks (λ c i. there (forms c) (λ n. none_without forms (part_of forms t).looks h c i n))) in
    part_never (λ c. Some (or_empty (forms c))) (λ c. (or_empty (forms c), refl)) t (sym (ap (λ (p : Part). p.outcome) same) ∙ e)
  where
    there : (o : Option Abs) → (o ≡ None → ⊥) → o ≡ Some (or_empty o)
    there None n = absurd (n refl)
    there (Some a) n = refl

-- no formula is circular by itself
formula_never : (forms : Cell → Option Abs) (t : Tree) → formula_form forms t ≡ Circular → ⊥
formula_never forms t = by (least_without forms (part_of forms t).looks) refl (part_of forms t).outcome refl
  where
    by : (l : Option Cell) → least_without forms (part_of forms t).looks ≡ l → (o : Outcome) → (part_of forms t).outcome ≡ o → by_looks l o ≡ Circular → ⊥
    by (Some b) d o q e = cc
    by None d (Gives a) q e = cc
    by None d (Refused s w) q e = cc
    by None d Without q e = outcome_never forms t d q

pub circular_where_circle : CircularWhereCircle
circular_where_circle book decisions a h = by (decisions a) (is_circular book (λ b. is_some (decisions b)) a) (entry book a) (sym (form_is book decisions a) ∙ h)
  where
    by : (d : Option ℕ) (w : Bool) (e : Option Entry) → decision_or d (if w then Circular else entry_form (forms_of book decisions) e) ≡ Circular → w ≡ true
    by (Some j) w e h = cc
    by None true e h = refl
    by None false None h = cc
    by None false (Some (Constant v)) h = cc
    by None false (Some Malformed) h = cc
    by None false (Some (Formula t)) h = absurd (formula_never (forms_of book decisions) t h)
