-- A formula's form depends on the forms of the cells alone to which it refers, and so the form of a cell is its layer's.
use Rattle.std.specs.Prelude.{◌≡◌, ◌++◌, is_some, not, ◌&&◌, length, ⊤}
use Rattle.std.proofs.Common.{refl, sym, ap, ap₂, ◌∙◌, Bool, true, if◌then◌else◌, List, [], ◌∷◌, map, Option, Some, None, ℕ, zero, suc, ◌<◌, false, arith}
use Rattle.std.specs.List.{AllByRecursion}
use Rattle.std.specs.FinMap.{keys, contains_key}
use Rattle.cell_refs.specs.declared.cell.Cell.{Cell}
use Rattle.cell_refs.specs.declared.span.Span.{Span}
use Rattle.formula_ast.specs.Tree.{Tree, Trees, none, more}
use Rattle.formula_ast.specs.Tree as tree
use Rattle.formula_ast.specs.Measures.{listed, references_of, all_references_of}
use Rattle.formula_ast.specs.declared.func.Func.{Func}
use Rattle.formula_ast.specs.declared.func.Func.TheVariants as func
use Rattle.recalculation.specs.Entries.{Book, Entry, Constant, Formula, Malformed, entry}
use Rattle.recalculation.specs.Evaluation.{CellGrid, grid_of_areas}
use Rattle.recalculation.specs.Looks.{both, elements, exchanged as exchanged_cells}
use Rattle.recalculation.proofs.Knowing.{call_alike as looks_alike}
use Rattle.recalculation.specs.Walks.{is_formula, refers, steps_to, is_circular}
use Rattle.recalculation.proofs.Lists.{each_left, each_right, each_alike}
use Rattle.recalculation.proofs.Reading.{EachOf, OfReference, exchanged_among, grid_cells}
use Rattle.recalculation.proofs.Walking.{all_enough, fixed}
use Rattle.recalculation.proofs.Circles.{found_text, no_step}
use Rattle.recalculation.proofs.WithinAreas.{of_referred}
use Rattle.form_values.specs.declared.abs.Abs.{Abs}
use Rattle.form_values.specs.declared.abs.AbsArg.{AbsArg}
use Rattle.form_table.specs.Operators.{minus_form, percent_form}
use Rattle.form_extraction.specs.Parts.{Part, argument, on_part, on_parts, tried_on}
use Rattle.form_extraction.specs.declared.forms.Outcome.{Outcome}
use Rattle.form_extraction.specs.Sources.{Source, of_cells, in_source, on_source, in_turned, taken, key_places, exchanged}
use Rattle.form_extraction.specs.Deciding.{by_form}
use Rattle.form_extraction.specs.Calls as calls
use Rattle.form_extraction.specs.Calls.{call_outcome}
use Rattle.form_extraction.specs.Formulas.{part_of, parts_of, call_part, of_forms, signed, turned, joined}
use Rattle.form_extraction.specs.declared.forms.CellForm.{CellForm}
use Rattle.form_extraction.specs.declared.forms.CellForm.TheVariants.{Circular}
use Rattle.form_extraction.specs.Places.{Decisions, form_in, least_without, with_least, by_looks, formula_form, entry_form, decision_or, form_over, bounded_form, form_of}
use Rattle.form_extraction.proofs.Reading.{OfPart, arguments_among, part_among, parts_among}

module _ (f g : Cell → Option Abs) where
  abbrev pub Same : Cell → Type 0
  Same b = f b ≡ g b

  forms_alike : (cells : List Cell) → AllByRecursion Same cells → elements f cells ≡ elements g cells
  forms_alike [] h = refl
  forms_alike (c ∷ cells) h = ap₂ both h.0 (forms_alike cells h.1)

  pub source_alike : (grid : CellGrid) → AllByRecursion Same grid.cells → of_cells f grid ≡ of_cells g grid
  source_alike grid h = ap (λ items. record { rows = grid.rows; columns = grid.columns; items = items; is_seen = false }) (each_alike f g grid.cells h)

  pub in_alike : (p : Part) (r : Option CellGrid) → OfReference Same r → in_source r f p ≡ in_source r g p
  in_alike p (Some grid) h = λ i k. k (source_alike grid h i)
  in_alike p None h = refl

  on_alike : (p : Part) → OfPart Same p → on_source f p ≡ on_source g p
  on_alike p h = in_alike p p.reference h.1

  -- ---- calls
  turned_alike : (cells : CellGrid → CellGrid) → ((grid : CellGrid) → AllByRecursion Same grid.cells → AllByRecursion Same (cells grid).cells) → (turned : Source → Source) (p : Part) (r : Option CellGrid) → OfReference Same r
      → in_turned r f cells turned p ≡ in_turned r g cells turned p
  turned_alike cells kept turned p (Some grid) h = λ i k. k (source_alike (cells grid) (kept grid h) i)
  turned_alike cells kept turned p None h = refl

  lookup_alike : (cells : CellGrid → CellGrid) → ((grid : CellGrid) → AllByRecursion Same grid.cells → AllByRecursion Same (cells grid).cells) → (turned : Source → Source) (s : Span) (ps : List Part)
      → AllByRecursion (OfPart Same) ps → calls.lookup_outcome f cells turned s ps ≡ calls.lookup_outcome g cells turned s ps
  lookup_alike cells kept t s [] h = refl
  lookup_alike cells kept t s (p ∷ []) h = refl
  lookup_alike cells kept t s (key ∷ table ∷ rest) h =
      ap (λ (on : (Source → Outcome) → Outcome). on_part key (λ k. on (λ src. taken src (key_places src) (λ keys. on_parts rest (λ args. calls.lookup_by s (key ∷ table ∷ rest) src keys (k ∷ args))))))
      (turned_alike cells kept t table table.reference h.1.0.1)

  sum_alike : (s : Span) (parts : List Part) (tested criterion summed : Part) → OfPart Same summed → calls.sum_over f s parts tested criterion summed ≡ calls.sum_over g s parts tested criterion summed
  sum_alike s parts tested criterion summed h =
      ap (λ (on : (Source → Outcome) → Outcome). on_part tested (λ a. on_part criterion (λ c. on (λ src. calls.unless_error (Rattle.form_table.specs.Lookups.error_of (Rattle.form_table.specs.Wanted.value_of c)) (calls.sum_at s parts src (calls.seen_before summed.reference summed.outcome) a c)))))
      (on_alike summed h)

  sumif_alike : (s : Span) (ps : List Part) → AllByRecursion (OfPart Same) ps → calls.sumif_outcome f s ps ≡ calls.sumif_outcome g s ps
  sumif_alike s [] h = refl
  sumif_alike s (p ∷ []) h = refl
  sumif_alike s (p ∷ q ∷ []) h = sum_alike s (p ∷ q ∷ []) p q p h.0
  sumif_alike s (p ∷ q ∷ r ∷ []) h = sum_alike s (p ∷ q ∷ r ∷ []) p q r h.1.1.0
  sumif_alike s (p ∷ q ∷ r ∷ t ∷ ps) h = refl

  index_alike : (s : Span) (ps : List Part) → AllByRecursion (OfPart Same) ps → calls.index_outcome f s ps ≡ calls.index_outcome g s ps
  index_alike s [] h = refl
  index_alike s (p ∷ places) h =
      ap (λ (on : (Source → Outcome) → Outcome). on (λ src. on_parts places (calls.picked_at s (p ∷ places) src (calls.seen_before p.reference p.outcome)))) (on_alike p h.0)

  size_alike : (count : Source → ℕ) (ps : List Part) → AllByRecursion (OfPart Same) ps → calls.size_of count f ps ≡ calls.size_of count g ps
  size_alike count [] h = refl
  size_alike count (p ∷ []) h = ap (λ (on : (Source → Outcome) → Outcome). on (λ src. Rattle.form_extraction.specs.declared.forms.Outcome.TheVariants.Gives (Rattle.form_values.specs.declared.abs.AbsArg.TheVariants.One (Rattle.form_values.specs.declared.abs.Abs.TheVariants.Known (Rattle.sheet_model.specs.declared.value.Value.TheVariants.Number (Rattle.fractions.specs.Whole.whole_ℚ (Rattle.std.specs.Prelude.pos (count src)))))))) (on_alike p h.0)
  size_alike count (p ∷ q ∷ ps) h = refl

  outcome_alike : (s : Span) (fn : Func) (ps : List Part) → AllByRecursion (OfPart Same) ps → call_outcome f s fn ps ≡ call_outcome g s fn ps
  outcome_alike s func.Index ps h = index_alike s ps h
  outcome_alike s func.VLookup ps h = lookup_alike (λ grid. grid) (λ grid all. all) (λ s. s) s ps h
  outcome_alike s func.HLookup ps h = lookup_alike exchanged_cells (exchanged_among Same) exchanged s ps h
  outcome_alike s func.SumIf ps h = sumif_alike s ps h
  outcome_alike s func.Rows ps h = size_alike (λ s. s.rows) ps h
  outcome_alike s func.Columns ps h = size_alike (λ s. s.columns) ps h
  outcome_alike s _ ps h = refl

  call_alike : (s : Span) (fn : Func) (ps : List Part) → AllByRecursion (OfPart Same) ps → call_part f s fn ps ≡ call_part g s fn ps
  call_alike s fn ps h =
      let l = looks_alike by_form f g fn (map argument ps) (arguments_among Same ps h) in
      let o = outcome_alike s fn ps h in
      λ i. record { span = s; looks = l i; outcome = o i; reference = None }

  -- ---- formulas
  mutual
    pub part_alike : (t : Tree) → EachOf Same (references_of t) → part_of f t ≡ part_of g t
    part_alike (tree.Number s y) h = refl
    part_alike (tree.Text s y) h = refl
    part_alike (tree.Logical s y) h = refl
    part_alike (tree.Fault s y) h = refl
    part_alike (tree.Missing s) h = refl
    part_alike (tree.Array s rows columns items) h = refl
    part_alike (tree.Reference s areas) h =
        let o = ap (of_forms (grid_of_areas (listed areas))) (forms_alike (grid_of_areas (listed areas)).cells (grid_cells Same (listed areas) h)) in
        λ i. record { span = s; looks = (grid_of_areas (listed areas)).cells; outcome = o i; reference = Some (grid_of_areas (listed areas)) }
    part_alike (tree.Call s fn args) h = ap (call_part f s fn) (parts_alike args h) ∙ call_alike s fn (parts_of g args) (parts_among Same g args h)
    part_alike (tree.Plus s t) h = ap (signed s) (part_alike t h)
    part_alike (tree.Minus s t) h = ap (turned s minus_form) (part_alike t h)
    part_alike (tree.Percent s t) h = ap (turned s percent_form) (part_alike t h)
    part_alike (tree.Infix s o t u) h = ap₂ (joined s o) (part_alike t (each_left _ (references_of t) (references_of u) h)) (part_alike u (each_right _ (references_of t) (references_of u) h))
    part_alike (tree.WideNumber s y) h = refl
    part_alike (tree.Name s n) h = refl
    part_alike (tree.Unknown s n args) h = refl

    pub parts_alike : (ts : Trees) → EachOf Same (all_references_of ts) → parts_of f ts ≡ parts_of g ts
    parts_alike none h = refl
    parts_alike (more t ts) h = ap₂ (λ p ps. p ∷ ps) (part_alike t (each_left _ (references_of t) (all_references_of ts) h)) (parts_alike ts (each_right _ (references_of t) (all_references_of ts) h))

  pub least_alike : (cells : List Cell) → AllByRecursion Same cells → least_without f cells ≡ least_without g cells
  least_alike [] h = refl
  least_alike (c ∷ cells) h = ap₂ (with_least f c) h.0 (least_alike cells h.1) ∙ same_least c (g c) (least_without g cells)
    where
      same_least : (c : Cell) (o : Option Abs) (l : Option Cell) → with_least f c o l ≡ with_least g c o l
      same_least c None l = refl
      same_least c (Some a) l = refl

  pub formula_alike : (t : Tree) → EachOf Same (references_of t) → formula_form f t ≡ formula_form g t
  formula_alike t h =
      ap (λ (p : Part). by_looks (least_without f p.looks) p.outcome) (part_alike t h) ∙ ap (λ l. by_looks l (part_of g t).outcome) (least_alike (part_of g t).looks (part_among Same g t h).0)

-- ---- cells
same_in : (f g : Cell → CellForm) (b : Cell) → f b ≡ g b → form_in (f b) ≡ form_in (g b)
same_in f g b e = ap form_in e

pub entry_alike : (f g : Cell → CellForm) (e : Option Entry) → ((b : Cell) → refers e b ≡ true → f b ≡ g b) → entry_form (λ b. form_in (f b)) e ≡ entry_form (λ b. form_in (g b)) e
entry_alike f g None h = refl
entry_alike f g (Some (Constant v)) h = refl
entry_alike f g (Some (Formula t)) h =
    formula_alike (λ b. form_in (f b)) (λ b. form_in (g b)) t (of_referred (λ b. form_in (f b) ≡ form_in (g b)) t (λ b r. same_in f g b (h b r)))
entry_alike f g (Some Malformed) h = refl

pub layer_alike : (f g : Cell → CellForm) (d : Option ℕ) (circular : Bool) (e : Option Entry) → ((b : Cell) → (not (is_some d) && refers e b) ≡ true → f b ≡ g b)
    → decision_or d (if circular then Circular else entry_form (λ b. form_in (f b)) e) ≡ decision_or d (if circular then Circular else entry_form (λ b. form_in (g b)) e)
layer_alike f g (Some j) circular e h = refl
layer_alike f g None circular e h = ap (λ v. if circular then Circular else v) (entry_alike f g e h)

either_form : (f g : Cell → CellForm) (w : Bool) (e : Option Entry) → w ≡ true
    → (if is_formula e && w then Circular else entry_form (λ b. form_in (f b)) e) ≡ (if is_formula e && w then Circular else entry_form (λ b. form_in (g b)) e)
either_form f g w None h = refl
either_form f g w (Some (Constant v)) h = refl
either_form f g w (Some (Formula t)) h =
    ap (λ b. if b then Circular else entry_form (λ b. form_in (f b)) (Some (Formula t))) h ∙ sym (ap (λ b. if b then Circular else entry_form (λ b. form_in (g b)) (Some (Formula t))) h)
either_form f g w (Some Malformed) h = refl

pub layer_looped : (f g : Cell → CellForm) (d : Option ℕ) (w : Bool) (e : Option Entry) → w ≡ true
    → decision_or d (if is_formula e && (not (is_some d) && w) then Circular else entry_form (λ b. form_in (f b)) e)
    ≡ decision_or d (if is_formula e && (not (is_some d) && w) then Circular else entry_form (λ b. form_in (g b)) e)
layer_looped f g (Some j) w e h = refl
layer_looped f g None w e h = either_form f g w e h

module _ (book : Book) (decisions : Decisions) where
  abbrev is_leaf : Cell → Bool
  is_leaf b = is_some (decisions b)

  -- the form of a cell is what its text makes of the forms of the others
  pub form_is : (a : Cell) → form_of book decisions a ≡ form_over book decisions (form_of book decisions) a
  unfolding bounded_form form_of
  form_is a =
      fixed (keys book.texts) (steps_to book is_leaf) (contains_key book.texts) (found_text book) (no_step book is_leaf) (form_over book decisions)
      (λ f g b s. layer_alike f g (decisions b) (is_circular book is_leaf b) (entry book b) s) Circular
      (λ f g b w. layer_looped f g (decisions b) _ (entry book b) w) a

  -- a bound above the number of texts is enough
  pub form_enough : (m : ℕ) (a : Cell) → length (keys book.texts) < m → bounded_form book decisions m a ≡ form_of book decisions a
  unfolding bounded_form form_of
  form_enough zero a h = absurd (omega arith)
  form_enough (suc m) a h =
      all_enough (keys book.texts) (steps_to book is_leaf) (contains_key book.texts) (found_text book) (no_step book is_leaf) (form_over book decisions)
      (λ f g b s. layer_alike f g (decisions b) (is_circular book is_leaf b) (entry book b) s) Circular
      (λ f g b w. layer_looped f g (decisions b) _ (entry book b) w) m a (omega arith)
