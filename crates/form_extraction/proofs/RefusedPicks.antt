-- Refusals of functions that pick from a reference are right: an argument varies.
use Rattle.std.specs.Prelude.{◌+◌, ◌-◌, ◌*◌, ◌&&◌, ◌==◌, slice_get, slice_index_or}
use Rattle.std.proofs.Common.{◌≡◌, refl, sym, ap, ap₂, ◌∙◌, subst, Bool, true, false, if◌then◌else◌, List, [], ◌∷◌, map, Option, Some, None, Result, Ok, Err, ℕ, zero, suc, arith, ◌⊎◌, inl, inr}
use Rattle.std.specs.List.{AllByRecursion, filter_map}
use Rattle.fractions.specs.Rational.{zero_ℚ}
use Rattle.calculations.specs.Calculation.{exact}
use Rattle.cell_refs.specs.declared.cell.Cell.{Cell}
use Rattle.cell_refs.specs.declared.span.Span.{Span}
use Rattle.cell_refs.specs.declared.error_kind.ErrorKind.{ErrorKind}
use Rattle.cell_refs.specs.declared.error_kind.ErrorKind.TheVariants as kind
use Rattle.formula_ast.specs.Tree.{Tree, Trees, none, more}
use Rattle.formula_ast.specs.Tree as tree
use Rattle.formula_ast.specs.declared.func.Func.{Func}
use Rattle.formula_ast.specs.declared.func.Func.TheVariants as func
use Rattle.sheet_model.specs.Grids.{Rectangle}
use Rattle.sheet_model.specs.declared.value.Value.{Value}
use Rattle.sheet_model.specs.declared.value.Value.TheVariants.{Empty}
use Rattle.sheet_model.specs.declared.grid.Arg.TheVariants as arg
use Rattle.sheet_funcs.specs.Arguments as functions
use Rattle.sheet_funcs.specs.Arguments.{below}
use Rattle.sheet_funcs.specs.Picks.{pick_of}
use Rattle.sheet_funcs.specs.declared.pick.Pick.{Pick}
use Rattle.sheet_funcs.specs.declared.pick.Pick.TheVariants.{Part as Picked, Fault}
use Rattle.recalculation.specs.Evaluation.{CellGrid, values_in, evaluated}
use Rattle.recalculation.proofs.GridCells.{IsWhole}
use Rattle.recalculation.specs.Looks.{both}
use Rattle.affine_forms.specs.Forms.{Assignment}
use Rattle.affine_forms.specs.Steps.{total}
use Rattle.form_values.specs.Entries.{entry}
use Rattle.form_values.specs.Grids.{Raster}
use Rattle.form_values.specs.Meaning.{abs_at, arg_at}
use Rattle.form_values.proofs.Opening.{IsAbs, IsSound}
use Rattle.form_values.specs.Refusals.{Varies}
use Rattle.form_values.specs.Trials.{Refusal, Breaks, Undecided, on_given, given, made, one}
use Rattle.form_values.specs.declared.abs.Abs.{Abs}
use Rattle.form_values.specs.declared.abs.Abs.TheVariants.{Known}
use Rattle.form_values.specs.declared.abs.AbsArg.{AbsArg}
use Rattle.form_values.specs.declared.abs.AbsArg.TheVariants.{One, Area}
use Rattle.form_table.specs.Wanted.{value_of, number_of, grid_of}
use Rattle.form_table.specs.Items.{item_at, form_in, first_error}
use Rattle.form_table.specs.Picks.{pick_form}
use Rattle.form_table.specs.Certain.{index_error}
use Rattle.form_table.specs.CertainRecords.{record_error}
use Rattle.form_table.specs.Lookups.{record_form, kinds_in, known_value, error_of}
use Rattle.form_table.specs.Criteria.{met_places, sum_of_elements, summed_error_by}
use Rattle.form_table.specs.Products.{or_fault}
use Rattle.form_truth.specs.Picks.{IsPick, IsRecord, first_column}
use Rattle.form_truth.specs.Rows.{ArgumentVaries}
use Rattle.form_truth.proofs.Chosen.{places_are_right}
use Rattle.form_truth.proofs.Exact.{exact-and_then, exact-made}
use Rattle.form_truth.proofs.Finding.{lookup_is_right}
use Rattle.form_truth.proofs.Picking.{index_is_right}
use Rattle.form_extraction.specs.declared.forms.Why.{Why}
use Rattle.form_extraction.specs.declared.forms.Why.TheVariants as why
use Rattle.form_extraction.specs.Parts.{Part, span_at, outcome_by, on_part, on_parts, tried_on}
use Rattle.form_extraction.specs.declared.forms.Outcome.{Outcome}
use Rattle.form_extraction.specs.declared.forms.Outcome.TheVariants.{Gives, Refused}
use Rattle.form_extraction.specs.Sources.{Source, items_seen, of_cells, of_raster, element, elements_at, on_source, in_turned, on_turned, taken, part_places, key_places}
use Rattle.form_extraction.specs.Calls.{fails, raster, picked_from, picked_at, index_outcome, record_from, lookup_by, lookup_outcome, unless_error, seen_before, sum_at, sum_over, sumif_outcome, size_of}
use Rattle.form_extraction.specs.Formulas.{part_of, parts_of}
use Rattle.form_extraction.specs.Refuted.{IsPart, in_call, IsAmong, first, later, IsRefuted}
use Rattle.form_extraction.proofs.Worth.{Agree}
use Rattle.form_extraction.proofs.Parts.{reference_whole}
use Rattle.form_extraction.proofs.Picking.{Matches, grid_match, grid_matches, reference_grid}
use Rattle.form_extraction.proofs.Refusing.{Behind, gives_never, elements_never, Own, too_wide, behind, breaks, undecided, tried_own, AmongRefuted, first_refuted, later_refuted, PartIsRefuted, ArePartsRefuted, IsOf, AreOf, IsSourceOf, are_sound, part_first, parts_first, source_first, argument_varies, tree_varies, of_varies}
use Rattle.form_extraction.proofs.RefusedRows.{whole_refuted, wide_so, in_arguments, only_among}

-- ---- what is never refused
-- what is taken of a source
taken_never : (s : Source) (places : List ℕ) (f : List Abs → AbsArg) (at : Span) (cause : Why) → taken s places (λ items. Gives (f items)) ≡ Refused at cause → ⊥
taken_never s places f at cause e = let b = elements_never (elements_at s places) (λ items. Gives (f items)) at cause e in gives_never (f b.value) at cause b.goes

picked_never : (s : Source) (p : Pick) (at : Span) (cause : Why) → picked_from s p ≡ Refused at cause → ⊥
picked_never s (Picked top left bottom right) at cause e = taken_never s (part_places s top left bottom right) (raster (bottom + 1 - top) (right + 1 - left)) at cause e
picked_never s (Fault k) at cause e = gives_never _ at cause e

record_never : (s : Source) (r : Result (ℕ × ℕ) ErrorKind) (at : Span) (cause : Why) → record_from s r ≡ Refused at cause → ⊥
record_never s (Ok place) at cause e = taken_never s ((place.0 * s.columns + place.1) ∷ []) (raster 1 1) at cause e
record_never s (Err k) at cause e = gives_never _ at cause e

-- a sum over fractions of any size
sum_never : (items : List Abs) (r : Refusal) → exact (sum_of_elements items) ≡ Err r → ⊥
sum_never items r e = by (first_error (filter_map item_at items)) e
  where
    by : (o : Option ErrorKind) → exact (or_fault o (one (made entry (total (filter_map form_in (filter_map item_at items)))))) ≡ Err r → ⊥
    by (Some k) e = cc
    by None e =
        let m : exact (one (made entry (total (filter_map form_in (filter_map item_at items))))) ≡ Ok (One (entry (exact (total (filter_map form_in (filter_map item_at items)))))) =
        exact-and_then (made entry (total (filter_map form_in (filter_map item_at items)))) (λ a. given (One a))
        ∙ ap (λ s. exact (on_given s (λ a. given (One a)))) (exact-made entry (total (filter_map form_in (filter_map item_at items)))) in
        let c : Ok (One (entry (exact (total (filter_map form_in (filter_map item_at items)))))) ≡ Err r = sym m ∙ e in
        cc

-- an argument that is the same at all assignments doesn't vary
constant_never : {V : Type 0} (v : V) → Varies (λ (x : Assignment). v) → ⊥
constant_never v y = y.differ refl

-- ---- a source with what is empty in the place of what has no form
abbrev or_empty : Option Abs → Abs
or_empty (Some a) = a
or_empty None = Known Empty

abbrev filled : Source → Raster
filled s = record { rows = s.rows; columns = s.columns; items = map or_empty s.items }

filled_at : (items : List (Option Abs)) (i : ℕ) (b : Abs) → element (slice_get items i) ≡ Some b → slice_index_or (map or_empty items) i (Known Empty) ≡ b
filled_at [] i b e = let s : Known Empty ≡ b = cc in s
filled_at (None ∷ items) zero b e = cc
filled_at (Some a ∷ items) zero b e = cc
filled_at (a ∷ items) (suc i) b e = filled_at items i b e

-- the elements that are taken of it
filled_are : (s : Source) (places : List ℕ) (items : List Abs) → elements_at s places ≡ Some items → map (λ i. slice_index_or (map or_empty s.items) i (Known Empty)) places ≡ items
filled_are s [] items e = cc
filled_are s (i ∷ places) items e = by (element (slice_get s.items i)) refl (elements_at s places) refl e (λ others d. filled_are s places others d)
  where
    by : (o : Option Abs) → element (slice_get s.items i) ≡ o → (os : Option (List Abs)) → elements_at s places ≡ os → both o os ≡ Some items
        → ((others : List Abs) → elements_at s places ≡ Some others → map (λ i. slice_index_or (map or_empty s.items) i (Known Empty)) places ≡ others)
        → map (λ i. slice_index_or (map or_empty s.items) i (Known Empty)) (i ∷ places) ≡ items
    by None c os d h ih = cc
    by (Some b) c None d h ih = cc
    by (Some b) c (Some others) d h ih = let q : b ∷ others ≡ items = cc in ap₂ (λ v vs. v ∷ vs) (filled_at s.items i b c) (ih others d) ∙ q

-- its first column
map_after : {A B C : Type 0} (f : B → C) (g : A → B) (xs : List A) → map f (map g xs) ≡ map (λ a. f (g a)) xs
map_after f g [] = refl
map_after f g (y ∷ xs) = let e = map_after f g xs in λ i. f (g y) ∷ (e i)

keys_are : (s : Source) (keys : List Abs) → elements_at s (key_places s) ≡ Some keys → first_column (filled s) ≡ keys
keys_are s keys e =
    ap (λ (f : ℕ → ℕ). map (λ row. slice_index_or (map or_empty s.items) (f row) (Known Empty)) (below s.rows)) (λ i row. plain (row * s.columns) i)
    ∙ sym (map_after (λ i. slice_index_or (map or_empty s.items) i (Known Empty)) (λ row. row * s.columns) (below s.rows)) ∙ filled_are s (key_places s) keys e
  where
    plain : (n : ℕ) → n + 0 ≡ n
    plain n = omega arith

-- it is sound, and at two assignments at which the elements that have forms are the same it is the same
some_sound : (items : List (Option Abs)) → ((i : ℕ) (b : Abs) → element (slice_get items i) ≡ Some b → IsAbs b) → AllByRecursion IsAbs (map or_empty items)
some_sound [] h = tt
some_sound (None ∷ items) h = (tt, some_sound items (λ i. h (suc i)))
some_sound (Some a ∷ items) h = (h zero a refl, some_sound items (λ i. h (suc i)))

some_alike : (x y : Assignment) (items : List (Option Abs)) → ((i : ℕ) (b : Abs) → element (slice_get items i) ≡ Some b → abs_at x b ≡ abs_at y b)
    → map (abs_at x) (map or_empty items) ≡ map (abs_at y) (map or_empty items)
some_alike x y [] h = refl
some_alike x y (None ∷ items) h = ap (λ vs. Empty ∷ vs) (some_alike x y items (λ i. h (suc i)))
some_alike x y (Some a ∷ items) h = ap₂ (λ v vs. v ∷ vs) (h zero a refl) (some_alike x y items (λ i. h (suc i)))

-- where it varies, so does what it stands for
stands_varies : (s : Source) (v : Assignment → Rectangle) → ((x : Assignment) → Matches x s (v x)) → Varies (λ x. arg_at x (Area (filled s))) → Varies v
stands_varies s v m y =
    record {
      one = y.one;
      other = y.other;
      differ = λ e. y.differ (ap (λ items. arg.Area (record { rows = s.rows; columns = s.columns; items = items }))
          (some_alike y.one y.other s.items
          (λ i b d. sym ((m y.one).items i b d).1 ∙ ap (λ (r : Rectangle). slice_index_or r.items i Empty) e ∙ ((m y.other).items i b d).1)));
    }

module _ (forms : Cell → Option Abs) (values : Assignment → Cell → Value) (agree : (x : Assignment) → Agree x forms (values x)) where
  abbrev Refuted : Trees → Span → Why → Type 0
  Refuted ts at cause = AmongRefuted values ts at cause

  -- ---- ROWS and COLUMNS
  pub size_refuted : (s : Span) (f : Func) (count : Source → ℕ) (ts : Trees) → ArePartsRefuted forms values agree ts → (at : Span) (cause : Why) → size_of count forms (parts_of forms ts) ≡ Refused at cause
      → IsRefuted values (tree.Call s f ts) at cause
  size_refuted s f count none h at cause e = absurd (gives_never _ at cause e)
  size_refuted s f count (more t none) h at cause e = by (source_first forms values agree t h.0 _ at cause e)
    where
      by : IsRefuted values t at cause ⊎ Behind (IsSourceOf forms values agree t) (λ g. Gives (One (Known (Rattle.sheet_model.specs.declared.value.Value.TheVariants.Number (Rattle.fractions.specs.Whole.whole_ℚ (Rattle.std.specs.Prelude.pos (count g))))))) at cause
          → IsRefuted values (tree.Call s f (more t none)) at cause
      by (inl r) = in_arguments values s f (more t none) at cause (first_refuted values t none at cause r)
      by (inr b) = absurd (gives_never _ at cause b.goes)
  size_refuted s f count (more t (more u ts)) h at cause e = absurd (gives_never _ at cause e)

  -- ---- INDEX
  index_varies : (rows columns : ℕ) (args : List AbsArg) → AllByRecursion IsSound args → (r : Refusal) → exact (pick_form rows columns args) ≡ Err r → (i : ℕ) → r ≡ Undecided (suc i) → ArgumentVaries arg_at args i
  index_varies rows columns args k r e i d = by (subst (IsPick (λ x. pick_of rows columns (map (arg_at x) args)) (One (Known Empty) ∷ args)) (e ∙ ap Err d) (index_is_right rows columns (One (Known Empty)) args))
    where
      by : ArgumentVaries arg_at (One (Known Empty) ∷ args) (suc i) → ArgumentVaries arg_at args i
      by v = record { argument = v.argument; is_there = v.is_there; varies = v.varies }

  index_own : (s : Span) (t : Tree) (ts : Trees) (g : Source) (args : List AbsArg) → AreOf forms values agree ts args → (at : Span) (cause : Why)
      → Own s (part_of forms t ∷ parts_of forms ts) (pick_form g.rows g.columns args) (picked_from g) at cause → IsRefuted values (tree.Call s func.Index (more t ts)) at cause
  index_own s t ts g args k at cause (too_wide e c) = whole_refuted values _ at cause e (wide_so values _ cause c)
  index_own s t ts g args k at cause (behind b) = absurd (picked_never g b.value at cause b.goes)
  index_own s t ts g args k at cause (breaks d e c) =
      absurd (subst (IsPick (λ x. pick_of g.rows g.columns (map (arg_at x) args)) (One (Known Empty) ∷ args)) d (index_is_right g.rows g.columns (One (Known Empty)) args))
  index_own s t ts g args k at cause (undecided zero d e c) =
      absurd (never (subst (IsPick (λ x. pick_of g.rows g.columns (map (arg_at x) args)) (One (Known Empty) ∷ args)) d (index_is_right g.rows g.columns (One (Known Empty)) args)))
    where
      never : ArgumentVaries arg_at (One (Known Empty) ∷ args) 0 → ⊥
      never v =
          let same : v.argument ≡ One (Known Empty) = let n = v.is_there in cc in
          constant_never (arg.One Empty) (subst (λ b. Varies (λ x. arg_at x b)) same v.varies)
  index_own s t ts g args k at cause (undecided (suc i) d e c) =
      in_arguments values s func.Index (more t ts) at cause
      (later_refuted values t ts at cause (argument_varies forms values agree s ts args k i (index_varies g.rows g.columns args (are_sound forms values agree ts args k) (Undecided (suc i)) d i refl) at e cause c))

  abbrev picked_by : Span → Tree → Trees → Source → List AbsArg → Outcome
  picked_by s t ts g = picked_at s (part_of forms t ∷ parts_of forms ts) g (seen_before (part_of forms t).reference (part_of forms t).outcome)

  index_unless : (s : Span) (t : Tree) (ts : Trees) (g : Source) (args : List AbsArg) → AreOf forms values agree ts args → (at : Span) (cause : Why) (o : Option ErrorKind)
      → unless_error o (tried_on s (part_of forms t ∷ parts_of forms ts) (pick_form g.rows g.columns args) (picked_from g)) ≡ Refused at cause → IsRefuted values (tree.Call s func.Index (more t ts)) at cause
  index_unless s t ts g args k at cause (Some n) e = absurd (gives_never _ at cause e)
  index_unless s t ts g args k at cause None e =
      index_own s t ts g args k at cause (tried_own s (part_of forms t ∷ parts_of forms ts) (pick_form g.rows g.columns args) (picked_from g) at cause e)

  index_places : (s : Span) (t : Tree) (ts : Trees) (g : Source) (at : Span) (cause : Why)
      → Refuted ts at cause ⊎ Behind (AreOf forms values agree ts) (picked_by s t ts g) at cause → IsRefuted values (tree.Call s func.Index (more t ts)) at cause
  index_places s t ts g at cause (inl r) = in_arguments values s func.Index (more t ts) at cause (later_refuted values t ts at cause r)
  index_places s t ts g at cause (inr b) =
      index_unless s t ts g b.value b.is at cause (index_error g.rows g.columns (seen_before (part_of forms t).reference (part_of forms t).outcome) b.value) b.goes

  pub index_refuted : (s : Span) (ts : Trees) → ArePartsRefuted forms values agree ts → (at : Span) (cause : Why) → index_outcome forms s (parts_of forms ts) ≡ Refused at cause
      → IsRefuted values (tree.Call s func.Index ts) at cause
  index_refuted s none h at cause e = absurd (gives_never _ at cause e)
  index_refuted s (more t ts) h at cause e =
      by (source_first forms values agree t h.0 (λ g. on_parts (parts_of forms ts) (picked_by s t ts g)) at cause e) (λ g d. parts_first forms values agree ts h.1 (picked_by s t ts g) at cause d)
    where
      by : IsRefuted values t at cause ⊎ Behind (IsSourceOf forms values agree t) (λ g. on_parts (parts_of forms ts) (picked_by s t ts g)) at cause
          → ((g : Source) → on_parts (parts_of forms ts) (picked_by s t ts g) ≡ Refused at cause → Refuted ts at cause ⊎ Behind (AreOf forms values agree ts) (picked_by s t ts g) at cause)
          → IsRefuted values (tree.Call s func.Index (more t ts)) at cause
      by (inl r) ih = in_arguments values s func.Index (more t ts) at cause (first_refuted values t ts at cause r)
      by (inr b) ih = index_places s t ts b.value at cause (ih b.value b.goes)

  -- ---- VLOOKUP and HLOOKUP
  module _ (s : Span) (name : Func) (cells : CellGrid → CellGrid) (turned : Source → Source) (turn : Rectangle → Rectangle)
      (whole_cells : (x : Assignment) (g : CellGrid) → IsWhole g → values_in (values x) (cells g) ≡ turn (values_in (values x) g))
      (keeps : (x : Assignment) (g : Source) (r : Rectangle) → Matches x g r → Matches x (turned g) (turn r)) (t u : Tree) (ts : Trees) where
    -- a source stands for the value of a tree with rows and columns turned
    abbrev IsTurnedOf : Source → Type 0
    IsTurnedOf g = (x : Assignment) → Matches x g (turn (functions.grid_of (exact (evaluated (values x) u))))

    turned_first : PartIsRefuted forms values agree u → (f : Source → Outcome) (at : Span) (cause : Why) → on_turned forms cells turned (part_of forms u) f ≡ Refused at cause
        → IsRefuted values u at cause ⊎ Behind IsTurnedOf f at cause
    turned_first h f at cause e = by_reference (part_of forms u).reference refl e
      where
        by_part : IsRefuted values u at cause ⊎ Behind (IsOf forms values agree u) (λ a. f (turned (of_raster (grid_of a)))) at cause → IsRefuted values u at cause ⊎ Behind IsTurnedOf f at cause
        by_part (inl r) = inl r
        by_part (inr b) =
            inr (record {
              value = turned (of_raster (grid_of b.value));
              is = λ x. subst (λ v. Matches x (turned (of_raster (grid_of b.value))) (turn (functions.grid_of v))) (sym (b.is.1 x)) (keeps x _ _ (grid_match x forms (values x) (agree x) b.value b.is.0));
              goes = b.goes;
            })

        by_reference : (r : Option CellGrid) → (part_of forms u).reference ≡ r → in_turned r forms cells turned (part_of forms u) f ≡ Refused at cause → IsRefuted values u at cause ⊎ Behind IsTurnedOf f at cause
        by_reference (Some g) d e =
            inr (record {
              value = of_cells forms (cells g);
              is = λ x. subst (Matches x (of_cells forms (cells g)))
                  (whole_cells x g (reference_whole forms u g d) ∙ ap (λ v. turn (functions.grid_of v)) (sym (reference_grid x forms (values x) (agree x) u g d)))
                  (grid_matches x forms (values x) (agree x) (cells g));
              goes = e;
            })
        by_reference None d e = by_part (part_first forms values agree u h (λ a. f (turned (of_raster (grid_of a)))) at cause e)

    abbrev all : Trees
    all = more t (more u ts)

    abbrev parts : List Part
    parts = part_of forms t ∷ part_of forms u ∷ parts_of forms ts

    module _ (a : AbsArg) (k : IsOf forms values agree t a) (g : Source) (m : IsTurnedOf g) (keys : List Abs) (are : elements_at g (key_places g) ≡ Some keys) where
      abbrev table : Raster
      table = filled g

      matches : (x : Assignment) → Matches x g (turn (functions.grid_of (exact (evaluated (values x) u))))
      matches x = m x

      table_sound : IsSound (Area table)
      table_sound = some_sound g.items (λ i b e. ((matches (λ j. zero_ℚ)).items i b e).0)

      table_varies : Varies (λ x. arg_at x (Area table)) → Varies (λ x. exact (evaluated (values x) u))
      table_varies v =
          let w = stands_varies g (λ x. turn (functions.grid_of (exact (evaluated (values x) u)))) matches v in
          record { one = w.one; other = w.other; differ = λ e. w.differ (ap (λ v. turn (functions.grid_of v)) e) }

      -- what the row says of these arguments
      abbrev IsRow : AbsArg → List AbsArg → Result (Result (ℕ × ℕ) ErrorKind) Refusal → Type 0
      IsRow c rest r =
          IsRecord (λ x. exact (Rattle.sheet_funcs.specs.Lookups.vlookup_of (map (arg_at x) (a ∷ Area table ∷ c ∷ rest)))) (λ x. functions.grid_of (arg_at x (Area table))) (a ∷ Area table ∷ c ∷ rest) r

      row : (c : AbsArg) (rest : List AbsArg) → IsSound c → AllByRecursion IsSound rest → IsRow c rest (exact (record_form g.columns keys (value_of a) (number_of c) (kinds_in rest)))
      row c rest p q =
          subst (λ keys. IsRow c rest (exact (record_form g.columns keys (value_of a) (number_of c) (kinds_in rest)))) (keys_are g keys are) (lookup_is_right a (Area table) c rest)

      argument_refuted : (c : AbsArg) (rest : List AbsArg) → AreOf forms values agree ts (c ∷ rest) → (i : ℕ) → ArgumentVaries arg_at (a ∷ Area table ∷ c ∷ rest) i → (at : Span) → span_at s parts i ≡ at
          → (cause : Why) → cause ≡ why.Undecided → Refuted all at cause
      argument_refuted c rest p zero v at e cause w =
          let same : v.argument ≡ a = let n = v.is_there in cc in
          tree_varies forms values agree t (more u ts) (of_varies forms values agree t a k (subst (λ b. Varies (λ x. arg_at x b)) same v.varies)) at e cause w
      argument_refuted c rest p (suc zero) v at e cause w =
          let same : v.argument ≡ Area table = let n = v.is_there in cc in
          later_refuted values t (more u ts) at cause (tree_varies forms values agree u ts (table_varies (subst (λ b. Varies (λ x. arg_at x b)) same v.varies)) at e cause w)
      argument_refuted c rest p (suc (suc i)) v at e cause w =
          later_refuted values t (more u ts) at cause
          (later_refuted values u ts at cause (argument_varies forms values agree s ts (c ∷ rest) p i (record { argument = v.argument; is_there = v.is_there; varies = v.varies }) at e cause w))

      record_own : (c : AbsArg) (rest : List AbsArg) → AreOf forms values agree ts (c ∷ rest) → IsSound c → AllByRecursion IsSound rest → (at : Span) (cause : Why)
          → Own s parts (record_form g.columns keys (value_of a) (number_of c) (kinds_in rest)) (record_from g) at cause → IsRefuted values (tree.Call s name all) at cause
      record_own c rest p q r at cause (too_wide e w) = whole_refuted values _ at cause e (wide_so values _ cause w)
      record_own c rest p q r at cause (behind b) = absurd (record_never g b.value at cause b.goes)
      record_own c rest p q r at cause (breaks d e w) = absurd (subst (IsRow c rest) d (row c rest q r))
      record_own c rest p q r at cause (undecided i d e w) = in_arguments values s name all at cause (argument_refuted c rest p i (subst (IsRow c rest) d (row c rest q r)) at e cause w)

      lookup_own : (args : List AbsArg) → AreOf forms values agree ts args → AllByRecursion IsSound args → (at : Span) (cause : Why) → lookup_by s parts g keys (a ∷ args) ≡ Refused at cause
          → IsRefuted values (tree.Call s name all) at cause
      lookup_own [] p q at cause e = absurd (gives_never _ at cause e)
      lookup_own (c ∷ rest) p q at cause e =
          by_certain (record_error g.columns (items_seen g) keys (value_of a) (number_of c) (kinds_in rest)) e
        where
          by_certain : (o : Option ErrorKind) → unless_error o (tried_on s parts (record_form g.columns keys (value_of a) (number_of c) (kinds_in rest)) (record_from g)) ≡ Refused at cause
              → IsRefuted values (tree.Call s name all) at cause
          by_certain (Some n) e = absurd (gives_never _ at cause e)
          by_certain None e = record_own c rest p q.0 q.1 at cause (tried_own s parts (record_form g.columns keys (value_of a) (number_of c) (kinds_in rest)) (record_from g) at cause e)

    abbrev by_keys : AbsArg → Source → List Abs → Outcome
    by_keys a g keys = on_parts (parts_of forms ts) (λ args. lookup_by s parts g keys (a ∷ args))

    abbrev by_source : AbsArg → Source → Outcome
    by_source a g = taken g (key_places g) (by_keys a g)

    others_first : (a : AbsArg) → IsOf forms values agree t a → (g : Source) → IsTurnedOf g → (keys : List Abs) → elements_at g (key_places g) ≡ Some keys → (at : Span) (cause : Why)
        → Refuted ts at cause ⊎ Behind (AreOf forms values agree ts) (λ args. lookup_by s parts g keys (a ∷ args)) at cause → IsRefuted values (tree.Call s name all) at cause
    others_first a k g m keys are at cause (inl r) = in_arguments values s name all at cause (later_refuted values t (more u ts) at cause (later_refuted values u ts at cause r))
    others_first a k g m keys are at cause (inr b) = lookup_own a k g m keys are b.value b.is (are_sound forms values agree ts b.value b.is) at cause b.goes

    keys_first : ArePartsRefuted forms values agree ts → (a : AbsArg) → IsOf forms values agree t a → (g : Source) → IsTurnedOf g → (at : Span) (cause : Why)
        → by_source a g ≡ Refused at cause → IsRefuted values (tree.Call s name all) at cause
    keys_first h a k g m at cause e =
        let b = elements_never (elements_at g (key_places g)) (by_keys a g) at cause e in
        others_first a k g m b.value b.is at cause (parts_first forms values agree ts h (λ args. lookup_by s parts g b.value (a ∷ args)) at cause b.goes)

    table_first : ArePartsRefuted forms values agree ts → (a : AbsArg) → IsOf forms values agree t a → (at : Span) (cause : Why)
        → IsRefuted values u at cause ⊎ Behind IsTurnedOf (by_source a) at cause → IsRefuted values (tree.Call s name all) at cause
    table_first h a k at cause (inl r) = in_arguments values s name all at cause (later_refuted values t (more u ts) at cause (first_refuted values u ts at cause r))
    table_first h a k at cause (inr b) = keys_first h a k b.value b.is at cause b.goes

    key_first : PartIsRefuted forms values agree u → ArePartsRefuted forms values agree ts → (at : Span) (cause : Why)
        → IsRefuted values t at cause ⊎ Behind (IsOf forms values agree t) (λ a. on_turned forms cells turned (part_of forms u) (by_source a)) at cause → IsRefuted values (tree.Call s name all) at cause
    key_first l h at cause (inl r) = in_arguments values s name all at cause (first_refuted values t (more u ts) at cause r)
    key_first l h at cause (inr b) = table_first h b.value b.is at cause (turned_first l (by_source b.value) at cause b.goes)

  pub lookup_refuted : (s : Span) (name : Func) (cells : CellGrid → CellGrid) (turned : Source → Source) (turn : Rectangle → Rectangle)
      → ((x : Assignment) (g : CellGrid) → IsWhole g → values_in (values x) (cells g) ≡ turn (values_in (values x) g))
      → ((x : Assignment) (g : Source) (r : Rectangle) → Matches x g r → Matches x (turned g) (turn r))
      → (ts : Trees) → ArePartsRefuted forms values agree ts → (at : Span) (cause : Why) → lookup_outcome forms cells turned s (parts_of forms ts) ≡ Refused at cause → IsRefuted values (tree.Call s name ts) at cause
  lookup_refuted s name cells turned turn whole_cells keeps none h at cause e = absurd (gives_never _ at cause e)
  lookup_refuted s name cells turned turn whole_cells keeps (more t none) h at cause e = absurd (gives_never _ at cause e)
  lookup_refuted s name cells turned turn whole_cells keeps (more t (more u ts)) h at cause e =
      key_first s name cells turned turn whole_cells keeps t u ts h.1.0 h.1.1 at cause
      (part_first forms values agree t h.0 (λ a. on_turned forms cells turned (part_of forms u) (by_source s name cells turned turn whole_cells keeps t u ts a)) at cause e)

  -- ---- SUMIF
  module _ (s : Span) (ts : Trees) (t u v : Tree) (there_t : (p : Tree) → IsPart p t → IsAmong p ts) (there_u : (p : Tree) → IsPart p u → IsAmong p ts) (there_v : (p : Tree) → IsPart p v → IsAmong p ts)
      (first_span : span_at s (parts_of forms ts) 0 ≡ (part_of forms t).span) (second_span : span_at s (parts_of forms ts) 1 ≡ (part_of forms u).span) where
    abbrev sum : Tree
    sum = tree.Call s func.SumIf ts

    among : (w : Tree) → ((p : Tree) → IsPart p w → IsAmong p ts) → (at : Span) (cause : Why) → IsRefuted values w at cause → IsRefuted values sum at cause
    among w there at cause r = record { part = r.part; is_part = in_call s func.SumIf ts (there r.part r.is_part); is_there = r.is_there; is_so = r.is_so }

    abbrev summed_of : Source → List Abs → Outcome
    summed_of g items = outcome_by s (parts_of forms ts) (sum_of_elements items)

    total_own : (items : List Abs) (at : Span) (cause : Why) → Own s (parts_of forms ts) (sum_of_elements items) Gives at cause → IsRefuted values sum at cause
    total_own items at cause (too_wide e w) = whole_refuted values sum at cause e (wide_so values sum cause w)
    total_own items at cause (behind b) = absurd (gives_never b.value at cause b.goes)
    total_own items at cause (breaks d e w) = absurd (sum_never items Breaks d)
    total_own items at cause (undecided i d e w) = absurd (sum_never items (Undecided i) d)

    tree_refuted : (w : Tree) (a : AbsArg) → IsOf forms values agree w a → ((p : Tree) → IsPart p w → IsAmong p ts) → Varies (λ x. arg_at x a) → (at : Span) → (part_of forms w).span ≡ at → (cause : Why) → cause ≡ why.Undecided
        → IsRefuted values sum at cause
    tree_refuted w a k there y at e cause c =
        let r = tree_varies forms values agree w none (of_varies forms values agree w a k y) at e cause c in
        among w there at cause (record { part = r.part; is_part = only_among r.part w r.is_among; is_there = r.is_there; is_so = r.is_so })

    places_own : (a c : AbsArg) → IsOf forms values agree t a → IsOf forms values agree u c → (g : Source) (at : Span) (cause : Why)
        → Own s (parts_of forms ts) (met_places (grid_of a).items (value_of c)) (λ places. taken g places (summed_of g)) at cause → IsRefuted values sum at cause
    places_own a c k l g at cause (too_wide e w) = whole_refuted values sum at cause e (wide_so values sum cause w)
    places_own a c k l g at cause (behind b) =
        let i = elements_never (elements_at g b.value) (summed_of g) at cause b.goes in
        total_own i.value at cause (tried_own s (parts_of forms ts) (sum_of_elements i.value) Gives at cause i.goes)
    places_own a c k l g at cause (breaks d e w) = absurd (subst (IsPick _ (a ∷ c ∷ [])) d (places_are_right a c))
    places_own a c k l g at cause (undecided i d e w) = by i (subst (IsPick _ (a ∷ c ∷ [])) d (places_are_right a c)) e
      where
        by : (i : ℕ) → ArgumentVaries arg_at (a ∷ c ∷ []) i → span_at s (parts_of forms ts) i ≡ at → IsRefuted values sum at cause
        by zero y e =
            let same : y.argument ≡ a = let n = y.is_there in cc in
            tree_refuted t a k there_t (subst (λ b. Varies (λ x. arg_at x b)) same y.varies) at (sym first_span ∙ e) cause w
        by (suc zero) y e =
            let same : y.argument ≡ c = let n = y.is_there in cc in
            tree_refuted u c l there_u (subst (λ b. Varies (λ x. arg_at x b)) same y.varies) at (sym second_span ∙ e) cause w
        by (suc (suc i)) y e = let n : ◌≡◌ {A = Option AbsArg} None (Some y.argument) = y.is_there in cc

    abbrev by_met : AbsArg → AbsArg → Source → Outcome
    by_met a c g = tried_on s (parts_of forms ts) (met_places (grid_of a).items (value_of c)) (λ places. taken g places (summed_of g))

    uncertain : (a c : AbsArg) → IsOf forms values agree t a → IsOf forms values agree u c → (g : Source) (at : Span) (cause : Why) (o : Option ErrorKind) → unless_error o (by_met a c g) ≡ Refused at cause
        → IsRefuted values sum at cause
    uncertain a c k l g at cause (Some n) e = absurd (gives_never _ at cause e)
    uncertain a c k l g at cause None e = places_own a c k l g at cause (tried_own s (parts_of forms ts) (met_places (grid_of a).items (value_of c)) (λ places. taken g places (summed_of g)) at cause e)

    abbrev seen : List Abs
    seen = seen_before (part_of forms v).reference (part_of forms v).outcome

    abbrev certain : AbsArg → AbsArg → Option ErrorKind
    certain a c = summed_error_by (known_value (value_of c)) seen (grid_of a).items

    sized : (a c : AbsArg) → IsOf forms values agree t a → IsOf forms values agree u c → (g : Source) (at : Span) (cause : Why) (b : Bool)
        → (if b then unless_error (certain a c) (by_met a c g) else fails kind.Value) ≡ Refused at cause → IsRefuted values sum at cause
    sized a c k l g at cause true e = uncertain a c k l g at cause (certain a c) e
    sized a c k l g at cause false e = absurd (gives_never _ at cause e)

    unless : (a c : AbsArg) → IsOf forms values agree t a → IsOf forms values agree u c → (g : Source) (at : Span) (cause : Why) (o : Option ErrorKind) → unless_error o (sum_at s (parts_of forms ts) g seen a c) ≡ Refused at cause
        → IsRefuted values sum at cause
    unless a c k l g at cause (Some e) h = absurd (gives_never _ at cause h)
    unless a c k l g at cause None h = sized a c k l g at cause (((grid_of a).rows == g.rows) && ((grid_of a).columns == g.columns)) h

    abbrev of_source : AbsArg → AbsArg → Source → Outcome
    of_source a c g = unless_error (error_of (value_of c)) (sum_at s (parts_of forms ts) g seen a c)

    summed_first : (a c : AbsArg) → IsOf forms values agree t a → IsOf forms values agree u c → (at : Span) (cause : Why) → IsRefuted values v at cause ⊎ Behind (IsSourceOf forms values agree v) (of_source a c) at cause
        → IsRefuted values sum at cause
    summed_first a c k l at cause (inl r) = among v there_v at cause r
    summed_first a c k l at cause (inr b) = unless a c k l b.value at cause (error_of (value_of c)) b.goes

    criterion_first : PartIsRefuted forms values agree v → (a : AbsArg) → IsOf forms values agree t a → (at : Span) (cause : Why)
        → IsRefuted values u at cause ⊎ Behind (IsOf forms values agree u) (λ c. on_source forms (part_of forms v) (of_source a c)) at cause → IsRefuted values sum at cause
    criterion_first n a k at cause (inl r) = among u there_u at cause r
    criterion_first n a k at cause (inr b) = summed_first a b.value k b.is at cause (source_first forms values agree v n (of_source a b.value) at cause b.goes)

    tested_first : PartIsRefuted forms values agree u → PartIsRefuted forms values agree v → (at : Span) (cause : Why)
        → IsRefuted values t at cause ⊎ Behind (IsOf forms values agree t) (λ a. on_part (part_of forms u) (λ c. on_source forms (part_of forms v) (of_source a c))) at cause → IsRefuted values sum at cause
    tested_first m n at cause (inl r) = among t there_t at cause r
    tested_first m n at cause (inr b) =
        criterion_first n b.value b.is at cause (part_first forms values agree u m (λ c. on_source forms (part_of forms v) (of_source b.value c)) at cause b.goes)

    pub over_refuted : PartIsRefuted forms values agree t → PartIsRefuted forms values agree u → PartIsRefuted forms values agree v → (at : Span) (cause : Why)
        → sum_over forms s (parts_of forms ts) (part_of forms t) (part_of forms u) (part_of forms v) ≡ Refused at cause → IsRefuted values sum at cause
    over_refuted h m n at cause e =
        tested_first m n at cause (part_first forms values agree t h (λ a. on_part (part_of forms u) (λ c. on_source forms (part_of forms v) (of_source a c))) at cause e)

  pub sumif_refuted : (s : Span) (ts : Trees) → ArePartsRefuted forms values agree ts → (at : Span) (cause : Why) → sumif_outcome forms s (parts_of forms ts) ≡ Refused at cause
      → IsRefuted values (tree.Call s func.SumIf ts) at cause
  sumif_refuted s none h at cause e = absurd (gives_never _ at cause e)
  sumif_refuted s (more t none) h at cause e = absurd (gives_never _ at cause e)
  sumif_refuted s (more t (more u none)) h at cause e =
      over_refuted s (more t (more u none)) t u t (λ p i. first t (more u none) i) (λ p i. later t (more u none) (first u none i)) (λ p i. first t (more u none) i) refl refl h.0 h.1.0 h.0 at cause e
  sumif_refuted s (more t (more u (more v none))) h at cause e =
      over_refuted s (more t (more u (more v none))) t u v (λ p i. first t (more u (more v none)) i) (λ p i. later t (more u (more v none)) (first u (more v none) i))
      (λ p i. later t (more u (more v none)) (later u (more v none) (first v none i))) refl refl h.0 h.1.0 h.1.1.0 at cause e
  sumif_refuted s (more t (more u (more v (more w ts)))) h at cause e = absurd (gives_never _ at cause e)
