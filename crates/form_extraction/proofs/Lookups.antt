-- VLOOKUP and HLOOKUP over parts of formulas.
use Rattle.std.specs.Prelude.{◌≡◌, ◌+◌, ◌*◌, Bool, true, false, if◌then◌else◌, slice_get, slice_index_or}
use Rattle.std.proofs.Common.{refl, sym, ap, ap₂, ◌∙◌, subst, List, [], ◌∷◌, map, Option, Some, None, Result, Ok, Err, ℕ, zero, suc, arith}
use Rattle.std.specs.List.{AllByRecursion}
use Rattle.calculations.specs.Calculation.{Calculation, exact}
use Rattle.cell_refs.specs.declared.cell.Cell.{Cell}
use Rattle.cell_refs.specs.declared.span.Span.{Span}
use Rattle.cell_refs.specs.declared.error_kind.ErrorKind.{ErrorKind}
use Rattle.cell_refs.specs.declared.error_kind.ErrorKind.TheVariants as kind
use Rattle.formula_ast.specs.Tree.{Tree, Trees, none, more}
use Rattle.sheet_model.specs.Grids.{Rectangle}
use Rattle.sheet_model.specs.declared.value.Value.{Value}
use Rattle.sheet_model.specs.declared.value.Value.TheVariants.{Empty, Error}
use Rattle.sheet_model.specs.declared.grid.Arg.{Arg}
use Rattle.sheet_model.specs.declared.grid.Arg.TheVariants as arg
use Rattle.sheet_funcs.specs.Arguments.{grid_of, value_of, no_error, on_ok, answered, at, column_of, below}
use Rattle.sheet_funcs.specs.Rounding.{place_of}
use Rattle.sheet_funcs.specs.Products.{transposed, places_of}
use Rattle.sheet_funcs.specs.Lookups.{lookup_of, is_sorted, vlookup_of, hlookup_of}
use Rattle.sheet_model.specs.Conversions.{number_in}
use Rattle.fractions.specs.Floor.{floor_ℚ}
use Rattle.std.specs.Result.{result_map_both}
use Rattle.recalculation.specs.Evaluation.{CellGrid, values_in, evaluated, all_evaluated}
use Rattle.recalculation.specs.Looks.{exchanged as exchanged_cells}
use Rattle.recalculation.proofs.GridCells.{IsWhole, exchanged_values}
use Rattle.affine_forms.specs.Forms.{Assignment}
use Rattle.form_values.specs.Meaning.{abs_at, arg_at}
use Rattle.form_values.proofs.Opening.{IsAbs, IsSound}
use Rattle.form_values.specs.declared.abs.Abs.{Abs}
use Rattle.form_values.specs.declared.abs.Abs.TheVariants.{Known}
use Rattle.form_values.specs.declared.abs.AbsArg.{AbsArg}
use Rattle.form_table.specs.Wanted.{number_of}
use Rattle.form_table.specs.Wanted as wanted
use Rattle.form_table.specs.CertainRecords.{record_error}
use Rattle.form_table.specs.Lookups.{kinds_in, record_form}
use Rattle.form_truth.proofs.Fitting.{fits}
use Rattle.form_extraction.specs.Parts.{Part, on_parts, tried_on}
use Rattle.form_extraction.specs.declared.forms.Outcome.{Outcome}
use Rattle.form_extraction.specs.declared.forms.Outcome.TheVariants.{Gives}
use Rattle.form_extraction.specs.Sources.{Source, items_seen, of_cells, of_raster, in_turned, on_turned, element, elements_at, taken, key_places, exchanged}
use Rattle.form_extraction.specs.Calls.{raster, record_from, unless_error, lookup_by, lookup_outcome}
use Rattle.form_extraction.specs.Formulas.{part_of, parts_of}
use Rattle.form_extraction.proofs.Worth.{IsWorth, Agree, PartIsTrue, ArePartsTrue}
use Rattle.form_extraction.proofs.Parts.{given_first, reference_whole, tried_first}
use Rattle.form_truth.proofs.Arguments.{value_at, value_sound}
use Rattle.form_extraction.proofs.Choices.{error_worth}
use Rattle.form_extraction.proofs.Picking.{Matches, grid_match, grid_matches, reference_grid, taken_match, raster_worth, on_some, map_map}
use Rattle.form_extraction.proofs.Indexing.{all_given}
use Rattle.form_truth.specs.Picks.{read}
use Rattle.form_truth.proofs.CertainLookups.{AreSeen, certain_record}
use Rattle.form_truth.proofs.LookupSteps.{looked_up, lookup_steps}
use Rattle.form_truth.proofs.Records.{record_right}

-- ---- rows and columns exchanged
module _ (x : Assignment) (s : Source) (r : Rectangle) (m : Matches x s r) where
  abbrev element_at : ℕ × ℕ → Option Abs
  element_at p = element (slice_get s.items (p.1 * s.columns + p.0))

  abbrev value_there : ℕ × ℕ → Value
  value_there p = at r p.1 p.0

  place_right : (p : ℕ × ℕ) (b : Abs) → element_at p ≡ Some b → IsAbs b × (value_there p ≡ abs_at x b)
  place_right p b e =
      let q = m.items (p.1 * s.columns + p.0) b e in
      (q.0, ap (λ n. slice_index_or r.items (p.1 * n + p.0) Empty) (sym m.columns) ∙ q.1)

  places_right : (ps : List (ℕ × ℕ)) (i : ℕ) (b : Abs) → element (slice_get (map element_at ps) i) ≡ Some b → IsAbs b × (slice_index_or (map value_there ps) i Empty ≡ abs_at x b)
  places_right [] i b e = let s : Known Empty ≡ b = cc in (subst IsAbs s tt, ap (abs_at x) s)
  places_right (p ∷ ps) zero b e = place_right p b e
  places_right (p ∷ ps) (suc i) b e = places_right ps i b e

  pub exchanged_matches : Matches x (exchanged s) (transposed r)
  exchanged_matches =
      record {
        rows = m.columns;
        columns = m.rows;
        items = λ i b e.
            let q = places_right (places_of s.columns s.rows) i b e in
            (q.0, ap (λ ps. slice_index_or (map value_there ps) i Empty) (ap₂ places_of (sym m.columns) (sym m.rows)) ∙ q.1);
      }

-- the elements that are seen have the values there
seen_are : (x : Assignment) (s : Source) (r : Rectangle) → Matches x s r → AreSeen x (items_seen s) r.items
seen_are x s r m = by s.is_seen
  where
    by : (b : Bool) → AreSeen x (if b then s.items else []) r.items
    by true i a e = (m.items i a (ap element e)).1
    by false i a e = cc

-- ---- lookups in a grid that may be turned
module _ (turn : Rectangle → Rectangle) where
  abbrev pub lookup_value : List Arg → Calculation Arg
  lookup_value (key ∷ table ∷ others) = lookup_of (turn (grid_of table)) (key ∷ others)
  lookup_value _ = answered (Error kind.Value)

module _ (x : Assignment) (forms : Cell → Option Abs) (values : Cell → Value) (agree : Agree x forms values) where
  column_is : (s : Source) (r : Rectangle) → Matches x s r → map (λ i. slice_index_or r.items i Empty) (key_places s) ≡ column_of r 0
  column_is s r m =
      map_map x forms values agree (λ i. slice_index_or r.items i Empty) (λ row. row * s.columns) (below s.rows)
      ∙ ap₂ (λ columns rows. map (λ row. slice_index_or r.items (row * columns) Empty) (below rows)) m.columns m.rows
      ∙ ap (λ (f : ℕ → ℕ). map (λ row. slice_index_or r.items (f row) Empty) (below r.rows)) (λ i row. plain (row * r.columns) i)
    where
      plain : (n : ℕ) → n ≡ n + 0
      plain n = omega arith

  from_true : (s : Source) (r : Rectangle) → Matches x s r → (found : Result (ℕ × ℕ) ErrorKind) (a : AbsArg) → record_from s found ≡ Gives a → IsWorth x (arg.One (read r found)) a
  from_true s r m (Err k) a e = error_worth x k a e
  from_true s r m (Ok place) a e =
      let o = on_some x forms values agree (elements_at s ((place.0 * s.columns + place.1) ∷ [])) (λ items. Gives (raster 1 1 items)) a e in
      let t = taken_match x forms values agree s r m ((place.0 * s.columns + place.1) ∷ []) o.0 o.1 in
      let q : raster 1 1 o.0 ≡ a = let w = o.2 in cc in
      subst (IsWorth x _) q
      (subst (λ n. IsWorth x (arg.One (slice_index_or r.items (place.0 * n + place.1) Empty)) (raster 1 1 o.0)) m.columns
      (raster_worth x forms values agree 1 1 o.0 (slice_index_or r.items (place.0 * s.columns + place.1) Empty ∷ []) t.0 t.1))

  module _ (cells : CellGrid → CellGrid) (turned : Source → Source) (turn : Rectangle → Rectangle) (whole_cells : (g : CellGrid) → IsWhole g → values_in values (cells g) ≡ turn (values_in values g))
      (keeps : (s : Source) (r : Rectangle) → Matches x s r → Matches x (turned s) (turn r)) where
    -- the source of a part that is turned
    record Turned (t : Tree) (f : Source → Outcome) (a : AbsArg) : Type 0 where
      source : Source
      matches : Matches x source (turn (grid_of (exact (evaluated values t))))
      goes : f source ≡ Gives a

    turned_first : (t : Tree) → PartIsTrue x forms values t → (f : Source → Outcome) (a : AbsArg) → on_turned forms cells turned (part_of forms t) f ≡ Gives a → Turned t f a
    turned_first t h f a e = by_reference (part_of forms t).reference refl e
      where
        by_reference : (r : Option CellGrid) → (part_of forms t).reference ≡ r → in_turned r forms cells turned (part_of forms t) f ≡ Gives a → Turned t f a
        by_reference (Some g) d e =
            record {
              source = of_cells forms (cells g);
              matches =
                  subst (Matches x (of_cells forms (cells g)))
                  (whole_cells g (reference_whole forms t g d) ∙ ap (λ v. turn (grid_of v)) (sym (reference_grid x forms values agree t g d)))
                  (grid_matches x forms values agree (cells g));
              goes = e;
            }
        by_reference None d e =
            let g = given_first (part_of forms t).outcome (λ a. f (turned (of_raster (wanted.grid_of a)))) a e in
            let r = h g.value g.is in
            record {
              source = turned (of_raster (wanted.grid_of g.value));
              matches = subst (λ v. Matches x (turned (of_raster (wanted.grid_of g.value))) (turn (grid_of v))) (sym r.1) (keeps _ _ (grid_match x forms values agree g.value r.0));
              goes = g.goes;
            }

    by_args : (whole : Span) (parts : List Part) (s : Source) (table : Arg) → Matches x s (turn (grid_of table)) → (keys : List Abs) → column_of (turn (grid_of table)) 0 ≡ map (abs_at x) keys
        → (key : AbsArg) → IsSound key → (args : List AbsArg) → AllByRecursion IsSound args → (a : AbsArg) → lookup_by whole parts s keys (key ∷ args) ≡ Gives a
        → IsWorth x (exact (lookup_value turn (arg_at x key ∷ table ∷ map (arg_at x) args))) a
    by_args whole parts s table m keys column key k [] h a e = error_worth x kind.Value a e
    by_args whole parts s table m keys column key k (c ∷ rest) h a e =
        by_certain (record_error s.columns (items_seen s) keys (wanted.value_of key) (number_of c) (kinds_in rest)) refl e
      where
        steps : exact (lookup_value turn (arg_at x key ∷ table ∷ map (arg_at x) (c ∷ rest)))
            ≡ exact (on_ok (no_error (abs_at x (wanted.value_of key))) (λ k. on_ok (result_map_both floor_ℚ (λ k. k) (number_in (abs_at x (wanted.value_of c)))) (λ n. on_ok (is_sorted (map (arg_at x) rest)) (λ s. answered (looked_up (turn (grid_of table)) k n s)))))
        steps =
            lookup_steps (turn (grid_of table)) (no_error (value_of (arg_at x key))) (place_of (arg_at x c)) (is_sorted (map (arg_at x) rest))
            ∙ ap₂ (λ v w. exact (on_ok (no_error v) (λ k. on_ok (result_map_both floor_ℚ (λ k. k) (number_in w)) (λ n. on_ok (is_sorted (map (arg_at x) rest)) (λ s. answered (looked_up (turn (grid_of table)) k n s)))))) (value_at x key) (value_at x c)

        by_certain : (o : Option ErrorKind) → record_error s.columns (items_seen s) keys (wanted.value_of key) (number_of c) (kinds_in rest) ≡ o
            → unless_error o (tried_on whole parts (record_form s.columns keys (wanted.value_of key) (number_of c) (kinds_in rest)) (record_from s)) ≡ Gives a
            → IsWorth x (exact (lookup_value turn (arg_at x key ∷ table ∷ map (arg_at x) (c ∷ rest)))) a
        by_certain (Some k) d e =
            subst (λ v. IsWorth x v a)
            (sym (steps
            ∙ certain_record x (turn (grid_of table)) s.columns m.columns keys column (items_seen s) (seen_are x s (turn (grid_of table)) m) (wanted.value_of key) (wanted.value_of c) rest (number_of c)
            (fits (wanted.value_of c) (value_sound c h.0)) k d))
            (error_worth x k a e)
        by_certain None d e =
            let q = tried_first whole parts (record_form s.columns keys (wanted.value_of key) (number_of c) (kinds_in rest)) (record_from s) a e in
            subst (λ v. IsWorth x v a)
            (sym (steps
            ∙ record_right x (turn (grid_of table)) s.columns m.columns keys column (wanted.value_of key) (wanted.value_of c) rest (number_of c) (fits (wanted.value_of c) (value_sound c h.0)) (kinds_in rest) refl q.value q.is))
            (from_true s (turn (grid_of table)) m q.value a q.goes)

    pub lookup_true : (whole : Span) (ts : Trees) → ArePartsTrue x forms values ts → (a : AbsArg) → lookup_outcome forms cells turned whole (parts_of forms ts) ≡ Gives a
        → IsWorth x (exact (lookup_value turn (map exact (all_evaluated values ts)))) a
    lookup_true whole none h a e = error_worth x kind.Value a e
    lookup_true whole (more t none) h a e = error_worth x kind.Value a e
    lookup_true whole (more t (more u ts)) h a e =
        let g = given_first (part_of forms t).outcome
        (λ k. on_turned forms cells turned (part_of forms u) (λ s. taken s (key_places s)
        (λ keys. on_parts (parts_of forms ts) (λ args. lookup_by whole (part_of forms t ∷ part_of forms u ∷ parts_of forms ts) s keys (k ∷ args))))) a e in
        let r = h.0 g.value g.is in
        let o = turned_first u h.1.0
        (λ s. taken s (key_places s) (λ keys. on_parts (parts_of forms ts) (λ args. lookup_by whole (part_of forms t ∷ part_of forms u ∷ parts_of forms ts) s keys (g.value ∷ args)))) a g.goes in
        let k = on_some x forms values agree (elements_at o.source (key_places o.source))
        (λ keys. on_parts (parts_of forms ts) (λ args. lookup_by whole (part_of forms t ∷ part_of forms u ∷ parts_of forms ts) o.source keys (g.value ∷ args))) a o.goes in
        let w = taken_match x forms values agree o.source (turn (grid_of (exact (evaluated values u)))) o.matches (key_places o.source) k.0 k.1 in
        let q = all_given x forms values ts h.1.1 (λ args. lookup_by whole (part_of forms t ∷ part_of forms u ∷ parts_of forms ts) o.source k.0 (g.value ∷ args)) a k.2 in
        subst (λ v. IsWorth x v a)
        (ap₂ (λ key args. exact (lookup_value turn (key ∷ exact (evaluated values u) ∷ args))) (sym r.1) (sym q.same))
        (by_args whole (part_of forms t ∷ part_of forms u ∷ parts_of forms ts) o.source (exact (evaluated values u)) o.matches k.0
        (sym (column_is o.source (turn (grid_of (exact (evaluated values u)))) o.matches) ∙ w.1) g.value r.0 q.args q.sound a q.goes)

  same_vlookup : (args : List Arg) → lookup_value (λ g. g) args ≡ vlookup_of args
  same_vlookup [] = refl
  same_vlookup (a ∷ []) = refl
  same_vlookup (a ∷ b ∷ args) = refl

  same_hlookup : (args : List Arg) → lookup_value transposed args ≡ hlookup_of args
  same_hlookup [] = refl
  same_hlookup (a ∷ []) = refl
  same_hlookup (a ∷ b ∷ args) = refl

  pub vlookup_true : (whole : Span) (ts : Trees) → ArePartsTrue x forms values ts → (a : AbsArg) → lookup_outcome forms (λ g. g) (λ s. s) whole (parts_of forms ts) ≡ Gives a
      → IsWorth x (exact (vlookup_of (map exact (all_evaluated values ts)))) a
  vlookup_true whole ts h a e =
      subst (λ c. IsWorth x (exact c) a) (same_vlookup (map exact (all_evaluated values ts))) (lookup_true (λ g. g) (λ s. s) (λ g. g) (λ g w. refl) (λ s r m. m) whole ts h a e)

  pub hlookup_true : (whole : Span) (ts : Trees) → ArePartsTrue x forms values ts → (a : AbsArg) → lookup_outcome forms exchanged_cells exchanged whole (parts_of forms ts) ≡ Gives a
      → IsWorth x (exact (hlookup_of (map exact (all_evaluated values ts)))) a
  hlookup_true whole ts h a e =
      subst (λ c. IsWorth x (exact c) a) (same_hlookup (map exact (all_evaluated values ts))) (lookup_true exchanged_cells exchanged transposed (λ g w. exchanged_values g w values) (λ s r m. exchanged_matches x s r m) whole ts h a e)
