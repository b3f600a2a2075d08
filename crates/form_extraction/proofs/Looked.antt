-- Calls and formulas depend on the forms of the cells at which they look alone.
use Rattle.std.specs.Prelude.{◌<◌, length, ◌*◌, ◌&&◌, ◌==◌, ◌++◌, slice_get, option_map, is_some, ℤ, pos, ⊤, Contains}
use Rattle.std.proofs.Common.{◌≡◌, refl, sym, ap, ap₂, ◌∙◌, subst, Bool, true, false, if◌then◌else◌, List, [], ◌∷◌, map, Option, Some, None, Result, Ok, Err, ℕ, zero, suc, arith}
use Rattle.std.specs.List.{AllByRecursion, list_all}
use Rattle.cell_refs.specs.declared.cell.Cell.{Cell}
use Rattle.cell_refs.specs.declared.span.Span.{Span}
use Rattle.cell_refs.specs.declared.error_kind.ErrorKind.{ErrorKind}
use Rattle.cell_refs.specs.declared.error_kind.ErrorKind.TheVariants as kind
use Rattle.formula_ast.specs.Tree.{Tree, Trees, none, more}
use Rattle.formula_ast.specs.Tree as tree
use Rattle.formula_ast.specs.Measures.{listed}
use Rattle.formula_ast.specs.declared.func.Func.{Func}
use Rattle.formula_ast.specs.declared.func.Func.TheVariants as func
use Rattle.sheet_model.specs.Conversions.{logical_in}
use Rattle.sheet_model.specs.declared.value.Value.TheVariants.{Number, Error}
use Rattle.fractions.specs.Whole.{whole_ℚ}
use Rattle.sheet_funcs.specs.Arguments.{below}
use Rattle.recalculation.specs.Evaluation.{CellGrid, grid_of_areas, at_chosen, if_place, if_without, iferror_place, choose_place, choose_without}
use Rattle.recalculation.specs.Looks.{Argument, all_looks, both, outcomes, elements, then_cells, decided, looks_of, chosen_looks, choosing_looks, picked_cells, index_of_looks, column_cells, table_looks, lookup_looks, summed_looks, sum_looks, sumif_looks, size_looks, call_looks, exchanged as exchanged_cells}
use Rattle.recalculation.proofs.GridCells.{IsWhole, each_below, exchanged_whole}
use Rattle.recalculation.proofs.Lists.{each_left, each_right, each_weaker}
use Rattle.form_values.specs.declared.abs.Abs.{Abs}
use Rattle.form_values.specs.declared.abs.Abs.TheVariants.{Known, Affine, Test}
use Rattle.form_values.specs.declared.abs.AbsArg.{AbsArg}
use Rattle.form_values.specs.declared.abs.AbsArg.TheVariants.{One}
use Rattle.sheet_funcs.specs.declared.lookups.MatchKind.{MatchKind}
use Rattle.form_table.specs.Wanted.{Wanted, value_of, number_of, known_number, single, grid_of}
use Rattle.form_table.specs.Picks.{pick_form}
use Rattle.form_table.specs.Certain.{index_error}
use Rattle.form_table.specs.Lookups.{record_form, kinds_in, known_value, error_of}
use Rattle.form_table.specs.Criteria.{met_places, sum_of_elements, summed_error_by}
use Rattle.form_extraction.specs.Parts.{Part, value_in, argument, tried_on, outcome_by, on_outcome, on_part, on_parts}
use Rattle.form_extraction.specs.declared.forms.Outcome.{Outcome}
use Rattle.form_extraction.specs.declared.forms.Outcome.TheVariants.{Gives, Refused, Without}
use Rattle.form_extraction.specs.declared.forms.Why.TheVariants as why
use Rattle.form_extraction.specs.Deciding.{given_by, truth_in, is_known_error, place_in, record_picked, record_by, cells_at, summed_by, by_form}
use Rattle.form_extraction.specs.Sources.{Source, of_cells, in_source, in_turned, elements_at, on_elements, taken, key_places, exchanged}
use Rattle.form_extraction.specs.Calls.{fails, chosen_or, by_test, by_error, is_unlooked_error, is_no_argument, by_place, picked_from, picked_at, index_outcome, record_from, lookup_by, lookup_outcome, unless_error, seen_before, sum_at, sumif_outcome, size_of, call_outcome}
use Rattle.form_extraction.specs.Formulas.{part_of, parts_of, of_forms, signed, turned, joined}
use Rattle.form_table.specs.Operators.{minus_form, percent_form}
use Rattle.form_extraction.specs.Laws.{DependsOnLooked}
use Rattle.form_extraction.proofs.Agreeing.{in_alike, least_alike}
use Rattle.form_extraction.proofs.Parts.{reference_whole}
use Rattle.form_extraction.proofs.Refusing.{span_is}
use Rattle.form_extraction.specs.Places.{least_without, by_looks}
use Rattle.form_extraction.proofs.Depending.{spans_same, trial_same, part_same, parts_same, Same, All, elements_same, taken_same, picked_same, record_same, keys_there, keys_seen, no_record}

-- a part that is a reference looks at its cells
reference_looks : (f : Cell → Option Abs) (t : Tree) (grid : CellGrid) → (part_of f t).reference ≡ Some grid → (part_of f t).looks ≡ grid.cells
reference_looks f (tree.Reference s areas) grid e = let p : grid_of_areas (listed areas) ≡ grid = cc in ap (λ (g : CellGrid). g.cells) p
reference_looks f (tree.Plus s t) grid e = reference_looks f t grid e
reference_looks f (tree.Number s y) grid e = cc
reference_looks f (tree.Text s y) grid e = cc
reference_looks f (tree.Logical s y) grid e = cc
reference_looks f (tree.Fault s y) grid e = cc
reference_looks f (tree.Missing s) grid e = cc
reference_looks f (tree.Array s rows columns items) grid e = cc
reference_looks f (tree.Call s fn args) grid e = cc
reference_looks f (tree.Minus s t) grid e = cc
reference_looks f (tree.Percent s t) grid e = cc
reference_looks f (tree.Infix s o t u) grid e = cc
reference_looks f (tree.WideNumber s y) grid e = cc
reference_looks f (tree.Name s n) grid e = cc
reference_looks f (tree.Unknown s n args) grid e = cc

module _ (f g : Cell → Option Abs) where
  -- the same reference, whatever the forms
  reference_same : (t : Tree) → (part_of f t).reference ≡ (part_of g t).reference
  reference_same (tree.Plus s t) = reference_same t
  reference_same (tree.Reference s areas) = refl
  reference_same (tree.Number s y) = refl
  reference_same (tree.Text s y) = refl
  reference_same (tree.Logical s y) = refl
  reference_same (tree.Fault s y) = refl
  reference_same (tree.Missing s) = refl
  reference_same (tree.Array s rows columns items) = refl
  reference_same (tree.Call s fn args) = refl
  reference_same (tree.Minus s t) = refl
  reference_same (tree.Percent s t) = refl
  reference_same (tree.Infix s o t u) = refl
  reference_same (tree.WideNumber s y) = refl
  reference_same (tree.Name s n) = refl
  reference_same (tree.Unknown s n args) = refl

  place_of_part : (t : Tree) → (part_of f t).span ≡ (part_of g t).span
  place_of_part t = span_is f t ∙ sym (span_is g t)

  abbrev IsSame : Tree → Type 0
  IsSame t = All f g (part_of f t).looks → part_of f t ≡ part_of g t

  abbrev AreSame : Trees → Type 0
  AreSame none = ⊤
  AreSame (more t ts) = IsSame t × AreSame ts

  abbrev args_f : Trees → List (Argument AbsArg)
  args_f ts = map argument (parts_of f ts)

  abbrev args_g : Trees → List (Argument AbsArg)
  args_g ts = map argument (parts_of g ts)

  -- whether an argument is certainly the error that stands where none is chosen: it is so with both forms, or with neither
  abbrev AreAlike : Trees → Type 0
  AreAlike none = ⊤
  AreAlike (more t ts) = (is_no_argument (part_of f t) ≡ is_no_argument (part_of g t)) × AreAlike ts

  all_alike : (ts : Trees) → AreAlike ts → list_all is_no_argument (parts_of f ts) ≡ list_all is_no_argument (parts_of g ts)
  all_alike none h = refl
  all_alike (more t ts) h = ap₂ (λ b c. b && c) h.0 (all_alike ts h.1)

  -- what a call looks at, and its outcome
  abbrev IsCallSame : Span → Func → Trees → Type 0
  IsCallSame s fn ts = (call_looks by_form f fn (args_f ts) ≡ call_looks by_form g fn (args_g ts)) × (call_outcome f s fn (parts_of f ts) ≡ call_outcome g s fn (parts_of g ts))

  -- ---- all parts, and one of them
  all_same : (ts : Trees) → AreSame ts → All f g (all_looks (args_f ts)) → parts_of f ts ≡ parts_of g ts
  all_same none h k = refl
  all_same (more t ts) h k =
      ap₂ (λ p ps. p ∷ ps) (h.0 (each_left (Same f g) (part_of f t).looks (all_looks (args_f ts)) k)) (all_same ts h.1 (each_right (Same f g) (part_of f t).looks (all_looks (args_f ts)) k))

  some_same : (ts : Trees) → AreSame ts → (n : ℕ) → All f g (looks_of (slice_get (args_f ts) n))
      → (slice_get (parts_of f ts) n ≡ slice_get (parts_of g ts) n) × (slice_get (args_f ts) n ≡ slice_get (args_g ts) n)
  some_same none h n k = (refl, refl)
  some_same (more t ts) h zero k = let e = h.0 k in (ap Some e, ap (λ p. Some (argument p)) e)
  some_same (more t ts) h (suc n) k = some_same ts h.1 n k

  chosen_same : (ts : Trees) → AreSame ts → (o : Option ℕ) → All f g (looks_of (at_chosen (args_f ts) o))
      → (at_chosen (parts_of f ts) o ≡ at_chosen (parts_of g ts) o) × (at_chosen (args_f ts) o ≡ at_chosen (args_g ts) o)
  chosen_same ts h (Some n) k = some_same ts h n k
  chosen_same ts h None k = (refl, refl)

  -- ---- IF, IFERROR and CHOOSE
  module _ (s : Span) (fn : Func) (t : Tree) (ts : Trees) (rest : Part → List Part → AbsArg → Outcome)
      (step : (p : Part) (v : AbsArg) → All f g (chosen_looks fn (args_f ts) (decided by_form fn v))
      → (chosen_looks fn (args_f ts) (decided by_form fn v) ≡ chosen_looks fn (args_g ts) (decided by_form fn v)) × (rest p (parts_of f ts) v ≡ rest p (parts_of g ts) v)) where
    abbrev follows : List (Argument AbsArg) → Outcome → List Cell
    follows args o = then_cells (value_in o) (λ v. chosen_looks fn args (decided by_form fn v))

    after : (p : Part) (o : Outcome) → All f g (follows (args_f ts) o) → (follows (args_f ts) o ≡ follows (args_g ts) o) × (on_outcome o (rest p (parts_of f ts)) ≡ on_outcome o (rest p (parts_of g ts)))
    after p (Gives v) k = step p v k
    after p (Refused at cause) k = (refl, refl)
    after p Without k = (refl, refl)

    choice_same : IsSame t → All f g (choosing_looks by_form fn (args_f (more t ts)))
        → (choosing_looks by_form fn (args_f (more t ts)) ≡ choosing_looks by_form fn (args_g (more t ts)))
        × (on_part (part_of f t) (rest (part_of f t) (parts_of f ts)) ≡ on_part (part_of g t) (rest (part_of g t) (parts_of g ts)))
    choice_same h k =
        let e = h (each_left (Same f g) (part_of f t).looks (follows (args_f ts) (part_of f t).outcome) k) in
        let a = after (part_of g t) (part_of g t).outcome
        (subst (λ (p : Part). All f g (follows (args_f ts) p.outcome)) e (each_right (Same f g) (part_of f t).looks (follows (args_f ts) (part_of f t).outcome) k)) in (
          ap (λ (p : Part). p.looks ++ follows (args_f ts) p.outcome) e ∙ ap (λ cells. (part_of g t).looks ++ cells) a.0,
          ap (λ (p : Part). on_part p (rest p (parts_of f ts))) e ∙ a.1,
        )

  if_step : (s : Span) (ts : Trees) → AreSame ts → (p : Part) (b : Abs) → All f g (chosen_looks func.If (args_f ts) (option_map if_place (truth_in b)))
      → (chosen_looks func.If (args_f ts) (option_map if_place (truth_in b)) ≡ chosen_looks func.If (args_g ts) (option_map if_place (truth_in b))) × (by_test s p (parts_of f ts) b ≡ by_test s p (parts_of g ts) b)
  if_step s ts h p (Known v) k =
      let e = chosen_same ts h (if_place (logical_in v)) k in
      (ap looks_of e.1, ap (chosen_or (One (Known (if_without (logical_in v))))) e.0)
  if_step s ts h p (Affine w) k = let e = all_same ts h k in (ap (λ ps. all_looks (map argument ps)) e, ap (λ ps. by_test s p ps (Affine w)) e)
  if_step s ts h p (Test w r) k = let e = all_same ts h k in (ap (λ ps. all_looks (map argument ps)) e, ap (λ ps. by_test s p ps (Test w r)) e)

  if_same : (s : Span) (ts : Trees) → AreSame ts → All f g (call_looks by_form f func.If (args_f ts)) → IsCallSame s func.If ts
  if_same s none h k = (refl, refl)
  if_same s (more t ts) h k = choice_same s func.If t ts (λ p others v. by_test s p others (value_of v)) (λ p v k. if_step s ts h.1 p (value_of v) k) h.0 k

  iferror_same : (s : Span) (ts : Trees) → AreSame ts → All f g (call_looks by_form f func.IfError (args_f ts)) → IsCallSame s func.IfError ts
  iferror_same s none h k = (refl, refl)
  iferror_same s (more t ts) h k =
      choice_same s func.IfError t ts (λ p others v. by_error others (single v))
      (λ p v k. let e = chosen_same ts h.1 (iferror_place (is_known_error (single v))) k in (ap looks_of e.1, ap (chosen_or (single v)) e.0)) h.0 k

  choose_step : (ts : Trees) → AreSame ts → AreAlike ts → (p : Part) (o : Option (Result ℤ ErrorKind)) → All f g (chosen_looks func.Choose (args_f ts) (option_map choose_place o))
      → (chosen_looks func.Choose (args_f ts) (option_map choose_place o) ≡ chosen_looks func.Choose (args_g ts) (option_map choose_place o)) × (by_place p (parts_of f ts) o ≡ by_place p (parts_of g ts) o)
  choose_step ts h l p (Some n) k = let e = chosen_same ts h (choose_place n) k in (ap looks_of e.1, ap (chosen_or (One (Known (choose_without n)))) e.0)
  choose_step ts h l p None k = (refl, ap (λ b. if b then fails kind.Value else Refused p.span why.Undecided) (all_alike ts l))

  choose_same : (s : Span) (ts : Trees) → AreSame ts → AreAlike ts → All f g (call_looks by_form f func.Choose (args_f ts)) → IsCallSame s func.Choose ts
  choose_same s none h l k = (refl, refl)
  choose_same s (more t ts) h l k =
      choice_same s func.Choose t ts (λ p others v. by_place p others (place_in (number_of v) (known_number (number_of v))))
      (λ p v k. choose_step ts h.1 l.1 p (place_in (number_of v) (known_number (number_of v))) k) h.0 k

  -- ---- functions that look at all their arguments
  plain_same : (s : Span) (fn : Func) (ts : Trees) → AreSame ts → All f g (all_looks (args_f ts)) → (call_looks by_form f fn (args_f ts) ≡ call_looks by_form g fn (args_f ts))
      → (call_outcome f s fn (parts_of f ts) ≡ call_outcome g s fn (parts_of f ts)) → IsCallSame s fn ts
  plain_same s fn ts h k l o =
      let e = all_same ts h k in
      (l ∙ ap (λ ps. call_looks by_form g fn (map argument ps)) e, o ∙ ap (call_outcome g s fn) e)

  -- ---- INDEX
  index_same : (s : Span) (ts : Trees) → AreSame ts → All f g (call_looks by_form f func.Index (args_f ts)) → IsCallSame s func.Index ts
  index_same s none h k = (refl, refl)
  index_same s (more t ts) h k = by_reference (part_of f t).reference refl k
    where
      none_same : (p : Part) (ps : List Part) → p.reference ≡ None → index_outcome f s (p ∷ ps) ≡ index_outcome g s (p ∷ ps)
      none_same p ps d =
          ap (λ r. in_source r f p (λ src. on_parts ps (picked_at s (p ∷ ps) src (seen_before r p.outcome)))) d
          ∙ sym (ap (λ r. in_source r g p (λ src. on_parts ps (picked_at s (p ∷ ps) src (seen_before r p.outcome)))) d)

      by_reference : (r : Option CellGrid) → (part_of f t).reference ≡ r → All f g (index_of_looks by_form (argument (part_of f t)) (args_f ts) r) → IsCallSame s func.Index (more t ts)
      by_reference None d k = plain_same s func.Index (more t ts) h k refl (none_same (part_of f t) (parts_of f ts) d)
      by_reference (Some grid) d k =
          let picks : List (Argument AbsArg) → List Cell = λ args. then_cells (outcomes args) (λ vs. then_cells (given_by (pick_form grid.rows grid.columns vs)) (picked_cells grid)) in
          let e = all_same ts h.1 (each_left (Same f g) (all_looks (args_f ts)) (picks (args_f ts)) k) in
          let q : (part_of g t).reference ≡ Some grid = sym (reference_same t) ∙ d in
          let there : All f g (picks (args_g ts)) = subst (λ ps. All f g (picks (map argument ps))) e (each_right (Same f g) (all_looks (args_f ts)) (picks (args_f ts)) k) in (
            ap (index_of_looks by_form (argument (part_of f t)) (args_f ts)) d ∙ ap (λ ps. all_looks (map argument ps) ++ picks (map argument ps)) e
                ∙ sym (ap (index_of_looks by_form (argument (part_of g t)) (args_g ts)) q),
            ap (λ r. in_source r f (part_of f t) (λ src. on_parts (parts_of f ts) (picked_at s (part_of f t ∷ parts_of f ts) src (seen_before r (part_of f t).outcome)))) d
                ∙ ap (λ ps. on_parts ps (picked_at s (part_of f t ∷ ps) (of_cells f grid) [])) e
                ∙ parts_same (parts_of g ts) (picked_at s (part_of f t ∷ parts_of g ts) (of_cells f grid) []) (picked_at s (part_of g t ∷ parts_of g ts) (of_cells g grid) [])
                (λ args a. ap (unless_error (index_error grid.rows grid.columns [] args))
                (spans_same s (part_of f t ∷ parts_of g ts) (part_of g t ∷ parts_of g ts) (ap (λ sp. sp ∷ map (λ (p : Part). p.span) (parts_of g ts)) (place_of_part t)) (pick_form grid.rows grid.columns args) (picked_from (of_cells f grid))
                ∙ trial_same s (part_of g t ∷ parts_of g ts) (pick_form grid.rows grid.columns args) (picked_from (of_cells f grid)) (picked_from (of_cells g grid))
                (λ pick b. picked_same f g grid pick
                (subst (λ o. All f g (then_cells o (picked_cells grid))) b
                (subst (λ o. All f g (then_cells o (λ vs. then_cells (given_by (pick_form grid.rows grid.columns vs)) (picked_cells grid)))) a there)))))
                ∙ sym (ap (λ r. in_source r g (part_of g t) (λ src. on_parts (parts_of g ts) (picked_at s (part_of g t ∷ parts_of g ts) src (seen_before r (part_of g t).outcome)))) q),
          )

  -- ---- ROWS and COLUMNS
  size_same : (s : Span) (fn : Func) (count : Source → ℕ) → ((grid : CellGrid) → count (of_cells f grid) ≡ count (of_cells g grid)) → (ts : Trees) → AreSame ts → All f g (size_looks (args_f ts))
      → (size_looks (args_f ts) ≡ size_looks (args_g ts)) × (size_of count f (parts_of f ts) ≡ size_of count g (parts_of g ts))
  size_same s fn count same none h k = (refl, refl)
  size_same s fn count same (more t (more u ts)) h k =
      let e = all_same (more t (more u ts)) h k in (ap (λ ps. all_looks (map argument ps)) e, refl)
  size_same s fn count same (more t none) h k = by_reference (part_of f t).reference refl k
    where
      sized : (forms : Cell → Option Abs) → Part → Option CellGrid → Outcome
      sized forms p r = in_source r forms p (λ src. Gives (One (Known (Number (whole_ℚ (pos (count src)))))))

      by_reference : (r : Option CellGrid) → (part_of f t).reference ≡ r → All f g (if is_some r then [] else (part_of f t).looks)
          → (size_looks (args_f (more t none)) ≡ size_looks (args_g (more t none))) × (size_of count f (parts_of f (more t none)) ≡ size_of count g (parts_of g (more t none)))
      by_reference None d k =
          let e = h.0 k in (
            ap (λ (p : Part). if is_some p.reference then [] else p.looks) e,
            ap (sized f (part_of f t)) d ∙ ap (λ p. sized g p None) e ∙ sym (ap (sized g (part_of g t)) (sym (reference_same t) ∙ d)),
          )
      by_reference (Some grid) d k =
          let q : (part_of g t).reference ≡ Some grid = sym (reference_same t) ∙ d in (
            ap (λ (r : Option CellGrid). if is_some r then [] else (part_of f t).looks) d ∙ sym (ap (λ (r : Option CellGrid). if is_some r then [] else (part_of g t).looks) q),
            ap (sized f (part_of f t)) d
                ∙ ap (λ n. Gives (One (Known (Number (whole_ℚ (pos n)))))) (same grid)
                ∙ sym (ap (sized g (part_of g t)) q),
          )

  -- ---- VLOOKUP and HLOOKUP
  elements_then : (o : Option (List Abs)) (k l : List Abs → Outcome) → ((items : List Abs) → o ≡ Some items → k items ≡ l items) → on_elements o k ≡ on_elements o l
  elements_then None k l h = refl
  elements_then (Some items) k l h = h items refl

  module _ (s : Span) (cells : CellGrid → CellGrid) (kept : (grid : CellGrid) → IsWhole grid → IsWhole (cells grid)) (turned : Source → Source) (t u : Tree) (ts : Trees) where
    -- what is found by some parts in a source, where `u` is the table
    abbrev found_by : Part → Part → List Part → Source → AbsArg → List Abs → Outcome
    found_by p u ps src k keys = on_parts ps (λ args. lookup_by s (p ∷ u ∷ ps) src keys (k ∷ args))

    abbrev found_in : Part → Source → List Part → Outcome
    found_in u src (p ∷ ps) = on_part p (λ k. taken src (key_places src) (found_by p u ps src k))
    found_in u src [] = Without

    abbrev record_cells : CellGrid → List (Argument AbsArg) → Option (List Abs) → List Cell
    record_cells grid args o = then_cells o (λ keys. then_cells (outcomes args) (λ vs. then_cells (record_by grid.columns keys vs) (picked_cells grid)))

    -- by the same key and others in the same grid
    found_same : (grid : CellGrid) → IsWhole grid → (p v w : Part) (ps : List Part) → v.span ≡ w.span → All f g (column_cells grid 0) → All f g (record_cells grid (map argument (p ∷ ps)) (elements g (column_cells grid 0)))
        → found_in v (of_cells f grid) (p ∷ ps) ≡ found_in w (of_cells g grid) (p ∷ ps)
    found_same grid whole p v w ps q col there =
        part_same p (λ k. taken (of_cells f grid) (key_places (of_cells g grid)) (found_by p v ps (of_cells f grid) k)) (λ k. taken (of_cells g grid) (key_places (of_cells g grid)) (found_by p w ps (of_cells g grid) k))
        (λ k a. taken_same f g grid (key_places (of_cells g grid)) (keys_there f g grid (below grid.rows) col) (found_by p v ps (of_cells f grid) k)
        ∙ elements_then (elements_at (of_cells g grid) (key_places (of_cells g grid))) (found_by p v ps (of_cells f grid) k) (found_by p w ps (of_cells g grid) k)
        (λ keys b. parts_same ps (λ args. lookup_by s (p ∷ v ∷ ps) (of_cells f grid) keys (k ∷ args)) (λ args. lookup_by s (p ∷ w ∷ ps) (of_cells g grid) keys (k ∷ args))
        (λ args c. by_args k keys args
        (λ l. subst (λ o. All f g (then_cells o (λ vs. then_cells (record_by grid.columns keys vs) (picked_cells grid)))) (ap₂ both a c)
        (subst (λ o. All f g (record_cells grid (map argument (p ∷ ps)) o)) (keys_seen f g grid (below grid.rows) (inside l) keys b) there)))))
      where
        spans : map (λ (p : Part). p.span) (p ∷ v ∷ ps) ≡ map (λ (p : Part). p.span) (p ∷ w ∷ ps)
        spans = ap (λ sp. p.span ∷ sp ∷ map (λ (p : Part). p.span) ps) q

        inside : 0 < grid.columns → AllByRecursion (λ row. row * grid.columns < length grid.cells) (below grid.rows)
        inside l =
            each_weaker (λ row. row < grid.rows) (λ row. row * grid.columns < length grid.cells) (λ row r. let n = whole row 0 r l in omega (arith, n)) (below grid.rows) (each_below grid.rows)

        found : (keys : List Abs) (b : Abs) (w : Wanted) (kinds : Result (List MatchKind) ErrorKind) (n : ℕ) → grid.columns ≡ n → (r : Result (ℕ × ℕ) ErrorKind) → given_by (record_form grid.columns keys b w kinds) ≡ Some r
            → (0 < grid.columns → All f g (picked_cells grid (record_picked r))) → record_from (of_cells f grid) r ≡ record_from (of_cells g grid) r
        found keys b w kinds n e (Err k) d h = refl
        found keys b w kinds zero e (Ok place) d h = absurd (no_record keys b w kinds place (subst (λ m. given_by (record_form m keys b w kinds) ≡ Some (Ok place)) e d))
        found keys b w kinds (suc n) e (Ok place) d h = record_same f g grid (Ok place) (h (omega (arith, e)))

        by_args : (k : AbsArg) (keys : List Abs) (args : List AbsArg) → (0 < grid.columns → All f g (then_cells (record_by grid.columns keys (k ∷ args)) (picked_cells grid)))
            → lookup_by s (p ∷ v ∷ ps) (of_cells f grid) keys (k ∷ args) ≡ lookup_by s (p ∷ w ∷ ps) (of_cells g grid) keys (k ∷ args)
        by_args k keys [] h = refl
        by_args k keys (c ∷ rest) h =
            spans_same s (p ∷ v ∷ ps) (p ∷ w ∷ ps) spans (record_form grid.columns keys (value_of k) (number_of c) (kinds_in rest)) (record_from (of_cells f grid))
            ∙ trial_same s (p ∷ w ∷ ps) (record_form grid.columns keys (value_of k) (number_of c) (kinds_in rest)) (record_from (of_cells f grid)) (record_from (of_cells g grid))
            (λ r d. found keys (value_of k) (number_of c) (kinds_in rest) grid.columns refl r d (λ l. subst (λ o. All f g (then_cells (option_map record_picked o) (picked_cells grid))) d (h l)))

    abbrev in_table : (Cell → Option Abs) → Part → List Part → Option CellGrid → Outcome
    in_table forms u (p ∷ ps) r = on_part p (λ k. in_turned r forms cells turned u (λ src. taken src (key_places src) (found_by p u ps src k)))
    in_table forms u [] r = Without

    lookup_same : AreSame (more t (more u ts)) → All f g (lookup_looks by_form f cells (args_f (more t (more u ts))))
        → (lookup_looks by_form f cells (args_f (more t (more u ts))) ≡ lookup_looks by_form g cells (args_g (more t (more u ts))))
        × (lookup_outcome f cells turned s (parts_of f (more t (more u ts))) ≡ lookup_outcome g cells turned s (parts_of g (more t (more u ts))))
    lookup_same h k = by_reference (part_of f u).reference refl k
      where
        by_reference : (r : Option CellGrid) → (part_of f u).reference ≡ r → All f g (table_looks by_form f cells (args_f (more t ts)) (argument (part_of f u)) r)
            → (table_looks by_form f cells (args_f (more t ts)) (argument (part_of f u)) (part_of f u).reference ≡ table_looks by_form g cells (args_g (more t ts)) (argument (part_of g u)) (part_of g u).reference)
            × (in_table f (part_of f u) (parts_of f (more t ts)) (part_of f u).reference ≡ in_table g (part_of g u) (parts_of g (more t ts)) (part_of g u).reference)
        by_reference None d k =
            let q : (part_of g u).reference ≡ None = sym (reference_same u) ∙ d in
            let e = h.1.0 (each_left (Same f g) (part_of f u).looks (all_looks (args_f (more t ts))) k) in
            let l = all_same (more t ts) (h.0, h.1.1) (each_right (Same f g) (part_of f u).looks (all_looks (args_f (more t ts))) k) in (
              ap (table_looks by_form f cells (args_f (more t ts)) (argument (part_of f u))) d ∙ ap₂ (λ (p : Part) ps. p.looks ++ all_looks (map argument ps)) e l
                  ∙ sym (ap (table_looks by_form g cells (args_g (more t ts)) (argument (part_of g u))) q),
              ap (in_table f (part_of f u) (parts_of f (more t ts))) d ∙ ap₂ (λ p ps. in_table f p ps None) e l
                  ∙ sym (ap (in_table g (part_of g u) (parts_of g (more t ts))) q),
            )
        by_reference (Some grid) d k =
            let q : (part_of g u).reference ≡ Some grid = sym (reference_same u) ∙ d in
            let first = each_left (Same f g) (all_looks (args_f (more t ts)) ++ column_cells (cells grid) 0) (record_cells (cells grid) (args_f (more t ts)) (elements f (column_cells (cells grid) 0))) k in
            let l = all_same (more t ts) (h.0, h.1.1) (each_left (Same f g) (all_looks (args_f (more t ts))) (column_cells (cells grid) 0) first) in
            let col = each_right (Same f g) (all_looks (args_f (more t ts))) (column_cells (cells grid) 0) first in
            let keys = elements_same f g (column_cells (cells grid) 0) col in
            let there = subst (λ o. All f g (record_cells (cells grid) (args_g (more t ts)) o)) keys
            (subst (λ ps. All f g (record_cells (cells grid) (map argument ps) (elements f (column_cells (cells grid) 0)))) l
            (each_right (Same f g) (all_looks (args_f (more t ts)) ++ column_cells (cells grid) 0) (record_cells (cells grid) (args_f (more t ts)) (elements f (column_cells (cells grid) 0))) k)) in (
              ap (table_looks by_form f cells (args_f (more t ts)) (argument (part_of f u))) d
                  ∙ ap₂ (λ ps o. (all_looks (map argument ps) ++ column_cells (cells grid) 0) ++ record_cells (cells grid) (map argument ps) o) l keys
                  ∙ sym (ap (table_looks by_form g cells (args_g (more t ts)) (argument (part_of g u))) q),
              ap (in_table f (part_of f u) (parts_of f (more t ts))) d ∙ ap (found_in (part_of f u) (of_cells f (cells grid))) l
                  ∙ found_same (cells grid) (kept grid (reference_whole f u grid d)) (part_of g t) (part_of f u) (part_of g u) (parts_of g ts) (place_of_part u) col there
                  ∙ sym (ap (in_table g (part_of g u) (parts_of g (more t ts))) q),
            )

  lookups_same : (s : Span) (cells : CellGrid → CellGrid) → ((grid : CellGrid) → IsWhole grid → IsWhole (cells grid)) → (turned : Source → Source) (ts : Trees) → AreSame ts → All f g (lookup_looks by_form f cells (args_f ts))
      → (lookup_looks by_form f cells (args_f ts) ≡ lookup_looks by_form g cells (args_g ts)) × (lookup_outcome f cells turned s (parts_of f ts) ≡ lookup_outcome g cells turned s (parts_of g ts))
  lookups_same s cells kept turned none h k = (refl, refl)
  lookups_same s cells kept turned (more t none) h k = let e = all_same (more t none) h k in (ap (λ ps. all_looks (map argument ps)) e, refl)
  lookups_same s cells kept turned (more t (more u ts)) h k = lookup_same s cells kept turned t u ts h k

  -- ---- SUMIF
  module _ (s : Span) (grid : CellGrid) (ps qs : List Part) (q : map (λ (p : Part). p.span) ps ≡ map (λ (p : Part). p.span) qs) (a : AbsArg) (c : Abs) where
    sum_same : (places : List ℕ) → All f g (cells_at grid places)
        → taken (of_cells f grid) places (λ items. outcome_by s ps (sum_of_elements items)) ≡ taken (of_cells g grid) places (λ items. outcome_by s qs (sum_of_elements items))
    sum_same places h =
        taken_same f g grid places h (λ items. outcome_by s ps (sum_of_elements items))
        ∙ elements_then (elements_at (of_cells g grid) places) (λ items. outcome_by s ps (sum_of_elements items)) (λ items. outcome_by s qs (sum_of_elements items))
        (λ items d. spans_same s ps qs q (sum_of_elements items) Gives)

    abbrev by_met : (Cell → Option Abs) → List Part → Abs → Outcome
    by_met forms parts c = tried_on s parts (met_places (grid_of a).items c) (λ places. taken (of_cells forms grid) places (λ items. outcome_by s parts (sum_of_elements items)))

    abbrev sized : (Cell → Option Abs) → List Part → Abs → Bool → Option ErrorKind → Outcome
    sized forms parts c b o = if b then unless_error o (by_met forms parts c) else Gives (One (Known (Error kind.Value)))

    sized_same : (b : Bool) (o : Option ErrorKind) → All f g (then_cells (if b then option_map (cells_at grid) (given_by (met_places (grid_of a).items c)) else Some []) (λ cells. cells))
        → sized f ps c b o ≡ sized g qs c b o
    sized_same false o h = refl
    sized_same true (Some k) h = refl
    sized_same true None h =
        spans_same s ps qs q (met_places (grid_of a).items c) (λ places. taken (of_cells f grid) places (λ items. outcome_by s ps (sum_of_elements items)))
        ∙ trial_same s qs (met_places (grid_of a).items c) (λ places. taken (of_cells f grid) places (λ items. outcome_by s ps (sum_of_elements items)))
        (λ places. taken (of_cells g grid) places (λ items. outcome_by s qs (sum_of_elements items)))
        (λ places d. sum_same places (subst (λ o. All f g (then_cells (option_map (cells_at grid) o) (λ cells. cells))) d h))

    met_same : (o : Option ErrorKind) → All f g (then_cells (summed_by grid a c o) (λ cells. cells)) → (b : AbsArg) → value_of b ≡ c
        → unless_error o (sum_at s ps (of_cells f grid) [] a b) ≡ unless_error o (sum_at s qs (of_cells g grid) [] a b)
    met_same (Some k) h b d = refl
    met_same None h b d =
        let size : Bool = ((grid_of a).rows == grid.rows) && ((grid_of a).columns == grid.columns) in
        let certain : Abs → Option ErrorKind = λ c. summed_error_by (known_value c) [] (grid_of a).items in
        ap (λ c. sized f ps c size (certain c)) d ∙ sized_same size (certain c) h ∙ sym (ap (λ c. sized g qs c size (certain c)) d)

  -- the sum over a part, by tested and criterion
  abbrev sum_in : (Cell → Option Abs) → Span → Part → List Part → Option CellGrid → Outcome
  sum_in forms s v (p ∷ c ∷ []) r =
      on_part p (λ a. on_part c (λ b. in_source r forms v (λ src. unless_error (error_of (value_of b)) (sum_at s (p ∷ c ∷ v ∷ []) src (seen_before r v.outcome) a b))))
  sum_in forms s v _ r = Without

  over_same : (s : Span) (grid : CellGrid) (p c v w : Part) → v.span ≡ w.span → All f g (then_cells (outcomes (map argument (p ∷ c ∷ []))) (summed_looks by_form grid))
      → sum_in f s v (p ∷ c ∷ []) (Some grid) ≡ sum_in g s w (p ∷ c ∷ []) (Some grid)
  over_same s grid p c v w q h =
      part_same p (λ a. on_part c (λ b. unless_error (error_of (value_of b)) (sum_at s (p ∷ c ∷ v ∷ []) (of_cells f grid) [] a b)))
      (λ a. on_part c (λ b. unless_error (error_of (value_of b)) (sum_at s (p ∷ c ∷ w ∷ []) (of_cells g grid) [] a b)))
      (λ a d. part_same c (λ b. unless_error (error_of (value_of b)) (sum_at s (p ∷ c ∷ v ∷ []) (of_cells f grid) [] a b))
      (λ b. unless_error (error_of (value_of b)) (sum_at s (p ∷ c ∷ w ∷ []) (of_cells g grid) [] a b))
      (λ b e. met_same s grid (p ∷ c ∷ v ∷ []) (p ∷ c ∷ w ∷ []) (ap (λ sp. p.span ∷ c.span ∷ sp ∷ []) q) a (value_of b) (error_of (value_of b))
      (subst (λ o. All f g (then_cells o (summed_looks by_form grid))) (ap₂ both d (ap₂ both e refl)) h) b refl))

  sumif_three : (s : Span) (t u v : Tree) → AreSame (more t (more u (more v none))) → All f g (sumif_looks by_form (args_f (more t (more u (more v none)))))
      → (sumif_looks by_form (args_f (more t (more u (more v none)))) ≡ sumif_looks by_form (args_g (more t (more u (more v none)))))
      × (sumif_outcome f s (parts_of f (more t (more u (more v none)))) ≡ sumif_outcome g s (parts_of g (more t (more u (more v none)))))
  sumif_three s t u v h k = by_reference (part_of f v).reference refl k
    where
      two : Trees
      two = more t (more u none)

      by_reference : (r : Option CellGrid) → (part_of f v).reference ≡ r → All f g (sum_looks by_form (args_f (more t (more u none))) (argument (part_of f v)) r)
          → (sum_looks by_form (args_f (more t (more u none))) (argument (part_of f v)) (part_of f v).reference ≡ sum_looks by_form (args_g (more t (more u none))) (argument (part_of g v)) (part_of g v).reference)
          × (sum_in f s (part_of f v) (parts_of f (more t (more u none))) (part_of f v).reference ≡ sum_in g s (part_of g v) (parts_of g (more t (more u none))) (part_of g v).reference)
      by_reference None d k =
          let q : (part_of g v).reference ≡ None = sym (reference_same v) ∙ d in
          let l = all_same (more t (more u none)) (h.0, (h.1.0, tt)) (each_left (Same f g) (all_looks (args_f (more t (more u none)))) (part_of f v).looks k) in
          let e = h.1.1.0 (each_right (Same f g) (all_looks (args_f (more t (more u none)))) (part_of f v).looks k) in (
            ap (sum_looks by_form (args_f (more t (more u none))) (argument (part_of f v))) d ∙ ap₂ (λ ps (p : Part). all_looks (map argument ps) ++ p.looks) l e
                ∙ sym (ap (sum_looks by_form (args_g (more t (more u none))) (argument (part_of g v))) q),
            ap (sum_in f s (part_of f v) (parts_of f (more t (more u none)))) d ∙ ap₂ (λ ps p. sum_in f s p ps None) l e
                ∙ sym (ap (sum_in g s (part_of g v) (parts_of g (more t (more u none)))) q),
          )
      by_reference (Some grid) d k =
          let q : (part_of g v).reference ≡ Some grid = sym (reference_same v) ∙ d in
          let sums : List Part → List Cell = λ ps. then_cells (outcomes (map argument ps)) (summed_looks by_form grid) in
          let l = all_same (more t (more u none)) (h.0, (h.1.0, tt)) (each_left (Same f g) (all_looks (args_f (more t (more u none)))) (sums (parts_of f (more t (more u none)))) k) in
          let there = subst (λ ps. All f g (sums ps)) l (each_right (Same f g) (all_looks (args_f (more t (more u none)))) (sums (parts_of f (more t (more u none)))) k) in (
            ap (sum_looks by_form (args_f (more t (more u none))) (argument (part_of f v))) d ∙ ap (λ ps. all_looks (map argument ps) ++ sums ps) l
                ∙ sym (ap (sum_looks by_form (args_g (more t (more u none))) (argument (part_of g v))) q),
            ap (sum_in f s (part_of f v) (parts_of f (more t (more u none)))) d ∙ ap (λ ps. sum_in f s (part_of f v) ps (Some grid)) l
                ∙ over_same s grid (part_of g t) (part_of g u) (part_of f v) (part_of g v) (place_of_part v) there
                ∙ sym (ap (sum_in g s (part_of g v) (parts_of g (more t (more u none)))) q),
          )

  -- the tested grid is summed where no other is given
  sumif_two : (s : Span) (t u : Tree) → AreSame (more t (more u none)) → All f g (all_looks (args_f (more t (more u none))))
      → (sumif_looks by_form (args_f (more t (more u none))) ≡ sumif_looks by_form (args_g (more t (more u none))))
      × (sumif_outcome f s (parts_of f (more t (more u none))) ≡ sumif_outcome g s (parts_of g (more t (more u none))))
  sumif_two s t u h k =
      let e = all_same (more t (more u none)) h k in (
        ap (λ ps. all_looks (map argument ps)) e,
        ap (λ (on : (Source → Outcome) → Outcome). on_part (part_of f t) (λ a. on_part (part_of f u) (λ b. on (λ src. unless_error (error_of (value_of b)) (sum_at s (part_of f t ∷ part_of f u ∷ []) src (seen_before (part_of f t).reference (part_of f t).outcome) a b)))))
            (by_reference (part_of f t).reference refl) ∙ ap (sumif_outcome g s) e,
      )
    where
      of_reference : (r : Option CellGrid) → (part_of f t).reference ≡ r → Rattle.recalculation.proofs.Reading.OfReference (Same f g) r
      of_reference None d = tt
      of_reference (Some grid) d = subst (All f g) (reference_looks f t grid d) (each_left (Same f g) (part_of f t).looks (all_looks (args_f (more u none))) k)

      by_reference : (r : Option CellGrid) → (part_of f t).reference ≡ r → in_source (part_of f t).reference f (part_of f t) ≡ in_source (part_of f t).reference g (part_of f t)
      by_reference r d = in_alike f g (part_of f t) (part_of f t).reference (of_reference (part_of f t).reference refl)

  sumif_same : (s : Span) (ts : Trees) → AreSame ts → All f g (sumif_looks by_form (args_f ts)) → IsCallSame s func.SumIf ts
  sumif_same s none h k = (refl, refl)
  sumif_same s (more t none) h k = let e = all_same (more t none) h k in (ap (λ ps. all_looks (map argument ps)) e, refl)
  sumif_same s (more t (more u none)) h k = sumif_two s t u h k
  sumif_same s (more t (more u (more v none))) h k = sumif_three s t u v h k
  sumif_same s (more t (more u (more v (more w ts)))) h k = let e = all_same (more t (more u (more v (more w ts)))) h k in (ap (λ ps. all_looks (map argument ps)) e, refl)

  -- ---- all calls
  pub call_same : (s : Span) (fn : Func) (ts : Trees) → AreSame ts → AreAlike ts → All f g (call_looks by_form f fn (args_f ts)) → IsCallSame s fn ts
  call_same s func.If ts h l k = if_same s ts h k
  call_same s func.IfError ts h l k = iferror_same s ts h k
  call_same s func.Choose ts h l k = choose_same s ts h l k
  call_same s func.Index ts h l k = index_same s ts h k
  call_same s func.VLookup ts h l k = lookups_same s (λ grid. grid) (λ grid w. w) (λ src. src) ts h k
  call_same s func.HLookup ts h l k = lookups_same s exchanged_cells exchanged_whole exchanged ts h k
  call_same s func.SumIf ts h l k = sumif_same s ts h k
  call_same s func.Rows ts h l k = size_same s func.Rows (λ src. src.rows) (λ grid. refl) ts h k
  call_same s func.Columns ts h l k = size_same s func.Columns (λ src. src.columns) (λ grid. refl) ts h k
  call_same s fn ts h l k = plain_same s fn ts h k refl refl

-- ---- formulas
-- a part that looks at nothing with some forms is the same with others, so it is certainly an error with both or with neither
alike : (f g : Cell → Option Abs) (t : Tree) → IsSame f g t → IsSame g f t → is_no_argument (part_of f t) ≡ is_no_argument (part_of g t)
alike f g t h k = by (part_of f t).looks refl (part_of g t).looks refl
  where
    by : (l : List Cell) → (part_of f t).looks ≡ l → (m : List Cell) → (part_of g t).looks ≡ m → is_no_argument (part_of f t) ≡ is_no_argument (part_of g t)
    by [] d m e = ap is_no_argument (h (subst (All f g) (sym d) tt))
    by (c ∷ l) d [] e = sym (ap is_no_argument (k (subst (All g f) (sym e) tt)))
    by (c ∷ l) d (b ∷ m) e =
        ap (λ looks. is_unlooked_error looks (part_of f t).outcome) d ∙ sym (ap (λ looks. is_unlooked_error looks (part_of g t).outcome) e)

mutual
  pub part_is_same : (f g : Cell → Option Abs) (t : Tree) → IsSame f g t
  part_is_same f g (tree.Number s y) k = refl
  part_is_same f g (tree.Text s y) k = refl
  part_is_same f g (tree.Logical s y) k = refl
  part_is_same f g (tree.Fault s y) k = refl
  part_is_same f g (tree.Missing s) k = refl
  part_is_same f g (tree.Array s rows columns items) k = refl
  part_is_same f g (tree.Reference s areas) k =
      let o = ap (of_forms (grid_of_areas (listed areas))) (elements_same f g (grid_of_areas (listed areas)).cells k) in
      λ i. record { span = s; looks = (grid_of_areas (listed areas)).cells; outcome = o i; reference = Some (grid_of_areas (listed areas)) }
  part_is_same f g (tree.Call s fn args) k =
      let e = call_same f g s fn args (parts_are_same f g args) (parts_alike f g args) k in
      λ i. record { span = s; looks = e.0 i; outcome = e.1 i; reference = None }
  part_is_same f g (tree.Plus s t) k = ap (signed s) (part_is_same f g t k)
  part_is_same f g (tree.Minus s t) k = ap (turned s minus_form) (part_is_same f g t k)
  part_is_same f g (tree.Percent s t) k = ap (turned s percent_form) (part_is_same f g t k)
  part_is_same f g (tree.Infix s o t u) k =
      ap₂ (joined s o) (part_is_same f g t (each_left (Same f g) (part_of f t).looks (part_of f u).looks k)) (part_is_same f g u (each_right (Same f g) (part_of f t).looks (part_of f u).looks k))
  part_is_same f g (tree.WideNumber s y) k = refl
  part_is_same f g (tree.Name s n) k = refl
  part_is_same f g (tree.Unknown s n args) k = refl

  pub parts_are_same : (f g : Cell → Option Abs) (ts : Trees) → AreSame f g ts
  parts_are_same f g none = tt
  parts_are_same f g (more t ts) = (λ k. part_is_same f g t k, parts_are_same f g ts)

  parts_alike : (f g : Cell → Option Abs) (ts : Trees) → AreAlike f g ts
  parts_alike f g none = tt
  parts_alike f g (more t ts) = (alike f g t (λ k. part_is_same f g t k) (λ k. part_is_same g f t k), parts_alike f g ts)

-- what holds of each element
pub each_of : {A : Type 0} (P : A → Type 0) (xs : List A) → ((x : A) → Contains xs x → P x) → AllByRecursion P xs
each_of P [] h = tt
each_of P (x ∷ xs) h = (h x (0, omega arith, refl), each_of P xs (λ y c. h y (suc c.0, omega (arith, c.1), c.2)))

pub depends_on_looked : DependsOnLooked
depends_on_looked f g t h =
    let k = each_of (λ b. f b ≡ g b) (part_of f t).looks h in
    let e = part_is_same f g t k in
    (ap₂ (λ l (p : Part). by_looks l p.outcome) (least_alike f g (part_of f t).looks k ∙ ap (λ (p : Part). least_without g p.looks) e) e, ap (λ (p : Part). p.looks) e)
