-- The elements of cells, where all are known.
use Rattle.std.proofs.Common.{◌≡◌, ℕ, ◌+◌, ◌<◌, Bool, true, false, ◌&&◌, if◌then◌else◌, List, [], ◌∷◌, ◌++◌, length, get_or, drop, map, flat_map, refl, sym, ap, ◌∙◌, append_assoc, Option, Some, None}
use Rattle.std.specs.Prelude.{is_some, option_map}
use Rattle.std.specs.Option.{option_and_then}
use Rattle.std.proofs.lemmas.List.{drop_more, length-map}
use Rattle.calculations.proofs.CalculationLaws.{behind_answers, behind-none}
use Rattle.cell_refs.specs.declared.cell.Cell.{Cell}
use Rattle.cell_refs.specs.Areas.{Area, cells_of}
use Rattle.sheet_model.specs.declared.value.Value.{Value}
use Rattle.sheet_model.specs.declared.grid.Arg.{Arg}
use Rattle.sheet_model.specs.declared.grid.Arg.TheVariants.{Area as Elements}
use Rattle.recalculation.specs.Evaluation.{values_in}
use Rattle.recalculation.specs.Looks.{both, elements}
use Rattle.recalculation.specs.Looking.{or_empty, known_or_empty, are_known}

-- one in front of others
in_front : (o : Option Value) (b : Bool) (vs : List Value) → both o (if b then Some vs else None) ≡ (if (is_some o && b) then Some (or_empty o ∷ vs) else None)
in_front None b vs = refl
in_front (Some v) true vs = refl
in_front (Some v) false vs = refl

-- the values of cells, where all are known
pub elements_are : (known : Cell → Option Value) (cells : List Cell) → elements known cells ≡ (if are_known known cells then Some (map (known_or_empty known) cells) else None)
elements_are known [] = refl
elements_are known (b ∷ cells) = ap (both (known b)) (elements_are known cells) ∙ in_front (known b) (are_known known cells) (map (known_or_empty known) cells)

module _ (known : Cell → Option Value) where
  -- as many as cells
  pub elements_count : (cells : List Cell) (vs : List Value) → Some vs ≡ elements known cells → length vs ≡ length cells
  elements_count cells vs e = by (are_known known cells) (e ∙ elements_are known cells)
    where
      count_in : Option (List Value) → ℕ
      count_in (Some ws) = length ws
      count_in None = length cells

      by : (b : Bool) → Some vs ≡ (if b then Some (map (known_or_empty known) cells) else None) → length vs ≡ length cells
      by true is = ap count_in is ∙ length-map cells (known_or_empty known)
      by false is = ap count_in is

  -- in one column
  pub column_is : (cells : List Cell) (rows : ℕ) (vs : List Value) → Some vs ≡ elements known cells → rows ≡ length vs
      → Some (Elements (record { rows = rows; columns = 1; items = vs }))
      ≡ (if are_known known cells then Some (Elements (values_in (known_or_empty known) (record { rows = length cells; columns = 1; cells = cells }))) else None)
  column_is cells rows vs e r =
      ap (λ n. Some (column n vs)) (r ∙ elements_count cells vs e) ∙ ap (option_map (column (length cells))) (e ∙ elements_are known cells) ∙ by (are_known known cells)
    where
      column : ℕ → List Value → Arg
      column n ws = Elements (record { rows = n; columns = 1; items = ws })

      by : (b : Bool) → option_map (column (length cells)) (if b then Some (map (known_or_empty known) cells) else None)
          ≡ (if b then Some (column (length cells) (map (known_or_empty known) cells)) else None)
      by true = refl
      by false = refl

  -- those of some cells and then of others
  elements_append : (xs ys : List Cell) → elements known (xs ++ ys) ≡ option_and_then (λ vs. behind_answers vs (elements known ys)) (elements known xs)
  elements_append [] ys = behind-none (elements known ys)
  elements_append (x ∷ xs) ys = ap (both (known x)) (elements_append xs ys) ∙ by (known x) (elements known xs)
    where
      later : (v : Value) (vs : List Value) (o : Option (List Value)) → both (Some v) (behind_answers vs o) ≡ behind_answers (v ∷ vs) o
      later v vs None = refl
      later v vs (Some ws) = refl

      by : (o : Option Value) (p : Option (List Value))
          → both o (option_and_then (λ vs. behind_answers vs (elements known ys)) p) ≡ option_and_then (λ vs. behind_answers vs (elements known ys)) (both o p)
      by None p = refl
      by (Some v) None = refl
      by (Some v) (Some vs) = later v vs (elements known ys)

  -- an area more behind the values so far
  module _ (areas : List Area) (i : ℕ) (a : Area) (h : i < length areas) (e : a ≡ get_or areas i a) (whole : Option (List Value)) (front : List Value)
      (all : whole ≡ behind_answers front (elements known (flat_map cells_of (drop i areas)))) where
    abbrev rest : Option (List Value)
    rest = elements known (flat_map cells_of (drop (i + 1) areas))

    next : whole ≡ behind_answers front (option_and_then (λ vs. behind_answers vs rest) (elements known (cells_of a)))
    next =
        all ∙ ap (λ some. behind_answers front (elements known (flat_map cells_of some))) (drop_more areas i a h)
        ∙ ap (λ b. behind_answers front (elements known (cells_of b ++ flat_map cells_of (drop (i + 1) areas)))) (sym e)
        ∙ ap (behind_answers front) (elements_append (cells_of a) (flat_map cells_of (drop (i + 1) areas)))

    -- where one of its cells isn't known
    pub area_unknown : None ≡ elements known (cells_of a) → None ≡ whole
    area_unknown n = sym (next ∙ ap (λ o. behind_answers front (option_and_then (λ vs. behind_answers vs rest) o)) (sym n))

    -- where all are
    pub area_known : (more new : List Value) → Some more ≡ elements known (cells_of a) → new ≡ front ++ more
        → whole ≡ behind_answers new (elements known (flat_map cells_of (drop (i + 1) areas)))
    area_known more new s n =
        next ∙ ap (λ o. behind_answers front (option_and_then (λ vs. behind_answers vs rest) o)) (sym s) ∙ twice rest ∙ ap (λ vs. behind_answers vs rest) (sym n)
      where
        twice : (o : Option (List Value)) → behind_answers front (behind_answers more o) ≡ behind_answers (front ++ more) o
        twice None = refl
        twice (Some ws) = ap Some (sym (append_assoc front more ws))
