-- The cells of several references.
use Rattle.std.proofs.Common.{◌≡◌, ◌<◌, ◌≤◌, ◌+◌, ℕ, suc, List, [], ◌∷◌, map, flat_map, length, get_or, drop, Option, Some, None, refl, sym, ap, ◌∙◌, arith, string_bytes, String, Global}
use Rattle.std.specs.Prelude.{fold, option_map, ◌==◌, if◌then◌else◌, true, false}
use Rattle.workbook.specs.Kinds.{behind_equals}
use Rattle.std.proofs.Math.Seq.{drop-cons}
use Rattle.std.proofs.lemmas.List.{drop_all}
use Rattle.std.proofs.lemmas.List.Sums.{fold-append}
use Rattle.cell_refs.specs.declared.cell.Cell.{Cell}
use Rattle.cell_refs.specs.Areas.{Area, cells_of}
use Rattle.solver_names.specs.Texts.{all_of, with_cell}

-- the cells of areas, behind others
abbrev pub behind : List Cell → Option (List Area) → Option (List Cell)
behind cells areas = option_map (λ all. fold with_cell cells (flat_map cells_of all)) areas

one_more : (cells : List Cell) (a : Area) (others : Option (List Area)) → behind cells (option_map (λ all. a ∷ all) others) ≡ behind (fold with_cell cells (cells_of a)) others
one_more cells a None = refl
one_more cells a (Some all) = ap Some (fold-append with_cell cells (cells_of a) (flat_map cells_of all))

-- the areas of texts
module _ (area : List ℕ → Option Area) where
  abbrev pub all_areas : List (String Global) → Option (List Area)
  all_areas items = all_of (map area (map string_bytes items))

  module _ (items : List (String Global)) (i : ℕ) (item : String Global) (cells : List Cell) (below : i < length items) (is : item ≡ get_or items i item) (total : Option (List Cell))
      (so_far : behind cells (all_areas (drop i items)) ≡ total) where
    here : drop i items ≡ item ∷ drop (i + 1) items
    here = let q : suc i ≡ i + 1 = omega arith in drop-cons items i item below ∙ ap (λ y. y ∷ drop (suc i) items) (sym is) ∙ ap (λ n. item ∷ drop n items) q

    pub area_more : (a : Area) (more : List Cell) → Some a ≡ area (string_bytes item) → more ≡ fold with_cell cells (cells_of a) → behind more (all_areas (drop (i + 1) items)) ≡ total
    area_more a more there put =
        ap (λ m. behind m (all_areas (drop (i + 1) items))) put ∙ sym (one_more cells a (all_areas (drop (i + 1) items)))
        ∙ ap (λ o. behind cells (all_of (o ∷ map area (map string_bytes (drop (i + 1) items))))) there ∙ ap (λ l. behind cells (all_areas l)) (sym here) ∙ so_far

    pub no_area : None ≡ area (string_bytes item) → None ≡ total
    no_area there = ap (λ o. behind cells (all_of (o ∷ map area (map string_bytes (drop (i + 1) items))))) there ∙ ap (λ l. behind cells (all_areas l)) (sym here) ∙ so_far

  pub all_there : (items : List (String Global)) (i : ℕ) (cells : List Cell) (total : Option (List Cell)) → length items ≤ i → behind cells (all_areas (drop i items)) ≡ total → Some cells ≡ total
  all_there items i cells total h so_far = ap (λ l. behind cells (all_areas l)) (sym (drop_all i items h)) ∙ so_far

pub behind_short : (text : List ℕ) → length (behind_equals text) ≤ length text
behind_short [] = omega arith
behind_short (b ∷ rest) = elim (b == 61) as (λ v. length (if v then rest else b ∷ rest) ≤ length (b ∷ rest)) [
  | true ↦ omega arith
  | false ↦ omega arith
]
