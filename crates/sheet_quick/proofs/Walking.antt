-- The first cell of areas that can't be a parameter, from a place on.
use Rattle.std.proofs.Common.{◌≡◌, ◌<◌, ◌+◌, ◌-◌, ℕ, Bool, true, false, cond, List, [], ◌∷◌, ◌++◌, length, drop, get_or, map, Option, Some, None, refl, sym, ap, ◌∙◌, flat_map}
use Rattle.std.specs.Prelude.{not, find}
use Rattle.std.specs.List.{range_with_len}
use Rattle.std.specs.Option.{option_or}
use Rattle.std.proofs.lemmas.List.{drop_more}
use Rattle.cell_refs.specs.Areas.{Area, area_len, cell_at, cells_of}
use Rattle.cell_refs.specs.declared.cell.Cell.{Cell}
use Rattle.recalculation.specs.Entries.{Book}
use Rattle.sheet_funcs.proofs.Ranges.{from_below}
use Rattle.sheet_quick.specs.Parameters.{can_be_parameter, other_cell}

abbrev pub other_from : Book → List Cell → Area → ℕ → Option Cell
other_from book decisions a i = other_cell book decisions (map (cell_at a) (range_with_len i (area_len a - i)))

next : (book : Book) (decisions : List Cell) (a : Area) (i : ℕ) → i < area_len a
    → other_from book decisions a i ≡ cond (not (can_be_parameter book decisions (cell_at a i))) (Some (cell_at a i)) (other_from book decisions a (i + 1))
next book decisions a i h = ap (λ l. other_cell book decisions (map (cell_at a) l)) (from_below i (area_len a) h)

-- a cell that can be one is passed over
pub other_later : (book : Book) (decisions : List Cell) (a : Area) (i : ℕ) (cell : Cell) → i < area_len a → cell ≡ cell_at a i → can_be_parameter book decisions cell ≡ true
    → other_cell book decisions (cells_of a) ≡ other_from book decisions a i → other_cell book decisions (cells_of a) ≡ other_from book decisions a (i + 1)
other_later book decisions a i cell h is can so_far =
    so_far ∙ next book decisions a i h ∙ ap (λ b. cond (not b) (Some (cell_at a i)) (other_from book decisions a (i + 1))) (ap (can_be_parameter book decisions) (sym is) ∙ can)

-- another one is it
pub other_here : (book : Book) (decisions : List Cell) (a : Area) (i : ℕ) (cell : Cell) → i < area_len a → cell ≡ cell_at a i → can_be_parameter book decisions cell ≡ false
    → other_cell book decisions (cells_of a) ≡ other_from book decisions a i → other_cell book decisions (cells_of a) ≡ Some cell
other_here book decisions a i cell h is cannot so_far =
    so_far ∙ next book decisions a i h ∙ ap (λ b. cond (not b) (Some (cell_at a i)) (other_from book decisions a (i + 1))) (ap (can_be_parameter book decisions) (sym is) ∙ cannot)
    ∙ ap Some (sym is)

-- ---- areas
find_append : (p : Cell → Bool) (cells others : List Cell) → find p (cells ++ others) ≡ option_or (find p cells) (find p others)
find_append p [] others = refl
find_append p (c ∷ cells) others = by (p c) (find_append p cells others)
  where
    by : (b : Bool) → find p (cells ++ others) ≡ option_or (find p cells) (find p others) → cond b (Some c) (find p (cells ++ others)) ≡ option_or (cond b (Some c) (find p cells)) (find p others)
    by true e = refl
    by false e = e

-- that of the first area, and else of the others
pub other_of_first : (book : Book) (decisions : List Cell) (areas others : List Area) (a : Area) (all first : Option Cell) → areas ≡ a ∷ others → first ≡ other_cell book decisions (cells_of a)
    → all ≡ other_cell book decisions (flat_map cells_of areas) → all ≡ option_or first (other_cell book decisions (flat_map cells_of others))
other_of_first book decisions areas others a all first e is so_far =
    so_far ∙ ap (λ left. other_cell book decisions (flat_map cells_of left)) e
    ∙ find_append (λ c. not (can_be_parameter book decisions c)) (cells_of a) (flat_map cells_of others)
    ∙ ap (λ o. option_or o (other_cell book decisions (flat_map cells_of others))) (sym is)

module _ (book : Book) (decisions : List Cell) (areas : List Area) (i : ℕ) (a : Area) (all : Option Cell) (below : i < length areas) (is : a ≡ get_or areas i a)
    (so_far : all ≡ other_cell book decisions (flat_map cells_of (drop i areas))) where
  at_first : (first : Option Cell) → first ≡ other_cell book decisions (cells_of a) → all ≡ option_or first (other_cell book decisions (flat_map cells_of (drop (i + 1) areas)))
  at_first first e =
      other_of_first book decisions (drop i areas) (drop (i + 1) areas) a all first (drop_more areas i a below ∙ ap (λ (d : Area). d ∷ drop (i + 1) areas) (sym is)) e so_far

  -- an area without such a cell is passed over
  pub other_passed : None ≡ other_cell book decisions (cells_of a) → all ≡ other_cell book decisions (flat_map cells_of (drop (i + 1) areas))
  other_passed e = at_first None e

  -- the first one of another area is it
  pub other_found : (cell : Cell) → Some cell ≡ other_cell book decisions (cells_of a) → all ≡ Some cell
  other_found cell e = at_first (Some cell) e
