-- Marks of a cell in tables.
use Rattle.std.specs.Prelude.{◌&&◌, ◌||◌, not, map, if◌then◌else◌, is_some, slice_set}
use Rattle.std.proofs.Common.{◌≡◌, ◌<◌, ◌+◌, ℕ, Bool, true, false, List, [], ◌∷◌, ◌++◌, length, get_or, take, drop, Option, None, refl, sym, ap, ap₂, ◌∙◌, arith}
use Rattle.std.proofs.lemmas.List.{drop_more, map_push, map_more, take_more_set}
use Rattle.cell_refs.specs.declared.cell.Cell.{Cell}
use Rattle.recalculation.specs.Entries.{Book}
use Rattle.cell_refs.specs.declared.place.Place.{Place}
use Rattle.extract_incr.specs.FromFormExtraction.{numbered_in}
use Rattle.extract_incr.specs.FromKeptMarks.{without_marked}
use Rattle.extract_incr.specs.FromTouchedPlaces.{touches}
use Rattle.extract_incr.specs.FromExtract.{form_at}
use Rattle.kept_tables.specs.Settled.{all_marked, marked_in}
use Rattle.kept_tables.specs.FromSheetProblems.{tree_of}
use Rattle.kept_forms.specs.Tables.{SheetKept, all_forms, forms_in}

-- ---- in one table
-- what a mark of one cell drops
marked_one : {A : Type 0} (decides touched : Bool) (o : Option A) → (if (not decides && touched) || false then None else o) ≡ (if decides then o else if touched then None else o)
marked_one true touched o = refl
marked_one false true o = refl
marked_one false false o = refl

module _ (book : Book) (cell : Cell) (t : SheetKept) where
  -- a cell that is to be decided is none
  pub not_marked : is_some (numbered_in t.kept.decisions cell) ≡ true → forms_in t ≡ marked_in book (cell ∷ []) (forms_in t)
  not_marked d i = record {
    sheet = t.sheet;
    parts = (forms_in t).parts;
    kept = λ p. sym
        (marked_one (is_some (numbered_in t.kept.decisions cell)) (touches book (tree_of t.kept.sides) cell p) (form_at t.kept.table p)
        ∙ ap (λ b. if b then form_at t.kept.table p else if touches book (tree_of t.kept.sides) cell p then None else form_at t.kept.table p) d) i;
  }

  -- any other cell is marked
  pub is_marked : (now : SheetKept) → is_some (numbered_in t.kept.decisions cell) ≡ false → now.sheet ≡ t.sheet → now.kept.decisions ≡ t.kept.decisions → now.kept.sides ≡ t.kept.sides
      → ((p : Place) → form_at now.kept.table p ≡ without_marked (touches book (tree_of t.kept.sides) cell) (form_at t.kept.table) p) → forms_in now ≡ marked_in book (cell ∷ []) (forms_in t)
  is_marked now d own decisions sides forms i = record {
    sheet = own i;
    parts = record { decisions = decisions i; sides = sides i };
    kept = λ p.
        (forms p
        ∙ sym
        (marked_one (is_some (numbered_in t.kept.decisions cell)) (touches book (tree_of t.kept.sides) cell p) (form_at t.kept.table p)
        ∙ ap (λ b. if b then form_at t.kept.table p else if touches book (tree_of t.kept.sides) cell p then None else form_at t.kept.table p) d)) i;
  }

-- ---- in one table more
-- lists with the same rest have the same there
module _ {X : Type 0} (xs ys : List X) (i : ℕ) (d : X) (within : i < length xs) (inside : i < length ys) (rest : drop i xs ≡ drop i ys) where
  fronts : get_or xs i d ∷ drop (i + 1) xs ≡ get_or ys i d ∷ drop (i + 1) ys
  fronts = sym (drop_more xs i d within) ∙ rest ∙ drop_more ys i d inside

  pub same_front : get_or xs i d ≡ get_or ys i d
  same_front = cc fronts

  pub same_rest : drop (i + 1) xs ≡ drop (i + 1) ys
  same_rest = cc fronts

pub one_marked : (book : Book) (cells : List Cell) (before tables : List SheetKept) (i : ℕ) (was now : SheetKept) → i < length before → length tables ≡ length before → was ≡ get_or before i was
    → all_forms (take i tables) ≡ all_marked book cells (all_forms (take i before)) → forms_in now ≡ marked_in book cells (forms_in was)
    → all_forms (take (i + 1) (slice_set tables i now)) ≡ all_marked book cells (all_forms (take (i + 1) before))
one_marked book cells before tables i was now inside as_long at marked e =
    ap all_forms (take_more_set tables i now (omega (arith, inside, as_long)))
    ∙ map_push forms_in (take i tables) now
    ∙ ap₂ (λ us u. us ++ u ∷ []) marked (e ∙ ap (λ (t : SheetKept). marked_in book cells (forms_in t)) at)
    ∙ sym (map_push (marked_in book cells) (all_forms (take i before)) (forms_in (get_or before i was)))
    ∙ sym (ap (map (marked_in book cells)) (map_more forms_in before i was inside))
