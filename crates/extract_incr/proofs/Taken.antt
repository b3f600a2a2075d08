-- Forms that are taken out of a table are those of the touched places.
use Rattle.std.specs.Prelude.{◌==◌, ◌&&◌, ◌||◌, if◌then◌else◌, map, slice_get, is_some}
use Rattle.std.proofs.Common.{◌≡◌, ℕ, ◌+◌, ◌<◌, Bool, true, false, cond, List, [], ◌∷◌, ◌++◌, get_or, length, take, Option, Some, None, refl, sym, ap, subst, ◌∙◌}
use Rattle.std.specs.Cmp.{eq_by_cmp_equiv, nat_cmp_total, unsigned_tied}
use Rattle.std.specs.FinMap.{get, get-remove}
use Rattle.std.specs.List.{list_any}
use Rattle.std.specs.Ordering.{eq_by_cmp}
use Rattle.std.proofs.lemmas.Bool.{eq-eqb, eqb-true}
use Rattle.std.proofs.lemmas.List.{map_more, map_push}
use Rattle.std.proofs.lemmas.List.Folds.{list_any_more}
use Rattle.cell_refs.specs.Areas.{Area}
use Rattle.cell_refs.specs.Cells.{cell_cmp}
use Rattle.cell_refs.specs.declared.cell.Cell.{Cell}
use Rattle.cell_refs.proofs.Order.{cells_total, exact_cells}
use Rattle.formula_ast.specs.Measures.{references_of}
use Rattle.formula_ast.specs.Tree.{Tree}
use Rattle.recalculation.specs.Entries.{Book, Formula}
use Rattle.recalculation.specs.Walks.{refers}
use Rattle.recalculation.proofs.Lists.{both, first_true, second_true}
use Rattle.column_strips.specs.Affected.{has_cell}
use Rattle.dep_table.specs.Affected.{AreAffected}
use Rattle.cell_refs.specs.declared.place.Place.{Place}
use Rattle.cell_refs.specs.declared.place.Place.TheVariants as place
use Rattle.kept_marks.specs.FromTouchedPlaces.{touches}
use Rattle.kept_marks.specs.FromTouchedPlaces.{RefersToTouched}
use Rattle.kept_marks.proofs.FromTouchedPlaces.{touches_what_is_touched}
use Rattle.kept_marks.specs.Marks.{without_marked}
use Rattle.needed_forms.specs.FromExtract.{Table, form_at, without}
use Rattle.needed_forms.specs.FromSheetProblems.{Sides, tree_of}
use Rattle.extract_incr.specs.Keeping.{HaveOwnNumbers}
use Rattle.extract_incr.specs.Marking.{AreAreasOf, have_one, is_side_to}
use Rattle.extract_incr.specs.declared.marking.SideAreas.{SideAreas}
use Rattle.extract_incr.proofs.Counting.{alike, equal_of, one_passes, passes_one}
use Rattle.extract_incr.proofs.Settling.{side_found, the_same, tree_found}

-- ---- the areas of sides
abbrev of_areas : SideAreas → ℕ × List Area
of_areas s = (s.number, s.areas.items)

abbrev of_side : ℕ × Tree → ℕ × List Area
of_side side = (side.0, references_of side.1)

-- those of one side more
pub one_listed : (sides : Sides) (i : ℕ) (d : ℕ × Tree) (found now : List SideAreas) (s : SideAreas) → i < length sides → AreAreasOf found (take i sides) → now ≡ found ++ s ∷ []
    → of_areas s ≡ of_side (get_or sides i d) → AreAreasOf now (take (i + 1) sides)
one_listed sides i d found now s inside before pushed same =
    ap (map of_areas) pushed ∙ map_push of_areas found s ∙ (λ j. before j ++ same j ∷ []) ∙ sym (map_more of_side sides i d inside)

-- ---- forms that are taken
-- one more that is gone
fewer : {A : Type 0} (gone b : Bool) (o now : Option A) → now ≡ (if b then None else o) → cond gone None now ≡ (if (b || gone) then None else o)
fewer true true o now h = refl
fewer true false o now h = refl
fewer false true o now h = h
fewer false false o now h = h

-- those of some cells
abbrev pub AreTaken : List Cell → Table → Table → Type 0
AreTaken cells before after =
    ((a : Cell) → form_at after (place.Cell a) ≡ (if has_cell cells a then None else form_at before (place.Cell a)))
    × ((k : ℕ) → form_at after (place.Side k) ≡ form_at before (place.Side k))

pub none_taken : (table : Table) → AreTaken [] table table
none_taken table = (λ a. refl, λ k. refl)

pub one_taken : (cells : List Cell) (i : ℕ) (d : Cell) (before table now : Table) → i < length cells → AreTaken (take i cells) before table → now ≡ without table (place.Cell (get_or cells i d))
    → AreTaken (take (i + 1) cells) before now
one_taken cells i d before table now inside taken e = (
  λ a. ap (λ t. form_at t (place.Cell a)) e ∙ get-remove cells_total table.cells (get_or cells i d) a
      ∙ fewer (eq_by_cmp cell_cmp a (get_or cells i d)) (has_cell (take i cells) a) (form_at before (place.Cell a)) (form_at table (place.Cell a)) (taken.0 a)
      ∙ ap (λ b. if b then None else form_at before (place.Cell a)) (sym (list_any_more (eq_by_cmp cell_cmp a) cells i d inside)),
  λ k. ap (λ t. form_at t (place.Side k)) e ∙ taken.1 k,
)

-- those of the sides that refer to some cells
abbrev pub AreSidesTaken : List SideAreas → List Cell → Table → Table → Type 0
AreSidesTaken sides cells before after =
    ((a : Cell) → form_at after (place.Cell a) ≡ form_at before (place.Cell a))
    × ((k : ℕ) → form_at after (place.Side k) ≡ (if is_side_to sides cells k then None else form_at before (place.Side k)))

pub no_sides_taken : (cells : List Cell) (table : Table) → AreSidesTaken [] cells table table
no_sides_taken cells table = (λ a. refl, λ k. refl)

and_true : (b : Bool) → (b && true) ≡ b
and_true true = refl
and_true false = refl

and_false : (b : Bool) → (b && false) ≡ false
and_false true = refl
and_false false = refl

-- that of one of them
side_taken : (b : Bool) (n : ℕ) (table now : Table) → now ≡ (if b then without table (place.Side n) else table)
    → ((a : Cell) → form_at now (place.Cell a) ≡ form_at table (place.Cell a)) × ((k : ℕ) → form_at now (place.Side k) ≡ cond ((k == n) && b) None (form_at table (place.Side k)))
side_taken true n table now e = (
  λ a. ap (λ t. form_at t (place.Cell a)) e,
  λ k. ap (λ t. form_at t (place.Side k)) e ∙ get-remove nat_cmp_total table.sides n k
      ∙ ap (λ c. cond c None (form_at table (place.Side k))) (unsigned_tied k n ∙ sym (and_true (k == n))),
)
side_taken false n table now e = (
  λ a. ap (λ t. form_at t (place.Cell a)) e,
  λ k. ap (λ t. form_at t (place.Side k)) e ∙ ap (λ c. cond c None (form_at table (place.Side k))) (sym (and_false (k == n))),
)

pub one_side_taken : (sides : List SideAreas) (i : ℕ) (d : SideAreas) (cells : List Cell) (before table now : Table) → i < length sides → AreSidesTaken (take i sides) cells before table
    → now ≡ (if have_one (get_or sides i d).areas.items cells then without table (place.Side (get_or sides i d).number) else table) → AreSidesTaken (take (i + 1) sides) cells before now
one_side_taken sides i d cells before table now inside taken e =
    let s : SideAreas = get_or sides i d in
    let gone = side_taken (have_one s.areas.items cells) s.number table now e in (
      λ a. gone.0 a ∙ taken.0 a,
      λ k. gone.1 k
          ∙ fewer ((k == s.number) && have_one s.areas.items cells) (is_side_to (take i sides) cells k) (form_at before (place.Side k)) (form_at table (place.Side k)) (taken.1 k)
          ∙ ap (λ b. if b then None else form_at before (place.Side k)) (sym (list_any_more (λ (s : SideAreas). (k == s.number) && have_one s.areas.items cells) sides i d inside)),
    )

-- ---- they are those of the touched places
any_of : {A B : Type 0} (f : A → B) (p : B → Bool) (xs : List A) → list_any (λ x. p (f x)) xs ≡ list_any p (map f xs)
any_of f p [] = refl
any_of f p (x ∷ xs) = ap (λ b. p (f x) || b) (any_of f p xs)

among : (cells : List Cell) (i : ℕ) (c : Cell) → slice_get cells i ≡ Some c → has_cell cells c ≡ true
among cells i c at = passes_one (eq_by_cmp cell_cmp c) cells i c at ((eq_by_cmp_equiv cells_total).refl c)

module _ (book : Book) (to : Cell) (cells : List Cell) (affected : AreAffected book to (has_cell cells)) (sides : Sides) where
  cell_touched : (a : Cell) → touches book (tree_of sides) to (place.Cell a) ≡ has_cell cells a
  cell_touched a =
      let is = touches_what_is_touched book (tree_of sides) to (place.Cell a) in
      alike (touches book (tree_of sides) to (place.Cell a)) (has_cell cells a) (λ h. (affected a).1 (is.0 h)) (λ h. is.1 ((affected a).0 h))

  -- ---- sides
  abbrev is_to : ℕ → ℕ × List Area → Bool
  is_to k s = (k == s.0) && have_one s.1 cells

  -- an expression refers to one of the cells where an edit touches it
  tree_to : (t : Tree) → have_one (references_of t) cells ≡ true → RefersToTouched book to (Some t)
  tree_to t h =
      let c = one_passes (λ b. refers (Some (Formula t)) b) cells h in
      (c.1, c.3, (affected c.1).0 (among cells c.0 c.1 c.2))

  to_tree : (t : Tree) → RefersToTouched book to (Some t) → have_one (references_of t) cells ≡ true
  to_tree t w =
      let c = one_passes (eq_by_cmp cell_cmp w.0) cells ((affected w.0).1 w.2) in
      passes_one (λ b. refers (Some (Formula t)) b) cells c.0 c.1 c.2 (ap (λ b. refers (Some (Formula t)) b) (sym (exact_cells w.0 c.1 (equal_of (cell_cmp w.0 c.1) c.3))) ∙ w.1)

  -- what touches a side touches an expression
  has_tree : (o : Option Tree) → RefersToTouched book to o → (t : Tree) × (o ≡ Some t) × RefersToTouched book to (Some t)
  has_tree None w = absurd w
  has_tree (Some t) w = (t, refl, w)

  module _ (own : HaveOwnNumbers sides) (k : ℕ) where
    -- the side of this number is one that refers to the cells
    side_to : RefersToTouched book to (tree_of sides k) → list_any (λ (s : ℕ × Tree). is_to k (of_side s)) sides ≡ true
    side_to w =
        let t = has_tree (tree_of sides k) w in
        let s = side_found book [] sides k (ap (λ (o : Option Tree). is_some o) t.1) in
        let same : t.0 ≡ s.1.1 = the_same t.0 s.1.1 (sym t.1 ∙ ap (tree_of sides) (sym s.3) ∙ tree_found book [] sides s.0 s.1.0 s.1.1 own s.2) in
        passes_one (λ (s : ℕ × Tree). is_to k (of_side s)) sides s.0 s.1 s.2
        (both (k == s.1.0) (have_one (references_of s.1.1) cells) (eq-eqb k s.1.0 (sym s.3)) (to_tree s.1.1 (subst (λ u. RefersToTouched book to (Some u)) same t.2)))

    from_side : list_any (λ (s : ℕ × Tree). is_to k (of_side s)) sides ≡ true → RefersToTouched book to (tree_of sides k)
    from_side h =
        let s = one_passes (λ (s : ℕ × Tree). is_to k (of_side s)) sides h in
        let number : s.1.0 ≡ k = sym (eqb-true k s.1.0 (first_true (k == s.1.0) (have_one (references_of s.1.1) cells) s.3)) in
        let tree : tree_of sides k ≡ Some s.1.1 = ap (tree_of sides) (sym number) ∙ tree_found book [] sides s.0 s.1.0 s.1.1 own s.2 in
        subst (RefersToTouched book to) (sym tree) (tree_to s.1.1 (second_true (k == s.1.0) (have_one (references_of s.1.1) cells) s.3))

    side_touched : (areas : List SideAreas) → AreAreasOf areas sides → touches book (tree_of sides) to (place.Side k) ≡ is_side_to areas cells k
    side_touched areas are =
        let is = touches_what_is_touched book (tree_of sides) to (place.Side k) in
        alike (touches book (tree_of sides) to (place.Side k)) (list_any (λ (s : ℕ × Tree). is_to k (of_side s)) sides) (λ h. side_to (is.0 h)) (λ h. is.1 (from_side h))
        ∙ any_of of_side (is_to k) sides ∙ ap (list_any (is_to k)) (sym are) ∙ sym (any_of of_areas (is_to k) areas)

  pub touched_are_taken : (areas : List SideAreas) → HaveOwnNumbers sides → AreAreasOf areas sides → (before between after : Table) → AreTaken cells before between → AreSidesTaken areas cells between after
      → (p : Place) → form_at after p ≡ without_marked (touches book (tree_of sides) to) (form_at before) p
  touched_are_taken areas own are before between after taken sided (place.Cell a) =
      sided.0 a ∙ taken.0 a ∙ ap (λ b. if b then None else form_at before (place.Cell a)) (sym (cell_touched a))
  touched_are_taken areas own are before between after taken sided (place.Side k) =
      sided.1 k ∙ ap (λ o. if is_side_to areas cells k then None else o) (taken.1 k)
      ∙ ap (λ b. if b then None else form_at before (place.Side k)) (sym (side_touched own k areas are))
