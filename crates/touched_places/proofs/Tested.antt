-- The test passes exactly the touched places.
use Rattle.std.specs.Prelude.{◌↔◌}
use Rattle.std.proofs.Common.{◌≡◌, ◌⊎◌, inl, inr, refl, sym, ap, ◌∙◌, subst, Bool, true, false, ◌&&◌, List, [], ◌∷◌, Option, Some, None}
use Rattle.std.specs.Prelude.{◌||◌}
use Rattle.std.specs.List.{list_any}
use Rattle.std.specs.Ordering.{eq_by_cmp, is_eq}
use Rattle.std.specs.FinMap.{keys, contains_key-keys}
use Rattle.std.specs.declared.cmp.Ordering.{Ordering}
use Rattle.std.specs.declared.cmp.Ordering.TheVariants.{Less, Equal, Greater}
use Rattle.cell_refs.specs.Cells.{cell_cmp, is_same_cell}
use Rattle.cell_refs.specs.declared.cell.Cell.{Cell}
use Rattle.cell_refs.proofs.SameCells.{same_cells, same_itself}
use Rattle.cell_refs.proofs.Order.{exact_cells}
use Rattle.formula_ast.specs.Tree.{Tree}
use Rattle.column_strips.specs.Affected.{by_one, by_more}
use Rattle.recalculation.specs.Entries.{Book, Entry, Formula, entry}
use Rattle.recalculation.specs.Walks.{refers}
use Rattle.recalculation.proofs.Lists.{both, first_true, second_true, either_first, either_second}
use Rattle.recalculation.proofs.Circles.{found_text}
use Rattle.recalculation.proofs.Reached.{passes}
use Rattle.cell_refs.specs.declared.place.Place.TheVariants as place
use Rattle.touched_places.specs.Touched.{Reaches, IsAtOrReaches, RefersToTouched}
use Rattle.touched_places.specs.Tests.{leads_by, is_at_or_leads, side_leads, touches}
use Rattle.touched_places.specs.Laws.{TouchesWhatIsTouched}
use Rattle.touched_places.proofs.Reached.{step_text}

-- one of two tests passes
either : (p q : Bool) → (p || q) ≡ true → (p ≡ true) ⊎ (q ≡ true)
either true q h = inl refl
either false q h = inr h

is_equal : (r : Ordering) → is_eq r ≡ true → r ≡ Equal
is_equal Less h = cc
is_equal Equal h = refl
is_equal Greater h = cc

-- ---- cells

-- ---- what leads somewhere
module _ (said : Cell → Option Entry) where
  -- a reference alone leads there
  one_step : (cells : List Cell) (c d : Cell) → refers (said c) d ≡ true → leads_by said cells c d ≡ true
  one_step [] c d r = r
  one_step (m ∷ cells) c d r = either_first _ _ (one_step cells c d r)

  -- by way of the first cell, or of the others
  by_first : (x : Cell) (cells : List Cell) (c d : Cell) → leads_by said cells c x ≡ true → leads_by said cells x d ≡ true → leads_by said (x ∷ cells) c d ≡ true
  by_first x cells c d a b = either_second _ _ (both _ _ a b)

  -- what leads to the first cell by way of it does so without
  to_first : (x : Cell) (cells : List Cell) (c : Cell) → leads_by said (x ∷ cells) c x ≡ true → leads_by said cells c x ≡ true
  to_first x cells c h = elim (either (leads_by said cells c x) _ h) as (λ _. leads_by said cells c x ≡ true) [ inl a ↦ a | inr b ↦ first_true (leads_by said cells c x) _ b ]

  from_first : (x : Cell) (cells : List Cell) (d : Cell) → leads_by said (x ∷ cells) x d ≡ true → leads_by said cells x d ≡ true
  from_first x cells d h = elim (either (leads_by said cells x d) _ h) as (λ _. leads_by said cells x d ≡ true) [ inl a ↦ a | inr b ↦ second_true (leads_by said cells x x) _ b ]

  -- what leads to one of the cells, and from there onward, leads on
  joined : (cells : List Cell) (c m d : Cell) → list_any (eq_by_cmp cell_cmp m) cells ≡ true → leads_by said cells c m ≡ true → leads_by said cells m d ≡ true → leads_by said cells c d ≡ true
  joined [] c m d i a b = cc
  joined (x ∷ cells) c m d i a b =
      let G : Type 0 = leads_by said (x ∷ cells) c d ≡ true in
      elim (either (eq_by_cmp cell_cmp m x) _ i) as (λ _. G) [
        | inl e ↦
            let q : m ≡ x = exact_cells m x (is_equal _ e) in
            by_first x cells c d (to_first x cells c (subst (λ y. leads_by said (x ∷ cells) c y ≡ true) q a)) (from_first x cells d (subst (λ y. leads_by said (x ∷ cells) y d ≡ true) q b))
        | inr i ↦
            elim (either (leads_by said cells c m) _ a) as (λ _. G) [
              | inl a ↦
                  elim (either (leads_by said cells m d) _ b) as (λ _. G) [
                    | inl b ↦ either_first _ _ (joined cells c m d i a b)
                    | inr b ↦ by_first x cells c d (joined cells c m x i a (first_true (leads_by said cells m x) _ b)) (second_true (leads_by said cells m x) _ b)
                  ]
              | inr a ↦
                  elim (either (leads_by said cells m d) _ b) as (λ _. G) [
                    | inl b ↦ by_first x cells c d (first_true (leads_by said cells c x) _ a) (joined cells x m d i (second_true (leads_by said cells c x) _ a) b)
                    | inr b ↦ by_first x cells c d (first_true (leads_by said cells c x) _ a) (second_true (leads_by said cells m x) _ b)
                  ]
            ]
      ]

-- ---- in a workbook
module _ (book : Book) where
  -- what reaches a cell that reaches another reaches that
  onward : (m d c : Cell) → Reaches book m c → Reaches book d m → Reaches book d c
  onward m d _ (by_one c r) w = by_more c m r w
  onward m d _ (by_more c b r v) w = by_more c b r (onward m d b v w)

  leads_reaches : (cells : List Cell) (c d : Cell) → leads_by (entry book) cells c d ≡ true → Reaches book d c
  leads_reaches [] c d h = by_one c h
  leads_reaches (m ∷ cells) c d h =
      elim (either (leads_by (entry book) cells c d) _ h) as (λ _. Reaches book d c) [
        | inl a ↦ leads_reaches cells c d a
        | inr b ↦ onward m d c (leads_reaches cells c m (first_true (leads_by (entry book) cells c m) _ b)) (leads_reaches cells m d (second_true (leads_by (entry book) cells c m) _ b))
      ]

  -- a cell that reaches another has a text
  reaches_text : (to c : Cell) → Reaches book to c → list_any (eq_by_cmp cell_cmp c) (keys book.texts) ≡ true
  reaches_text to _ (by_one c r) = sym (contains_key-keys book.texts c) ∙ step_text book (λ _. false) c to r
  reaches_text to _ (by_more c d r w) = sym (contains_key-keys book.texts c) ∙ step_text book (λ _. false) c d r

  reaches_leads : (to c : Cell) → Reaches book to c → leads_by (entry book) (keys book.texts) c to ≡ true
  reaches_leads to _ (by_one c r) = one_step (entry book) (keys book.texts) c to r
  reaches_leads to _ (by_more c d r w) =
      joined (entry book) (keys book.texts) c d to (reaches_text to d w) (one_step (entry book) (keys book.texts) c d r) (reaches_leads to d w)

  -- what leads to a cell is what reaches it
  pub at_or_leads : (to c : Cell) → is_at_or_leads (entry book) (keys book.texts) to c ≡ true ↔ IsAtOrReaches book to c
  at_or_leads to c = (
    λ h. elim (either (is_same_cell c to) _ h) as (λ _. IsAtOrReaches book to c) [ inl e ↦ inl (same_cells c to e) | inr w ↦ inr (leads_reaches (keys book.texts) c to w) ],
    λ w. elim w as (λ _. is_at_or_leads (entry book) (keys book.texts) to c ≡ true) [
      | inl e ↦ either_first _ _ (ap (is_same_cell c) (sym e) ∙ same_itself c)
      | inr w ↦ either_second _ _ (reaches_leads to c w)
    ],
  )

  -- ---- sides
  side_touched : (to : Cell) (o : Option Tree) → side_leads (entry book) (keys book.texts) to o ≡ true → RefersToTouched book to o
  side_touched to None h = absurd cc
  side_touched to (Some t) h =
      elim (either (refers (Some (Formula t)) to) _ h) as (λ _. RefersToTouched book to (Some t)) [
        | inl r ↦ (to, r, inl refl)
        | inr w ↦
            let c = passes (λ c. refers (Some (Formula t)) c && leads_by (entry book) (keys book.texts) c to) (keys book.texts) w in
            (c.0, first_true (refers (Some (Formula t)) c.0) _ c.1, inr (leads_reaches (keys book.texts) c.0 to (second_true (refers (Some (Formula t)) c.0) _ c.1)))
      ]

  touched_side : (to : Cell) (o : Option Tree) → RefersToTouched book to o → side_leads (entry book) (keys book.texts) to o ≡ true
  touched_side to None w = absurd w
  touched_side to (Some t) w =
      elim w.2 as (λ _. side_leads (entry book) (keys book.texts) to (Some t) ≡ true) [
        | inl e ↦ either_first _ _ (ap (refers (Some (Formula t))) (sym e) ∙ w.1)
        | inr v ↦
            either_second _ _
            (found_text book w.0 (λ c. refers (Some (Formula t)) c && leads_by (entry book) (keys book.texts) c to) (contains_key-keys book.texts w.0 ∙ reaches_text to w.0 v)
            (both (refers (Some (Formula t)) w.0) _ w.1 (reaches_leads to w.0 v)))
      ]

pub touches_what_is_touched : TouchesWhatIsTouched
unfolding touches
touches_what_is_touched book sides to (place.Cell c) = at_or_leads book to c
touches_what_is_touched book sides to (place.Side k) = (side_touched book to (sides k), touched_side book to (sides k))
