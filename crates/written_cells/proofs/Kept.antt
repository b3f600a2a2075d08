-- Circular cells of two workbooks with the same steps.
use Rattle.std.proofs.Common.{◌≡◌, ℕ, zero, suc, Bool, true, false, ◌&&◌, List, [], ◌∷◌, length, refl, sym, ◌∙◌}
use Rattle.std.specs.Prelude.{not, ◌||◌, Option, Some, None}
use Rattle.std.specs.List.{list_any}
use Rattle.std.specs.FinMap.{keys}
use Rattle.cell_refs.specs.declared.cell.Cell.{Cell}
use Rattle.recalculation.specs.Entries.{Book, Entry, Constant, Formula, Malformed, entry}
use Rattle.recalculation.specs.Walks.{has_walk, is_formula, refers, steps_to, is_circular}
use Rattle.recalculation.proofs.Lists.{both, first_true, second_true}
use Rattle.recalculation.proofs.Circles.{found_text, formula_text, circular_is_endless}

-- an element that passes, in a list of which one does
passing : (p : Cell → Bool) (xs : List Cell) → list_any p xs ≡ true → (b : Cell) × (p b ≡ true)
passing p [] h = cc
passing p (x ∷ xs) h =
    elim (p x) as (λ w. p x ≡ w → (w || list_any p xs) ≡ true → (b : Cell) × (p b ≡ true)) [ true ↦ λ e _. (x, e) | false ↦ λ e h. passing p xs h ] refl h

-- what refers to a cell is a formula
is_referring : (e : Option Entry) (b : Cell) → refers e b ≡ true → is_formula e ≡ true
is_referring None b h = cc
is_referring (Some (Constant v)) b h = cc
is_referring (Some (Formula t)) b h = refl
is_referring (Some Malformed) b h = cc

module _ (book other : Book) (is_leaf is_end : Cell → Bool) (kept : (a b : Cell) → steps_to book is_leaf a b ≡ true → steps_to other is_end a b ≡ true) where
  -- the first step of a walk
  first_step : (n : ℕ) (a : Cell) → has_walk (keys book.texts) (steps_to book is_leaf) (suc n) a ≡ true
      → (b : Cell) × ((steps_to book is_leaf a b && has_walk (keys book.texts) (steps_to book is_leaf) n b) ≡ true)
  first_step n a w = passing (λ b. steps_to book is_leaf a b && has_walk (keys book.texts) (steps_to book is_leaf) n b) (keys book.texts) w

  -- a walk in one workbook, without its last step, is one in the other, since a cell from which a step leads is a formula there too
  walks_kept : (n : ℕ) (a : Cell) → has_walk (keys book.texts) (steps_to book is_leaf) (suc n) a ≡ true → has_walk (keys other.texts) (steps_to other is_end) n a ≡ true
  walks_kept zero a w = refl
  walks_kept (suc n) a w =
      let b = first_step (suc n) a w in
      let further = second_true (steps_to book is_leaf a b.0) _ b.1 in
      let c = first_step n b.0 further in
      let next = kept b.0 c.0 (first_true (steps_to book is_leaf b.0 c.0) _ c.1) in
      found_text other b.0 (λ b. steps_to other is_end a b && has_walk (keys other.texts) (steps_to other is_end) n b)
      (formula_text other b.0 (is_referring (entry other b.0) c.0 (second_true (not (is_end b.0)) _ next)))
      (both (steps_to other is_end a b.0) _ (kept a b.0 (first_true (steps_to book is_leaf a b.0) _ b.1)) (walks_kept n b.0 further))

  -- so a circular cell of one is one of the other
  circular_kept : (a : Cell) → is_circular book is_leaf a ≡ true → is_circular other is_end a ≡ true
  circular_kept a h =
      let n : ℕ = length (keys other.texts) in
      let walk = circular_is_endless book is_leaf a (suc n) h in
      let b = first_step n a walk in
      let step = kept a b.0 (first_true (steps_to book is_leaf a b.0) _ b.1) in
      both (is_formula (entry other a)) _ (is_referring (entry other a) b.0 (second_true (not (is_end a)) _ step))
      (both (not (is_end a)) _ (first_true (not (is_end a)) _ step) (walks_kept n a walk))

-- two tests of which each passes where the other does
same_tests : (p q : Bool) → (p ≡ true → q ≡ true) → (q ≡ true → p ≡ true) → p ≡ q
same_tests true q f g = sym (f refl)
same_tests false true f g = g refl
same_tests false false f g = refl

-- where the steps are the same, so are the circular cells
pub same_circular : (book other : Book) (is_leaf is_end : Cell → Bool) → ((a b : Cell) → steps_to book is_leaf a b ≡ steps_to other is_end a b)
    → (a : Cell) → is_circular book is_leaf a ≡ is_circular other is_end a
same_circular book other is_leaf is_end same a =
    same_tests (is_circular book is_leaf a) (is_circular other is_end a) (circular_kept book other is_leaf is_end (λ a b h. sym (same a b) ∙ h) a)
    (circular_kept other book is_end is_leaf (λ a b h. same a b ∙ h) a)

-- a formula that refers to a circular cell of one workbook refers to one of the other, where its circular cells are circular there too
circle_kept : (book other : Book) (is_leaf is_end : Cell → Bool) → ((a : Cell) → is_circular book is_leaf a ≡ true → is_circular other is_end a ≡ true) → (e : Option Entry)
    → list_any (λ b. refers e b && is_circular book is_leaf b) (keys book.texts) ≡ true → list_any (λ b. refers e b && is_circular other is_end b) (keys other.texts) ≡ true
circle_kept book other is_leaf is_end kept e h =
    let b = passing (λ b. refers e b && is_circular book is_leaf b) (keys book.texts) h in
    let circular = kept b.0 (second_true (refers e b.0) _ b.1) in
    found_text other b.0 (λ b. refers e b && is_circular other is_end b) (formula_text other b.0 (first_true (is_formula (entry other b.0)) _ circular))
    (both (refers e b.0) _ (first_true (refers e b.0) _ b.1) circular)

-- where the circular cells are the same, a formula refers to one in both or in neither
pub same_circle : (book other : Book) (is_leaf is_end : Cell → Bool) → ((a : Cell) → is_circular book is_leaf a ≡ is_circular other is_end a) → (e : Option Entry)
    → list_any (λ b. refers e b && is_circular book is_leaf b) (keys book.texts) ≡ list_any (λ b. refers e b && is_circular other is_end b) (keys other.texts)
same_circle book other is_leaf is_end same e =
    same_tests (list_any (λ b. refers e b && is_circular book is_leaf b) (keys book.texts)) (list_any (λ b. refers e b && is_circular other is_end b) (keys other.texts))
    (circle_kept book other is_leaf is_end (λ a h. sym (same a) ∙ h) e) (circle_kept other book is_end is_leaf (λ a h. same a ∙ h) e)
