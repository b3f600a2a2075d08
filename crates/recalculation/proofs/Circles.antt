-- Circular cells.
use Rattle.std.proofs.Common.{◌≡◌, ℕ, suc, Bool, true, false, ◌&&◌, List, [], ◌∷◌, length, refl, sym, ap, ◌∙◌}
use Rattle.std.specs.Prelude.{not, ◌||◌, Option, None, Some, is_some, option_map}
use Rattle.std.specs.List.{list_any}
use Rattle.std.specs.Ordering.{eq_by_cmp, is_eq}
use Rattle.std.specs.declared.cmp.Ordering.{Ordering}
use Rattle.std.specs.declared.cmp.Ordering.TheVariants.{Less, Equal, Greater}
use Rattle.std.specs.FinMap.{get, keys, contains_key, contains_key-keys}
use Rattle.cell_refs.specs.declared.cell.Cell.{Cell}
use Rattle.cell_refs.specs.Cells.{cell_cmp}
use Rattle.cell_refs.proofs.Order.{exact_cells}
use Rattle.recalculation.specs.Entries.{Book, Entry, Constant, Formula, Malformed, entry}
use Rattle.recalculation.specs.Walks.{has_walk, is_formula, refers, steps_to, is_circular}
use Rattle.recalculation.specs.Laws.{WalksGetShorter, FreeRefersToFree, CircularIsEndless}
use Rattle.recalculation.proofs.Lists.{both, first_true, second_true}
use Rattle.recalculation.proofs.Walking.{shorter, endless, shorter_walk}

-- what compares alike is tested alike
is_equal : (r : Ordering) → is_eq r ≡ true → r ≡ Equal
is_equal Less h = cc
is_equal Equal h = refl
is_equal Greater h = cc

-- a cell among others that passes a test: one of them passes it
found_among : (b : Cell) (p : Cell → Bool) (xs : List Cell) → list_any (eq_by_cmp cell_cmp b) xs ≡ true → p b ≡ true → list_any p xs ≡ true
found_among b p [] h k = h
found_among b p (x ∷ xs) h k =
    elim (eq_by_cmp cell_cmp b x) as (λ t. eq_by_cmp cell_cmp b x ≡ t → (t || list_any (eq_by_cmp cell_cmp b) xs) ≡ true → (p x || list_any p xs) ≡ true) [
      | true ↦ λ e h. ap (λ t. t || list_any p xs) (ap p (sym (exact_cells b x (is_equal _ e))) ∙ k)
      | false ↦ λ e h. elim (p x) as (λ t. (t || list_any p xs) ≡ true) [ true ↦ refl | false ↦ found_among b p xs h k ]
    ] refl h

-- a cell with a text is among the cells with a text
pub found_text : (book : Book) (b : Cell) (p : Cell → Bool) → contains_key book.texts b ≡ true → p b ≡ true → list_any p (keys book.texts) ≡ true
found_text book b p h k = found_among b p (keys book.texts) (sym (contains_key-keys book.texts b) ∙ h) k

-- what a cell says is there where its text is
pub entry_there : (book : Book) (b : Cell) → is_some (entry book b) ≡ contains_key book.texts b
entry_there book b = kept (get book.texts b)
  where
    kept : (o : Option (List ℕ)) → is_some (option_map (book.says b) o) ≡ is_some o
    kept None = refl
    kept (Some t) = refl

-- what isn't there refers to nothing
no_text : (e : Option Entry) (b : Cell) → is_some e ≡ false → refers e b ≡ false
no_text None b h = refl
no_text (Some e) b h = cc

-- two tests of which the second fails
pub and_false : (p q : Bool) → q ≡ false → (p && q) ≡ false
and_false true q h = h
and_false false q h = refl

-- no step leads away from a cell without a text
pub no_step : (book : Book) (is_leaf : Cell → Bool) (b d : Cell) → contains_key book.texts b ≡ false → steps_to book is_leaf b d ≡ false
no_step book is_leaf b d h = and_false (not (is_leaf b)) _ (no_text (entry book b) d (entry_there book b ∙ h))

-- a formula is there
formula_some : (e : Option Entry) → is_formula e ≡ true → is_some e ≡ true
formula_some None h = cc
formula_some (Some e) h = refl

-- what refers to a cell is a formula
refers_formula : (e : Option Entry) (b : Cell) → refers e b ≡ true → is_formula e ≡ true
refers_formula None b h = cc
refers_formula (Some (Constant v)) b h = cc
refers_formula (Some (Formula t)) b h = refl
refers_formula (Some Malformed) b h = cc

-- a step makes a walk shorter
pub walks_get_shorter : WalksGetShorter
walks_get_shorter book is_leaf n a b none s i = shorter (keys book.texts) (steps_to book is_leaf) (contains_key book.texts) (found_text book) n a b none s i

-- the text of a formula is there
pub formula_text : (book : Book) (a : Cell) → is_formula (entry book a) ≡ true → contains_key book.texts a ≡ true
formula_text book a h = sym (entry_there book a) ∙ formula_some (entry book a) h

-- at a circular cell walks of every length start
pub circular_is_endless : CircularIsEndless
circular_is_endless book is_leaf a m h =
    endless (keys book.texts) (steps_to book is_leaf) (contains_key book.texts) (found_text book) a (formula_text book a (first_true _ _ h))
    (second_true (not (is_leaf a)) _ (second_true (is_formula (entry book a)) _ h)) m

-- a formula cell that isn't circular refers to none that is
pub free_refers_to_free : FreeRefersToFree
free_refers_to_free book is_leaf a b free s =
    elim (is_circular book is_leaf b) as (λ w. is_circular book is_leaf b ≡ w → w ≡ false) [
      | true ↦ λ h.
          let n : ℕ = length (keys book.texts) in
          let walk : has_walk (keys book.texts) (steps_to book is_leaf) (suc n) a ≡ true =
          found_text book b (λ x. steps_to book is_leaf a x && has_walk (keys book.texts) (steps_to book is_leaf) n x) (formula_text book b (first_true _ _ h))
          (both (steps_to book is_leaf a b) _ s (circular_is_endless book is_leaf b n h)) in
          let same : has_walk (keys book.texts) (steps_to book is_leaf) n a ≡ true = shorter_walk (keys book.texts) (steps_to book is_leaf) n a walk in
          let circular : is_circular book is_leaf a ≡ true = both _ _ (refers_formula (entry book a) b (second_true (not (is_leaf a)) _ s)) (both _ _ (first_true (not (is_leaf a)) _ s) same) in
          cc (circular, free)
      | false ↦ λ h. refl
    ] refl
