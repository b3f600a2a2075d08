-- After a tour, the circular formulas are those at which a walk of as many steps as there are texts starts.
use Rattle.std.proofs.Common.{◌≡◌, ℕ, zero, suc, ◌+◌, ◌-◌, ◌<◌, ◌≤◌, Bool, true, false, ◌&&◌, List, length, get_or, refl, replicate, sym, ap, ◌∙◌, arith, ◌⊎◌, inl, inr}
use Rattle.std.specs.Prelude.{not, Option, None, Some, option_map, slice_get}
use Rattle.std.specs.List.{list_any}
use Rattle.std.specs.FinMap.{keys, contains_key}
use Rattle.std.proofs.lemmas.List.{get_or-replicate}
use Rattle.std.proofs.lemmas.Option.{slice_get_within}
use Rattle.cell_refs.specs.declared.cell.Cell.{Cell}
use Rattle.cell_refs.specs.Areas.{within}
use Rattle.recalculation.specs.Entries.{Book, Entry, Constant, Formula as FormulaEntry, Malformed, entry}
use Rattle.recalculation.specs.Walks.{has_walk, is_formula, refers, steps_to, is_circular}
use Rattle.recalculation.proofs.Circles.{and_false, circular_is_endless, formula_text, found_text}
use Rattle.recalculation.proofs.Lists.{both, first_true, second_true}
use Rattle.recalculation.proofs.Walking.{no_longer, none_any}
use Rattle.column_strips.specs.declared.formulas.Formula.{Formula}
use Rattle.dep_table.specs.declared.tour.Mark.{Mark}
use Rattle.dep_table.specs.declared.tour.Mark.TheVariants.{Circular}
use Rattle.dep_table.specs.Edges.{edge, refers_to}
use Rattle.dep_table.specs.Formulas.{IsWanted}
use Rattle.dep_table.specs.Order.{HasCircular, HasFree, IsOrder, Reaches, further, itself}
use Rattle.dep_table.specs.Spreading.{IsClosed}
use Rattle.dep_table.specs.Tour.{mark_at, IsToured}
use Rattle.dep_table.proofs.SlotLaws.{edge_target}
use Rattle.dep_table.proofs.Tables.{AreFlags, IsTableOf}

formula_or_not : (e : Option Entry) → (is_formula e ≡ true) ⊎ ((b : Cell) → refers e b ≡ false)
formula_or_not None = inr (λ b. refl)
formula_or_not (Some (Constant x)) = inr (λ b. refl)
formula_or_not (Some (FormulaEntry t)) = inl refl
formula_or_not (Some Malformed) = inr (λ b. refl)

-- where there is no walk there is no longer one
none_added : (book : Book) (is_leaf : Cell → Bool) (k j : ℕ) (a : Cell) → has_walk (keys book.texts) (steps_to book is_leaf) k a ≡ false
    → has_walk (keys book.texts) (steps_to book is_leaf) (j + k) a ≡ false
none_added book is_leaf k zero a none = let e : zero + k ≡ k = omega arith in ap (λ m. has_walk (keys book.texts) (steps_to book is_leaf) m a) e ∙ none
none_added book is_leaf k (suc j) a none =
    let e : suc j + k ≡ suc (j + k) = omega arith in
    ap (λ m. has_walk (keys book.texts) (steps_to book is_leaf) m a) e
    ∙ no_longer (keys book.texts) (steps_to book is_leaf) (j + k) a (none_added book is_leaf k j a none)

longer_none : (book : Book) (is_leaf : Cell → Bool) (k n : ℕ) (a : Cell) → has_walk (keys book.texts) (steps_to book is_leaf) k a ≡ false → k ≤ n
    → has_walk (keys book.texts) (steps_to book is_leaf) n a ≡ false
longer_none book is_leaf k n a none h =
    let e : n ≡ (n - k) + k = omega arith in
    ap (λ m. has_walk (keys book.texts) (steps_to book is_leaf) m a) e ∙ none_added book is_leaf k (n - k) a none

module _ (formulas : List Formula) (book : Book) (is_leaf : Cell → Bool) (flags : List Bool) (r : IsTableOf formulas book) (leaves : AreFlags formulas is_leaf flags) where
  pub edge_steps : (i j : ℕ) (f g : Formula) → slice_get formulas i ≡ Some f → slice_get formulas j ≡ Some g → edge formulas flags i j ≡ steps_to book is_leaf f.cell g.cell
  unfolding edge
  edge_steps i j f g x y =
      let formula = r.formula i f x in
      ap (λ l. not l && refers_to (slice_get formulas i) (slice_get formulas j)) (leaves i f x)
      ∙ ap (λ o. not (is_leaf f.cell) && refers_to o (slice_get formulas j)) x
      ∙ ap (λ o. not (is_leaf f.cell) && refers_to (Some f) o) y
      ∙ ap (λ areas. not (is_leaf f.cell) && list_any (λ area. within area g.cell) areas) (sym formula.2)
      ∙ ap (λ e. not (is_leaf f.cell) && refers e g.cell) (sym formula.1)

  text_there : (j : ℕ) (g : Formula) → slice_get formulas j ≡ Some g → contains_key book.texts g.cell ≡ true
  text_there j g y = formula_text book g.cell (ap is_formula (r.formula j g y).1)

  module _ (n : ℕ) (wanted : List Bool) (marks : List Mark) (order : List ℕ) (t : IsToured (edge formulas flags) n wanted marks order) where
    -- a walk of any length starts at one that is circular
    circular_walks : (k i : ℕ) (f : Formula) → slice_get formulas i ≡ Some f → mark_at marks i ≡ Circular → has_walk (keys book.texts) (steps_to book is_leaf) k f.cell ≡ true
    circular_walks zero i f x m = refl
    circular_walks (suc k) i f x m =
        let next = t.circular i m in
        let g = edge_target formulas flags i next.0 next.1 in
        let s : steps_to book is_leaf f.cell g.0.cell ≡ true = sym (edge_steps i next.0 f g.0 x g.1) ∙ next.1 in
        found_text book g.0.cell (λ y. steps_to book is_leaf f.cell y && has_walk (keys book.texts) (steps_to book is_leaf) k y) (text_there next.0 g.0 g.1)
        (both (steps_to book is_leaf f.cell g.0.cell) _ s (circular_walks k next.0 g.0 g.1 next.2))

    -- at the one at place p of the order no walk of p + 2 steps starts
    done_walks : (m p : ℕ) (f : Formula) → p < m → p < length order → slice_get formulas (get_or order p 0) ≡ Some f
        → has_walk (keys book.texts) (steps_to book is_leaf) (suc (suc p)) f.cell ≡ false
    done_walks zero p f h l x = absurd (omega arith)
    done_walks (suc m) p f h l x =
        none_any (λ b. steps_to book is_leaf f.cell b && has_walk (keys book.texts) (steps_to book is_leaf) (suc p) b) (λ b.
        elim (steps_to book is_leaf f.cell b) as (λ s. steps_to book is_leaf f.cell b ≡ s → (s && has_walk (keys book.texts) (steps_to book is_leaf) (suc p) b) ≡ false) [
          | true ↦ λ s. elim (formula_or_not (entry book b)) as (λ _. has_walk (keys book.texts) (steps_to book is_leaf) (suc p) b ≡ false) [
            | inl w ↦
                let j = r.found b w in
                let before = (t.ordered p l).1 j.0 (edge_steps (get_or order p 0) j.0 f j.1 x j.2 ∙ ap (steps_to book is_leaf f.cell) j.3 ∙ s) in
                longer_none book is_leaf (suc (suc before.0)) (suc p) b
                (ap (has_walk (keys book.texts) (steps_to book is_leaf) (suc (suc before.0))) (sym j.3)
                ∙ done_walks m before.0 j.1 (omega (arith, before.1)) (omega (arith, before.1, l)) (ap (slice_get formulas) before.2 ∙ j.2)) (omega (arith, before.1))
            | inr none ↦ none_any (λ y. steps_to book is_leaf b y && has_walk (keys book.texts) (steps_to book is_leaf) p y) (λ y.
                let e : steps_to book is_leaf b y ≡ false = and_false (not (is_leaf b)) _ (none y) in
                ap (λ s. s && has_walk (keys book.texts) (steps_to book is_leaf) p y) e) (keys book.texts)
          ]
          | false ↦ λ s. refl
        ] refl) (keys book.texts)

    marked_circular : (i : ℕ) (f : Formula) → slice_get formulas i ≡ Some f → mark_at marks i ≡ Circular → is_circular book is_leaf f.cell ≡ true
    unfolding edge
    marked_circular i f x m =
        let formula = r.formula i f x in
        let next = t.circular i m in
        let free : not (is_leaf f.cell) ≡ true = sym (ap not (leaves i f x)) ∙ first_true (not (get_or flags i false)) _ next.1 in
        both _ _ (ap is_formula formula.1) (both _ _ free (circular_walks (length (keys book.texts)) i f x m))

    -- what is in the order isn't circular
    ordered_free : (p : ℕ) (f : Formula) → p < length order → slice_get formulas (get_or order p 0) ≡ Some f → is_circular book is_leaf f.cell ≡ false
    ordered_free p f l x =
        elim (is_circular book is_leaf f.cell) as (λ w. is_circular book is_leaf f.cell ≡ w → w ≡ false) [
          | true ↦ λ h.
              let none = done_walks (suc p) p f (omega arith) l x in
              let walks = circular_is_endless book is_leaf f.cell (suc (suc p)) h in
              cc (none, walks)
          | false ↦ λ h. refl
        ] refl

    circular_marked : (i : ℕ) (f : Formula) → i < n → slice_get formulas i ≡ Some f → get_or wanted i false ≡ true → is_circular book is_leaf f.cell ≡ true → mark_at marks i ≡ Circular
    circular_marked i f l x w h =
        elim (t.settled i l w) as (λ _. mark_at marks i ≡ Circular) [
          | inl done_now ↦
              let at = t.done i done_now in
              let free = ordered_free at.0 f at.1 (ap (slice_get formulas) at.2 ∙ x) in
              cc (free, h)
          | inr m ↦ m
        ]

-- a set of the cells of the circular formulas has the circular cells that are wanted
pub has_circular : (formulas : List Formula) (flags wanted : List Bool) (marks : List Mark) (order : List ℕ) (is_leaf has : Cell → Bool)
    → AreFlags formulas is_leaf flags → IsToured (edge formulas flags) (length formulas) wanted marks order
    → ((a : Cell) → has a ≡ true → (i : ℕ) × (f : Formula) × (slice_get formulas i ≡ Some f) × (f.cell ≡ a) × (mark_at marks i ≡ Circular))
    → ((i : ℕ) (f : Formula) → slice_get formulas i ≡ Some f → mark_at marks i ≡ Circular → has f.cell ≡ true)
    → (book : Book) → IsTableOf formulas book → HasCircular book is_leaf (IsWanted formulas wanted) has
has_circular formulas flags wanted marks order is_leaf has leaves t sound complete book r = record {
  circular = λ a h. let at = sound a h in ap (is_circular book is_leaf) (sym at.3) ∙ marked_circular formulas book is_leaf flags r leaves (length formulas) wanted marks order t at.0 at.1 at.2 at.4;
  all = λ a at h.
      let circular : is_circular book is_leaf at.1.cell ≡ true = ap (is_circular book is_leaf) at.3 ∙ h in
      ap has (sym at.3) ∙ complete at.0 at.1 at.2
      (circular_marked formulas book is_leaf flags r leaves (length formulas) wanted marks order t at.0 at.1 (slice_get_within formulas at.0 at.1 at.2) at.2 at.4 circular);
}

cell_there : (o : Option Formula) (a : Cell) → option_map (λ (f : Formula). f.cell) o ≡ Some a → (f : Formula) × (o ≡ Some f) × (f.cell ≡ a)
cell_there None a h = cc
cell_there (Some f) a h = (f, refl, cc)

module _ (formulas : List Formula) (flags wanted : List Bool) (marks : List Mark) (order : List ℕ) (cells : List Cell) (is_leaf : Cell → Bool)
    (leaves : AreFlags formulas is_leaf flags) (t : IsToured (edge formulas flags) (length formulas) wanted marks order) (same : length cells ≡ length order)
    (at : (p : ℕ) → p < length order → slice_get cells p ≡ option_map (λ (f : Formula). f.cell) (slice_get formulas (get_or order p 0)))
    (book : Book) (r : IsTableOf formulas book) where
  place : (p : ℕ) (a : Cell) → slice_get cells p ≡ Some a → (p < length order) × (f : Formula) × (slice_get formulas (get_or order p 0) ≡ Some f) × (f.cell ≡ a)
  place p a x = let l : p < length order = omega (arith, slice_get_within cells p a x, same) in let f = cell_there _ a (sym (at p l) ∙ x) in (l, f.0, f.1, f.2)

  stands : (p i : ℕ) (f : Formula) → p < length order → get_or order p 0 ≡ i → slice_get formulas i ≡ Some f → slice_get cells p ≡ Some f.cell
  stands p i f l e x = at p l ∙ ap (λ j. option_map (λ (f : Formula). f.cell) (slice_get formulas j)) e ∙ ap (option_map (λ (f : Formula). f.cell)) x

  -- the cells at the places of the order
  pub cells_ordered : IsOrder book is_leaf cells
  cells_ordered = record {
    formula = λ p a x. let y = place p a x in ap (λ b. is_formula (entry book b)) (sym y.3) ∙ ap is_formula (r.formula _ y.1 y.2).1;
    free = λ p a x. let y = place p a x in ap (is_circular book is_leaf) (sym y.3) ∙ ordered_free formulas book is_leaf flags r leaves (length formulas) wanted marks order t p y.1 y.0 y.2;
    earlier = λ p a b x s g.
        let y = place p a x in
        let j = r.found b g in
        let step : steps_to book is_leaf y.1.cell j.1.cell ≡ true = (λ i. steps_to book is_leaf (y.3 i) (j.3 i)) ∙ s in
        let before = (t.ordered p y.0).1 j.0 (edge_steps formulas book is_leaf flags r leaves (get_or order p 0) j.0 y.1 j.1 y.2 j.2 ∙ step) in
        (before.0, before.1, stands before.0 j.0 j.1 (omega (arith, before.1, y.0)) before.2 j.2 ∙ ap Some j.3);
    once = λ p q a x y.
        let f = place p a x in
        let g = place q a y in
        t.once p q f.0 g.0 (r.one _ _ f.1 g.1 f.2 g.2 (f.3 ∙ sym g.3));
  }

  -- each that is wanted and free is among them
  pub has_free : HasFree book is_leaf (IsWanted formulas wanted) cells
  has_free a i g free =
      elim (t.settled i.0 (slice_get_within formulas i.0 i.1 i.2) i.4) as (λ _. (p : ℕ) × (slice_get cells p ≡ Some a)) [
        | inl done_now ↦ let p = t.done i.0 done_now in (p.0, stands p.0 i.0 i.1 p.1 p.2 i.2 ∙ ap Some i.3)
        | inr m ↦
            let h : is_circular book is_leaf a ≡ true
            = ap (is_circular book is_leaf) (sym i.3) ∙ marked_circular formulas book is_leaf flags r leaves (length formulas) wanted marks order t i.0 i.1 i.2 m in
            cc (h, free)
      ]

-- ---- what is wanted
pub all_true : (n : ℕ) (wanted : List Bool) → wanted ≡ replicate n true → (i : ℕ) → i < n → get_or wanted i false ≡ true
all_true n wanted is i h = ap (λ l. get_or l i false) is ∙ get_or-replicate n i true false h

both_ways : (p q : Bool) → (p ≡ true → q ≡ true) → (q ≡ true → p ≡ true) → p ≡ q
both_ways true q f g = sym (f refl)
both_ways false true f g = g refl
both_ways false false f g = refl

-- where all formulas are wanted, so is each formula cell
pub all_wanted : (formulas : List Formula) (wanted : List Bool) (book : Book) → IsTableOf formulas book
    → ((i : ℕ) → i < length formulas → get_or wanted i false ≡ true) → (a : Cell) → is_formula (entry book a) ≡ true → IsWanted formulas wanted a
all_wanted formulas wanted book r all a h =
    let at = r.found a h in (at.0, at.1, at.2, at.3, all at.0 (slice_get_within formulas at.0 at.1 at.2))

-- and the set has each circular cell
pub same_answer : (formulas : List Formula) (wanted : List Bool) (book : Book) (is_leaf has : Cell → Bool) → IsTableOf formulas book
    → ((i : ℕ) → i < length formulas → get_or wanted i false ≡ true) → HasCircular book is_leaf (IsWanted formulas wanted) has
    → (a : Cell) → has a ≡ is_circular book is_leaf a
same_answer formulas wanted book is_leaf has r all are a =
    both_ways (has a) (is_circular book is_leaf a) (are.circular a) (λ h. are.all a (all_wanted formulas wanted book r all a (first_true _ _ h)) h)

-- where flags spread from a cell along references, each formula cell has one that is reached
pub reached_wanted : (formulas : List Formula) (book : Book) (is_leaf : Cell → Bool) (flags wanted : List Bool) (from : Cell) → IsTableOf formulas book
    → AreFlags formulas is_leaf flags → ((i : ℕ) (f : Formula) → slice_get formulas i ≡ Some f → f.cell ≡ from → get_or wanted i false ≡ true)
    → IsClosed (edge formulas flags) wanted → (a : Cell) → Reaches book is_leaf from a → is_formula (entry book a) ≡ true → IsWanted formulas wanted a
reached_wanted formulas book is_leaf flags wanted from r leaves start closed _ itself h =
    let at = r.found from h in (at.0, at.1, at.2, at.3, start at.0 at.1 at.2 at.3)
reached_wanted formulas book is_leaf flags wanted from r leaves start closed _ (further b c before step) h =
    let refers_on : refers (entry book b) c ≡ true = second_true (not (is_leaf b)) _ step in
    let formula : is_formula (entry book b) ≡ true = elim (formula_or_not (entry book b)) as (λ _. is_formula (entry book b) ≡ true) [ inl w ↦ w | inr none ↦ let n = none c in cc (n, refers_on) ] in
    let at = reached_wanted formulas book is_leaf flags wanted from r leaves start closed b before formula in
    let to = r.found c h in
    let on : steps_to book is_leaf at.1.cell to.1.cell ≡ true = (λ i. steps_to book is_leaf (at.3 i) (to.3 i)) ∙ step in
    (to.0, to.1, to.2, to.3, closed at.0 to.0 at.4 (edge_steps formulas book is_leaf flags r leaves at.0 to.0 at.1 to.1 at.2 to.2 ∙ on))
