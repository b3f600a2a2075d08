-- How many texts and formulas there are after some are put.
use Rattle.std.proofs.Common.{◌≡◌, ◌+◌, ◌≤◌, ◌∙◌, ℕ, Bool, true, false, cond, List, [], ◌∷◌, Option, Some, map, get_or, refl, sym, ap, subst, arith, eq-eqb}
use Rattle.std.specs.Prelude.{◌||◌, ◌&&◌, ◌==◌, All, if◌then◌else◌, nat_le, nat_lt, not, unwrap_or, is_some, zip}
use Rattle.std.specs.FinMap.{contains_key, get, get-insert, insert}
use Rattle.std.specs.List.{IsDistinct}
use Rattle.std.specs.Ordering.{eq_by_cmp, is_eq}
use Rattle.std.specs.declared.cmp.Ordering.{Ordering}
use Rattle.std.specs.declared.cmp.Ordering.TheVariants.{Less, Equal, Greater}
use Rattle.std.proofs.lemmas.List.Elements.{All-from_recursion, All-head, All-tail}
use Rattle.std.proofs.lemmas.Map.Keys.{IsDistinct-tail}
use Rattle.std.proofs.lemmas.Bool.Decides.{nat_tests}
use Rattle.cell_refs.specs.declared.cell.Cell.{Cell}
use Rattle.cell_refs.specs.declared.limits.TheConstants.{FORMULAS, TEXTS}
use Rattle.cell_refs.specs.Cells.{cell_cmp, is_same_cell}
use Rattle.cell_refs.proofs.Order.{cells_total, exact_cells}
use Rattle.recalculation.specs.Entries.{Contents}
use Rattle.workbook.specs.Contents.{content_of}
use Rattle.workbook.specs.Several.{first_without_room, is_too_much, with_texts}
use Rattle.workbook.specs.State.{formula_count, is_formula_text, text_count}
use Rattle.workbook.proofs.Counting.{formulas_put, formulas_removed, one}
use Rattle.workbook.proofs.Keeping.{count_put, counts, one_past}

-- some of the texts have been counted: with these there are so many, and the cells of the others have what they had
pub record IsCounted (before : Contents) (all left : List (Cell × List ℕ)) (cells : List Cell) (count formulas : ℕ) : Type 0 where
  pub now : Contents
  pub first : first_without_room before all ≡ first_without_room now left
  pub after : with_texts before all ≡ with_texts now left
  pub counted : count ≡ text_count now
  pub few : count ≤ TEXTS
  pub numbered : formulas ≡ formula_count now
  pub few_formulas : formulas ≤ FORMULAS
  pub same : All (λ (c : Cell). get now c ≡ get before c) cells
  pub distinct : IsDistinct is_same_cell cells

-- ---- cells that are not one
equal_of : (r : Ordering) → is_eq r ≡ true → r ≡ Equal
equal_of Less e = absurd cc
equal_of Equal e = refl
equal_of Greater e = absurd cc

all_three : (a b c : Bool) → a ≡ true → b ≡ true → c ≡ true → (a && (b && c)) ≡ true
all_three a b c p q r = ap (λ x. x && (b && c)) p ∙ ap (λ x. x && c) q ∙ r

own_cell : (k : Cell) → is_same_cell k k ≡ true
own_cell k = all_three (k.sheet.0 == k.sheet.0) (k.row == k.row) (k.col == k.col) (eq-eqb k.sheet.0 k.sheet.0 refl) (eq-eqb k.row k.row refl) (eq-eqb k.col k.col refl)

apart : (k c : Cell) → is_same_cell k c ≡ false → eq_by_cmp cell_cmp c k ≡ false
apart k c other = by (eq_by_cmp cell_cmp c k) refl
  where
    by : (b : Bool) → eq_by_cmp cell_cmp c k ≡ b → b ≡ false
    by true e = absurd (let t : true ≡ false = sym (own_cell k) ∙ ap (is_same_cell k) (sym (exact_cells c k (equal_of (cell_cmp c k) e))) ∙ other in cc)
    by false e = refl

first_apart : (k : Cell) (cells : List Cell) → IsDistinct is_same_cell (k ∷ cells) → All (λ (c : Cell). is_same_cell k c ≡ false) cells
unfolding IsDistinct
first_apart k cells distinct = All-from_recursion (λ (c : Cell). is_same_cell k c ≡ false) cells distinct.0

-- ---- numbers
or_true : (b : Bool) → (b || true) ≡ true
or_true true = refl
or_true false = refl

one_new : (b : Bool) (n : ℕ) → n + one (not b) ≡ cond b n (n + 1)
one_new true n = omega arith
one_new false n = omega arith

not_past : (m n : ℕ) → nat_lt m n ≡ false → n ≤ m
not_past m n e = grind (arith, nat_tests)

-- ---- the next text
module _ (before : Contents) (all left : List (Cell × List ℕ)) (k : Cell) (text : List ℕ) (cells : List Cell) (count formulas : ℕ)
    (w : IsCounted before all ((k, text) ∷ left) (k ∷ cells) count formulas) (new was : Bool)
    (is_new : new ≡ not (contains_key before k)) (was_one : was ≡ is_formula_text (content_of before k)) where
  abbrev here : Contents
  here = insert w.now k text

  unchanged : get w.now k ≡ get before k
  unchanged = All-head (λ (c : Cell). get w.now c ≡ get before c) k cells w.same

  new_now : new ≡ not (contains_key w.now k)
  new_now = is_new ∙ ap (λ (o : Option (List ℕ)). not (is_some o)) (sym unchanged)

  was_now : was ≡ is_formula_text (content_of w.now k)
  was_now = was_one ∙ ap (λ (o : Option (List ℕ)). is_formula_text (unwrap_or o [])) (sym unchanged)

  pub full : (nat_le TEXTS count && new) ≡ nat_lt TEXTS (text_count here)
  full =
      ap (λ b. nat_le TEXTS count && b) new_now ∙ one_past (contains_key w.now k) TEXTS count w.few
      ∙ ap (λ n. nat_lt TEXTS (cond (contains_key w.now k) n (n + 1))) w.counted ∙ ap (nat_lt TEXTS) (sym (count_put w.now k text))

  pub many : (nat_le FORMULAS formulas && (is_formula_text text && not was)) ≡ nat_lt FORMULAS (formula_count here)
  many =
      ap (λ b. nat_le FORMULAS formulas && (is_formula_text text && not b)) was_now
      ∙ counts (is_formula_text text) (is_formula_text (content_of w.now k)) FORMULAS formulas (formula_count here) w.few_formulas
      (formulas_put w.now k text ∙ ap (λ n. n + one (is_formula_text text)) (sym w.numbered))

  refused : is_too_much here ≡ true → first_without_room before all ≡ Some k
  refused too_much = w.first ∙ ap (λ b. if b then Some k else first_without_room here left) too_much

  pub refused_text : (nat_le TEXTS count && new) ≡ true → first_without_room before all ≡ Some k
  refused_text e = refused (ap (λ b. b || nat_lt FORMULAS (formula_count here)) (sym full ∙ e))

  pub refused_formula : (nat_le FORMULAS formulas && (is_formula_text text && not was)) ≡ true → first_without_room before all ≡ Some k
  refused_formula e = refused (ap (λ b. nat_lt TEXTS (text_count here) || b) (sym many ∙ e) ∙ or_true (nat_lt TEXTS (text_count here)))

  pub was_counted : one was ≤ formulas
  was_counted = let a = formulas_removed w.now k in let b = w.numbered in let e : one was ≡ one (is_formula_text (content_of w.now k)) = ap one was_now in omega arith

  pub counted_on : (n f : ℕ) → (nat_le TEXTS count && new) ≡ false → (nat_le FORMULAS formulas && (is_formula_text text && not was)) ≡ false
      → n ≡ count + one new → f + one was ≡ formulas + one (is_formula_text text) → IsCounted before all left cells n f
  counted_on n f room place more sum =
      let texts : nat_lt TEXTS (text_count here) ≡ false = sym full ∙ room in
      let numbers : nat_lt FORMULAS (formula_count here) ≡ false = sym many ∙ place in
      let counted : n ≡ text_count here = more ∙ ap (λ b. count + one b) new_now ∙ one_new (contains_key w.now k) count
      ∙ ap (λ n. cond (contains_key w.now k) n (n + 1)) w.counted ∙ sym (count_put w.now k text) in
      let numbered : f ≡ formula_count here = let a = formulas_put w.now k text in let b = w.numbered in let e : one was ≡ one (is_formula_text (content_of w.now k)) = ap one was_now in omega arith in
      record {
        now = here;
        first = w.first ∙ ap (λ b. if b then Some k else first_without_room here left) (ap (λ b. b || nat_lt FORMULAS (formula_count here)) texts ∙ numbers);
        after = w.after;
        counted = counted;
        few = let a = not_past TEXTS (text_count here) texts in omega arith;
        numbered = numbered;
        few_formulas = let a = not_past FORMULAS (formula_count here) numbers in omega arith;
        same = λ i d lt.
            get-insert cells_total w.now k text (get_or cells i d)
            ∙ ap (λ b. cond b (Some text) (get w.now (get_or cells i d))) (apart k (get_or cells i d) (first_apart k cells w.distinct i d lt))
            ∙ All-tail (λ (c : Cell). get w.now c ≡ get before c) k cells w.same i d lt;
        distinct = IsDistinct-tail is_same_cell k cells w.distinct;
      }

-- before any is counted
pub counted_none : (before : Contents) (all : List (Cell × List ℕ)) (cells : List Cell) (count formulas : ℕ) → count ≡ text_count before → count ≤ TEXTS → formulas ≡ formula_count before
    → formulas ≤ FORMULAS → IsDistinct is_same_cell cells → IsCounted before all all cells count formulas
counted_none before all cells count formulas counted few numbered few_formulas distinct = record {
  now = before;
  first = refl;
  after = refl;
  counted = counted;
  few = few;
  numbered = numbered;
  few_formulas = few_formulas;
  same = λ i d lt. refl;
  distinct = distinct;
}

-- the first cell and the first text
pub counted_first : {X : Type 0} (f : X → List ℕ) (before : Contents) (all : List (Cell × List ℕ)) (cells later : List Cell) (texts others : List X) (k : Cell) (x : X) (count formulas : ℕ) → cells ≡ k ∷ later
    → texts ≡ x ∷ others → IsCounted before all (zip cells (map f texts)) cells count formulas → IsCounted before all ((k, f x) ∷ zip later (map f others)) (k ∷ later) count formulas
counted_first {X} f before all cells later texts others k x count formulas is are w =
    subst (λ (p : List Cell × List X). IsCounted before all (zip p.0 (map f p.1)) p.0 count formulas) (λ i. (is i, are i)) w
