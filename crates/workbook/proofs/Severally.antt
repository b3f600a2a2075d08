-- Texts put into several cells, one after the other.
use Rattle.std.proofs.Common.{◌≡◌, ◌+◌, ◌-◌, ◌≤◌, ◌∙◌, ℕ, Bool, true, false, cond, List, [], ◌∷◌, Option, Some, None, length, map, get_or, take, drop, refl, sym, ap, subst, arith}
use Rattle.std.specs.Prelude.{◌||◌, if◌then◌else◌, IsSome, is_some, nat_lt, zip}
use Rattle.std.specs.BTreeMap.{is_at}
use Rattle.std.specs.Cmp.{eq_by_cmp_equiv}
use Rattle.std.specs.FinMap.{insert, same_map}
use Rattle.std.specs.Ordering.{is_eq}
use Rattle.std.specs.declared.cmp.Ordering.{Ordering}
use Rattle.std.specs.declared.cmp.Ordering.TheVariants.{Less, Equal, Greater}
use Rattle.std.proofs.lemmas.Bool.Decides.{nat_tests}
use Rattle.std.proofs.lemmas.Grind.{common_steps}
use Rattle.cell_refs.specs.declared.cell.Cell.{Cell}
use Rattle.cell_refs.specs.declared.limits.TheConstants.{FORMULAS, TEXTS}
use Rattle.cell_refs.specs.Cells.{cell_cmp}
use Rattle.cell_refs.proofs.Order.{cells_total, exact_cells}
use Rattle.recalculation.specs.Entries.{Contents}
use Rattle.workbook.specs.declared.held.Held.{Held}
use Rattle.workbook.specs.Contents.{content_of}
use Rattle.workbook.specs.Filling.{AreHeldAlike, IsFilled}
use Rattle.workbook.specs.Held.{IsHeld, IsKept, contents_of, held_at}
use Rattle.workbook.specs.Room.{HasRoom}
use Rattle.workbook.specs.Several.{first_without_room, is_too_much, with_texts}
use Rattle.workbook.specs.State.{Name, formula_count, is_formula_text, text_count}
use Rattle.workbook.proofs.Counting.{formulas_put, one}
use Rattle.workbook.proofs.Keeping.{HeldCells, get_text, kept_put, text_held, text_put}

both_few : (m n i j : ℕ) → (nat_lt m i || nat_lt n j) ≡ false → (i ≤ m) × (j ≤ n)
both_few m n i j h = (grind (arith, nat_tests), grind (arith, nat_tests))

-- ---- room for the first
module _ (m : Contents) (k : Cell) (text : List ℕ) (texts : List (Cell × List ℕ)) (room : first_without_room m ((k, text) ∷ texts) ≡ None) where
  abbrev here : Contents
  here = insert m k text

  few_here : is_too_much here ≡ false
  few_here = by (is_too_much here) room
    where
      by : (b : Bool) → (if b then Some k else first_without_room here texts) ≡ None → b ≡ false
      by true e = absurd cc
      by false e = refl

  has_room : HasRoom m k text
  has_room = let few = both_few TEXTS FORMULAS (text_count here) (formula_count here) few_here in record { texts = few.0; formulas = few.1 }

  room_behind : first_without_room here texts ≡ None
  room_behind = sym (ap (λ b. if b then Some k else first_without_room here texts) few_here) ∙ room

equal_of : (r : Ordering) → is_eq r ≡ true → r ≡ Equal
equal_of Less e = absurd cc
equal_of Equal e = refl
equal_of Greater e = absurd cc

old_again : (b : Bool) (o n t : Option Held) → (b ≡ true → n ≡ o) → cond b o (cond b t n) ≡ n
old_again true o n t is = sym (is refl)
old_again false o n t is = refl

length_again : (b : Bool) (h g f e : ℕ) → h + 1 ≡ g + cond b 1 0 → g ≡ f → f ≡ e + cond b 0 1 → h ≡ e
length_again true h g f e p q r = omega arith
length_again false h g f e p q r = omega arith

put_some : (b : Bool) (h : Held) (o : Option Held) → b ≡ true → IsSome (cond b (Some h) o)
put_some true h o e = refl
put_some false h o e = absurd cc

-- ---- a text is put, and then the others
module _ (sheets : List (List ℕ)) (names : List Name) (es fs : HeldCells) (k : Cell) (h : Held) (texts : List (Cell × List ℕ))
    (is : (q : Cell) → held_at fs q ≡ cond (is_at (cell_cmp k) q) (Some h) (held_at es q))
    (longer : length fs ≡ length es + cond (is_some (held_at es k)) 0 1) where
  made : contents_of fs ≡ insert (contents_of es) k h.text
  made = text_put es fs k h is

  module _ (room : first_without_room (contents_of es) ((k, h.text) ∷ texts) ≡ None) where
    pub kept_first : IsKept sheets names es (formula_count (contents_of es)) → IsHeld sheets names k h → IsKept sheets names fs (formula_count (contents_of fs))
    kept_first kept own =
        kept_put sheets names es fs k (formula_count (contents_of es)) (formula_count (contents_of fs)) kept h own (has_room (contents_of es) k h.text texts room) is longer
        (ap (λ m. formula_count m + one (is_formula_text (content_of (contents_of es) k))) made ∙ formulas_put (contents_of es) k h.text)

    pub room_later : first_without_room (contents_of fs) texts ≡ None
    room_later = ap (λ m. first_without_room m texts) made ∙ room_behind (contents_of es) k h.text texts room

  pub all_filled : (gs : HeldCells) → IsFilled sheets names fs texts gs → IsFilled sheets names es ((k, h.text) ∷ texts) gs
  all_filled gs filled = record { kept = filled.kept; put = filled.put ∙ ap (λ m. with_texts m texts) made }

  -- what was held is put there again
  module _ (gs : HeldCells) (alike : AreHeldAlike fs gs) where
    pub still_some : IsSome (held_at gs k)
    still_some = subst (λ (o : Option Held). IsSome o) (sym (alike.each k ∙ is k)) (put_some (is_at (cell_cmp k) k) h (held_at es k) ((eq_by_cmp_equiv cells_total).refl k))

    pub held_again : (hs : HeldCells) (was : Option Held) → was ≡ held_at es k → ((q : Cell) → held_at hs q ≡ cond (is_at (cell_cmp k) q) was (held_at gs q))
        → length hs + 1 ≡ length gs + cond (is_some was) 1 0 → AreHeldAlike es hs
    held_again hs was at back shorter = record {
      each = λ q.
          back q ∙ ap (cond (is_at (cell_cmp k) q) was) (alike.each q ∙ is q)
          ∙ old_again (is_at (cell_cmp k) q) was (held_at es q) (Some h) (λ e. ap (held_at es) (sym (exact_cells k q (equal_of (cell_cmp k q) e))) ∙ sym at);
      len = length_again (is_some (held_at es k)) (length hs) (length gs) (length fs) (length es) (shorter ∙ ap (λ o. length gs + cond (is_some o) 1 0) at) alike.len longer;
    }

-- ---- the workbook as it was
module _ (es fs : HeldCells) (alike : AreHeldAlike es fs) where
  pub contents_alike : contents_of fs ≡ contents_of es
  contents_alike = same_map cells_total exact_cells (contents_of fs) (contents_of es) (λ q. get_text fs q ∙ ap text_held (alike.each q) ∙ sym (get_text es q))

  pub kept_alike : (sheets : List (List ℕ)) (names : List Name) (formulas : ℕ) → IsKept sheets names es formulas → IsKept sheets names fs formulas
  kept_alike sheets names formulas kept = record {
    short = kept.short;
    held = λ q g e. kept.held q g (sym (alike.each q) ∙ e);
    counted = alike.len ∙ kept.counted ∙ ap text_count (sym contents_alike);
    few = let a = alike.len in let b = kept.few in omega arith;
    numbered = kept.numbered ∙ ap formula_count (sym contents_alike);
    few_formulas = kept.few_formulas;
  }

-- ---- the first of several
pub first_others : {X : Type 0} (xs : List X) (d : X) → 1 ≤ length xs → xs ≡ get_or xs 0 d ∷ take (length xs - 1) (drop 1 xs)
first_others [] d h = absurd (omega arith)
first_others (x ∷ xs) d h = ap (λ r. x ∷ r) (grind (arith, common_steps))

pub zip_first : {X : Type 0} (f : X → List ℕ) (cells later : List Cell) (texts others : List X) (k : Cell) (x : X) (text : List ℕ) → cells ≡ k ∷ later → texts ≡ x ∷ others → text ≡ f x
    → zip cells (map f texts) ≡ (k, text) ∷ zip later (map f others)
zip_first f cells later texts others k x text is are same = (λ i. zip (is i) (map f (are i))) ∙ ap (λ t. (k, t) ∷ zip later (map f others)) (sym same)
