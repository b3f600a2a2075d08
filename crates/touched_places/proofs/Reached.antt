-- The forms of two workbooks that say the same of some cells.
use Rattle.std.proofs.Common.{◌≡◌, ℕ, zero, suc, ◌+◌, Bool, true, false, ◌&&◌, if◌then◌else◌, List, [], ◌∷◌, length, Option, Some, None, Contains, refl, sym, ap, subst, ◌∙◌, arith}
use Rattle.std.specs.Prelude.{not, ◌||◌, is_some}
use Rattle.std.specs.FinMap.{keys, contains_key}
use Rattle.cell_refs.specs.declared.cell.Cell.{Cell}
use Rattle.formula_ast.specs.Tree.{Tree}
use Rattle.recalculation.specs.Entries.{Book, Constant, Entry, Formula, Malformed, entry}
use Rattle.recalculation.specs.Walks.{has_walk, is_formula, refers, steps_to, is_circular, unfolded}
use Rattle.recalculation.proofs.Lists.{both, first_true, second_true}
use Rattle.recalculation.proofs.Circles.{found_text, no_step, formula_text, circular_is_endless}
use Rattle.recalculation.proofs.Reached.{passes}
use Rattle.recalculation.proofs.WithinAreas.{of_referred}
use Rattle.form_values.specs.declared.abs.Abs.{Abs}
use Rattle.form_extraction.specs.declared.forms.CellForm.{CellForm}
use Rattle.form_extraction.specs.declared.forms.CellForm.TheVariants.{Circular}
use Rattle.form_extraction.specs.Places.{Decisions, form_in, entry_form, decision_or, form_over, bounded_form, form_of}
use Rattle.form_extraction.specs.Looked.{LooksFrom, forms_of, refers_to_circle, side_form}
use Rattle.form_extraction.specs.Parts.{Part}
use Rattle.form_extraction.proofs.Agreeing.{entry_alike, form_enough, formula_alike, part_alike}
use Rattle.touched_places.specs.Alike.{AreAlikeIn}

-- two tests of which each passes where the other does
both_ways : (x y : Bool) → (x ≡ true → y ≡ true) → (y ≡ true → x ≡ true) → x ≡ y
both_ways true y f g = sym (f refl)
both_ways false true f g = g refl
both_ways false false f g = refl

-- a cell without a number isn't to be decided
no_number : (d : Option ℕ) → not (is_some d) ≡ true → d ≡ None
no_number None h = refl
no_number (Some j) h = cc

-- a cell from which a step leads has a text
pub step_text : (book : Book) (is_leaf : Cell → Bool) (a b : Cell) → steps_to book is_leaf a b ≡ true → contains_key book.texts a ≡ true
step_text book is_leaf a b s =
    elim (contains_key book.texts a) as (λ w. contains_key book.texts a ≡ w → w ≡ true) [
      | true ↦ λ e. refl
      | false ↦ λ e. let n = no_step book is_leaf a b e in cc
    ] refl

abbrev given : Decisions → Cell → Bool
given decisions b = is_some (decisions b)

module _ (P : Cell → Type 0) (book other : Book) (decisions : Decisions) (alike : AreAlikeIn P book other decisions) where
  -- a step in one workbook is one in the other
  same_step : (a b : Cell) → P a → steps_to book (given decisions) a b ≡ true → steps_to other (given decisions) a b ≡ true
  same_step a b h s =
      let d : decisions a ≡ None = no_number (decisions a) (first_true (not (given decisions a)) _ s) in
      sym (ap (λ e. not (given decisions a) && refers e b) (alike.entries a h d)) ∙ s

  -- a walk in one workbook, but for its last step, is one in the other: there the last cell may have lost its text
  walks_over : (n : ℕ) (a : Cell) → P a → has_walk (keys book.texts) (steps_to book (given decisions)) (suc n) a ≡ true
      → has_walk (keys other.texts) (steps_to other (given decisions)) n a ≡ true
  walks_over zero a h w = refl
  walks_over (suc n) a h w =
      let b = passes (λ b. steps_to book (given decisions) a b && has_walk (keys book.texts) (steps_to book (given decisions)) (suc n) b) (keys book.texts) w in
      let step = first_true (steps_to book (given decisions) a b.0) _ b.1 in
      let onward = second_true (steps_to book (given decisions) a b.0) _ b.1 in
      let d : decisions a ≡ None = no_number (decisions a) (first_true (not (given decisions a)) _ step) in
      let there : P b.0 = alike.leads a b.0 h d (second_true (not (given decisions a)) _ step) in
      let c = passes (λ c. steps_to book (given decisions) b.0 c && has_walk (keys book.texts) (steps_to book (given decisions)) n c) (keys book.texts) onward in
      let next = first_true (steps_to book (given decisions) b.0 c.0) _ c.1 in
      found_text other b.0 (λ b. steps_to other (given decisions) a b && has_walk (keys other.texts) (steps_to other (given decisions)) n b)
      (step_text other (given decisions) b.0 c.0 (same_step b.0 c.0 there next))
      (both (steps_to other (given decisions) a b.0) _ (same_step a b.0 h step) (walks_over n b.0 there onward))

  -- a circular cell of one is one of the other
  circular_over : (a : Cell) → P a → is_circular book (given decisions) a ≡ true → is_circular other (given decisions) a ≡ true
  circular_over a h w =
      let free = first_true (not (given decisions a)) _ (second_true (is_formula (entry book a)) _ w) in
      both _ _ (sym (ap is_formula (alike.entries a h (no_number (decisions a) free))) ∙ first_true (is_formula (entry book a)) _ w)
      (both _ _ free (walks_over (length (keys other.texts)) a h (circular_is_endless book (given decisions) a (suc (length (keys other.texts))) w)))

  -- so is an expression that refers to one
  circle_over : (t : Tree) → ((b : Cell) → refers (Some (Formula t)) b ≡ true → P b) → refers_to_circle book (given decisions) t ≡ true → refers_to_circle other (given decisions) t ≡ true
  circle_over t h w =
      let b = passes (λ b. refers (Some (Formula t)) b && is_circular book (given decisions) b) (keys book.texts) w in
      let r = first_true (refers (Some (Formula t)) b.0) _ b.1 in
      let c = circular_over b.0 (h b.0 r) (second_true (refers (Some (Formula t)) b.0) _ b.1) in
      found_text other b.0 (λ b. refers (Some (Formula t)) b && is_circular other (given decisions) b) (formula_text other b.0 (first_true (is_formula (entry other b.0)) _ c))
      (both (refers (Some (Formula t)) b.0) _ r c)

-- the two workbooks may change places
pub turned : (P : Cell → Type 0) (book other : Book) (decisions : Decisions) → AreAlikeIn P book other decisions → AreAlikeIn P other book decisions
turned P book other decisions alike = record {
  leads = λ a b h d r. alike.leads a b h d (ap (λ e. refers e b) (alike.entries a h d) ∙ r);
  entries = λ a h d. sym (alike.entries a h d);
}

-- what a cell says looks at the same cells over forms that are alike where it refers to them
looks_alike : (f g : Cell → Option Abs) (w : Bool) (e : Option Entry) → ((b : Cell) → refers e b ≡ true → f b ≡ g b) → (b : Cell) → LooksFrom w f e b → LooksFrom w g e b
looks_alike f g true e h b l = l
looks_alike f g false (Some (Formula t)) h b l = subst (λ (p : Part). Contains p.looks b) (part_alike f g t (of_referred (λ c. f c ≡ g c) t h)) l
looks_alike f g false None h b l = l
looks_alike f g false (Some (Constant v)) h b l = l
looks_alike f g false (Some Malformed) h b l = l

module _ (P : Cell → Type 0) (book other : Book) (decisions : Decisions) (alike : AreAlikeIn P book other decisions) where
  -- a cell over forms that are alike
  layer_over : (f g : Cell → CellForm) (a : Cell) → P a → ((b : Cell) → P b → f b ≡ g b) → form_over book decisions f a ≡ form_over other decisions g a
  layer_over f g a h k = by (decisions a) refl
    where
      w : is_circular book (given decisions) a ≡ is_circular other (given decisions) a
      w =
          both_ways (is_circular book (given decisions) a) (is_circular other (given decisions) a) (circular_over P book other decisions alike a h)
          (circular_over P other book decisions (turned P book other decisions alike) a h)

      by : (d : Option ℕ) → decisions a ≡ d → decision_or d (if is_circular book (given decisions) a then Circular else entry_form (λ b. form_in (f b)) (entry book a))
          ≡ decision_or d (if is_circular other (given decisions) a then Circular else entry_form (λ b. form_in (g b)) (entry other a))
      by (Some j) d = refl
      by None d =
          ap (λ v. if is_circular book (given decisions) a then Circular else v) (entry_alike f g (entry book a) (λ b r. k b (alike.leads a b h d r)))
          ∙ (λ i. if (w i) then Circular else entry_form (λ b. form_in (g b)) (alike.entries a h d i))

  -- the forms are alike at each bound
  bounded_over : (n : ℕ) (a : Cell) → P a → bounded_form book decisions n a ≡ bounded_form other decisions n a
  unfolding bounded_form
  bounded_over zero a h = refl
  bounded_over (suc n) a h =
      layer_over (unfolded (form_over book decisions) Circular n) (unfolded (form_over other decisions) Circular n) a h (λ b p. bounded_over n b p)

  -- and so are the forms
  pub reached_over : (a : Cell) → P a → form_of book decisions a ≡ form_of other decisions a
  reached_over a h =
      let n : ℕ = length (keys book.texts) + length (keys other.texts) + 1 in
      sym (form_enough book decisions n a (omega arith)) ∙ bounded_over n a h ∙ form_enough other decisions n a (omega arith)

  -- those of sides too
  pub side_over : (t : Tree) → ((b : Cell) → refers (Some (Formula t)) b ≡ true → P b) → side_form book decisions t ≡ side_form other decisions t
  side_over t h =
      let w = both_ways (refers_to_circle book (given decisions) t) (refers_to_circle other (given decisions) t) (circle_over P book other decisions alike t h)
      (circle_over P other book decisions (turned P book other decisions alike) t h) in
      let f = formula_alike (forms_of book decisions) (forms_of other decisions) t
      (of_referred (λ b. forms_of book decisions b ≡ forms_of other decisions b) t (λ b r. ap form_in (reached_over b (h b r)))) in
      λ i. if (w i) then Circular else f i

  -- ---- what places look at
  pub cell_looks : (a : Cell) (t : Tree) → P a → decisions a ≡ None → entry book a ≡ Some (Formula t) → (b : Cell)
      → LooksFrom (is_circular book (given decisions) a) (forms_of book decisions) (Some (Formula t)) b → LooksFrom (is_circular other (given decisions) a) (forms_of other decisions) (Some (Formula t)) b
  cell_looks a t h d is b l =
      let w = both_ways (is_circular book (given decisions) a) (is_circular other (given decisions) a) (circular_over P book other decisions alike a h)
      (circular_over P other book decisions (turned P book other decisions alike) a h) in
      subst (λ v. LooksFrom v (forms_of other decisions) (Some (Formula t)) b) w
      (looks_alike (forms_of book decisions) (forms_of other decisions) (is_circular book (given decisions) a) (Some (Formula t))
      (λ c r. ap form_in (reached_over c (alike.leads a c h d (ap (λ e. refers e c) is ∙ r)))) b l)

  pub side_looks : (t : Tree) → ((b : Cell) → refers (Some (Formula t)) b ≡ true → P b) → (b : Cell)
      → LooksFrom (refers_to_circle book (given decisions) t) (forms_of book decisions) (Some (Formula t)) b → LooksFrom (refers_to_circle other (given decisions) t) (forms_of other decisions) (Some (Formula t)) b
  side_looks t h b l =
      let w = both_ways (refers_to_circle book (given decisions) t) (refers_to_circle other (given decisions) t) (circle_over P book other decisions alike t h)
      (circle_over P other book decisions (turned P book other decisions alike) t h) in
      subst (λ v. LooksFrom v (forms_of other decisions) (Some (Formula t)) b) w
      (looks_alike (forms_of book decisions) (forms_of other decisions) (refers_to_circle book (given decisions) t) (Some (Formula t)) (λ c r. ap form_in (reached_over c (h c r))) b l)
