-- The forms that are known are those of the cells, and so what is made of them is the form of a place.
use Rattle.std.specs.Prelude.{is_some, not, ◌&&◌, Contains}
use Rattle.std.proofs.Common.{◌≡◌, refl, sym, ap, ◌∙◌, subst, true, false, true≢false, if◌then◌else◌, List, Option, Some, None, ℕ, length}
use Rattle.std.specs.FinMap.{contains_key, keys}
use Rattle.cell_refs.specs.declared.cell.Cell.{Cell}
use Rattle.formula_ast.specs.Tree.{Tree}
use Rattle.recalculation.specs.Entries.{Book, Entry, Constant, Formula, Malformed, entry}
use Rattle.recalculation.specs.Recalculation.{val}
use Rattle.recalculation.specs.Walks.{has_walk, is_circular, is_formula, steps_to}
use Rattle.form_values.specs.Entries.{open_decision}
use Rattle.form_values.specs.declared.abs.Abs.TheVariants.{Affine}
use Rattle.cell_refs.specs.declared.place.Place.{Place}
use Rattle.cell_refs.specs.declared.place.Place.TheVariants as place
use Rattle.form_extraction.specs.declared.forms.CellForm.TheVariants.{Circular, Form}
use Rattle.form_extraction.specs.Formulas.{part_of}
use Rattle.form_extraction.specs.Places.{Decisions, decision_or, entry_form, form_in, form_of, formula_form, numbered_in, overriding}
use Rattle.form_extraction.specs.Looked.{forms_of, LooksFrom}
use Rattle.form_extraction.specs.Refuted.{IsRefuted, HasRefuted}
use Rattle.form_extraction.proofs.Agreeing.{form_is}
use Rattle.form_extraction.proofs.Books.{form_is_the_value}
use Rattle.form_extraction.proofs.Cells.{side_is_the_value, side_refusal}
use Rattle.form_extraction.proofs.Looked.{depends_on_looked}
use Rattle.form_extraction.proofs.Refuted.{refusals_are_right}
use Rattle.form_extraction.proofs.States.{decision_is_itself}
use Rattle.extract.specs.Tables.{Table, form_at}
use Rattle.extract.specs.Knowing.{form_kept, form_said, decided_or, known_form, is_open_text}
use Rattle.extract.specs.Places.{IsTreeOf, decision_at, is_in_circle, place_form, HasForms, IsTheValue, IsRightly, PlaceLooksAt}

module _ (book : Book) (adj : List Cell) (table : Table) where
  abbrev decisions : Decisions
  decisions = numbered_in adj

  -- a form that is known is that of the cell
  known_is : (a : Cell) → (decisions a ≡ None → is_formula (entry book a) ≡ true → form_at table (place.Cell a) ≡ Some (form_of book decisions a))
      → forms_of book decisions a ≡ known_form book adj table a
  known_is a kept = by (decisions a) refl (entry book a) refl
    where
      layer : (e : Option Entry) → entry book a ≡ e → decisions a ≡ None
          → form_of book decisions a ≡ (if is_formula e && (not (is_some (decisions a)) && has_walk (keys book.texts) (steps_to book (λ b. is_some (decisions b))) (length (keys book.texts)) a) then Circular else entry_form (forms_of book decisions) e)
      layer e q p = form_is book decisions a ∙ (λ i. decision_or (p i) (if is_formula (q i) && (not (is_some (decisions a)) && has_walk (keys book.texts) (steps_to book (λ b. is_some (decisions b))) (length (keys book.texts)) a) then Circular else entry_form (forms_of book decisions) (q i)))

      by : (d : Option ℕ) → decisions a ≡ d → (e : Option Entry) → entry book a ≡ e → form_in (form_of book decisions a) ≡ decided_or d (form_said e (form_at table (place.Cell a)))
      by (Some j) p e q = ap form_in (decision_is_itself book decisions a j p)
      by None p None q = ap form_in (layer None q p)
      by None p (Some (Constant v)) q = ap form_in (layer (Some (Constant v)) q p)
      by None p (Some (Formula t)) q = ap form_kept (sym (kept p (ap is_formula q)))
      by None p (Some Malformed) q = ap form_in (layer (Some Malformed) q p)

  module _ (t : Tree) (has : HasForms book decisions table t) where
    -- so a formula looks at the same cells, and has the same form
    agreed : (b : Cell) → Contains (part_of (forms_of book decisions) t).looks b → forms_of book decisions b ≡ known_form book adj table b
    agreed b looks = known_is b (has b looks)

    same_form : formula_form (forms_of book decisions) t ≡ formula_form (known_form book adj table) t
    same_form = (depends_on_looked (forms_of book decisions) (known_form book adj table) t agreed).0

    same_looks : (part_of (forms_of book decisions) t).looks ≡ (part_of (known_form book adj table) t).looks
    same_looks = (depends_on_looked (forms_of book decisions) (known_form book adj table) t agreed).1

    -- the form of a place
    pub formed_is : (p : Place) → IsTreeOf book p t → decision_at decisions p ≡ None → is_in_circle book decisions p t ≡ false → formula_form (known_form book adj table) t ≡ place_form book decisions p t
    formed_is (place.Cell a) is undecided free =
        sym same_form
        ∙ sym (form_is book decisions a ∙ (λ i. decision_or (undecided i) (if free i then Circular else entry_form (forms_of book decisions) (is i))))
    formed_is (place.Side k) is undecided free = sym same_form ∙ sym (ap (λ w. if w then Circular else formula_form (forms_of book decisions) t) free)

    -- ---- what is looked at
    opened : (b : Cell) → is_open_text book adj b ≡ true → (decisions b ≡ None) × (contains_key book.texts b ≡ true)
    opened b h = by (decisions b) h
      where
        by : (d : Option ℕ) → (not (is_some d) && contains_key book.texts b) ≡ true → (d ≡ None) × (contains_key book.texts b ≡ true)
        by None h = (refl, h)
        by (Some j) h = absurd (true≢false (sym h))

    is_opened : (b : Cell) → decisions b ≡ None → contains_key book.texts b ≡ true → is_open_text book adj b ≡ true
    is_opened b undecided there = (λ i. not (is_some (undecided i)) && contains_key book.texts b) ∙ there

    looking : (a b : Cell) → entry book a ≡ Some (Formula t) → is_circular book (λ c. is_some (decisions c)) a ≡ false
        → LooksFrom (is_circular book (λ c. is_some (decisions c)) a) (forms_of book decisions) (entry book a) b ≡ Contains (part_of (known_form book adj table) t).looks b
    looking a b is free = (λ i. LooksFrom (free i) (forms_of book decisions) (is i) b) ∙ ap (λ cells. Contains cells b) same_looks

    pub looks_there : (p : Place) → IsTreeOf book p t → decision_at decisions p ≡ None → is_in_circle book decisions p t ≡ false
        → (b : Cell) → Contains (part_of (known_form book adj table) t).looks b × (is_open_text book adj b ≡ true) → PlaceLooksAt book decisions p t b
    looks_there (place.Cell a) is undecided free b h =
        let o = opened b h.1 in
        (undecided, o.0, o.1, subst (λ T. T) (sym (looking a b is free)) h.0)
    looks_there (place.Side k) is undecided free b h = let o = opened b h.1 in (o.0, o.1, subst (λ cells. Contains cells b) (sym same_looks) h.0)

    pub there_looks : (p : Place) → IsTreeOf book p t → decision_at decisions p ≡ None → is_in_circle book decisions p t ≡ false
        → (b : Cell) → PlaceLooksAt book decisions p t b → Contains (part_of (known_form book adj table) t).looks b × (is_open_text book adj b ≡ true)
    there_looks (place.Cell a) is undecided free b h = (subst (λ T. T) (looking a b is free) h.3, is_opened b h.1 h.2)
    there_looks (place.Side k) is undecided free b h = (subst (λ cells. Contains cells b) same_looks h.2, is_opened b h.0 h.1)

-- ---- a cell that is to be decided is its number, and looks at nothing
pub decided_is : (book : Book) (decisions : Decisions) (p : Place) (t : Tree) (j : ℕ) → decision_at decisions p ≡ Some j → Form (Affine (open_decision j)) ≡ place_form book decisions p t
decided_is book decisions (place.Cell a) t j e = sym (decision_is_itself book decisions a j e)
decided_is book decisions (place.Side k) t j e = cc

pub decided_looks : (book : Book) (decisions : Decisions) (p : Place) (t : Tree) (j : ℕ) → decision_at decisions p ≡ Some j → (b : Cell) → PlaceLooksAt book decisions p t b → ⊥
decided_looks book decisions (place.Cell a) t j e b h = let n : decisions a ≡ None = h.0 in cc
decided_looks book decisions (place.Side k) t j e b h = cc

-- ---- what a form is under every assignment
pub value_of_place : (book : Book) (decisions : Decisions) (p : Place) (t : Tree) → IsTheValue book decisions p t (place_form book decisions p t)
value_of_place book decisions (place.Cell a) t = λ f h x. form_is_the_value book decisions a f h x
value_of_place book decisions (place.Side k) t = λ f h x. side_is_the_value book decisions t f h x

-- a formula is that of its cell
one_formula : (t u : Tree) → Some (Formula t) ≡ Some (Formula u) → t ≡ u
one_formula t u e = cc

pub refused_rightly : (book : Book) (decisions : Decisions) (p : Place) (t : Tree) → IsTreeOf book p t → IsRightly book decisions t (place_form book decisions p t)
refused_rightly book decisions (place.Cell a) t is = λ at cause h.
    let r : HasRefuted book decisions a at cause = refusals_are_right book decisions a at cause h in
    subst (λ u. IsRefuted (λ x. val book (overriding decisions x)) u at cause) (one_formula r.formula t (sym r.is_formula ∙ is)) r.refuted
refused_rightly book decisions (place.Side k) t is = λ at cause h. side_refusal book decisions t at cause h
