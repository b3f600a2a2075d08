-- Tables that have the forms of all places tell the form of each.
use Rattle.std.specs.Prelude.{is_some, not, ◌&&◌, IsSome}
use Rattle.std.proofs.Common.{◌≡◌, refl, sym, ap, ◌∙◌, Bool, true, false, if◌then◌else◌, List, Option, Some, None, option_map, ℕ, length}
use Rattle.std.specs.Option.{option_and_then}
use Rattle.std.specs.FinMap.{keys}
use Rattle.cell_refs.specs.declared.cell.Cell.{Cell}
use Rattle.formula_ast.specs.Tree.{Tree}
use Rattle.sheet_model.specs.declared.value.Value.TheVariants as value
use Rattle.recalculation.specs.Entries.{Book, Entry, Constant, Formula, entry}
use Rattle.recalculation.specs.Entries as said
use Rattle.recalculation.specs.Walks.{has_walk, is_circular, is_formula, steps_to}
use Rattle.form_values.specs.declared.abs.Abs.TheVariants.{Known}
use Rattle.workbook.specs.Contents.{content_of, kind_of}
use Rattle.workbook.specs.Kinds.{book_of}
use Rattle.workbook.specs.State.{State}
use Rattle.cell_refs.specs.declared.place.Place.{Place}
use Rattle.cell_refs.specs.declared.place.Place.TheVariants as place
use Rattle.form_extraction.specs.declared.forms.CellForm.{CellForm}
use Rattle.form_extraction.specs.declared.forms.CellForm.TheVariants.{Circular}
use Rattle.form_extraction.specs.Looked.{forms_of, side_form}
use Rattle.form_extraction.specs.Places.{decision_or, entry_form, form_of, numbered_in}
use Rattle.form_extraction.proofs.Agreeing.{form_is}
use Rattle.form_extraction.proofs.States.{decision_is_itself, malformed_is_malformed}
use Rattle.needed_cells.specs.FromExtract.{form_said}
use Rattle.needed_cells.specs.FromExtract.{Table, form_at as kept_at}
use Rattle.needed_cells.proofs.FromExtract.{said_plain}
use Rattle.form_needs.specs.FromSheetProblems.{form_at}
use Rattle.form_needs.specs.FromSheetProblems.{Sides, tree_of}
use Rattle.needed_cells.specs.Settled.{HasEntry, IsSettled}
use Rattle.needed_forms.specs.Told.{decided_or, refusal_by_kind, refusal_of, told_by, told_form, told_refusal}

-- ---- forms
module _ (book : Book) (decisions : List Cell) (a : Cell) where
  abbrev walks : Bool
  walks = has_walk (keys book.texts) (steps_to book (λ b. is_some (numbered_in decisions b))) (length (keys book.texts)) a

  -- the form of a cell that isn't to be decided, by what it says
  of_entry : (e : Option Entry) → numbered_in decisions a ≡ None → entry book a ≡ e
      → form_of book (numbered_in decisions) a
      ≡ (if is_formula e && (not (is_some (numbered_in decisions a)) && walks) then Circular else entry_form (forms_of book (numbered_in decisions)) e)
  of_entry e d q =
      form_is book (numbered_in decisions) a
      ∙ ap (λ d. decision_or d (if is_circular book (λ b. is_some (numbered_in decisions b)) a then Circular else entry_form (forms_of book (numbered_in decisions)) (entry book a))) d
      ∙ ap (λ e. if is_formula e && (not (is_some (numbered_in decisions a)) && walks) then Circular else entry_form (forms_of book (numbered_in decisions)) e) q

module _ (book : Book) (sides : Sides) (decisions : List Cell) (table : Table) (settled : IsSettled book sides decisions table) where
  -- a table has the form of each place whose form can be kept
  kept : (p : Place) → HasEntry book sides decisions p → kept_at table p ≡ form_at book sides decisions p
  kept p h = by (kept_at table p) refl (settled.all p h)
    where
      by : (o : Option CellForm) → kept_at table p ≡ o → IsSome o → kept_at table p ≡ form_at book sides decisions p
      by (Some f) e s = e ∙ sym (settled.forms p f e).1
      by None e s = cc

  told_cell : (a : Cell) → told_form book decisions table (place.Cell a) ≡ form_at book sides decisions (place.Cell a)
  told_cell a = by (numbered_in decisions a) refl (entry book a) refl
    where
      by : (d : Option ℕ) → numbered_in decisions a ≡ d → (e : Option Entry) → entry book a ≡ e
          → decided_or d (told_by e (kept_at table (place.Cell a))) ≡ form_at book sides decisions (place.Cell a)
      by (Some j) d e q = ap Some (sym (decision_is_itself book (numbered_in decisions) a j d))
      by None d None q = ap Some (sym (of_entry book decisions a None d q))
      by None d (Some (Constant v)) q = ap Some (sym (of_entry book decisions a (Some (Constant v)) d q))
      by None d (Some (Formula t)) q = kept (place.Cell a) (ap is_formula q, d)
      by None d (Some said.Malformed) q = ap Some (sym (malformed_is_malformed book (numbered_in decisions) a d q))

  told_side : (k : ℕ) → told_form book decisions table (place.Side k) ≡ form_at book sides decisions (place.Side k)
  told_side k = by (tree_of sides k) refl
    where
      none : (o : Option CellForm) → kept_at table (place.Side k) ≡ o → tree_of sides k ≡ None → o ≡ None
      none None e q = refl
      none (Some f) e q = let m : false ≡ true = sym (ap is_some q) ∙ (settled.forms (place.Side k) f e).0 in cc

      by : (o : Option Tree) → tree_of sides k ≡ o → kept_at table (place.Side k) ≡ form_at book sides decisions (place.Side k)
      by (Some t) q = kept (place.Side k) (ap is_some q)
      by None q = none (kept_at table (place.Side k)) refl q ∙ sym (ap (option_map (side_form book (numbered_in decisions))) q)

  pub told_is : (p : Place) → told_form book decisions table p ≡ form_at book sides decisions p
  told_is (place.Cell a) = told_cell a
  told_is (place.Side k) = told_side k

  -- so they tell what refuses a place
  pub refusal_is : (p : Place) → told_refusal book decisions table p ≡ option_and_then (refusal_of p) (form_at book sides decisions p)
  refusal_is p = ap (option_and_then (refusal_of p)) (told_is p)

-- ---- what a text says, by its kind
-- no text says that a cell is empty
never_empty : (s : State) (a : Cell) → entry (book_of s) a ≡ Some (Constant value.Empty) → ⊥
never_empty s a e =
    let text : form_said (entry (book_of s) a) None ≡ Some (Known (value.Text (content_of s.contents a))) = said_plain s a None (ap kind_of e) in
    let empty : form_said (entry (book_of s) a) None ≡ Some (Known value.Empty) = ap (λ e. form_said e None) e in
    let both : Some (Known (value.Text (content_of s.contents a))) ≡ Some (Known value.Empty) = sym text ∙ empty in
    cc

by_kind : (p : Place) (e : Option Entry) (kept : Option CellForm) → (e ≡ Some (Constant value.Empty) → ⊥)
    → refusal_by_kind p (kind_of e) kept ≡ option_and_then (refusal_of p) (told_by e kept)
by_kind p None kept h = refl
by_kind p (Some (Constant (value.Number y))) kept h = refl
by_kind p (Some (Constant (value.Text t))) kept h = refl
by_kind p (Some (Constant (value.Logical c))) kept h = refl
by_kind p (Some (Constant value.Empty)) kept h = absurd (h refl)
by_kind p (Some (Constant (value.Error k))) kept h = refl
by_kind p (Some (Formula t)) kept h = refl
by_kind p (Some said.Malformed) kept h = refl

-- what refuses a cell that isn't to be decided
pub open_refusal : (s : State) (decisions : List Cell) (table : Table) (a : Cell) → numbered_in decisions a ≡ None
    → refusal_by_kind (place.Cell a) (kind_of (entry (book_of s) a)) (kept_at table (place.Cell a)) ≡ told_refusal (book_of s) decisions table (place.Cell a)
open_refusal s decisions table a d =
    by_kind (place.Cell a) (entry (book_of s) a) (kept_at table (place.Cell a)) (never_empty s a)
    ∙ ap (λ d. option_and_then (refusal_of (place.Cell a)) (decided_or d (told_by (entry (book_of s) a) (kept_at table (place.Cell a))))) (sym d)

-- nothing refuses a cell that is to be decided
pub decided_refusal : (book : Book) (decisions : List Cell) (table : Table) (a : Cell) (j : ℕ) → numbered_in decisions a ≡ Some j
    → None ≡ told_refusal book decisions table (place.Cell a)
decided_refusal book decisions table a j d =
    ap (λ d. option_and_then (refusal_of (place.Cell a)) (decided_or d (told_by (entry book a) (kept_at table (place.Cell a))))) (sym d)
