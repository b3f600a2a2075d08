-- The numbers that the forms of places are, where forms are kept.
use Rattle.std.specs.Prelude.{is_some, not, ◌&&◌}
use Rattle.std.proofs.Common.{◌≡◌, refl, sym, ap, subst, ◌∙◌, Bool, true, false, true≢false, if◌then◌else◌, List, Option, Some, None, option_map, ℕ, length}
use Rattle.std.specs.Option.{option_and_then}
use Rattle.std.specs.FinMap.{keys}
use Rattle.cell_refs.specs.declared.cell.Cell.{Cell}
use Rattle.formula_ast.specs.Tree.{Tree}
use Rattle.sheet_model.specs.declared.value.Value.TheVariants as value
use Rattle.recalculation.specs.Entries.{Book, Entry, Constant, Formula, Malformed, entry}
use Rattle.recalculation.specs.Walks.{has_walk, is_formula, steps_to, is_circular}
use Rattle.affine_forms.specs.Forms.{AffineForm}
use Rattle.form_values.specs.declared.abs.Abs.TheVariants.{Known}
use Rattle.workbook.specs.Contents.{content_of, kind_of}
use Rattle.workbook.specs.Kinds.{book_of}
use Rattle.workbook.specs.State.{State}
use Rattle.cell_refs.specs.declared.place.Place.{Place}
use Rattle.cell_refs.specs.declared.place.Place.TheVariants as place
use Rattle.form_extraction.specs.declared.forms.CellForm.{CellForm}
use Rattle.form_extraction.specs.declared.forms.CellForm.TheVariants.{Circular}
use Rattle.form_extraction.specs.Looked.{forms_of, side_form}
use Rattle.form_extraction.specs.Places.{Decisions, decision_or, entry_form, form_in, form_of, numbered_in}
use Rattle.form_extraction.proofs.Agreeing.{form_is}
use Rattle.form_extraction.proofs.States.{decision_is_itself}
use Rattle.kept_forms.specs.FromExtract.{form_said}
use Rattle.kept_forms.specs.FromExtract.{Table, form_at as kept_at}
use Rattle.kept_forms.proofs.FromExtract.{said_plain}
use Rattle.solver_names.specs.Sides.{sides_in}
use Rattle.solver_names.specs.Statement.{Statement}
use Rattle.form_needs.specs.FromSheetProblems.{number_form}
use Rattle.form_needs.specs.FromSheetProblems.{Sides, tree_of}
use Rattle.kept_forms.specs.FromNeededCells.{IsSettled}
use Rattle.kept_forms.specs.FromExtractIncr.{Kept}
use Rattle.sheet_linear_model.specs.Inner.{IsKeptFor, number_at, number_for, number_in_form, number_said, number_unkept}

-- ---- cells without a formula
module _ (book : Book) (decisions : Decisions) (a : Cell) where
  abbrev walks : Bool
  walks = has_walk (keys book.texts) (steps_to book (λ b. is_some (decisions b))) (length (keys book.texts)) a

  -- the form of a cell that isn't to be decided is that of what it says, where that is no formula
  plain_form : (e : Option Entry) → decisions a ≡ None → entry book a ≡ e → is_formula e ≡ false → form_of book decisions a ≡ entry_form (forms_of book decisions) e
  plain_form e d s h =
      form_is book decisions a
      ∙ ap (λ d. decision_or d (if is_circular book (λ b. is_some (decisions b)) a then Circular else entry_form (forms_of book decisions) (entry book a))) d
      ∙ ap (λ e. if is_formula e && (not (is_some (decisions a)) && walks) then Circular else entry_form (forms_of book decisions) e) s
      ∙ ap (λ b. if b && (not (is_some (decisions a)) && walks) then Circular else entry_form (forms_of book decisions) e) h

-- no text says an empty value
never_empty : (s : State) (a : Cell) → entry (book_of s) a ≡ Some (Constant value.Empty) → ⊥
never_empty s a h =
    let plain : form_said (entry (book_of s) a) None ≡ Some (Known (value.Text (content_of s.contents a))) = said_plain s a None (ap kind_of h) in
    let empty : form_said (entry (book_of s) a) None ≡ Some (Known value.Empty) = ap (λ e. form_said e None) h in
    cc

module _ (s : State) (decisions : List Cell) (a : Cell) where
  abbrev form : CellForm
  form = form_of (book_of s) (numbered_in decisions) a

  abbrev plain : Option Entry → CellForm
  plain e = entry_form (forms_of (book_of s) (numbered_in decisions)) e

  said : (e : Option Entry) → numbered_in decisions a ≡ None → entry (book_of s) a ≡ e → is_formula e ≡ false → number_in_form (plain e) ≡ number_in_form form
  said e d h f = sym (ap number_in_form (plain_form (book_of s) (numbered_in decisions) a e d h f))

  said_number : (d : Option ℕ) (e : Option Entry) → numbered_in decisions a ≡ d → entry (book_of s) a ≡ e → (d ≡ None → is_formula e ≡ true → ⊥) → number_said d (kind_of e) ≡ number_in_form form
  said_number (Some j) e d h never = sym (ap number_in_form (decision_is_itself (book_of s) (numbered_in decisions) a j d))
  said_number None None d h never = said None d h refl
  said_number None (Some (Constant (value.Number x))) d h never = said (Some (Constant (value.Number x))) d h refl
  said_number None (Some (Constant (value.Text t))) d h never = said (Some (Constant (value.Text t))) d h refl
  said_number None (Some (Constant (value.Logical b))) d h never = said (Some (Constant (value.Logical b))) d h refl
  said_number None (Some (Constant value.Empty)) d h never = absurd (never_empty s a h)
  said_number None (Some (Constant (value.Error k))) d h never = said (Some (Constant (value.Error k))) d h refl
  said_number None (Some (Formula t)) d h never = absurd (never refl refl)
  said_number None (Some Malformed) d h never = said (Some Malformed) d h refl

-- ---- places
abbrev number_by : Option CellForm → Option AffineForm
number_by o = option_and_then number_form (option_and_then form_in o)

missing : (o : Option CellForm) → o ≡ None → is_some o ≡ true → ⊥
missing o e h = true≢false (sym h ∙ ap is_some e)

kept_number : (book : Book) (sides : Sides) (decisions : List Cell) (table : Table) → IsSettled book sides decisions table → (p : Place) (f : CellForm) → kept_at table p ≡ Some f
    → number_in_form f ≡ number_at book sides decisions p
kept_number book sides decisions table settled p f h = sym (ap number_by (settled.forms p f h).1)

unkept_number : (s : State) (sides : Sides) (decisions : List Cell) (table : Table) → IsSettled (book_of s) sides decisions table → (p : Place) → kept_at table p ≡ None
    → number_unkept (book_of s) decisions p ≡ number_at (book_of s) sides decisions p
unkept_number s sides decisions table settled (place.Cell a) h =
    said_number s decisions a (numbered_in decisions a) (entry (book_of s) a) refl refl (λ d f. missing (kept_at table (place.Cell a)) h (settled.all (place.Cell a) (f, d)))
unkept_number s sides decisions table settled (place.Side k) h = by (tree_of sides k) refl
  where
    by : (o : Option Tree) → tree_of sides k ≡ o → None ≡ number_at (book_of s) sides decisions (place.Side k)
    by None e = sym (ap (λ o. number_by (option_map (side_form (book_of s) (numbered_in decisions)) o)) e)
    by (Some t) e = absurd (missing (kept_at table (place.Side k)) h (settled.all (place.Side k) (ap is_some e)))

-- ---- what is kept for a statement
module _ (book : State) (s : Statement) (k : Kept) (h : IsKeptFor book s k) where
  settled : IsSettled (book_of book) (sides_in book s.sheet) s.decisions k.table
  settled =
      subst (λ (sides : Sides). IsSettled (book_of book) sides s.decisions k.table) h.sides
      (subst (λ (decisions : List Cell). IsSettled (book_of book) k.sides decisions k.table) h.decisions h.settled)

  pub number_kept : (p : Place) (f : CellForm) → kept_at k.table p ≡ Some f → number_in_form f ≡ number_for book s p
  number_kept p f e = kept_number (book_of book) (sides_in book s.sheet) s.decisions k.table settled p f e

  pub number_not_kept : (p : Place) → kept_at k.table p ≡ None → number_unkept (book_of book) s.decisions p ≡ number_for book s p
  number_not_kept p e = unkept_number book (sides_in book s.sheet) s.decisions k.table settled p e
