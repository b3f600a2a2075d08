-- What is kept stays right.
use Rattle.std.proofs.Common.{◌≡◌, Some, sym, subst, ◌∙◌}
use Rattle.cell_refs.specs.declared.cell.Cell.{Cell}
use Rattle.recalculation.specs.Entries.{Book}
use Rattle.cell_refs.specs.declared.place.Place.{Place}
use Rattle.cell_refs.specs.declared.place.Place.TheVariants as place
use Rattle.needed_forms.specs.FromFormExtraction.{CellForm}
use Rattle.needed_forms.specs.FromFormExtraction.{numbered_in}
use Rattle.kept_marks.specs.Marks.{AreForms, HasEntry, KeptForms}
use Rattle.kept_marks.specs.Marks as marks
use Rattle.kept_marks.proofs.Marked.{right_by_references_behind}
use Rattle.kept_marks.specs.FromTouchedPlaces.{form_at as form_of_place}
use Rattle.needed_forms.specs.FromExtract.{form_at}
use Rattle.needed_forms.specs.FromSheetProblems.{tree_of}
use Rattle.extract_incr.specs.Keeping.{AreKept, Kept}
use Rattle.extract_incr.specs.Laws.{EditsLeaveKept}

-- the forms of a table, by their places
abbrev forms_in : Kept → KeptForms
forms_in k = form_at k.table

module _ (book : Book) (k : Kept) where
  -- what is kept are the forms of places
  are_forms : AreKept book k → AreForms book (numbered_in k.decisions) (tree_of k.sides) (forms_in k)
  are_forms kept (place.Cell a) f at = kept (place.Cell a) f at
  are_forms kept (place.Side n) f at = kept (place.Side n) f at

  are_kept : AreForms book (numbered_in k.decisions) (tree_of k.sides) (forms_in k) → AreKept book k
  are_kept forms (place.Cell a) f at = forms (place.Cell a) f at
  are_kept forms (place.Side n) f at = forms (place.Side n) f at

pub edits_leave_kept : EditsLeaveKept
edits_leave_kept book other cells before after differ kept marked =
    are_kept other after
    (λ p f at. still p f
    (right_by_references_behind book other (numbered_in before.decisions) (tree_of before.sides) cells (forms_in before) differ (are_forms book before kept) p f (sym (marked.forms p) ∙ at)))
  where
    still : (p : Place) (f : CellForm)
        → marks.HasEntry other (numbered_in before.decisions) (tree_of before.sides) p × (form_of_place other (numbered_in before.decisions) (tree_of before.sides) p ≡ Some f)
        → marks.HasEntry other (numbered_in after.decisions) (tree_of after.sides) p × (form_of_place other (numbered_in after.decisions) (tree_of after.sides) p ≡ Some f)
    still p f h =
        subst (λ sides. marks.HasEntry other (numbered_in after.decisions) (tree_of sides) p × (form_of_place other (numbered_in after.decisions) (tree_of sides) p ≡ Some f)) (sym marked.sides)
        (subst (λ decisions. marks.HasEntry other (numbered_in decisions) (tree_of before.sides) p × (form_of_place other (numbered_in decisions) (tree_of before.sides) p ≡ Some f)) (sym marked.decisions) h)
