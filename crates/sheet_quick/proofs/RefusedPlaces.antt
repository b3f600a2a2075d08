-- Refusals of forms over decisions and parameters: each is right, and its cells lie on the sheets.
use Rattle.std.specs.Prelude.{All, Contains, is_some}
use Rattle.std.proofs.Common.{◌≡◌, refl, sym, ap, ◌∙◌, true, List, Option, Some, None, option_map, ℕ}
use Rattle.std.specs.FinMap.{get, contains_key}
use Rattle.std.proofs.lemmas.List.Elements.{All-contains}
use Rattle.cell_refs.specs.declared.cell.Cell.{Cell}
use Rattle.cell_refs.specs.declared.span.Span.{Span}
use Rattle.formula_ast.specs.Tree.{Tree}
use Rattle.workbook.specs.Contents.{tree_of as tree_said}
use Rattle.cell_refs.specs.Listed.{IsListed}
use Rattle.workbook.specs.Listed.{TextsAreListed}
use Rattle.workbook.specs.State.{State}
use Rattle.cell_refs.specs.declared.place.Place.{Place}
use Rattle.cell_refs.specs.declared.place.Place.TheVariants as place
use Rattle.form_extraction.specs.declared.forms.CellForm.TheVariants.{Refused}
use Rattle.form_extraction.specs.declared.forms.Why.{Why}
use Rattle.form_extraction.specs.declared.forms.Why.TheVariants as why
use Rattle.form_extraction.specs.Looked.{side_form}
use Rattle.form_extraction.specs.Places.{form_of, numbered_in}
use Rattle.form_extraction.proofs.Cells.{side_refusal}
use Rattle.form_extraction.proofs.Refuted.{refusals_are_right}
use Rattle.solver_names.specs.Statement.{Statement}
use Rattle.form_needs.specs.FromSheetProblems.{tree_of}
use Rattle.form_needs.specs.FirstRefusal.{FirstRefusal, NeedsWith}
use Rattle.form_needs.specs.Needed.{Asked, IsNeeded, asked_of, roots_of}
use Rattle.form_needs.specs.Needed as needed
use Rattle.form_needs.specs.declared.refusal.FormRefusal.{FormRefusal}
use Rattle.form_needs.specs.declared.refusal.FormRefusal.TheVariants as refusal
use Rattle.commands.specs.Refusals.{PlaceIsListed, RefusalIsListed}
use Rattle.open_forms.specs.FromSheetLinearModel.{IsRefutedAt, IsRight}

-- ---- needed places lie on sheets
text_is_listed : (book : State) (c : Cell) → TextsAreListed book → contains_key book.contents c ≡ true → IsListed book.sheets c
text_is_listed book c texts h = by (get book.contents c) refl
  where
    by : (o : Option (List ℕ)) → get book.contents c ≡ o → IsListed book.sheets c
    by None e = let no : is_some (get book.contents c) ≡ is_some {T = List ℕ} None = ap is_some e in cc
    by (Some text) e = texts c text e

module _ (book : State) (s : Statement) (roots : All (PlaceIsListed book.sheets) (roots_of s)) (texts : TextsAreListed book) where
  root_is_listed : (p : Place) → Contains (roots_of s) p → PlaceIsListed book.sheets p
  root_is_listed p i = All-contains (PlaceIsListed book.sheets) (roots_of s) p roots i

  looked_is_listed : (p : Place) (b : Cell) → needed.PlaceLooksAt (asked_of book s) p b → IsListed book.sheets b
  looked_is_listed (place.Cell a) b h = text_is_listed book b texts h.2
  looked_is_listed (place.Side k) b h = text_is_listed book b texts h.2.1

  needed_is_listed : (p : Place) → IsNeeded (asked_of book s) p → PlaceIsListed book.sheets p
  needed_is_listed _ (needed.root p i d) = root_is_listed p i
  needed_is_listed _ (needed.looked p b n l) = looked_is_listed p b l

  -- of whatever statement it is asked, the cells of its refusal do
  pub refusal_is_listed : (r : FormRefusal) → FirstRefusal (asked_of book s) r → RefusalIsListed book.sheets r
  refusal_is_listed (refusal.Malformed c) h = needed_is_listed (place.Cell c) h.holds.0
  refusal_is_listed (refusal.Circular p) h = needed_is_listed p h.1.holds.0
  refusal_is_listed (refusal.NotAffine p at) h = needed_is_listed p h.2.0
  refusal_is_listed (refusal.Undecided p at) h = needed_is_listed p h.2.0
  refusal_is_listed (refusal.Wide p) h = needed_is_listed p h.1.2.0
  refusal_is_listed (refusal.NotNumber p) h = root_is_listed p h.1.holds.root

-- ---- refusals are right
refuted : (q : Asked) (p : Place) (at : Span) (cause : Why) → NeedsWith q (Refused at cause) p → IsRefutedAt q p at cause
refuted q (place.Cell a) at cause h =
    let same : Some (form_of q.book (numbered_in q.decisions) a) ≡ Some (Refused at cause) = h.1 in
    let is : form_of q.book (numbered_in q.decisions) a ≡ Refused at cause = cc in
    let r = refusals_are_right q.book (numbered_in q.decisions) a at cause is in
    (r.formula, ap tree_said r.is_formula, r.refuted)
refuted q (place.Side k) at cause h = by (tree_of q.sides k) refl
  where
    by : (o : Option Tree) → tree_of q.sides k ≡ o → IsRefutedAt q (place.Side k) at cause
    by None e =
        let no : None ≡ Some (Refused at cause) = sym (ap (option_map (side_form q.book (numbered_in q.decisions))) e) ∙ h.1 in
        let never : ⊥ = cc in
        absurd never
    by (Some t) e =
        let same : Some (side_form q.book (numbered_in q.decisions) t) ≡ Some (Refused at cause) = sym (ap (option_map (side_form q.book (numbered_in q.decisions))) e) ∙ h.1 in
        let is : side_form q.book (numbered_in q.decisions) t ≡ Refused at cause = cc in
        (t, e, side_refusal q.book (numbered_in q.decisions) t at cause is)

pub refusal_is_right : (q : Asked) (r : FormRefusal) → FirstRefusal q r → IsRight q r
refusal_is_right q (refusal.Malformed c) h = tt
refusal_is_right q (refusal.Circular p) h = tt
refusal_is_right q (refusal.NotAffine p at) h = refuted q p at why.Break h.2
refusal_is_right q (refusal.Undecided p at) h = refuted q p at why.Undecided h.2
refusal_is_right q (refusal.Wide p) h = tt
refusal_is_right q (refusal.NotNumber p) h = tt
