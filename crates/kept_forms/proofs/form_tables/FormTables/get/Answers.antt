use Rattle.std.specs.Prelude.{slice_get}
use Rattle.std.proofs.Common.{◌≡◌, List, None, Some, sym, ap, ◌∙◌, subst}
use Rattle.kept_forms.specs.Tables.{SheetKept, kept_of}
use Rattle.kept_forms.proofs.Once.{read_found}
use Rattle.kept_forms.proofs.Placed.{inside, none_found}
use Rattle.kept_forms.proofs.form_tables.FormTables.get.Goals as goal

pub returns-in-Some : goal.returns-in-Some
returns-in-Some c =
    let tables = c.self.inside.tables.items in
    let place = c.in-Some.place in
    let sheet = c.args.sheet.0 in
    let found : (t : SheetKept) × (slice_get tables place ≡ Some t) × (t.sheet ≡ sheet) =
    subst (λ (xs : List SheetKept). (t : SheetKept) × (slice_get xs place ≡ Some t) × (t.sheet ≡ sheet)) c.deref.ensures.value c.in-Some.ensures.found in
    ap Some c.forms.ensures
    ∙ sym
    (subst (λ (xs : List SheetKept). kept_of xs sheet ≡ Some c.index.result.now.kept) c.self.view_is
    (read_found tables sheet place c.index.result.now c.self.invariant.one_each (inside tables place found.0 found.1) c.index.ensures found))

pub returns-in-None : goal.returns-in-None
returns-in-None c =
    sym
    (subst (λ (xs : List SheetKept). kept_of xs c.args.sheet.0 ≡ None) (c.deref.ensures.value ∙ c.self.view_is)
    (none_found c.deref.result.now c.args.sheet.0 c.in-None.ensures.none))
