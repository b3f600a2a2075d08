use Rattle.std.proofs.Common.{◌≡◌, false, List, ◌∙◌, subst}
use Rattle.kept_tables.specs.Tables.{is_for_once}
use Rattle.kept_forms.specs.Tables.{SheetKept, is_searching, sheets_in}
use Rattle.kept_forms.proofs.Once.{once_own}
use Rattle.kept_forms.proofs.form_tables.FormTables.is_for_once.Goals as goal

pub returns-in-Some : goal.returns-in-Some
returns-in-Some c =
    subst (λ (xs : List SheetKept). false ≡ is_for_once (is_searching c.args.searching.now) (sheets_in xs) c.args.sheet.0) (c.deref.ensures.value ∙ c.self.view_is)
    (once_own (is_searching c.args.searching.now) c.deref.result.now c.args.sheet.0 c.in-Some.field-0 c.in-Some.ensures.found)
