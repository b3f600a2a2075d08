-- Each step answers what is to be answered, or makes what the next one needs.
use Rattle.std.proofs.Common.{◌≡◌, ◌≤◌, ◌∙◌, List, [], None, ap, length, subst, sym}
use Rattle.std.specs.Prelude.{All}
use Rattle.std.proofs.lemmas.Result.{err_from_is_err_and}
use Rattle.sheet_csv.specs.Sheet.{Record, sheet_records}
use Rattle.cell_refs.specs.declared.limits.TheConstants.{FORMULAS, TEXTS}
use Rattle.workbook.specs.Files.{bad_name_row}
use Rattle.workbook.specs.Gathered.{FitsSheet, texts_in_sheets}
use Rattle.workbook.specs.Opening.{ContentsFit, SheetsAreRead, formulas_in}
use Rattle.workbook.proofs.OpenLaws.{all_fit, name_fault, opened, room_for, same_texts, start, text_fault, whole}
use Rattle.workbook.proofs.workbook.Workbook.open.Goals as goal

pub texts_of-requires-clause-fit : goal.texts_of-requires-clause-fit
texts_of-requires-clause-fit c =
    subst (λ (l : List (List Record)). All FitsSheet l) (sym (c.deref.ensures.value ∙ c.in_ok-rows.ensures.1)) (all_fit c.args.files.now c.in_ok-rows.ensures.0)

pub returns-in_err-texts : goal.returns-in_err-texts
returns-in_err-texts c =
    let read : SheetsAreRead c.args.files.now = record { twins = c.in_ok-sheets.ensures.0; read = c.in_ok-rows.ensures.0 } in
    let p = err_from_is_err_and c.from_residual-in_err-texts.result c.from_residual-in_err-texts.ensures.1 in
    rw (p.1, p.2) (text_fault c.args.files.now c.args.names.now c.in_err-texts.field-0.0 c.deref.result.now (c.deref.ensures.value ∙ c.in_ok-rows.ensures.1) read c.in_err-texts.ensures)

pub returns-in_err-names : goal.returns-in_err-names
returns-in_err-names c =
    let fit : ContentsFit c.args.files.now = opened c.args.files.now c.deref.result.now (c.deref.ensures.value ∙ c.in_ok-rows.ensures.1) c.in_ok-sheets.ensures.0 c.in_ok-rows.ensures.0
    c.in_ok-texts.ensures.1 c.in_ok-texts.ensures.2 in
    let p = err_from_is_err_and c.from_residual-in_err-names.result c.from_residual-in_err-names.ensures.1 in
    rw (p.1, p.2) (name_fault c.args.files.now c.args.names.now c.in_err-names.field-0.0 c.in_ok-sheets.sheets c.in_ok-sheets.ensures.1 fit c.in_err-names.ensures)

pub with_texts-requires : goal.with_texts-requires
with_texts-requires c =
    let rows = c.deref.ensures.value ∙ c.in_ok-rows.ensures.1 in
    let texts = c.in_ok-texts.ensures.0 ∙ ap (texts_in_sheets 0) rows ∙ same_texts 0 c.args.files.now in
    room_for c.args.files.now c.in_ok-names.names c.in_ok-texts.texts.items c.empty.result
    (c.empty.ensures ∙ ap (λ s. start s c.in_ok-names.names) c.in_ok-sheets.ensures.1)
    texts (subst (λ l. length l ≤ TEXTS) (sym c.in_ok-texts.ensures.0) c.in_ok-texts.ensures.1)
    (subst (λ l. length (formulas_in l) ≤ FORMULAS) (sym c.in_ok-texts.ensures.0) c.in_ok-texts.ensures.2) c.in_ok-rows.ensures.0

pub returns : goal.returns
returns c =
    let rows = c.deref.ensures.value ∙ c.in_ok-rows.ensures.1 in
    let texts = c.in_ok-texts.ensures.0 ∙ ap (texts_in_sheets 0) rows ∙ same_texts 0 c.args.files.now in
    let fit : ContentsFit c.args.files.now = opened c.args.files.now c.deref.result.now rows c.in_ok-sheets.ensures.0 c.in_ok-rows.ensures.0
    c.in_ok-texts.ensures.1 c.in_ok-texts.ensures.2 in
    let told = c.in_ok-names.ensures in (
      record {
        contents = fit;
        read = told.0;
        good = subst (λ s. bad_name_row s [] (sheet_records c.args.names.now) ≡ None) c.in_ok-sheets.ensures.1 told.3;
      },
      told.1,
      whole c.args.files.now c.args.names.now c.in_ok-texts.texts.items c.empty.result c.in-Ok.workbook c.in_ok-sheets.sheets c.in_ok-names.names
          c.empty.ensures c.in_ok-sheets.ensures.1 told.4 texts c.in-Ok.ensures,
    )
