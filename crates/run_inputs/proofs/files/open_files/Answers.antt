use Rattle.std.proofs.Common.{◌≤◌, ℕ, List, IfSome, length, arith, subst, sym}
use Rattle.std.specs.Prelude.{Err, String}
use Rattle.std.specs.FinMap.{get}
use Rattle.std.specs.Global.{Global}
use Rattle.std.proofs.lemmas.Result.{err_from_is_err_and}
use Rattle.cell_refs.specs.declared.limits.TheConstants.{SHEETS}
use Rattle.command_line.specs.Read.{named_of}
use Rattle.command_line.specs.Words.{texts_of}
use Rattle.run_inputs.specs.Inputs.{ReadsFile, ReadsSheets}
use Rattle.run_inputs.specs.declared.stop.Input.TheVariants as input
use Rattle.run_inputs.proofs.FileLaws.{length_texts}
use Rattle.run_inputs.proofs.FoundLaws.{files_open, files_stop, names_end, sheets_end}
use Rattle.run_inputs.proofs.files.open_files.Goals as goal

pub returns-in-Ok-clause-opens : goal.returns-in-Ok-clause-opens
returns-in-Ok-clause-opens g c =
    let count = length_texts c.args.named.now.sheets.items in
    let few : length (named_of c.args.named.now).sheets ≤ SHEETS = omega arith in
    let names = rw c.as_str.ensures.value at c.in_ok-names.ensures.reads in
    let sheets = rw (c.in_ok-names.ensures.same, c.deref.ensures.value) at c.in_ok-sheets.ensures.reads in
    files_open (g.F.Folder.content c.args.folder.now) (named_of c.args.named.now) c.in_ok-names.names c.in_ok-sheets.sheets c.deref-2.result.now c.deref-3.result.now c.in-Ok.book few names sheets c.deref-2.ensures.value c.deref-3.ensures.value c.in-Ok.ensures

pub returns-in-Some-clause-opens : goal.returns-in-Some-clause-opens
returns-in-Some-clause-opens g c =
    let count = length_texts c.args.named.now.sheets.items in
    let few : length (named_of c.args.named.now).sheets ≤ SHEETS = omega arith in
    let names = rw c.as_str.ensures.value at c.in_ok-names.ensures.reads in
    let sheets = rw (c.in_ok-names.ensures.same, c.deref.ensures.value) at c.in_ok-sheets.ensures.reads in
    files_stop (g.F.Folder.content c.args.folder.now) (named_of c.args.named.now) c.in_ok-names.names c.in_ok-sheets.sheets c.deref-2.result.now c.deref-3.result.now c.in-Err.fault c.in-Some.stop few names sheets c.deref-2.ensures.value c.deref-3.ensures.value c.in-Err.ensures (sym c.in-Some.ensures)

pub returns-in_err-names-clause-opens : goal.returns-in_err-names-clause-opens
returns-in_err-names-clause-opens g c =
    let count = length_texts c.args.named.now.sheets.items in
    let few : length (named_of c.args.named.now).sheets ≤ SHEETS = omega arith in
    let p = err_from_is_err_and c.from_residual.result c.from_residual.ensures.1 in
    let names = subst (λ (z : List ℕ). IfSome (g.F.Folder.content c.args.folder.now) (λ files. ReadsFile input.Names (get files z) (Err c.in_err-names.field-0.0))) c.as_str.ensures.value c.in_err-names.ensures.reads in
    rw (p.1, p.2) (names_end (g.F.Folder.content c.args.folder.now) (named_of c.args.named.now) c.in_err-names.field-0.0 few names)

pub returns-in_err-sheets-clause-opens : goal.returns-in_err-sheets-clause-opens
returns-in_err-sheets-clause-opens g c =
    let count = length_texts c.args.named.now.sheets.items in
    let few : length (named_of c.args.named.now).sheets ≤ SHEETS = omega arith in
    let names = rw c.as_str.ensures.value at c.in_ok-names.ensures.reads in
    let reads = rw c.in_ok-names.ensures.same at c.in_err-sheets.ensures.reads in
    let sheets = subst (λ (z : List (String Global)). IfSome (g.F.Folder.content c.args.folder.now) (λ files. ReadsSheets files (texts_of z) (Err c.in_err-sheets.field-0.0))) c.deref.ensures.value reads in
    let p = err_from_is_err_and c.from_residual-in_err-sheets.result c.from_residual-in_err-sheets.ensures.1 in
    rw (p.1, p.2) (sheets_end (g.F.Folder.content c.args.folder.now) (named_of c.args.named.now) c.in_ok-names.names c.in_err-sheets.field-0.0 few names sheets)
