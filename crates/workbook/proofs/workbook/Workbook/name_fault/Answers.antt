use Rattle.std.proofs.Common.{◌≡◌, ◌∙◌, List, ap, length, sym}
use Rattle.std.specs.Prelude.{nat_lt, option_map}
use Rattle.cell_refs.specs.declared.cell.SheetId.{SheetId}
use Rattle.cell_refs.specs.declared.limits.TheConstants.{NAMES}
use Rattle.workbook.specs.Naming.{names_after}
use Rattle.workbook.specs.State.{Name}
use Rattle.workbook.specs.Naming as naming
use Rattle.workbook.proofs.NameEdits.{if_full, if_full_is, too_many}
use Rattle.workbook.proofs.NameRows.{is_there}
use Rattle.workbook.proofs.workbook.Workbook.name_fault.Goals as goal

pub returns-then-is_full : goal.returns-then-is_full
returns-then-is_full c =
    let s = c.args.self.now in
    let sheet = option_map (λ (s : SheetId). s.0) c.args.sheet in
    let name = c.args.name.now in
    let text = c.args.text.now in
    let there : c.is_some-is_there.result ≡ naming.is_there s.names sheet name =
    c.is_some-is_there.ensures ∙ is_there c.find.result c.names.result.now sheet name c.find.ensures
    ∙ ap (λ (ns : List Name). naming.is_there ns sheet name) c.names.ensures.names in
    let many : c.is_full.result ≡ nat_lt NAMES (length (names_after s sheet name text)) =
    too_many c.is_full.result c.is_some-is_there.result c.len.result s sheet name text c.is_full.ensures there
    (c.len.ensures ∙ ap (λ (ns : List Name). length ns) c.names-2.ensures.names) in
    ap if_full (sym c.if-is_full.true)
    ∙ if_full_is s sheet name text c.is_full.result (sym c.is_name.ensures ∙ c.if-not-is_name.false) (sym c.is_long.ensures ∙ c.if-is_long.false)
    (sym c.is_long-else-is_long.ensures ∙ c.if-is_long-2.false) many

pub returns : goal.returns
returns c =
    let s = c.args.self.now in
    let sheet = option_map (λ (s : SheetId). s.0) c.args.sheet in
    let name = c.args.name.now in
    let text = c.args.text.now in
    let there : c.is_some-is_there.result ≡ naming.is_there s.names sheet name =
    c.is_some-is_there.ensures ∙ is_there c.find.result c.names.result.now sheet name c.find.ensures
    ∙ ap (λ (ns : List Name). naming.is_there ns sheet name) c.names.ensures.names in
    let many : c.is_full.result ≡ nat_lt NAMES (length (names_after s sheet name text)) =
    too_many c.is_full.result c.is_some-is_there.result c.len.result s sheet name text c.is_full.ensures there
    (c.len.ensures ∙ ap (λ (ns : List Name). length ns) c.names-2.ensures.names) in
    ap if_full (sym c.if-is_full.false)
    ∙ if_full_is s sheet name text c.is_full.result (sym c.is_name.ensures ∙ c.if-not-is_name.false) (sym c.is_long.ensures ∙ c.if-is_long.false)
    (sym c.is_long-else-is_long.ensures ∙ c.if-is_long-2.false) many
