use Rattle.std.proofs.Common.{subst, sym}
use Rattle.std.specs.Prelude.{All, option_map}
use Rattle.cell_refs.specs.declared.cell.SheetId.{SheetId}
use Rattle.workbook.specs.Scoped.{IsShort}
use Rattle.workbook.proofs.NameEdits.{cause_told, short_after, text_short}
use Rattle.workbook.proofs.workbook.Workbook.name.Goals as goal

pub returns-in-Some : goal.returns-in-Some
returns-in-Some c = cause_told c.args.self.now (option_map (λ (s : SheetId). s.0) c.args.sheet) c.args.name.now c.args.text.now c.in-Some.fault (sym c.in-Some.ensures)

pub rename-requires : goal.rename-requires
rename-requires c =
    let s = c.args.self.now in
    let sheet = option_map (λ (s : SheetId). s.0) c.args.sheet in
    record {
      short = subst (All IsShort) (sym c.in-Ok.ensures.names)
          (short_after s sheet c.args.name.now c.args.text.now (text_short s sheet c.args.name.now c.args.text.now (sym c.in_default.ensures)) c.in-Ok.ensures.short);
    }
