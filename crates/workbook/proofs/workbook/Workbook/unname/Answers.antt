use Rattle.std.proofs.Common.{subst, sym}
use Rattle.std.specs.Prelude.{All, option_map}
use Rattle.cell_refs.specs.declared.cell.SheetId.{SheetId}
use Rattle.workbook.specs.Scoped.{IsShort}
use Rattle.workbook.proofs.NameEdits.{short_without}
use Rattle.workbook.proofs.workbook.Workbook.unname.Goals as goal

pub rename-requires : goal.rename-requires
rename-requires c = record {
  short =
      subst (All IsShort) (sym c.in_ok-change.ensures.names)
      (short_without (option_map (λ (s : SheetId). s.0) c.args.sheet) c.args.name.now c.args.self.now.names c.in_ok-change.ensures.short);
}
