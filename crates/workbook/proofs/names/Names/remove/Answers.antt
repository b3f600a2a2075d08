use Rattle.std.proofs.Common.{subst, sym}
use Rattle.std.specs.Prelude.{option_map}
use Rattle.cell_refs.specs.declared.cell.SheetId.{SheetId}
use Rattle.workbook.specs.Keyed.{AllAreKeyed}
use Rattle.workbook.proofs.EditedKeys.{gone}
use Rattle.workbook.proofs.NameEdits.{removed_keyed}
use Rattle.workbook.proofs.names.Names.remove.Goals as goal

pub invariant_of-self : goal.invariant_of-self
invariant_of-self c =
    subst AllAreKeyed (sym c.remove_key.ensures.entries)
    (removed_keyed c.in_ok-key.key c.args.name.now c.in_ok-key.ensures.letters c.self.inside.names.entries c.self.invariant)

pub returns-clause-ok : goal.returns-clause-ok
returns-clause-ok c =
    gone c.in_ok-key.key (option_map (λ (s : SheetId). s.0) c.args.sheet) c.args.name.now c.self.inside.names.entries c.remove_key.new.names.entries c.args.self.now c.self.view_is
    c.in_ok-key.ensures.letters c.in_ok-key.ensures.sheet c.self.invariant c.remove_key.ensures.unique c.remove_key.ensures.entries
