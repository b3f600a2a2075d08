use Rattle.std.proofs.Common.{◌≡◌, ◌∙◌, [], List, None, ap, map, subst}
use Rattle.std.specs.Prelude.{string_bytes, zip}
use Rattle.cell_refs.specs.declared.cell.Cell.{Cell}
use Rattle.workbook.specs.Several.{first_without_room}
use Rattle.workbook.proofs.Covered.{all_grown, covered_alike}
use Rattle.workbook.proofs.Keeping.{the_state}
use Rattle.workbook.proofs.Severally.{contents_alike, kept_alike}
use Rattle.workbook.proofs.workbook.Workbook.set_all.Goals as goal

pub invariant_of-self : goal.invariant_of-self
invariant_of-self c =
    record {
      kept =
          kept_alike c.self.inside.cells.entries c.put_each.new.cells.entries c.in_default.ensures.err c.self.inside.sheets c.self.inside.names c.self.inside.formulas
          c.self.invariant.kept;
      covered =
          covered_alike c.put_each.new.users c.self.inside.cells.entries c.put_each.new.cells.entries
          (all_grown c.self.inside.users c.put_each.new.users c.self.inside.cells.entries c.put_each.ensures.grows c.self.invariant.covered) c.in_default.ensures.err;
    }

pub returns-in_default : goal.returns-in_default
returns-in_default c =
    let is = c.cells-cells.ensures in (
      subst (λ (l : List Cell). first_without_room c.args.self.now.contents (zip l (map string_bytes c.args.texts.now)) ≡ None) is c.in-Ok.ensures.0,
      subst (λ (l : List Cell). zip l (map string_bytes c.args.texts.now) ≡ [] → ⊥) is c.in_default.ensures.some,
      ap (λ m. the_state c.self.inside.sheets m c.self.inside.names)
          (contents_alike c.self.inside.cells.entries c.put_each.new.cells.entries c.in_default.ensures.err)
          ∙ c.self.view_is,
    )
