use Rattle.std.proofs.Common.{◌≡◌, Ok, map, rules, subst}
use Rattle.std.proofs.lemmas.Iterator.{YieldsList-from_map_by}
use Rattle.std.proofs.lemmas.Iterator.Consumers.{YieldsList-at, YieldsList-from_rest, map_from_collect}
use Rattle.std.specs.Prelude.{All}
use Rattle.workbook.specs.TextCells.{AreTextCells, IsRead, listed_cells}
use Rattle.workbook.proofs.TextCells.{all_read, are_text_cells, read_held, read_of}
use Rattle.workbook.proofs.workbook.Workbook.text_cells.Goals as goal

-- what is read of the cells is read of what is held
same : (c : goal.In_ok-collect) → map read_of c.in_ok-collect.field-0.items ≡ map read_held c.self.inside.cells.entries
same c =
    map_from_collect {E = Unit {0}} (Ok c.in_ok-collect.field-0) c.in_ok-collect.ensures.ran
    (YieldsList-from_map_by _ read_of read_held (YieldsList-at c.map-cells.ensures.source (YieldsList-from_rest c.self.inside.cells.entries c.iter.ensures.rest)) c.map-cells.ensures.closure (λ x r q k. search rules))

pub returns-clause-listed : goal.returns-clause-listed
returns-clause-listed c =
    subst (λ s. AreTextCells s.contents (listed_cells c.in_ok-collect.field-0.items)) c.self.view_is
    (are_text_cells c.self.inside.cells.entries c.in_ok-collect.field-0.items c.iter.ensures.ordered (same c))

pub returns-clause-read : goal.returns-clause-read
returns-clause-read c =
    subst (λ s. All (IsRead s) c.in_ok-collect.field-0.items) c.self.view_is
    (all_read c.self.inside.sheets c.self.inside.names c.self.inside.cells.entries c.self.inside.formulas c.self.invariant.kept c.self.inside.cells.entries c.in_ok-collect.field-0.items c.iter.ensures.found (same c))
