-- Each statement of names is whole.
use Rattle.std.proofs.Common.{◌≡◌, ◌<◌, ℕ, length, map, slice_get, Some, None, refl, subst}
use Rattle.std.specs.Prelude.{All}
use Rattle.std.specs.List.{AllByRecursion, range_with_len}
use Rattle.std.proofs.lemmas.List.Elements.{All-from_recursion}
use Rattle.recalculation.proofs.Lists.{each_weaker}
use Rattle.solver_names.specs.Faults.{all_rows, decisions_of, faults, first}
use Rattle.solver_names.specs.Read.{read_in}
use Rattle.solver_names.specs.Sides.{sides_in}
use Rattle.solver_names.specs.Statement.{Statement}
use Rattle.solver_names.specs.Stated.{different, different_cells, numbered, stated}
use Rattle.solver_names.proofs.Faultless.{no_fault}
use Rattle.solver_names.proofs.GroupLaws.{members_below, members_distinct}
use Rattle.solver_names.proofs.NoFaults.{different_decided}
use Rattle.cell_refs.specs.Listed.{IsListed}
use Rattle.workbook.specs.State.{State}
use Rattle.statement_laws.specs.Laws.{GroupsAreLeftSides, IsWhole, RowIsThere, StandOnce, StatementsAreWhole}
use Rattle.statement_laws.proofs.ReadNames.{count_in, decisions_chosen, objective_there}
use Rattle.statement_laws.proofs.RowPlaces.{rows_are_there}
use Rattle.statement_laws.proofs.SideNumbers.{sides_own, sides_there}

whole : (book : State) (sheet : ℕ) → sheet < length book.sheets → first (faults (read_in book sheet)) ≡ None → IsWhole book (stated sheet (read_in book sheet))
whole book sheet there none =
    let r = read_in book sheet in
    let ks = range_with_len 1 (count_in book sheet) in
    let chosen = decisions_chosen book sheet there in
    let groups = different r.constraints (decisions_of r) in
    let below = λ (j : ℕ). j < length (decisions_of r) in
    record {
      distinct = chosen.distinct;
      decisions = All-from_recursion (IsListed book.sheets) (decisions_of r) chosen.listed;
      objective = objective_there book sheet there;
      rows = All-from_recursion (RowIsThere book.sheets (sides_in book sheet)) (numbered 1 (all_rows r.constraints))
          (rows_are_there book sheet there (sides_in book sheet) ks refl none (sides_there book sheet ks));
      numbers = sides_own book sheet there (count_in book sheet);
      members = All-from_recursion (All below) groups (each_weaker (AllByRecursion below) (All below) (All-from_recursion below) groups (members_below r none));
      once = All-from_recursion StandOnce groups (members_distinct r none);
    }

pub statements_are_whole : StatementsAreWhole
statements_are_whole book sheet s there h =
    let r = no_fault (stated sheet (read_in book sheet)) s (first (faults (read_in book sheet))) h in
    subst (IsWhole book) r.1 (whole book sheet there r.0)

pub groups_are_left_sides : GroupsAreLeftSides
groups_are_left_sides book sheet s h =
    let r = no_fault (stated sheet (read_in book sheet)) s (first (faults (read_in book sheet))) h in
    subst (λ (t : Statement). map (map (slice_get t.decisions)) t.different ≡ map (map Some) (different_cells (read_in book sheet).constraints)) r.1 (different_decided (read_in book sheet) r.0)
