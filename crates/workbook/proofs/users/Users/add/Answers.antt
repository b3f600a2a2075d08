use Rattle.std.proofs.Common.{◌≡◌, ◌∙◌, None, Some, ap, subst, sym}
use Rattle.std.specs.Prelude.{is_some, string_bytes}
use Rattle.std.specs.BTreeMap.{get_by_text}
use Rattle.std.proofs.lemmas.Map.Text.{btree_map_updates_text}
use Rattle.workbook.specs.Users.{Grows}
use Rattle.workbook.proofs.Covered.{grown_at}
use Rattle.workbook.proofs.users.Users.add.Goals as goal

pub returns-in-Some-clause-grows : goal.returns-in-Some-clause-grows
returns-in-Some-clause-grows c =
    let before = c.args.self.now.cells in
    let cells = c.add_cell.new.cells in
    let after = c.get_mut.follows.lender cells in
    grown_at before after c.as_str.result.now cells
    (btree_map_updates_text c.as_str.result.now before after (Some cells) ((c.get_mut.follows.holds cells).3 (ap is_some (sym c.in-Some.ensures.value))))
    (Some c.in-Some.cells.now) (sym c.in-Some.ensures.value) c.add_cell.ensures.others

pub returns-in-Ok-clause-grows : goal.returns-in-Ok-clause-grows
returns-in-Ok-clause-grows c =
    let before = c.get_mut.follows.lender-at-none in
    let cells = c.add_cell-2.new.cells in
    let letters = string_bytes c.in_ok-letters.letters in
    let none : get_by_text before letters ≡ None =
    ap (λ m. get_by_text m letters) c.get_mut.follows.holds-at-none ∙ ap (get_by_text c.args.self.now.cells) (sym c.as_str.ensures.value) ∙ sym c.in_default.ensures.value in
    subst (λ m. Grows (record { cells = m }) (record { cells = c.insert.new.self })) c.get_mut.follows.holds-at-none
    (grown_at before c.insert.new.self letters cells (btree_map_updates_text letters before c.insert.new.self (Some cells) c.in-Ok.ensures.updates) None none (λ q has. absurd cc))
