use Rattle.std.proofs.Common.{◌≡◌, ◌∙◌, false, true, Some, ap, sym}
use Rattle.std.specs.Prelude.{option_map}
use Rattle.std.specs.Option.{option_map_or}
use Rattle.recalculation.specs.Entries.{Formula, Malformed}
use Rattle.workbook.specs.Held.{entry_of, spelled_tree}
use Rattle.workbook.specs.Kinds.{meant, with_names}
use Rattle.workbook.specs.Uses.{is_wanted, some_use}
use Rattle.workbook.specs.Known.{names_with}
use Rattle.workbook.proofs.NewMeanings.{answered, meant_alike, unused_alike}
use Rattle.workbook.proofs.renamed.saying_after.Goals as goal

pub returns-then-not-uses : goal.returns-then-not-uses
returns-then-not-uses c =
    let e = c.args.edit.now in
    let t = c.in-Some.spelled.value in
    let spelled : spelled_tree c.args.held.now ≡ Some t = ap (option_map (λ b. b.value)) c.in-Some.is in
    let used : some_use (is_wanted (Some e.name.now)) t ≡ false = ap (some_use (is_wanted (Some e.name.now))) (sym c.deref.ensures) ∙ sym c.uses.ensures ∙ c.if-not-uses.true in
    unused_alike e.sheets.now e.before.now (names_with e) e.name.now c.requires.others c.args.cell c.args.held.now c.requires.held t spelled used

pub returns-then-branch : goal.returns-then-branch
returns-then-branch c =
    let e = c.args.edit.now in
    let t = c.in-Some.spelled.value in
    let spelled : spelled_tree c.args.held.now ≡ Some t = ap (option_map (λ b. b.value)) c.in-Some.is in
    meant_alike e.sheets.now e.before.now (names_with e) e.name.now c.requires.others c.args.cell c.args.held.now c.requires.held t spelled
    (rw c.if-branch.true at c.in_ok-is_meant_alike.ensures)

pub returns : goal.returns
returns c =
    let e = c.args.edit.now in
    let t = c.in-Some.spelled.value in
    let spelled : spelled_tree c.args.held.now ≡ Some t = ap (option_map (λ b. b.value)) c.in-Some.is in
    let used : some_use (is_wanted (Some e.name.now)) t ≡ true = ap (some_use (is_wanted (Some e.name.now))) (sym c.deref.ensures) ∙ sym c.uses.ensures ∙ c.if-not-uses.false in
    let agrees : entry_of c.args.held.now.text c.said_of-said.result ≡ option_map_or Formula (with_names (meant e.sheets.now (names_with e) c.args.cell.sheet.0) t) Malformed =
    c.said_of-said.ensures.agrees c.args.held.now.text
    ∙ ap (λ o. option_map_or Formula o Malformed) (c.in_ok-with_names.ensures ∙ ap (with_names (meant e.sheets.now (names_with e) c.args.cell.sheet.0)) c.deref-2.ensures) in
    answered e.sheets.now e.before.now (names_with e) e.name.now c.requires.others c.args.cell c.args.held.now c.requires.held t spelled c.said_of-said.result agrees c.other_said.result
    c.said_of-said.ensures.sound used (rw c.if-branch.false at c.in_ok-is_meant_alike.ensures) c.other_said.ensures
