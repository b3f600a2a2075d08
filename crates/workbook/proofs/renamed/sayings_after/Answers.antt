use Rattle.std.proofs.Common.{◌≡◌, ◌++◌, ◌∙◌, List, ap, subst, sym}
use Rattle.std.specs.Prelude.{option_map}
use Rattle.std.specs.Map.Iter.{deref}
use Rattle.std.proofs.lemmas.Map.Iter.{rest_all, rest_more}
use Rattle.cell_refs.specs.declared.cell.Cell.{Cell}
use Rattle.workbook.specs.Users.{has_cell}
use Rattle.workbook.specs.Known.{names_with}
use Rattle.workbook.proofs.Resaid.{AnswersAt, Chain, GoesBefore, all_resaid, goes_on, gone_through, none_resaid}
use Rattle.workbook.proofs.renamed.sayings_after.Goals as goal

pub returns-in_default : goal.returns-in_default
returns-in_default c =
    none_resaid c.args.edit.now.sheets.now c.args.edit.now.before.now (names_with c.args.edit.now) c.args.edit.now.name.now c.requires.others c.args.cells.now.entries c.requires.held
    c.args.users.now c.requires.covered c.new-said.result.items (λ q. ap (λ o. has_cell o q) (sym c.in_ok-known.ensures ∙ ap (option_map (λ k. k.now)) c.in_default.is)) c.new-said.ensures.items

pub loop-cell-init : goal.loop-cell-init
loop-cell-init c =
    let P = AnswersAt c.args.edit.now.sheets.now c.args.edit.now.before.now (names_with c.args.edit.now) c.args.cells.now.entries in
    λ rest chain. subst (λ l. Chain P c.into_iter-cell-iterator.result (l ++ rest)) (sym c.new-said.ensures.items) chain

pub loop-cell-preserved : goal.loop-cell-preserved
loop-cell-preserved c =
    let P = AnswersAt c.args.edit.now.sheets.now c.args.edit.now.before.now (names_with c.args.edit.now) c.args.cells.now.entries in
    let all = c.into_iter-cell-iterator.result in
    let more = rest_more deref c.loop-cell.cell-iterator c.next.new.self c.next.result c.in-Some-cell.cell c.in-Some-cell.is c.next.ensures.steps in
    goes_on P all c.next.new.self c.in-Some-cell.cell.now c.loop-cell.said.items c.add_other.new.said.items c.in_ok-other.other
    (subst (λ (l : List Cell). GoesBefore P all l c.loop-cell.said.items) more c.loop-cell.invariant)
    c.in_ok-other.ensures c.in_ok-add_other.ensures

pub returns : goal.returns
returns c =
    let e = c.args.edit.now in
    let P = AnswersAt e.sheets.now e.before.now (names_with e) c.args.cells.now.entries in
    let all = c.in-Some.known.now.keys in
    let start : c.into_iter-cell-iterator.result ≡ all = cc (c.into_iter-cell-iterator.ensures.into_iter_gives, c.iter-cell-items.ensures.rest) in
    let none = rest_all deref c.loop-cell.cell-iterator c.next.new.self c.next.result c.in-None.is c.next.ensures.steps in
    all_resaid e.sheets.now e.before.now (names_with e) e.name.now c.requires.others c.args.cells.now.entries c.requires.held c.args.users.now c.requires.covered
    all c.loop-cell.said.items (λ q. ap (λ o. has_cell o q) (sym c.in_ok-known.ensures ∙ ap (option_map (λ k. k.now)) c.in-Some.is)) c.iter-cell-items.ensures.ordered
    (subst (λ (l : List Cell). Chain P l c.loop-cell.said.items) start
    (gone_through P c.into_iter-cell-iterator.result c.loop-cell.said.items
    (subst (λ (l : List Cell). GoesBefore P c.into_iter-cell-iterator.result l c.loop-cell.said.items) none c.loop-cell.invariant)))
