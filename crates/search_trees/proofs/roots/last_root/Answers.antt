use Rattle.std.proofs.Common.{◌++◌, ◌∷◌, [], ◌∙◌, ℕ, List, map, take, sym, ap, subst, append_assoc, append-nil}
use Rattle.std.proofs.lemmas.List.{take_all}
use Rattle.search_trees.proofs.LastIn.{IsLastIn, later_in, last_of, numbers_more, number_of_visit, number_of_info}
use Rattle.search_trees.proofs.roots.last_root.Goals as goal

pub loop-visit-preserved : goal.loop-visit-preserved
loop-visit-preserved c =
    let ps = c.args.frontier.now.paths.paths in
    let os = c.deref-opened.result.now in
    let i = c.loop-visit.visit-index in
    subst (λ (ns : List ℕ). IsLastIn ps ns c.later-last.result) (sym (numbers_more number_of_visit os i c.visit-item.result c.loop-visit-test.true c.visit-item.is))
    (later_in ps (map number_of_visit (take i os)) c.visit-item.result.number c.loop-visit.last c.later-last.result c.loop-visit.invariant c.later-last.ensures)

pub loop-info-init : goal.loop-info-init
loop-info-init c =
    let f = c.args.frontier.now in
    let os = c.deref-opened.result.now in
    let i = c.loop-visit.visit-index in
    subst (λ (ns : List ℕ). IsLastIn f.paths.paths ns c.loop-visit.last)
    (ap (map number_of_visit) (take_all i os c.loop-visit-test.false ∙ c.deref-opened.ensures.value) ∙ sym (append-nil (map number_of_visit f.opened.items))) c.loop-visit.invariant

pub loop-info-preserved : goal.loop-info-preserved
loop-info-preserved c =
    let f = c.args.frontier.now in
    let ps = f.paths.paths in
    let before = map number_of_visit f.opened.items in
    let is = c.deref-waiting.result.now in
    let i = c.loop-info.info-index in
    let x = c.info-item.result in
    let r = c.later-last-in-loop-info.result in
    subst (λ (ns : List ℕ). IsLastIn ps ns r)
    (append_assoc before (map number_of_info (take i is)) (x.number ∷ [])
    ∙ ap (λ (ns : List ℕ). before ++ ns) (sym (numbers_more number_of_info is i x c.loop-info-test.true c.info-item.is)))
    (later_in ps (before ++ map number_of_info (take i is)) x.number c.loop-info.last r c.loop-info.invariant c.later-last-in-loop-info.ensures)

pub returns : goal.returns
returns c =
    let f = c.args.frontier.now in
    let is = c.deref-waiting.result.now in
    let i = c.loop-info.info-index in
    last_of f c.loop-info.last
    (subst (λ (ns : List ℕ). IsLastIn f.paths.paths (map number_of_visit f.opened.items ++ ns) c.loop-info.last)
    (ap (map number_of_info) (take_all i is c.loop-info-test.false ∙ c.deref-waiting.ensures.value)) c.loop-info.invariant)
