use Rattle.std.proofs.Common.{refl, ap, ◌∙◌, List, [], ◌∷◌, ◌++◌, length, arith}
use Rattle.searches.specs.Trees.{Part}
use Rattle.search_paths.specs.Tables.{Table}
use Rattle.node_pick.specs.declared.info.NodeInfo.{NodeInfo}
use Rattle.branch_bound.proofs.Openings.{begun, first_info}
use Rattle.branch_bound.proofs.search.Search.begin.Goals as goal

pub invariant_of-result : goal.invariant_of-result
invariant_of-result c =
    let e = ap (λ (t : Table). t.paths) c.push_root.ensures ∙ ap (λ (ps : List (List Part)). ps ++ [] ∷ []) (c.in_ok-reserve.ensures.same ∙ c.new-paths.ensures) in
    let w = c.in_ok-push.ensures.items ∙ ap (λ (is : List NodeInfo). is ++ first_info ∷ []) c.new-waiting.ensures.items in
    let n = ap length c.whole-decisions.ensures.whole in
    let a = c.in_ok-vec.field-0.ok.0 in
    let b = c.in_ok-vec.ensures.len in
    let d = c.in_ok-vec-2.field-0.ok.0 in
    let f = c.in_ok-vec-2.ensures.len in
    begun c.args.of c.args.budget _ _ e c.new.ensures.items w refl refl (omega (arith, n, a, b)) (omega (arith, n, d, f)) c.requires
