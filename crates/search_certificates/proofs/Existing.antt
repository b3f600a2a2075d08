-- A search that is over has its tree.
use Rattle.std.proofs.Common.{◌≡◌, ℕ, suc, zero, ◌+◌, ◌<◌, ◌≤◌, refl, subst, [], arith, inl, inr}
use Rattle.std.specs.Prelude.{Option, Some, None}
use Rattle.dictionaries.specs.Reading.{multipliers}
use Rattle.linear_models.specs.Model.{Model}
use Rattle.opt_certificate.specs.Certificate.{Tree}
use Rattle.opt_certificate.specs.Certificate as certificate
use Rattle.searches.specs.Trees.{Node, Ending}
use Rattle.searches.specs.Trails.{State, node_program}
use Rattle.searches.specs.Answers.{Answer, optimal, infeasible, unbounded}
use Rattle.searches.proofs.Members.{In}
use Rattle.search_certificates.specs.Nodes.{IsOpened, IsThere}
use Rattle.search_certificates.specs.Leaves.{without_last_zeros}
use Rattle.search_certificates.specs.Trees.{IsTreeAt, IsLastTree, IsTreeOf}
use Rattle.search_certificates.specs.Laws.{SearchesHaveTrees}
use Rattle.search_certificates.proofs.Kept.{nodes_of, record_of, is_in, there_in, in_there, IsSettled, at_best, at_empty, at_clash, at_parts, IsKept, last_root}
use Rattle.search_certificates.proofs.Keeping.{SomeKept, rest_kept}

abbrev HasTreeAt : Model → State → Node → Type 0
HasTreeAt m s n = (t : Tree) × IsTreeAt m s n t

-- of a node whose later nodes have trees
opened_tree : (m : Model) (s : State) (n : Node) (e : Ending) (o : IsOpened s n e) → ((c : Node) → In (nodes_of s) c → n.number < c.number → HasTreeAt m s c)
    → IsSettled m s.way s.found (nodes_of s) n o.pivots e → HasTreeAt m s n
opened_tree m s n e o later (at_best d f l b q v) =
    (certificate.best (without_last_zeros (multipliers (node_program m s.way n) d.nonbasic d.objective)), inl (o, record { dictionary = d; reached = (o.pivots, l); ended = b; are = refl }))
opened_tree m s n e o later (at_empty d l b) =
    (certificate.empty (without_last_zeros (multipliers (node_program m s.way n) d.nonbasic d.auxiliary)), (o, record { dictionary = d; reached = (o.pivots, l); ended = b; are = refl }))
opened_tree m s n e o later (at_clash i j c) = (certificate.clash i j, o)
opened_tree m s n e o later (at_parts j f a b q x y z l p r) =
    let low = later a x l in
    let high = later b y (omega (arith, l, z)) in
    (certificate.split j f low.0 high.0, (a, b, record { opened = o; next = z; low_path = p; high_path = r }, (low.1, high.1)))

tree_from : (m : Model) (s : State) (first : ℕ) (fuel : ℕ) (n : Node) → IsKept m s first → IsThere s n → first ≤ n.number → s.count ≤ fuel + n.number → HasTreeAt m s n
tree_from m s first zero n h t l c = let b = h.below n (there_in s n t) in absurd (omega (arith, b, c))
tree_from m s first (suc fuel) n h (inr w) l c = (certificate.best [], inr (w, refl))
tree_from m s first (suc fuel) n h (inl (e, o)) l c =
    opened_tree m s n e o (λ x i g. tree_from m s first fuel x h (in_there s x i) (omega (arith, l, g)) (omega (arith, c, g))) (h.settled (record_of o) (is_in s n e o) l)

pub last_tree : (m : Model) (s : State) → SomeKept m s → (t : Tree) × IsLastTree m s t
last_tree m s h =
    let k = h.kept in
    let l = k.root.3 in
    let r = last_root m s h.first k in
    let t = tree_from m s h.first s.count k.root.0 k r.there (omega (arith, l)) (omega arith) in
    (t.0, (k.root.0, r, t.1))

pub searches_have_trees : SearchesHaveTrees
searches_have_trees m rule us s a v l n o y = by_answer a
  where
    t : (t : Tree) × IsLastTree m s t
    t = last_tree m s (rest_kept m rule us s v l n)

    by_answer : (a : Answer) → (tree : Option Tree) × IsTreeOf m s a tree
    by_answer (optimal x w) = (Some t.0, (t.0, refl, t.1))
    by_answer infeasible = (Some t.0, (t.0, refl, t.1))
    by_answer (unbounded x d) = (None, refl)
