-- The last root of a frontier is that of its search.
use Rattle.std.proofs.Common.{◌≡◌, ℕ, zero, suc, ◌<◌, ◌≤◌, ◌⊎◌, inl, inr, refl, sym, ap, ◌∙◌, List, [], ◌∷◌, length, get_or, arith}
use Rattle.std.specs.Prelude.{All, Some, slice_get}
use Rattle.linear_models.specs.Model.{Model}
use Rattle.searches.specs.Trees.{Node}
use Rattle.searches.specs.Trails.{Opened}
use Rattle.searches.proofs.Members.{in_place}
use Rattle.branch_bound.specs.declared.frontier.Frontier.{Frontier}
use Rattle.branch_bound.specs.States.{waiting_of, opened_of}
use Rattle.search_certificates.specs.Nodes.{IsThere}
use Rattle.search_certificates.proofs.Kept.{IsKept, node_place, record_of, is_in, is_opened, in_there, there_in}
use Rattle.search_trees.specs.Roots.{HasNumber, IsLastOf}
use Rattle.search_trees.proofs.Known.{rest_of, path_by, path_is, visited, visit_of, wait_of, in_wait}

-- a node has its number in the frontier
pub has_number : (f : Frontier) (n : Node) → IsThere (rest_of f) n → HasNumber f n.number
has_number f n (inl (e, o)) =
    let v = visit_of f (record_of o) (is_in (rest_of f) n e o) in
    inl (v.place, v.visit, v.there, ap (λ (o : Opened). o.node.number) v.is)
has_number f n (inr (p, e)) =
    let w = wait_of f.paths.paths f.waiting.items n (in_place (rest_of f).waiting p n e) in
    inr (w.place, w.info, w.there, ap (λ (n : Node). n.number) w.is)

-- and a number of the frontier is that of a node
pub record IsNumberOf (f : Frontier) (k : ℕ) : Type 0 where
  pub node : Node
  pub there : IsThere (rest_of f) node
  pub number : node.number ≡ k

pub number_of : (f : Frontier) (k : ℕ) → HasNumber f k → IsNumberOf f k
number_of f k (inl (i, v, e, q)) =
    let o = opened_of f.paths.paths v in
    record { node = o.node; there = inl (o.ending, is_opened (rest_of f) o (visited f i v e)); number = q }
number_of f k (inr (i, x, e, q)) =
    record { node = waiting_of f.paths.paths x; there = inr (node_place (rest_of f).waiting (waiting_of f.paths.paths x) (in_wait f.paths.paths f.waiting.items i x e)); number = q }

pub below : (m : Model) (f : Frontier) (first k : ℕ) → IsKept m (rest_of f) first → HasNumber f k → k < (rest_of f).count
below m f first k h n =
    let x = number_of f k n in
    let b = h.below x.node (there_in (rest_of f) x.node x.there) in
    let e = x.number in
    omega (arith, b, e)

pub last_number : (m : Model) (f : Frontier) (first r : ℕ) → IsKept m (rest_of f) first → IsLastOf f r → r ≡ first
last_number m f first r h l = by_one l.one
  where
    r0 : IsThere (rest_of f) h.root.0
    r0 = in_there (rest_of f) h.root.0 h.root.1

    least : first ≤ r
    least =
        let a = l.last h.root.0.number (has_number f h.root.0 r0) (sym (path_is f h.root.0 r0) ∙ h.root.2) in
        let b = h.root.3 in
        omega (arith, a, b)

    by_one : (r ≡ 0) ⊎ (HasNumber f r × (path_by f r ≡ [])) → r ≡ first
    by_one (inl e) = let a = least in omega (arith, a, e)
    by_one (inr (n, p)) =
        let x = number_of f r n in
        let q : x.node.path ≡ [] = path_is f x.node x.there ∙ ap (path_by f) x.number ∙ p in
        let a = h.roots x.node (there_in (rest_of f) x.node x.there) q in
        let b = x.number in
        let c = least in
        omega (arith, a, b, c)

-- ---- numbers of the frontier are below the count
read_at : {X : Type 0} (xs : List X) (k : ℕ) (d : X) → k < length xs → slice_get xs k ≡ Some (get_or xs k d)
read_at [] k d l = absurd (omega (arith, l))
read_at (x ∷ xs) zero d l = refl
read_at (x ∷ xs) (suc k) d l = read_at xs k d (omega (arith, l))

pub opened_there : (m : Model) (f : Frontier) (first : ℕ) → IsKept m (rest_of f) first → All (λ v. v.number < length f.paths.paths) f.opened.items
opened_there m f first h k d l =
    let v = get_or f.opened.items k d in
    below m f first v.number h (inl (k, v, read_at f.opened.items k d l, refl))

pub waiting_there : (m : Model) (f : Frontier) (first : ℕ) → IsKept m (rest_of f) first → All (λ i. i.number < length f.paths.paths) f.waiting.items
waiting_there m f first h k d l =
    let x = get_or f.waiting.items k d in
    below m f first x.number h (inr (k, x, read_at f.waiting.items k d l, refl))
