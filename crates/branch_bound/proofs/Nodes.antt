-- Nodes by their numbers, where further paths are added.
use Rattle.std.proofs.Common.{◌≡◌, ℕ, ◌<◌, ◌≤◌, refl, sym, ap, ap₂, ◌∙◌, List, [], ◌∷◌, ◌++◌, length, map, arith, length-append}
use Rattle.std.specs.Prelude.{Option}
use Rattle.std.proofs.Math.Seq.{get_or-append_seam}
use Rattle.std.proofs.lemmas.List.{get_or_append_left}
use Rattle.fractions.specs.Rational.{ℚ}
use Rattle.node_pick.specs.declared.info.NodeInfo.{NodeInfo}
use Rattle.searches.specs.Trees.{Part, Node}
use Rattle.searches.specs.Trails.{Opened}
use Rattle.branch_bound.specs.declared.frontier.Ending.{Ending}
use Rattle.branch_bound.specs.declared.frontier.Visit.{Visit}
use Rattle.branch_bound.specs.States.{path_of, node_of, waiting_of, ending_of, opened_of, IsListed, AreListed, AreThere}

pub path_kept : (ps qs : List (List Part)) (n : ℕ) → n < length ps → path_of (ps ++ qs) n ≡ path_of ps n
path_kept ps qs n l = get_or_append_left ps qs [] n l

pub node_kept : (ps qs : List (List Part)) (n : ℕ) (b : Option ℚ) → n < length ps → node_of (ps ++ qs) n b ≡ node_of ps n b
node_kept ps qs n b l = ap (node n b) (path_kept ps qs n l)
  where
    node : ℕ → Option ℚ → List Part → Node
    node n b p = record { number = n; path = p; bound = b }

pub waiting_kept : (ps qs : List (List Part)) (is : List NodeInfo) → AreListed ps is → map (waiting_of (ps ++ qs)) is ≡ map (waiting_of ps) is
waiting_kept ps qs [] h = refl
waiting_kept ps qs (i ∷ is) h = ap₂ (λ (x : Node) (xs : List Node). x ∷ xs) (node_kept ps qs i.number i.bound h.0.there) (waiting_kept ps qs is h.1)

pub opened_kept : (ps qs : List (List Part)) (vs : List Visit) → AreThere ps vs → map (opened_of (ps ++ qs)) vs ≡ map (opened_of ps) vs
opened_kept ps qs [] h = refl
opened_kept ps qs (v ∷ vs) h = ap₂ (λ (x : Opened) (xs : List Opened). x ∷ xs) (ap (opened v.pivots v.ending) (node_kept ps qs v.number v.bound h.0)) (opened_kept ps qs vs h.1)
  where
    opened : ℕ → Ending → Node → Opened
    opened k e n = record { node = n; pivots = k; ending = ending_of e }

pub one_listed : (ps qs : List (List Part)) (i : NodeInfo) → IsListed ps i → IsListed (ps ++ qs) i
one_listed ps qs i h = record {
  there = (let e = length-append ps qs in let l = h.there in omega (arith, e, l));
  depth = h.depth ∙ ap length (sym (path_kept ps qs i.number h.there));
  short = h.short;
}

pub listed_kept : (ps qs : List (List Part)) (is : List NodeInfo) → AreListed ps is → AreListed (ps ++ qs) is
listed_kept ps qs [] h = tt
listed_kept ps qs (i ∷ is) h = (one_listed ps qs i h.0, listed_kept ps qs is h.1)

pub there_kept : (ps qs : List (List Part)) (vs : List Visit) → AreThere ps vs → AreThere (ps ++ qs) vs
there_kept ps qs [] h = tt
there_kept ps qs (v ∷ vs) h = ((let e = length-append ps qs in let l = h.0 in omega (arith, e, l)), there_kept ps qs vs h.1)

pub listed_push : (ps : List (List Part)) (is : List NodeInfo) (i : NodeInfo) → AreListed ps is → IsListed ps i → AreListed ps (is ++ i ∷ [])
listed_push ps [] i h k = (k, tt)
listed_push ps (j ∷ is) i h k = (h.0, listed_push ps is i h.1 k)

pub there_push : (ps : List (List Part)) (vs : List Visit) (v : Visit) → AreThere ps vs → v.number < length ps → AreThere ps (vs ++ v ∷ [])
there_push ps [] v h k = (k, tt)
there_push ps (w ∷ vs) v h k = (h.0, there_push ps vs v h.1 k)

pub new_listed : (ps : List (List Part)) (p : List Part) (i : NodeInfo) → i.number ≡ length ps → i.depth ≡ length p → length p ≤ length ps → IsListed (ps ++ p ∷ []) i
new_listed ps p i n d l = record {
  there = (let e = length-append ps (p ∷ []) in omega (arith, e, n));
  depth = d ∙ ap length (sym (ap (path_of (ps ++ p ∷ [])) n ∙ get_or-append_seam ps p [] []));
  short = omega (arith, n, d, l);
}

pub new_node : (ps : List (List Part)) (p : List Part) (b : Option ℚ) → node_of (ps ++ p ∷ []) (length ps) b ≡ record { number = length ps; path = p; bound = b }
new_node ps p b = ap node (get_or-append_seam ps p [] [])
  where
    node : List Part → Node
    node p = record { number = length ps; path = p; bound = b }
