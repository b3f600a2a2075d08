-- What is written has a text of its own.
use Rattle.std.proofs.Common.{◌≡◌, ℕ, ◌+◌, ◌<◌, List, [], ◌∷◌, ◌++◌, length, All, Option, Some, None, sym, subst, arith}
use Rattle.std.specs.Prelude.{IfSome}
use Rattle.std.specs.List.{AllByRecursion}
use Rattle.std.proofs.lemmas.List.Elements.{recursion_from_All}
use Rattle.fractions.specs.Rational.{ℚ}
use Rattle.frac128.specs.Narrow.{IsNarrow}
use Rattle.opt_certificate.specs.Certificate.{Tree, split, best, empty, clash, Claim, optimal, infeasible, unbounded}
use Rattle.opt_certificate.specs.Nodes.{Node, HasNarrowFloor, IsListed, listing, size}
use Rattle.opt_certificate.specs.Trees.{IsTree}
use Rattle.certificate_lines.specs.Line.{AreNumbers, end_line, IsLine}
use Rattle.certificate_lines.specs.Cert.{Cert, HasParts, IsCert, claim_lines, node_lines, tree_lines}
use Rattle.certificate_lines.proofs.Cuts.{all-append, all-back, all-front}
use Rattle.certificate_texts.specs.Fits.{HasNumbers, HasText, IsFit, LeavesEndOtherwise, NodeFits}

-- ---- one tree
tree_is_lines : (k : ℕ) (t : Tree) → AllByRecursion NodeFits (listing k t) → AllByRecursion HasNarrowFloor (listing k t) → LeavesEndOtherwise t → AllByRecursion IsLine (tree_lines t)
tree_is_lines k (split j f l u) h n e = (
  record { decision = h.0; floor = n.0.0; above = n.0.1 },
  all-append IsLine (tree_lines l) (tree_lines u)
      (tree_is_lines (k + 1) l (all-front NodeFits (listing (k + 1) l) (listing (k + (1 + size l)) u) h.1) (all-front HasNarrowFloor (listing (k + 1) l) (listing (k + (1 + size l)) u) n.1) e.0)
      (tree_is_lines (k + (1 + size l)) u (all-back NodeFits (listing (k + 1) l) (listing (k + (1 + size l)) u) h.1) (all-back HasNarrowFloor (listing (k + 1) l) (listing (k + (1 + size l)) u) n.1) e.1),
)
tree_is_lines k (best ys) h n e = let few = h.0.1 in (record { narrow = recursion_from_All IsNarrow ys h.0.0; last = e; few = omega (arith, few) }, tt)
tree_is_lines k (empty ys) h n e = let few = h.0.1 in (record { narrow = recursion_from_All IsNarrow ys h.0.0; last = e; few = omega (arith, few) }, tt)
tree_is_lines k (clash i j) h n e = (record { one = h.0.0; other = h.0.1 }, tt)

numbers_fit : (xs : List ℚ) → 0 < length xs → All IsNarrow xs → AreNumbers xs
numbers_fit xs s n = record { some = s; narrow = recursion_from_All IsNarrow xs n }

-- ---- all lines
lines_fit : (claim : Claim) (tree : Option Tree) (v : Option ℚ) (nodes : List Node) → HasParts claim tree v → HasNumbers claim → IfSome tree LeavesEndOtherwise → IsListed nodes tree → IsTree nodes → IsFit claim v nodes
    → AllByRecursion IsLine (claim_lines claim v ++ (node_lines claim tree ++ (end_line ∷ [])))
lines_fit (optimal a) None v nodes p s e l t f = let q = p.1 in absurd (cc q)
lines_fit (optimal a) (Some k) v nodes p s e l t f = (
  f.1.0,
  (
    numbers_fit a s f.0,
    all-append IsLine (tree_lines k) (end_line ∷ [])
        (tree_is_lines 0 k (subst (AllByRecursion NodeFits) l (recursion_from_All NodeFits nodes f.1.1)) (subst (AllByRecursion HasNarrowFloor) l (recursion_from_All HasNarrowFloor nodes t.floors)) e)
        (tt, tt),
  ),
)
lines_fit infeasible None v nodes p s e l t f = let q = p.0.1 in absurd (cc q)
lines_fit infeasible (Some k) v nodes p s e l t f = (
  tt,
  all-append IsLine (tree_lines k) (end_line ∷ [])
      (tree_is_lines 0 k (subst (AllByRecursion NodeFits) l (recursion_from_All NodeFits nodes f)) (subst (AllByRecursion HasNarrowFloor) l (recursion_from_All HasNarrowFloor nodes t.floors)) e)
      (tt, tt),
)
lines_fit (unbounded a d) tree v nodes p s e l t f = (tt, (numbers_fit a s.0 f.0, (numbers_fit d s.1 f.1, (tt, tt))))

-- a certificate that is written, and has a text of its own
pub has_text : (c : Cert) (claim : Claim) (v : Option ℚ) (nodes : List Node) → IsListed nodes c.tree → c.claim ≡ claim → c.value ≡ v → HasText c → IsTree nodes → IsFit claim v nodes → IsCert c
has_text c claim v nodes l p q h t f = record {
  parts = h.parts;
  lines = lines_fit c.claim c.tree c.value nodes h.parts h.numbers h.leaves l t (subst (λ x. IsFit c.claim x nodes) (sym q) (subst (λ x. IsFit x v nodes) (sym p) f));
}
