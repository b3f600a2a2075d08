-- What a certificate's numbers are by the types of the code, and what else gives it a text of its own.
use Rattle.std.specs.Prelude.{◌≢◌, ◌<◌, ◌^◌, List, [], ◌∷◌, ◌++◌, length, Option, IfSome}
use Rattle.std.specs.List.{All}
use Rattle.fractions.specs.Rational.{ℚ, zero_ℚ}
use Rattle.frac128.specs.Narrow.{IsNarrow}
use Rattle.opt_certificate.specs.Certificate.{Tree, split, best, empty, clash, Claim, optimal, infeasible, unbounded}
use Rattle.opt_certificate.specs.Nodes.{Node, split_at, best_leaf, empty_leaf, clash_leaf}
use Rattle.certificate_lines.specs.Cert.{Cert, HasParts}

-- ---- conditions on a certificate under which it has a text of its own
-- each list has a number
abbrev pub HasNumbers : Claim → Type 0
HasNumbers (optimal a) = 0 < length a
HasNumbers infeasible = Unit {0}
HasNumbers (unbounded a d) = (0 < length a) × (0 < length d)

-- the last number is not 0
abbrev pub EndsOtherwise : List ℚ → Type 0
EndsOtherwise ys = (zs : List ℚ) → ys ≢ zs ++ (zero_ℚ ∷ [])

-- so it is of the multipliers of each leaf
abbrev pub LeavesEndOtherwise : Tree → Type 0
LeavesEndOtherwise (split j f lower upper) = LeavesEndOtherwise lower × LeavesEndOtherwise upper
LeavesEndOtherwise (best ys) = EndsOtherwise ys
LeavesEndOtherwise (empty ys) = EndsOtherwise ys
LeavesEndOtherwise (clash i j) = Unit {0}

-- there is a tree with each claim but that of no end, and a value with that of an optimal point alone; no list of the claim is
-- empty, and no leaf's multipliers end with 0
pub record HasText (c : Cert) : Type 0 where
  pub parts : HasParts c.claim c.tree c.value
  pub numbers : HasNumbers c.claim
  pub leaves : IfSome c.tree LeavesEndOtherwise

-- ---- what holds of all that the code writes. No public clause cites what follows
abbrev pub NodeFits : Node → Type 0
NodeFits (split_at j f lower upper) = j < 2 ^ 16
NodeFits (best_leaf ys) = All IsNarrow ys × (length ys < 2 ^ 64)
NodeFits (empty_leaf ys) = All IsNarrow ys × (length ys < 2 ^ 64)
NodeFits (clash_leaf i j) = (i < 2 ^ 16) × (j < 2 ^ 16)

-- of a claim with its value and its nodes, as far as they are written
abbrev pub IsFit : Claim → Option ℚ → List Node → Type 0
IsFit (optimal a) v nodes = All IsNarrow a × (IfSome v IsNarrow × All NodeFits nodes)
IsFit infeasible v nodes = All NodeFits nodes
IsFit (unbounded a d) v nodes = All IsNarrow a × All IsNarrow d
