-- Lines with which a certificate begins are those that are read to some state.
use Rattle.std.proofs.Common.{◌≡◌, ◌∙◌, ℕ, zero, suc, List, [], ◌∷◌, ◌++◌, Option, Some, None, refl, sym, ap, ap₂, append_assoc, lit<}
use Rattle.std.specs.Prelude.{IsSome, is_some}
use Rattle.std.specs.List.{AllByRecursion}
use Rattle.fractions.specs.Rational.{ℚ, zero_ℚ}
use Rattle.frac128.proofs.NarrowLaws.{narrow-zero}
use Rattle.opt_certificate.specs.Certificate.{Tree, split, best, empty, clash, Claim, optimal, infeasible, unbounded}
use Rattle.certificate_lines.specs.Line.{Line, claim_line, point_line, ray_line, split_line, best_line, end_line, said_optimal, said_infeasible, IsLine, AreNumbers, AreMultipliers}
use Rattle.certificate_lines.specs.Cert.{Cert, IsCert, HasParts, claim_lines, tree_lines, node_lines, cert_lines}
use Rattle.certificate_lines.specs.Machine.{State, at_claim, at_point, at_start, at_ray, at_trees, at_end, run}
use Rattle.certificate_lines.specs.Laws.{Begins, LinesAreRead}
use Rattle.certificate_lines.proofs.Cuts.{heads, tails, all-append}
use Rattle.certificate_lines.proofs.Machines.{run-none, run-append, run-cert, read_cert}

-- ---- how a certificate may go on
leaves : ℕ → List Line
leaves zero = end_line ∷ []
leaves (suc n) = best_line [] ∷ leaves n

zeros : List ℚ
zeros = zero_ℚ ∷ []

finish : State → List Line
finish at_claim = claim_line said_infeasible ∷ leaves 1
finish at_point = point_line zeros ∷ leaves 1
finish at_start = point_line zeros ∷ ray_line zeros ∷ leaves 0
finish at_ray = ray_line zeros ∷ leaves 0
finish (at_trees n) = leaves n
finish at_end = []

run-leaves : (n : ℕ) → run (leaves n) (Some (at_trees n)) ≡ Some at_end
unfolding leaves
run-leaves zero = refl
run-leaves (suc n) = run-leaves n

run-finish : (s : State) → run (finish s) (Some s) ≡ Some at_end
unfolding finish
run-finish at_claim = run-leaves 1
run-finish at_point = run-leaves 1
run-finish at_start = run-leaves 0
run-finish at_ray = run-leaves 0
run-finish (at_trees n) = run-leaves n
run-finish at_end = refl

no_multipliers : AreMultipliers []
no_multipliers = record { narrow = tt; last = none; few = lit< tt }
  where
    none : (zs : List ℚ) → [] ≡ zs ++ (zero_ℚ ∷ []) → ⊥
    none [] e = cc
    none (z ∷ zs) e = cc

one_number : AreNumbers zeros
unfolding zeros
one_number = record { some = lit< tt; narrow = (narrow-zero, tt) }

leaves-are : (n : ℕ) → AllByRecursion IsLine (leaves n)
unfolding leaves
leaves-are zero = (tt, tt)
leaves-are (suc n) = (no_multipliers, leaves-are n)

finish-are : (s : State) → AllByRecursion IsLine (finish s)
unfolding finish
finish-are at_claim = (tt, leaves-are 1)
finish-are at_point = (one_number, leaves-are 1)
finish-are at_start = (one_number, (one_number, leaves-are 0))
finish-are at_ray = (one_number, leaves-are 0)
finish-are (at_trees n) = leaves-are n
finish-are at_end = tt

-- ---- both ways
pub begins : (ls : List Line) (s : State) → AllByRecursion IsLine ls → run ls (Some at_claim) ≡ Some s → Begins ls
begins ls s h e =
    let whole : run (ls ++ finish s) (Some at_claim) ≡ Some at_end = run-append ls (finish s) (Some at_claim) ∙ ap (run (finish s)) e ∙ run-finish s in
    let r = read_cert (ls ++ finish s) (all-append IsLine ls (finish s) h (finish-are s)) whole in
    record { cert = r.0; is = r.1.0; rest = finish s; lines = r.1.1 }

-- which state a beginning leads to
pub record Reached (ls : List Line) : Type 0 where
  pub state : State
  pub run_is : run ls (Some at_claim) ≡ Some state

pub reached : (ls : List Line) → Begins ls → Reached ls
reached ls b = by_state (run ls (Some at_claim)) refl
  where
    whole : run b.rest (run ls (Some at_claim)) ≡ Some at_end
    whole = sym (run-append ls b.rest (Some at_claim)) ∙ ap (λ r. run r (Some at_claim)) b.lines ∙ run-cert b.cert b.is

    by_state : (o : Option State) → run ls (Some at_claim) ≡ o → Reached ls
    by_state None e = let q : run b.rest None ≡ Some at_end = ap (run b.rest) (sym e) ∙ whole in let r = run-none b.rest in absurd (cc (q, r))
    by_state (Some s) e = record { state = s; run_is = e }

begun : (ls : List Line) → AllByRecursion IsLine ls → IsSome (run ls (Some at_claim)) → Begins ls
begun ls h some = by_state (run ls (Some at_claim)) refl some
  where
    by_state : (o : Option State) → run ls (Some at_claim) ≡ o → IsSome o → Begins ls
    by_state None e k = absurd (cc)
    by_state (Some s) e k = begins ls s h e

pub lines_are_read : LinesAreRead
lines_are_read = record {
  begun = λ ls h. (begun ls h, λ b. let r = reached ls b in ap is_some r.run_is);
  ended = λ ls h. (read_cert ls h, λ c. ap (λ r. run r (Some at_claim)) c.1.1 ∙ run-cert c.0 c.1.0);
}

-- ---- the lines of one certificate alone
record SameStart (t u : Tree) (xs ys : List Line) : Type 0 where
  tree : t ≡ u
  rest : xs ≡ ys

same_start : (t u : Tree) (xs ys : List Line) → tree_lines t ++ xs ≡ tree_lines u ++ ys → SameStart t u xs ys
same_start (best a) (best b) xs ys e = let q : a ≡ b = cc in record { tree = ap best q; rest = cc }
same_start (empty a) (empty b) xs ys e = let q : a ≡ b = cc in record { tree = ap empty q; rest = cc }
same_start (best a) (empty b) xs ys e = cc
same_start (empty a) (best b) xs ys e = cc
same_start (clash i j) (clash a b) xs ys e = let q : i ≡ a = cc in let r : j ≡ b = cc in record { tree = ap₂ clash q r; rest = cc }
same_start (clash i j) (best b) xs ys e = cc
same_start (clash i j) (empty b) xs ys e = cc
same_start (best a) (clash i j) xs ys e = cc
same_start (empty a) (clash i j) xs ys e = cc
same_start (clash a b) (split j f l u) xs ys e = let q = heads _ _ _ _ e in absurd (cc)
same_start (split j f l u) (clash a b) xs ys e = let q = heads _ _ _ _ e in absurd (cc)
same_start (best a) (split j f l u) xs ys e = let q = heads _ _ _ _ e in absurd (cc)
same_start (empty a) (split j f l u) xs ys e = let q = heads _ _ _ _ e in absurd (cc)
same_start (split j f l u) (best b) xs ys e = let q = heads _ _ _ _ e in absurd (cc)
same_start (split j f l u) (empty b) xs ys e = let q = heads _ _ _ _ e in absurd (cc)
same_start (split i g l u) (split j f v w) xs ys e =
    let q : split_line i g ≡ split_line j f = heads _ _ _ _ e in
    let a : i ≡ j = cc in
    let b : g ≡ f = cc in
    let low = same_start l v (tree_lines u ++ xs) (tree_lines w ++ ys) (sym (append_assoc (tree_lines l) (tree_lines u) xs) ∙ tails _ _ _ _ e ∙ append_assoc (tree_lines v) (tree_lines w) ys) in
    let high = same_start u w xs ys low.rest in
    record { tree = ap₂ (λ j f. split j f l u) a b ∙ ap₂ (split j f) low.tree high.tree; rest = high.rest }

record SameParts (c d : Claim) (t u : Option Tree) (v w : Option ℚ) : Type 0 where
  claim : c ≡ d
  tree : t ≡ u
  value : v ≡ w

abbrev lines : Claim → Option Tree → Option ℚ → List Line
lines c t v = claim_lines c v ++ (node_lines c t ++ (end_line ∷ []))

none_there : {t : Tree} {P : Type 0} → None ≡ Some t → P
none_there e = absurd (cc)

-- two lines that begin alike
after_two : {X : Type 0} (x y z w : X) (xs ys : List X) → x ∷ y ∷ xs ≡ z ∷ w ∷ ys → xs ≡ ys
after_two x y z w xs ys e = cc

same_parts : (c d : Claim) (t u : Option Tree) (v w : Option ℚ) → HasParts c t v → HasParts d u w → lines c t v ≡ lines d u w → SameParts c d t u v w
same_parts (optimal a) (optimal b) None u v w h k e = none_there h.1
same_parts (optimal a) (optimal b) (Some t) None v w h k e = none_there k.1
same_parts (optimal a) (optimal b) (Some t) (Some u) v w h k e =
    let p : claim_line (said_optimal v) ≡ claim_line (said_optimal w) = heads _ _ _ _ e in
    let q : point_line a ≡ point_line b = heads _ _ _ _ (tails _ _ _ _ e) in
    let r : a ≡ b = cc in
    let s : v ≡ w = cc in
    record { claim = ap optimal r; tree = ap Some (same_start t u _ _ (tails _ _ _ _ (tails _ _ _ _ e))).tree; value = s }
same_parts infeasible infeasible None u v w h k e = none_there h.0.1
same_parts infeasible infeasible (Some t) None v w h k e = none_there k.0.1
same_parts infeasible infeasible (Some t) (Some u) v w h k e =
    record { claim = refl; tree = ap Some (same_start t u _ _ (tails _ _ _ _ e)).tree; value = h.1 ∙ sym k.1 }
same_parts (unbounded a d) (unbounded b f) t u v w h k e =
    let q : point_line a ≡ point_line b = cc in
    let r : ray_line d ≡ ray_line f = cc in
    let x : a ≡ b = cc in
    let y : d ≡ f = cc in
    record { claim = ap₂ unbounded x y; tree = h.0 ∙ sym k.0; value = h.1 ∙ sym k.1 }
same_parts (optimal a) infeasible t u v w h k e = let q = heads _ _ _ _ e in absurd (cc)
same_parts (optimal a) (unbounded b d) t u v w h k e = let q = heads _ _ _ _ e in absurd (cc)
same_parts infeasible (optimal b) t u v w h k e = let q = heads _ _ _ _ e in absurd (cc)
same_parts infeasible (unbounded b d) t u v w h k e = let q = heads _ _ _ _ e in absurd (cc)
same_parts (unbounded a d) (optimal b) t u v w h k e = let q = heads _ _ _ _ e in absurd (cc)
same_parts (unbounded a d) infeasible t u v w h k e = let q = heads _ _ _ _ e in absurd (cc)

abbrev made : Claim → Option Tree → Option ℚ → Cert
made c t v = record { tree = t; claim = c; value = v }

pub same_cert : (c d : Cert) → IsCert c → IsCert d → cert_lines c ≡ cert_lines d → c ≡ d
same_cert c d h k e =
    let s = same_parts c.claim d.claim c.tree d.tree c.value d.value h.parts k.parts e in
    ap (λ x. made x c.tree c.value) s.claim ∙ ap₂ (made d.claim) s.tree s.value
