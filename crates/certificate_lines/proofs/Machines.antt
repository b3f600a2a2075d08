-- Reading the lines of a certificate from the first one on.
use Rattle.std.proofs.Common.{◌≡◌, ◌∙◌, ℕ, zero, suc, List, [], ◌∷◌, ◌++◌, length, Option, Some, None, refl, sym, ap, ap₂, subst, append_assoc, ℤ, arith}
use Rattle.fractions.specs.Rational.{ℚ}
use Rattle.std.specs.List.{AllByRecursion}
use Rattle.opt_certificate.specs.Certificate.{Tree, split, best, empty, clash, Claim, optimal, infeasible, unbounded}
use Rattle.certificate_lines.specs.Line.{Line, claim_line, point_line, ray_line, split_line, best_line, empty_line, clash_line, end_line, said_optimal, said_infeasible, said_unbounded, IsLine}
use Rattle.certificate_lines.specs.Cert.{Cert, IsCert, HasParts, claim_lines, tree_lines, node_lines, cert_lines}
use Rattle.certificate_lines.specs.Machine.{State, at_claim, at_point, at_start, at_ray, at_trees, at_end, step, run}

-- ---- forwards
pub run-none : (ls : List Line) → run ls None ≡ None
run-none [] = refl
run-none (l ∷ ls) = refl

pub run-append : (xs ys : List Line) (s : Option State) → run (xs ++ ys) s ≡ run ys (run xs s)
run-append [] ys s = refl
run-append (x ∷ xs) ys None = sym (run-none ys)
run-append (x ∷ xs) ys (Some s) = run-append xs ys (step s x)

pub run-tree : (t : Tree) (n : ℕ) (ls : List Line) → run (tree_lines t ++ ls) (Some (at_trees (suc n))) ≡ run ls (Some (at_trees n))
run-tree (split j f lower upper) n ls =
    ap (λ r. run r (Some (at_trees (suc (suc n))))) (append_assoc (tree_lines lower) (tree_lines upper) ls)
    ∙ run-tree lower (suc n) (tree_lines upper ++ ls)
    ∙ run-tree upper n ls
run-tree (best ys) n ls = refl
run-tree (empty ys) n ls = refl
run-tree (clash i j) n ls = refl

pub run-parts : (claim : Claim) (tree : Option Tree) (v : Option ℚ) → HasParts claim tree v
    → run (claim_lines claim v ++ (node_lines claim tree ++ (end_line ∷ []))) (Some at_claim) ≡ Some at_end
run-parts (optimal a) None v h = let e = h.1 in absurd (cc e)
run-parts (optimal a) (Some t) v h = run-tree t 0 (end_line ∷ [])
run-parts infeasible None v h = let e = h.0.1 in absurd (cc e)
run-parts infeasible (Some t) v h = run-tree t 0 (end_line ∷ [])
run-parts (unbounded a d) tree v h = refl

pub run-cert : (c : Cert) → IsCert c → run (cert_lines c) (Some at_claim) ≡ Some at_end
run-cert c h = run-parts c.claim c.tree c.value h.parts

-- ---- backwards
-- the lines of trees, and the last line
abbrev forest_lines : List Tree → List Line
forest_lines [] = end_line ∷ []
forest_lines (t ∷ ts) = tree_lines t ++ forest_lines ts

record Forest (n : ℕ) (ls : List Line) : Type 0 where
  trees : List Tree
  count : length trees ≡ n
  lines : ls ≡ forest_lines trees

stopped : {P : Type 0} {s : State} (ls : List Line) → run ls None ≡ Some s → P
stopped ls e = let q = run-none ls in absurd (cc (e, q))

pub run-at_end : {s : State} (ls : List Line) → run ls (Some at_end) ≡ Some s → ls ≡ []
run-at_end [] e = refl
run-at_end (l ∷ ls) e = stopped ls e

with_leaf : (n : ℕ) (t : Tree) (l : Line) (ls : List Line) → tree_lines t ≡ l ∷ [] → Forest n ls → Forest (suc n) (l ∷ ls)
with_leaf n t l ls e f = record { trees = t ∷ f.trees; count = ap suc f.count; lines = ap (λ r. l ∷ r) f.lines ∙ ap (λ r. r ++ forest_lines f.trees) (sym e) }

joined : (j : ℕ) (f : ℤ) (n : ℕ) (ts : List Tree) (ls : List Line) → length ts ≡ suc (suc n) → ls ≡ forest_lines ts → Forest (suc n) (split_line j f ∷ ls)
joined j f n [] ls e h = absurd (omega arith)
joined j f n (t ∷ []) ls e h = absurd (omega arith)
joined j f n (t ∷ u ∷ ts) ls e h = record {
  trees = split j f t u ∷ ts;
  count = omega arith;
  lines = ap (λ r. split_line j f ∷ r) (h ∙ sym (append_assoc (tree_lines t) (tree_lines u) (forest_lines ts)));
}

forest : (ls : List Line) (n : ℕ) → run ls (Some (at_trees n)) ≡ Some at_end → Forest n ls
forest [] n e = absurd (cc)
forest (split_line j f ∷ ls) zero e = stopped ls e
forest (split_line j f ∷ ls) (suc n) e = let r = forest ls (suc (suc n)) e in joined j f n r.trees ls r.count r.lines
forest (best_line ys ∷ ls) zero e = stopped ls e
forest (best_line ys ∷ ls) (suc n) e = with_leaf n (best ys) _ ls refl (forest ls n e)
forest (empty_line ys ∷ ls) zero e = stopped ls e
forest (empty_line ys ∷ ls) (suc n) e = with_leaf n (empty ys) _ ls refl (forest ls n e)
forest (clash_line i j ∷ ls) zero e = stopped ls e
forest (clash_line i j ∷ ls) (suc n) e = with_leaf n (clash i j) _ ls refl (forest ls n e)
forest (end_line ∷ ls) zero e = record { trees = []; count = refl; lines = ap (λ r. end_line ∷ r) (run-at_end ls e) }
forest (end_line ∷ ls) (suc n) e = stopped ls e
forest (claim_line s ∷ ls) n e = stopped ls e
forest (point_line xs ∷ ls) n e = stopped ls e
forest (ray_line xs ∷ ls) n e = stopped ls e

-- ---- which certificate was read
record Read (ls : List Line) : Type 0 where
  cert : Cert
  parts : HasParts cert.claim cert.tree cert.value
  lines : ls ≡ cert_lines cert

one_tree : (front : List Line) (ls : List Line) (claim : Claim) (v : Option ℚ) (r : Forest 1 ls) → claim_lines claim v ≡ front
    → ((t : Tree) → (HasParts claim (Some t) v) × (node_lines claim (Some t) ≡ tree_lines t)) → Read (front ++ ls)
one_tree front ls claim v r e h = by_trees r.trees r.count r.lines
  where
    by_trees : (ts : List Tree) → length ts ≡ 1 → ls ≡ forest_lines ts → Read (front ++ ls)
    by_trees [] c q = absurd (omega arith)
    by_trees (t ∷ []) c q = record { cert = record { tree = Some t; claim = claim; value = v }; parts = (h t).0; lines = ap₂ (λ x y. x ++ y) (sym e) (q ∙ ap (λ x. x ++ (end_line ∷ [])) (sym (h t).1)) }
    by_trees (t ∷ u ∷ ts) c q = absurd (omega arith)

no_tree : (a d : List ℚ) (ls : List Line) → Forest 0 ls → Read (claim_line said_unbounded ∷ point_line a ∷ ray_line d ∷ ls)
no_tree a d ls r = by_trees r.trees r.count r.lines
  where
    by_trees : (ts : List Tree) → length ts ≡ 0 → ls ≡ forest_lines ts → Read (claim_line said_unbounded ∷ point_line a ∷ ray_line d ∷ ls)
    by_trees [] c q = record { cert = record { tree = None; claim = unbounded a d; value = None }; parts = (refl, refl); lines = ap (λ r. claim_line said_unbounded ∷ point_line a ∷ ray_line d ∷ r) q }
    by_trees (t ∷ ts) c q = absurd (omega arith)

ray_read : (a : List ℚ) (ls : List Line) → run ls (Some at_ray) ≡ Some at_end → Read (claim_line said_unbounded ∷ point_line a ∷ ls)
ray_read a [] e = absurd (cc)
ray_read a (ray_line d ∷ ls) e = no_tree a d ls (forest ls 0 e)
ray_read a (claim_line s ∷ ls) e = stopped ls e
ray_read a (point_line xs ∷ ls) e = stopped ls e
ray_read a (split_line j f ∷ ls) e = stopped ls e
ray_read a (best_line ys ∷ ls) e = stopped ls e
ray_read a (empty_line ys ∷ ls) e = stopped ls e
ray_read a (clash_line i j ∷ ls) e = stopped ls e
ray_read a (end_line ∷ ls) e = stopped ls e

start_read : (ls : List Line) → run ls (Some at_start) ≡ Some at_end → Read (claim_line said_unbounded ∷ ls)
start_read [] e = absurd (cc)
start_read (point_line a ∷ ls) e = ray_read a ls e
start_read (claim_line s ∷ ls) e = stopped ls e
start_read (ray_line xs ∷ ls) e = stopped ls e
start_read (split_line j f ∷ ls) e = stopped ls e
start_read (best_line ys ∷ ls) e = stopped ls e
start_read (empty_line ys ∷ ls) e = stopped ls e
start_read (clash_line i j ∷ ls) e = stopped ls e
start_read (end_line ∷ ls) e = stopped ls e

point_read : (v : Option ℚ) (ls : List Line) → run ls (Some at_point) ≡ Some at_end → Read (claim_line (said_optimal v) ∷ ls)
point_read v [] e = absurd (cc)
point_read v (point_line a ∷ ls) e = one_tree (claim_line (said_optimal v) ∷ point_line a ∷ []) ls (optimal a) v (forest ls 1 e) refl (λ t. ((t, refl), refl))
point_read v (claim_line s ∷ ls) e = stopped ls e
point_read v (ray_line xs ∷ ls) e = stopped ls e
point_read v (split_line j f ∷ ls) e = stopped ls e
point_read v (best_line ys ∷ ls) e = stopped ls e
point_read v (empty_line ys ∷ ls) e = stopped ls e
point_read v (clash_line i j ∷ ls) e = stopped ls e
point_read v (end_line ∷ ls) e = stopped ls e

read : (ls : List Line) → run ls (Some at_claim) ≡ Some at_end → Read ls
read [] e = absurd (cc)
read (claim_line (said_optimal v) ∷ ls) e = point_read v ls e
read (claim_line said_infeasible ∷ ls) e = one_tree (claim_line said_infeasible ∷ []) ls infeasible None (forest ls 1 e) refl (λ t. (((t, refl), refl), refl))
read (claim_line said_unbounded ∷ ls) e = start_read ls e
read (point_line xs ∷ ls) e = stopped ls e
read (ray_line xs ∷ ls) e = stopped ls e
read (split_line j f ∷ ls) e = stopped ls e
read (best_line ys ∷ ls) e = stopped ls e
read (empty_line ys ∷ ls) e = stopped ls e
read (clash_line i j ∷ ls) e = stopped ls e
read (end_line ∷ ls) e = stopped ls e

-- lines that are read to the end are those of a certificate
pub read_cert : (ls : List Line) → AllByRecursion IsLine ls → run ls (Some at_claim) ≡ Some at_end → (c : Cert) × (IsCert c × (ls ≡ cert_lines c))
read_cert ls h e =
    let r = read ls e in
    (r.cert, (record { parts = r.parts; lines = subst (AllByRecursion IsLine) r.lines h }, r.lines))
