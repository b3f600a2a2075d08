-- From what is found of nodes, points and directions to what a check answers.
use Rattle.std.proofs.Common.{◌≡◌, ◌↔◌, Bool, true, false, refl, sym, ap, ◌∙◌, List, [], ◌∷◌, ◌++◌, length, map, Option, Some, None, subst, arith, inl, inr}
use Rattle.std.specs.Prelude.{All, Result, Ok, Err}
use Rattle.std.specs.List.{AllByRecursion}
use Rattle.std.proofs.lemmas.List.Elements.{All-from_recursion, recursion_from_All}
use Rattle.fractions.specs.Rational.{ℚ}
use Rattle.calculations.specs.Calculation.{narrow}
use Rattle.optimality.specs.Problem.{Assignment}
use Rattle.linear_models.specs.Box.{Box}
use Rattle.affine_forms.specs.Forms.{AffineForm}
use Rattle.linear_models.specs.Worths.{form_at}
use Rattle.linear_models.specs.Model.{Model, IsPoint, maximised}
use Rattle.opt_certificate.specs.Certificate.{Tree, split, best, empty, clash, optimal, infeasible, unbounded, Proves, ProvesTarget, IsWayOut, lower_child, upper_child}
use Rattle.opt_certificate.specs.Nodes.{Node, listing, boxed, IsListed}
use Rattle.opt_certificate.specs.Sums.{form_sum, StaysNarrow}
use Rattle.opt_certificate.specs.Checks.{NodeProves, RowsAreNarrow, StepsAreNarrow, without_constant, Checked, IsWideAt, TreeChecked}
use Rattle.opt_certificate.specs.Walk.{Walked}
use Rattle.opt_certificate.specs.Trees.{node_of}
use Rattle.opt_certificate.specs.declared.tree.TreeNode.{TreeNode}
use Rattle.opt_certificate.specs.declared.checking.CheckStop.{CheckStop}
use Rattle.opt_certificate.specs.declared.checking.CheckStop.TheVariants as stops
use Rattle.opt_certificate.proofs.Totals.{form_is}

all_parts : {X : Type 0} (P : X → Type 0) (xs ys : List X) → AllByRecursion P (xs ++ ys) ↔ (AllByRecursion P xs × AllByRecursion P ys)
all_parts P [] ys = (λ h. (tt, h), λ h. h.1)
all_parts P (x ∷ xs) ys = let b = all_parts P xs ys in (λ h. ((h.0, (b.0 h.1).0), (b.0 h.1).1), λ h. (h.0.0, b.1 (h.0.1, h.1)))

-- a tree proves what each of its nodes does
nodes_are : (m : Model) (target : Option ℚ) (box : Box) (t : Tree) → AllByRecursion (NodeProves m target) (boxed box t) ↔ Proves m target box t
nodes_are m target box (split j f l u) =
    let p = all_parts (NodeProves m target) (boxed (lower_child box j f) l) (boxed (upper_child box j f) u) in
    let a = nodes_are m target (lower_child box j f) l in
    let b = nodes_are m target (upper_child box j f) u in
    (λ h. (h.0, a.0 (p.0 h.1).0, b.0 (p.0 h.1).1), λ h. (h.0, p.1 (a.1 h.1, b.1 h.2)))
nodes_are m target box (best ys) = (λ h. h.0, λ h. (h, tt))
nodes_are m target box (empty ys) = (λ h. h.0, λ h. (h, tt))
nodes_are m target box (clash i j) = (λ h. h.0, λ h. (h, tt))

pub proves_there : (m : Model) (target : Option ℚ) (t : Tree) → All (NodeProves m target) (boxed m.bounds t) → Proves m target m.bounds t
proves_there m target t h = (nodes_are m target m.bounds t).0 (recursion_from_All (NodeProves m target) (boxed m.bounds t) h)

pub proves_back : (m : Model) (target : Option ℚ) (t : Tree) → Proves m target m.bounds t → All (NodeProves m target) (boxed m.bounds t)
proves_back m target t h = All-from_recursion (NodeProves m target) (boxed m.bounds t) ((nodes_are m target m.bounds t).1 h)

same_tree : {t u : Tree} → Some t ≡ Some u → t ≡ u
same_tree e = cc

-- ---- trees
pub no_tree : (m : Model) (target : Option ℚ) (nodes : List Node) (t : Option Tree) → nodes ≡ [] → IsListed nodes t → ¬ (ProvesTarget m target t)
no_tree m target nodes None e l h = cc
no_tree m target nodes (Some (split j f lo up)) e l h = cc
no_tree m target nodes (Some (best ys)) e l h = cc
no_tree m target nodes (Some (empty ys)) e l h = cc
no_tree m target nodes (Some (clash i j)) e l h = cc

pub some_tree : (nodes : List Node) (t : Option Tree) → ¬ (nodes ≡ []) → IsListed nodes t → (u : Tree) × (nodes ≡ listing 0 u)
some_tree nodes None n l = absurd (n l)
some_tree nodes (Some u) n l = (u, l)

walked_tree : (m : Model) (target : Option ℚ) (u : Tree) (r : Result Bool CheckStop) → Walked m target (boxed m.bounds u) r → TreeChecked m target (Some u) r
walked_tree m target u (Ok true) w = ((u, refl, proves_there m target u w.0), w.1)
walked_tree m target u (Ok false) w = λ h. w (proves_back m target u (subst (Proves m target m.bounds) (sym (same_tree h.1)) h.2))
walked_tree m target u (Err (stops.Wide n)) w = w
walked_tree m target u (Err stops.Memory) w = tt

pub tree_checked : (m : Model) (target : Option ℚ) (nodes : List Node) (t : Option Tree) (r : Result Bool CheckStop) → ¬ (nodes ≡ []) → IsListed nodes t
    → ((u : Tree) → nodes ≡ listing 0 u → Walked m target (boxed m.bounds u) r) → TreeChecked m target t r
tree_checked m target nodes None r n l w = absurd (n l)
tree_checked m target nodes (Some u) r n l w = walked_tree m target u r (w u l)

-- ---- claims
pub optimal_checked : (m : Model) (tree : Option Tree) (f : AffineForm) (a : Assignment) (b : ℚ) (r : Result Bool CheckStop) → f ≡ maximised m.goal m.objective → IsPoint m a × RowsAreNarrow m a
    → narrow (form_sum f a) ≡ Some b → TreeChecked m (Some b) tree r → Checked m tree (optimal a) r
optimal_checked m tree f a b r e p s = cases r
  where
    worth : b ≡ form_at (maximised m.goal m.objective) a
    worth = form_is f a b s ∙ ap (λ (f : AffineForm). form_at f a) e

    fits : StaysNarrow (form_sum (maximised m.goal m.objective) a)
    fits = (b, ap (λ (f : AffineForm). narrow (form_sum f a)) (sym e) ∙ s)

    cases : (r : Result Bool CheckStop) → TreeChecked m (Some b) tree r → Checked m tree (optimal a) r
    cases (Ok true) c = ((p.0, subst (λ (x : ℚ). ProvesTarget m (Some x) tree) worth c.0), ((p.1, fits), c.1))
    cases (Ok false) c = λ h. c (subst (λ (x : ℚ). ProvesTarget m (Some x) tree) (sym worth) h.1)
    cases (Err (stops.Wide n)) c = inr c
    cases (Err stops.Memory) c = tt

pub infeasible_checked : (m : Model) (tree : Option Tree) (r : Result Bool CheckStop) → TreeChecked m None tree r → Checked m tree infeasible r
infeasible_checked m tree (Ok true) c = (c.0, (tt, c.1))
infeasible_checked m tree (Ok false) c = c
infeasible_checked m tree (Err (stops.Wide n)) c = inr c
infeasible_checked m tree (Err stops.Memory) c = tt

-- the claim's own sums
pub worth_wide : (m : Model) (tree : Option Tree) (f : AffineForm) (a : Assignment) → f ≡ maximised m.goal m.objective → narrow (form_sum f a) ≡ None → IsWideAt m tree (optimal a) 0
worth_wide m tree f a e s = inl (refl, λ n. never (sym (ap (λ (f : AffineForm). narrow (form_sum f a)) (sym e) ∙ s) ∙ n.1.1))
  where
    never : {x : ℚ} → None ≡ Some x → ⊥
    never q = cc

pub unbounded_checked : (m : Model) (tree : Option Tree) (f : AffineForm) (a d : Assignment) → f ≡ maximised m.goal m.objective → IsPoint m a × RowsAreNarrow m a
    → IsWayOut m d × (StepsAreNarrow m d × StaysNarrow (form_sum (without_constant f) d)) → Checked m tree (unbounded a d) (Ok true)
unbounded_checked m tree f a d e p w =
    ((p.0, w.0), ((p.1, (w.1.0, subst (λ (f : AffineForm). StaysNarrow (form_sum (without_constant f) d)) e w.1.1)), λ k x h. absurd (omega arith)))

pub direction_wide : (m : Model) (tree : Option Tree) (f : AffineForm) (a d : Assignment) → f ≡ maximised m.goal m.objective → ¬ (StepsAreNarrow m d × StaysNarrow (form_sum (without_constant f) d)) → IsWideAt m tree (unbounded a d) 0
direction_wide m tree f a d e n = inl (refl, λ c. n (c.1.0, subst (λ (f : AffineForm). StaysNarrow (form_sum (without_constant f) d)) (sym e) c.1.1))

-- ---- no node, or some
pub no_nodes : (nodes : List TreeNode) (ns : List Node) → map node_of nodes ≡ ns → length nodes ≡ 0 → ns ≡ []
no_nodes [] ns e h = sym e
no_nodes (x ∷ nodes) ns e h = absurd (omega (arith, h))

pub some_nodes : (nodes : List TreeNode) (ns : List Node) → map node_of nodes ≡ ns → ¬ (length nodes ≡ 0) → ¬ (ns ≡ [])
some_nodes [] ns e n q = n refl
some_nodes (x ∷ nodes) ns e n q = never (e ∙ q)
  where
    never : map node_of (x ∷ nodes) ≡ [] → ⊥
    never e = cc
