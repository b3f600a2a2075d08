-- One step through a tree.
use Rattle.std.proofs.Common.{◌≡◌, ℕ, ◌<◌, true, refl, sym, ap, ap₂, ◌∙◌, List, [], ◌∷◌, ◌++◌, length, Option, Some, subst, append-nil}
use Rattle.std.specs.Prelude.{All, Ok, ℤ}
use Rattle.std.proofs.lemmas.List.Elements.{All-pop}
use Rattle.fractions.specs.Rational.{ℚ}
use Rattle.linear_models.specs.Box.{Box}
use Rattle.linear_models.specs.Model.{Model}
use Rattle.opt_certificate.proofs.Trees.{marked_within}
use Rattle.opt_certificate.specs.Nodes.{Node, split_at}
use Rattle.opt_certificate.specs.Checks.{NodeProves, NodeIsNarrow}
use Rattle.linear_models.specs.Laws.{IsBoxOf}
use Rattle.opt_certificate.specs.Walk.{parts_of, Stepped}

pub record SameEnds {X : Type 0} (xs ys : List X) (x y : X) : Type 0 where
  pub front : xs ≡ ys
  pub end : x ≡ y

never_end : {X : Type 0} (x : X) (y : X) (ys : List X) → x ∷ [] ≡ y ∷ (ys ++ x ∷ []) → ⊥
never_end x y [] e = cc
never_end x y (z ∷ ys) e = cc

pub same_ends : {X : Type 0} (xs ys : List X) (x y : X) → xs ++ x ∷ [] ≡ ys ++ y ∷ [] → SameEnds xs ys x y
same_ends [] [] x y e = record { front = refl; end = cc }
same_ends [] (b ∷ []) x y e = cc
same_ends [] (b ∷ c ∷ ys) x y e = cc
same_ends (a ∷ []) [] x y e = cc
same_ends (a ∷ c ∷ xs) [] x y e = cc
same_ends (a ∷ xs) (b ∷ ys) x y e =
    let t : xs ++ x ∷ [] ≡ ys ++ y ∷ [] = cc in
    let h : a ≡ b = cc in
    let r = same_ends xs ys x y t in record { front = ap₂ ◌∷◌ h r.front; end = r.end }

pub popped_sized : (n : Model) (old new : List Box) (b : Box) → old ≡ new ++ b ∷ [] → All (IsBoxOf n) old → IsBoxOf n b
popped_sized n old new b e h = (All-pop (IsBoxOf n) old new (Some b) e h).1

pub split_within : (m : Model) (target : Option ℚ) (box : Box) (node : Node) (j : ℕ) (f : ℤ) (p q : ℕ) → node ≡ split_at j f p q → NodeProves m target (box, node) → j < length m.whole
split_within m target box node j f p q e h = marked_within m.whole j (subst (λ (node : Node). NodeProves m target (box, node)) e h)

pub stepped : (m : Model) (target : Option ℚ) (old front rest new : List Box) (within box : Box) (node : Node) → old ≡ front ++ within ∷ [] → old ≡ rest ++ box ∷ []
    → NodeProves m target (within, node) × NodeIsNarrow m (within, node) → new ≡ front ++ parts_of within node → Stepped m target rest box node new (Ok true)
stepped m target old front rest new within box node e f h n =
    let s = same_ends front rest within box (sym e ∙ f) in (
      subst (λ (b : Box). NodeProves m target (b, node)) s.end h.0,
      (subst (λ (b : Box). NodeIsNarrow m (b, node)) s.end h.1, n ∙ ap₂ (λ (xs : List Box) (b : Box). xs ++ parts_of b node) s.front s.end),
    )

-- after a split its parts wait, after a leaf nothing does
pub split_parts : (front new : List Box) (within : Box) (node : Node) (j : ℕ) (f : ℤ) (p q : ℕ) → node ≡ split_at j f p q → new ≡ front ++ parts_of within (split_at j f p q) → new ≡ front ++ parts_of within node
split_parts front new within node j f p q e h = h ∙ ap (λ (node : Node). front ++ parts_of within node) (sym e)

pub no_parts : (front : List Box) (within : Box) (node leaf : Node) → node ≡ leaf → parts_of within leaf ≡ [] → front ≡ front ++ parts_of within node
no_parts front within node leaf e h = sym (append-nil front) ∙ ap (λ (xs : List Box). front ++ xs) (sym h ∙ ap (parts_of within) (sym e))
