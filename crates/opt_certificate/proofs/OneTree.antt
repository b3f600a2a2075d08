-- Nodes are those of one tree at most.
use Rattle.std.proofs.Common.{◌≡◌, ℕ, ◌+◌, refl, sym, ap, ap₂, ◌∙◌, List, [], ◌∷◌, ◌++◌, append_assoc, append-nil, Some, None}
use Rattle.opt_certificate.specs.Certificate.{Tree, split, best, empty, clash}
use Rattle.opt_certificate.specs.Nodes.{Node, split_at, size, listing, ListedOnce}

-- two lists of nodes that begin with a tree begin with the same one, and go on alike
pub record SameStart (t u : Tree) (xs ys : List Node) : Type 0 where
  pub tree : t ≡ u
  pub rest : xs ≡ ys

heads : {X : Type 0} (x y : X) (xs ys : List X) → x ∷ xs ≡ y ∷ ys → x ≡ y
heads x y xs ys e = cc

tails : {X : Type 0} (x y : X) (xs ys : List X) → x ∷ xs ≡ y ∷ ys → xs ≡ ys
tails x y xs ys e = cc

pub same_start : (k : ℕ) (t u : Tree) (xs ys : List Node) → listing k t ++ xs ≡ listing k u ++ ys → SameStart t u xs ys
same_start k (best a) (best b) xs ys e = let q : a ≡ b = cc in record { tree = ap best q; rest = cc }
same_start k (empty a) (empty b) xs ys e = let q : a ≡ b = cc in record { tree = ap empty q; rest = cc }
same_start k (best a) (empty b) xs ys e = cc
same_start k (empty a) (best b) xs ys e = cc
same_start k (clash a b) (clash x y) xs ys e = let p : a ≡ x = cc in let q : b ≡ y = cc in record { tree = ap₂ clash p q; rest = cc }
same_start k (clash a b) (best x) xs ys e = cc
same_start k (clash a b) (empty x) xs ys e = cc
same_start k (best a) (clash x y) xs ys e = cc
same_start k (empty a) (clash x y) xs ys e = cc
same_start k (clash a b) (split j f l u) xs ys e = let q = heads _ _ _ _ e in absurd (cc)
same_start k (split j f l u) (clash a b) xs ys e = let q = heads _ _ _ _ e in absurd (cc)
same_start k (best a) (split j f l u) xs ys e = let q = heads _ _ _ _ e in absurd (cc)
same_start k (empty a) (split j f l u) xs ys e = let q = heads _ _ _ _ e in absurd (cc)
same_start k (split j f l u) (best b) xs ys e = let q = heads _ _ _ _ e in absurd (cc)
same_start k (split j f l u) (empty b) xs ys e = let q = heads _ _ _ _ e in absurd (cc)
same_start k (split i g l u) (split j f v w) xs ys e =
    let q : split_at i g (k + 1) (k + (1 + size l)) ≡ split_at j f (k + 1) (k + (1 + size v)) = heads _ _ _ _ e in
    let a : i ≡ j = cc in
    let b : g ≡ f = cc in
    let c : k + (1 + size l) ≡ k + (1 + size v) = cc in
    let r = tails _ _ _ _ e in
    let low = same_start (k + 1) l v (listing (k + (1 + size l)) u ++ xs) (listing (k + (1 + size v)) w ++ ys)
    (sym (append_assoc (listing (k + 1) l) (listing (k + (1 + size l)) u) xs) ∙ r ∙ append_assoc (listing (k + 1) v) (listing (k + (1 + size v)) w) ys) in
    let high = same_start (k + (1 + size l)) u w xs ys (low.rest ∙ ap (λ n. listing n w ++ ys) (sym c)) in
    record { tree = ap₂ (λ j f. split j f l u) a b ∙ ap₂ (split j f) low.tree high.tree; rest = high.rest }

none_listed : (t : Tree) → [] ≡ listing 0 t → ⊥
none_listed (split j f l u) e = cc
none_listed (best ys) e = cc
none_listed (empty ys) e = cc
none_listed (clash i j) e = cc

pub listed_once : ListedOnce
listed_once nodes None None a b = refl
listed_once nodes None (Some u) a b = absurd (none_listed u (sym a ∙ b))
listed_once nodes (Some t) None a b = absurd (none_listed t (sym b ∙ a))
listed_once nodes (Some t) (Some u) a b =
    ap Some (same_start 0 t u [] [] (append-nil (listing 0 t) ∙ sym a ∙ b ∙ sym (append-nil (listing 0 u)))).tree
