-- Trees of splits that grow at a leaf.
use Rattle.std.proofs.Common.{◌≡◌, ◌≢◌, ℕ, refl, sym, ap₂, ◌∙◌, subst, List, [], ◌∷◌, ◌++◌, Bool, true, false}
use Rattle.std.specs.Prelude.{ℤ}
use Rattle.linear_models.specs.Box.{Box}
use Rattle.linear_models.specs.Model.{Model}
use Rattle.searches.specs.Trees.{Part, lower, upper, part_of, box_along}
use Rattle.searches.specs.TrueTrees.{SplitTree, leaf, split_at, HasNode, IsTrueTree, IsTrueSplit}

-- the path leads to a leaf
abbrev pub IsLeaf : SplitTree → List Part → Type 0
IsLeaf leaf [] = Unit {0}
IsLeaf (split_at j f low high) [] = ⊥
IsLeaf leaf (p ∷ ps) = ⊥
IsLeaf (split_at j f low high) (lower i g ∷ ps) = (i ≡ j) × ((g ≡ f) × IsLeaf low ps)
IsLeaf (split_at j f low high) (upper i g ∷ ps) = (i ≡ j) × ((g ≡ f) × IsLeaf high ps)

-- the leaf at the path is split
abbrev pub grown : SplitTree → List Part → ℕ → ℤ → SplitTree
grown leaf ps k h = split_at k h leaf leaf
grown (split_at j f low high) [] k h = split_at j f low high
grown (split_at j f low high) (lower i g ∷ ps) k h = split_at j f (grown low ps k h) high
grown (split_at j f low high) (upper i g ∷ ps) k h = split_at j f low (grown high ps k h)

pub leaf_is_node : (t : SplitTree) (ps : List Part) → IsLeaf t ps → HasNode t ps
leaf_is_node leaf [] l = tt
leaf_is_node (split_at j f low high) [] l = tt
leaf_is_node leaf (p ∷ ps) l = l
leaf_is_node (split_at j f low high) (lower i g ∷ ps) l = (l.0, (l.1.0, leaf_is_node low ps l.1.1))
leaf_is_node (split_at j f low high) (upper i g ∷ ps) l = (l.0, (l.1.0, leaf_is_node high ps l.1.1))

pub node_stays : (t : SplitTree) (ps qs : List Part) (k : ℕ) (h : ℤ) → HasNode t qs → HasNode (grown t ps k h) qs
node_stays leaf ps [] k h n = tt
node_stays leaf ps (q ∷ qs) k h n = absurd n
node_stays (split_at j f low high) ps [] k h n = tt
node_stays (split_at j f low high) [] (q ∷ qs) k h n = n
node_stays (split_at j f low high) (lower i g ∷ ps) (lower i' g' ∷ qs) k h n = (n.0, (n.1.0, node_stays low ps qs k h n.1.1))
node_stays (split_at j f low high) (lower i g ∷ ps) (upper i' g' ∷ qs) k h n = n
node_stays (split_at j f low high) (upper i g ∷ ps) (lower i' g' ∷ qs) k h n = n
node_stays (split_at j f low high) (upper i g ∷ ps) (upper i' g' ∷ qs) k h n = (n.0, (n.1.0, node_stays high ps qs k h n.1.1))

pub leaf_stays : (t : SplitTree) (ps qs : List Part) (k : ℕ) (h : ℤ) → IsLeaf t ps → IsLeaf t qs → ps ≢ qs → IsLeaf (grown t ps k h) qs
leaf_stays leaf [] [] k h l n d = absurd (d refl)
leaf_stays leaf [] (q ∷ qs) k h l n d = absurd n
leaf_stays leaf (p ∷ ps) qs k h l n d = absurd l
leaf_stays (split_at j f low high) [] qs k h l n d = absurd l
leaf_stays (split_at j f low high) (p ∷ ps) [] k h l n d = absurd n
leaf_stays (split_at j f low high) (lower i g ∷ ps) (lower i' g' ∷ qs) k h l n d =
    (n.0, (n.1.0, leaf_stays low ps qs k h l.1.1 n.1.1 (λ e. d (ap₂ ◌∷◌ (ap₂ lower (l.0 ∙ sym n.0) (l.1.0 ∙ sym n.1.0)) e))))
leaf_stays (split_at j f low high) (lower i g ∷ ps) (upper i' g' ∷ qs) k h l n d = n
leaf_stays (split_at j f low high) (upper i g ∷ ps) (lower i' g' ∷ qs) k h l n d = n
leaf_stays (split_at j f low high) (upper i g ∷ ps) (upper i' g' ∷ qs) k h l n d =
    (n.0, (n.1.0, leaf_stays high ps qs k h l.1.1 n.1.1 (λ e. d (ap₂ ◌∷◌ (ap₂ upper (l.0 ∙ sym n.0) (l.1.0 ∙ sym n.1.0)) e))))

pub new_lower : (t : SplitTree) (ps : List Part) (k : ℕ) (h : ℤ) → IsLeaf t ps → IsLeaf (grown t ps k h) (ps ++ lower k h ∷ [])
new_lower leaf [] k h l = (refl, (refl, tt))
new_lower leaf (p ∷ ps) k h l = absurd l
new_lower (split_at j f low high) [] k h l = absurd l
new_lower (split_at j f low high) (lower i g ∷ ps) k h l = (l.0, (l.1.0, new_lower low ps k h l.1.1))
new_lower (split_at j f low high) (upper i g ∷ ps) k h l = (l.0, (l.1.0, new_lower high ps k h l.1.1))

pub new_upper : (t : SplitTree) (ps : List Part) (k : ℕ) (h : ℤ) → IsLeaf t ps → IsLeaf (grown t ps k h) (ps ++ upper k h ∷ [])
new_upper leaf [] k h l = (refl, (refl, tt))
new_upper leaf (p ∷ ps) k h l = absurd l
new_upper (split_at j f low high) [] k h l = absurd l
new_upper (split_at j f low high) (lower i g ∷ ps) k h l = (l.0, (l.1.0, new_upper low ps k h l.1.1))
new_upper (split_at j f low high) (upper i g ∷ ps) k h l = (l.0, (l.1.0, new_upper high ps k h l.1.1))

-- a leaf has nothing below it
pub none_below : (t : SplitTree) (ps : List Part) (p : Part) → IsLeaf t ps → IsLeaf t (ps ++ p ∷ []) → ⊥
none_below leaf [] p l n = n
none_below leaf (q ∷ ps) p l n = l
none_below (split_at j f low high) [] p l n = l
none_below (split_at j f low high) (lower i g ∷ ps) p l n = none_below low ps p l.1.1 n.1.1
none_below (split_at j f low high) (upper i g ∷ ps) p l n = none_below high ps p l.1.1 n.1.1

same_rest : (q : Part) (ps qs : List Part) → q ∷ ps ≡ q ∷ qs → ps ≡ qs
same_rest q ps qs e = cc

pub parts_differ : (ps : List Part) (j : ℕ) (f : ℤ) → ps ++ lower j f ∷ [] ≡ ps ++ upper j f ∷ [] → ⊥
parts_differ [] j f e = cc
parts_differ (q ∷ ps) j f e = parts_differ ps j f (same_rest q _ _ e)

pub grown_true : (m : Model) (plain : Bool) (box : Box) (t : SplitTree) (ps : List Part) (k : ℕ) (h : ℤ) → IsTrueTree m plain box t → IsLeaf t ps → IsTrueSplit m plain (box_along box ps) k h
    → IsTrueTree m plain box (grown t ps k h)
grown_true m plain box leaf [] k h r l s = (s, (tt, tt))
grown_true m plain box leaf (p ∷ ps) k h r l s = absurd l
grown_true m plain box (split_at j f low high) [] k h r l s = absurd l
grown_true m plain box (split_at j f low high) (lower i g ∷ ps) k h r l s =
    (r.0, (grown_true m plain (part_of box (lower j f)) low ps k h r.1.0 l.1.1 (subst (λ (p : Part). IsTrueSplit m plain (box_along (part_of box p) ps) k h) (ap₂ lower l.0 l.1.0) s), r.1.1))
grown_true m plain box (split_at j f low high) (upper i g ∷ ps) k h r l s =
    (r.0, (r.1.0, grown_true m plain (part_of box (upper j f)) high ps k h r.1.1 l.1.1 (subst (λ (p : Part). IsTrueSplit m plain (box_along (part_of box p) ps) k h) (ap₂ upper l.0 l.1.0) s)))

-- ---- one of two trees is changed
abbrev pub with_tree : Bool → SplitTree → (Bool → SplitTree) → Bool → SplitTree
with_tree true t trees true = t
with_tree true t trees false = trees false
with_tree false t trees true = trees true
with_tree false t trees false = t

pub changed : (plain : Bool) (t : SplitTree) (trees : Bool → SplitTree) → with_tree plain t trees plain ≡ t
changed true t trees = refl
changed false t trees = refl

pub each_tree : (P : Bool → SplitTree → Type 0) (plain : Bool) (t : SplitTree) (trees : Bool → SplitTree) → P plain t → ((b : Bool) → P b (trees b)) → (b : Bool) → P b (with_tree plain t trees b)
each_tree P true t trees p h true = p
each_tree P true t trees p h false = h false
each_tree P false t trees p h true = h true
each_tree P false t trees p h false = p
