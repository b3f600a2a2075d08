-- The nodes that are made are those of the last tree.
use Rattle.std.proofs.Common.{◌≡◌, ℕ, ◌≤◌, ◌<◌, refl, sym, ap, ◌∙◌, subst, List, length, map, Bool, arith}
use Rattle.std.specs.Prelude.{All, Option, Some, None, Err}
use Rattle.std.specs.Option.{option_map, is_some}
use Rattle.linear_models.specs.Model.{Model, IsValid}
use Rattle.opt_certificate.specs.Certificate.{Tree}
use Rattle.opt_certificate.specs.Nodes.{Node}
use Rattle.searches.specs.Trees.{box_along, Part}
use Rattle.searches.specs.Trails.{is_plain, box_of}
use Rattle.branch_bound.specs.declared.frontier.Frontier.{Frontier}
use Rattle.branch_bound.specs.declared.frontier.Visit.{Visit}
use Rattle.branch_bound.specs.declared.frontier.Way.{Way}
use Rattle.branch_bound.specs.States.{way_of}
use Rattle.search_certificates.specs.Trees.{IsLastTree}
use Rattle.search_certificates.specs.Weights.{weight_of}
use Rattle.search_certificates.proofs.Existing.{last_tree}
use Rattle.search_certificates.proofs.Falling.{trail_falls}
use Rattle.search_certificates.proofs.Keeping.{SomeKept, rest_kept}
use Rattle.search_certificates.proofs.Kept.{last_is_first}
use Rattle.search_certificates.proofs.OneNode.{trail_numbered}
use Rattle.search_trees.specs.declared.slots.Slot.{Slot}
use Rattle.search_trees.specs.Slots.{AreSlots, slot_at}
use Rattle.search_trees.specs.declared.stop.TreeStop.TheVariants as stops
use Rattle.search_trees.specs.Orders.{IsShape, IsPreorder, AreLater, AreApart}
use Rattle.search_trees.specs.Roots.{IsLastOf}
use Rattle.search_trees.specs.Weights.{added}
use Rattle.search_trees.specs.Made.{AreMade, MayBeMade}
use Rattle.search_trees.specs.Preorders.{bare, preorder}
use Rattle.search_trees.specs.Trees.{IsOfSearch, LastTreeMade, most_weight}
use Rattle.search_trees.proofs.Known.{IsKnown, rest_of, are_later, are_apart}
use Rattle.search_trees.proofs.LastRoot.{last_number, opened_there}
use Rattle.search_trees.proofs.Ready.{all_there, all_may}
use Rattle.search_trees.proofs.Matching.{tree_fits}

-- ---- what is known of a search
pub kept_of : (m : Model) (f : Frontier) → IsValid m → IsOfSearch m (rest_of f) → SomeKept m (rest_of f)
kept_of m f v h = rest_kept m h.rule h.units (rest_of f) v h.trail refl

pub known_of : (m : Model) (f : Frontier) (ss : List Slot) → (v : IsValid m) → (h : IsOfSearch m (rest_of f)) → AreSlots (length f.paths.paths) f.opened.items ss → IsKnown m f ss (kept_of m f v h).first
known_of m f ss v h s = record {
  kept = (kept_of m f v h).kept;
  numbered = trail_numbered m h.rule h.units (rest_of f) h.trail;
  falls = trail_falls m h.rule h.units (rest_of f) h.trail;
  slots = s;
}

-- ---- the last tree, by the numbers of its nodes in preorder
pub record IsLastBy (m : Model) (f : Frontier) (ss : List Slot) (order : List ℕ) : Type 0 where
  pub tree : Tree
  pub last : IsLastTree m (rest_of f) tree
  pub weight : added m f.paths.paths ss order ≡ weight_of m m.bounds tree
  pub nodes : (xs : List Node) → AreMade m (is_plain (rest_of f).way) f.paths.paths ss order xs → map bare xs ≡ preorder tree

pub last_by : (m : Model) (f : Frontier) (ss : List Slot) (order : List ℕ) → (v : IsValid m) → (h : IsOfSearch m (rest_of f)) → AreSlots (length f.paths.paths) f.opened.items ss
    → IsPreorder ss (kept_of m f v h).first order → IsLastBy m f ss order
last_by m f ss order v h s (t, i, q) =
    let x = last_tree m (rest_of f) (kept_of m f v h) in
    let r = x.1.0 in
    let one : r.number ≡ (kept_of m f v h).first = last_is_first m (rest_of f) (kept_of m f v h).first r (kept_of m f v h).kept x.1.1 in
    let k = tree_fits m (is_plain (rest_of f).way) f ss (kept_of m f v h).first r x.0 t v refl (known_of m f ss v h s) x.1.2 (subst (λ n. IsShape ss n t) (sym one) i) in
    let box : box_of m r ≡ m.bounds = ap (box_along m.bounds) x.1.1.path in
    record {
      tree = x.0;
      last = x.1;
      weight = ap (added m f.paths.paths ss) q ∙ k.0 ∙ ap (λ box. weight_of m box x.0) box;
      nodes = λ xs a. k.1 xs (subst (λ ns. AreMade m (is_plain (rest_of f).way) f.paths.paths ss ns xs) q a);
    }

-- ---- what is asked where numbers are put in order
pub record IsRooted (m : Model) (f : Frontier) (ss : List Slot) (root : ℕ) : Type 0 where
  pub within : root < length ss
  pub later : AreLater root ss
  pub apart : AreApart root ss

pub rooted : (m : Model) (f : Frontier) (ss : List Slot) (root : ℕ) → (v : IsValid m) → (h : IsOfSearch m (rest_of f)) → AreSlots (length f.paths.paths) f.opened.items ss → IsLastOf f root → IsRooted m f ss root
rooted m f ss root v h s l =
    let k = kept_of m f v h in
    let x = known_of m f ss v h s in
    let one : k.first ≡ root = sym (last_number m f k.first root k.kept l) in
    let b = k.kept.below k.kept.root.0 k.kept.root.1 in
    let e = k.kept.root.3 in
    let size = s.size in
    record {
      within = omega (arith, b, e, one, size);
      later = subst (λ r. AreLater r ss) one (are_later m f ss k.first x);
      apart = subst (λ r. AreApart r ss) one (are_apart m f ss k.first x);
    }

-- ---- and of these numbers
pub record IsGathered (m : Model) (f : Frontier) (ss : List Slot) (order : List ℕ) : Type 0 where
  pub by : IsLastBy m f ss order
  pub there : All (λ n. n < length f.paths.paths) order
  pub may : All (λ n. MayBeMade m (is_plain (rest_of f).way) f.paths.paths (slot_at ss n) n) order
  pub size : length ss ≡ length f.paths.paths

pub gathered : (m : Model) (f : Frontier) (ss : List Slot) (root : ℕ) (order : List ℕ) → (v : IsValid m) → (h : IsOfSearch m (rest_of f)) → AreSlots (length f.paths.paths) f.opened.items ss → IsLastOf f root
    → IsPreorder ss root order → IsGathered m f ss order
gathered m f ss root order v h s l p =
    let k = kept_of m f v h in
    let x = known_of m f ss v h s in
    let one : root ≡ k.first = last_number m f k.first root k.kept l in
    let q : IsPreorder ss k.first order = subst (λ r. IsPreorder ss r order) one p in
    let r = rooted m f ss root v h s l in
    let later : AreLater k.first ss = subst (λ r. AreLater r ss) one r.later in
    let within : k.first < length ss = subst (λ r. r < length ss) one r.within in
    record {
      by = last_by m f ss order v h s q;
      there = all_there m f ss k.first q.0 order x later within q.1 q.2;
      may = all_may m f ss k.first q.0 order x later within q.1 q.2;
      size = s.size;
    }

-- ---- what is made of them
pub too_long : (m : Model) (f : Frontier) (ss : List Slot) (order : List ℕ) (ps : List (List Part)) (w : ℕ) → IsGathered m f ss order → ps ≡ f.paths.paths → w ≡ added m ps ss order → most_weight < w
    → LastTreeMade m (rest_of f) (Err (stops.TooLong w))
too_long m f ss order ps w h e q b = (h.by.tree, h.by.last, q ∙ ap (λ ps. added m ps ss order) e ∙ h.by.weight, b)

pub is_tree : (m : Model) (f : Frontier) (ss : List Slot) (order : List ℕ) (ps : List (List Part)) (plain : Bool) (nodes : List Node) → (h : IsGathered m f ss order) → ps ≡ f.paths.paths
    → plain ≡ is_plain (rest_of f).way → AreMade m plain ps ss order nodes → map bare nodes ≡ preorder h.by.tree
is_tree m f ss order ps plain nodes h e q k =
    h.by.nodes nodes (subst (λ b. AreMade m b f.paths.paths ss order nodes) q (subst (λ ps. AreMade m plain ps ss order nodes) e k))

pub light : (m : Model) (f : Frontier) (ss : List Slot) (order : List ℕ) (ps : List (List Part)) (w : ℕ) → (h : IsGathered m f ss order) → ps ≡ f.paths.paths → w ≡ added m ps ss order → w ≤ most_weight
    → weight_of m m.bounds h.by.tree ≤ most_weight
light m f ss order ps w h e q l = let a = q ∙ ap (λ ps. added m ps ss order) e ∙ h.by.weight in omega (arith, a, l)

-- whether there is a way out
pub plain_where : (way : Option Way) → is_some way ≡ is_plain (option_map way_of way)
plain_where None = refl
plain_where (Some w) = refl

-- ---- by equal lists
pub fill_ready : (m : Model) (f : Frontier) (os : List Visit) (n : ℕ) → IsValid m → IsOfSearch m (rest_of f) → os ≡ f.opened.items → n ≡ length f.paths.paths → All (λ v. v.number < n) os
fill_ready m f os n v h e q =
    let k = kept_of m f v h in
    subst (λ (n : ℕ). All (λ v. v.number < n) os) (sym q) (subst (λ (os : List Visit). All (λ v. v.number < length f.paths.paths) os) (sym e) (opened_there m f k.first k.kept))

pub slots_are : (f : Frontier) (os : List Visit) (n : ℕ) (ss : List Slot) → os ≡ f.opened.items → n ≡ length f.paths.paths → AreSlots n os ss → AreSlots (length f.paths.paths) f.opened.items ss
slots_are f os n ss e q h = subst (λ (n : ℕ). AreSlots n f.opened.items ss) q (subst (λ (os : List Visit). AreSlots n os ss) e h)
