-- A box that is led along paths.
use Rattle.std.proofs.Common.{◌≡◌, ℕ, suc, zero, ◌<◌, refl, sym, ap, ap₂, ◌∙◌, List, [], ◌∷◌, ◌++◌, length, get_or, set, arith, append-nil, length-append, subst, ◌⊎◌, inl, inr}
use Rattle.std.proofs.Common.{Vec, Global}
use Rattle.std.specs.Prelude.{Option, Some, None, slice_get}
use Rattle.std.specs.Vec.{with_items}
use Rattle.std.proofs.lemmas.List.{set-set, set-get_or, get_or_append_left, with_items_is}
use Rattle.fractions.specs.Rational.{ℚ}
use Rattle.linear_models.specs.Box.{Box}
use Rattle.searches.specs.Trees.{Part, lower, upper, part_of, box_along}
use Rattle.searches.proofs.Boxes.{along-append}
use Rattle.search_paths.specs.declared.origin.Origin.{Origin}
use Rattle.search_paths.specs.declared.walk.Walk.{Walk}
use Rattle.search_paths.specs.Origins.{held_part}
use Rattle.search_paths.specs.Tables.{path_by, path_from, grown, IsPlaced, AreBefore}
use Rattle.search_paths.specs.Walks.{bound_in, with_bound, replaced_along, box_of, IsLed, IsAt, IsWay}
use Rattle.search_paths.proofs.Growing.{grown-push, grown-length, node_path}

-- ---- a part is put in and undone
put_back : (bs : List (Option ℚ)) (j : ℕ) (c : Option ℚ) → set (set bs j c) j (get_or bs j None) ≡ bs
put_back bs j c = set-set bs j c (get_or bs j None) ∙ set-get_or bs j None

abbrev pub made : List (Option ℚ) → List (Option ℚ) → Box
made least greatest = record { least = least; greatest = greatest }

undone : (box : Box) (p : Part) → with_bound (part_of box p) p (bound_in box p) ≡ box
undone box (lower j f) = ap (λ (bs : List (Option ℚ)). made box.least bs) (put_back box.greatest j _)
undone box (upper j f) = ap (λ (bs : List (Option ℚ)). made bs box.greatest) (put_back box.least j _)

replaced-append : (box : Box) (ps : List Part) (p : Part) → replaced_along box (ps ++ p ∷ []) ≡ replaced_along box ps ++ bound_in (box_along box ps) p ∷ []
replaced-append box [] p = refl
replaced-append box (q ∷ ps) p = ap (λ (bs : List (Option ℚ)). bound_in box q ∷ bs) (replaced-append (part_of box q) ps p)

same_ends : {X : Type 0} (xs ys : List X) (x y : X) → xs ++ x ∷ [] ≡ ys ++ y ∷ [] → (xs ≡ ys) × (x ≡ y)
same_ends [] [] x y e = (refl, (let h : (x ∷ []) ≡ (y ∷ []) = e in cc))
same_ends [] (z ∷ []) x y e = absurd cc
same_ends [] (z ∷ w ∷ ys) x y e = absurd cc
same_ends (z ∷ []) [] x y e = absurd cc
same_ends (z ∷ w ∷ xs) [] x y e = absurd cc
same_ends {X = X} (z ∷ xs) (w ∷ ys) x y e =
    let tails : xs ++ x ∷ [] ≡ ys ++ y ∷ [] = cc in
    let heads : z ≡ w = cc in
    let h = same_ends xs ys x y tails in
    (ap₂ (λ (v : X) (vs : List X). v ∷ vs) heads h.0, h.1)

-- what was lent is written back
pub box_after : (v u : Vec (Option ℚ) Global) (ls gs ls' gs' : List (Option ℚ)) (f : Box → Box) → ls ≡ v.items → gs ≡ u.items → length ls' ≡ v.len → length gs' ≡ u.len → made ls' gs' ≡ f (made ls gs)
    → made (with_items v ls').items (with_items u gs').items ≡ f (made v.items u.items)
box_after v u ls gs ls' gs' f a b c d e =
    ap₂ (λ (xs ys : List (Option ℚ)). made xs ys) (with_items_is v ls' c) (with_items_is u gs' d) ∙ e ∙ ap₂ (λ (xs ys : List (Option ℚ)). f (made xs ys)) a b

-- the box and the replaced bounds of a path
pub record AreOf (root : Box) (path : List Part) (led : Box) (before : List (Option ℚ)) : Type 0 where
  pub box : led ≡ box_along root path
  pub replaced : before ≡ replaced_along root path

pub undo_led : (root box new : Box) (rs rest : List (Option ℚ)) (b : Option ℚ) (path : List Part) (p : Part) → AreOf root (path ++ p ∷ []) box rs → rs ≡ rest ++ b ∷ [] → new ≡ with_bound box p b → AreOf root path new rest
undo_led root box new rs rest b path p h e n =
    let q = same_ends rest (replaced_along root path) b (bound_in (box_along root path) p) (sym e ∙ h.replaced ∙ replaced-append root path p) in
    record {
      box = n ∙ ap₂ (λ (x : Box) (c : Option ℚ). with_bound x p c) (h.box ∙ along-append root path p) q.1 ∙ undone (box_along root path) p;
      replaced = q.0;
    }

pub make_led : (root box new : Box) (rs after : List (Option ℚ)) (b : Option ℚ) (path : List Part) (p : Part) → AreOf root path box rs → after ≡ rs ++ b ∷ [] → b ≡ bound_in box p → new ≡ part_of box p → AreOf root (path ++ p ∷ []) new after
make_led root box new rs after b path p h e c n = record {
  box = n ∙ ap (λ (x : Box). part_of x p) h.box ∙ sym (along-append root path p);
  replaced = e ∙ ap₂ (λ (bs : List (Option ℚ)) (x : Option ℚ). bs ++ x ∷ []) h.replaced (c ∙ ap (λ (x : Box). bound_in x p) h.box) ∙ sym (replaced-append root path p);
}

pub of_led : (path : List Part) (w : Walk) → IsLed path w → AreOf w.root path (box_of w) w.replaced.items
of_led path w h = record { box = h.box; replaced = h.replaced }

-- a path that ends in a part has replaced a bound
pub none_left : (root box : Box) (path : List Part) (p : Part) (rs : List (Option ℚ)) → AreOf root (path ++ p ∷ []) box rs → length rs ≡ 0 → ⊥
none_left root box path p rs h e =
    let l = length-append (replaced_along root path) (bound_in (box_along root path) p ∷ []) in
    let n = ap length (h.replaced ∙ replaced-append root path p) in
    omega (arith, e, l, n)

-- ---- the node before
-- the last part of a node's path
abbrev pub part_list : Option Part → List Part
part_list None = []
part_list (Some p) = p ∷ []

pub first_path : (os : List Origin) → AreBefore os → get_or (grown [] os) 0 [] ≡ []
first_path [] b = refl
first_path (o ∷ os) b = node_path (o ∷ os) 0 o b refl ∙ by_part (held_part o) refl
  where
    by_part : (h : Option Part) → held_part o ≡ h → path_by (grown [] (o ∷ os)) o.parent h ≡ []
    by_part None e = refl
    by_part (Some p) e = absurd (let l : o.parent < 0 = (b 0 o refl).after p e in omega (arith, l))

-- a node's path is that of the node before it, and its last part
pub path_above : (os : List Origin) (k : ℕ) (r : Origin) (h : Option Part) → AreBefore os → slice_get os k ≡ Some r → held_part r ≡ h → get_or (grown [] os) k [] ≡ get_or (grown [] os) r.parent [] ++ part_list h
path_above os k r h b e q = node_path os k r b e ∙ ap (path_by (grown [] os) r.parent) q ∙ by_part h q
  where
    by_part : (h : Option Part) → held_part r ≡ h → path_by (grown [] os) r.parent h ≡ get_or (grown [] os) r.parent [] ++ part_list h
    by_part None q = sym (append-nil _ ∙ ap (λ (n : ℕ). get_or (grown [] os) n []) ((b k r e).root q) ∙ first_path os b)
    by_part (Some p) q = refl

pub smaller : (k : ℕ) (r : Origin) → IsPlaced k r → 0 < k → r.parent < k
smaller k r b l = by_part (held_part r) refl
  where
    by_part : (h : Option Part) → held_part r ≡ h → r.parent < k
    by_part None e = let z = b.root e in omega (arith, z, l)
    by_part (Some p) e = b.after p e

pub is_there : (os : List Origin) (k : ℕ) (o : Origin) → slice_get os k ≡ Some o → k < length os
is_there [] k o e = absurd cc
is_there (p ∷ os) zero o e = omega arith
is_there (p ∷ os) (suc k) o e = let l = is_there os k o e in omega (arith, l)

pub read_at : (os : List Origin) (k : ℕ) (d : Origin) → k < length os → slice_get os k ≡ Some (get_or os k d)
read_at [] k d l = absurd (omega (arith, l))
read_at (o ∷ os) zero d l = refl
read_at (o ∷ os) (suc k) d l = read_at os k d (omega (arith, l))

-- ---- steps between a node and the one before it
pub within : (os : List Origin) (w : Walk) → IsAt os w → 0 < w.at → w.at < length os
within os w a l = elim a.there [ inl h ↦ h | inr z ↦ absurd (omega (arith, l, z)) ]

moved : (path : List Part) (w : Walk) (n : ℕ) → IsLed path w → IsLed path (record w { at = n })
moved path w n h = record { box = h.box; replaced = h.replaced }

-- a walk that stands at the first node, where no box has been led
pub at_nowhere : (os : List Origin) (w : Walk) → AreBefore os → w.at ≡ 0 → IsLed [] w → IsAt os w
at_nowhere os w b e l = record { there = inr e; led = subst (λ (path : List Part). IsLed path w) (sym (ap (λ (n : ℕ). get_or (grown [] os) n []) e ∙ first_path os b)) l }

pub up_part : (os : List Origin) (w v : Walk) (p : Part) (o : Origin) → AreBefore os → IsAt os w → 0 < w.at → slice_get os w.at ≡ Some o → held_part o ≡ Some p → v.at ≡ o.parent
    → ((path : List Part) → IsLed (path ++ p ∷ []) (record w { at = o.parent }) → IsLed path v) → IsAt os v
up_part os w v p o b a l e h q f = record {
  there = inl (let s = smaller w.at o (b w.at o e) l in let t = within os w a l in omega (arith, s, t, q));
  led = subst (λ (n : ℕ). IsLed (get_or (grown [] os) n []) v) (sym q)
      (f (get_or (grown [] os) o.parent []) (moved _ w o.parent (subst (λ (path : List Part). IsLed path w) (path_above os w.at o (Some p) b e h) a.led)));
}

pub up_root : (os : List Origin) (w : Walk) (o : Origin) → AreBefore os → IsAt os w → 0 < w.at → slice_get os w.at ≡ Some o → held_part o ≡ None → IsAt os (record w { at = o.parent })
up_root os w o b a l e h = record {
  there = inl (let s = smaller w.at o (b w.at o e) l in let t = within os w a l in omega (arith, s, t));
  led = moved _ w o.parent (subst (λ (path : List Part). IsLed path w) (path_above os w.at o None b e h ∙ append-nil _) a.led);
}

pub down_part : (os : List Origin) (w v : Walk) (k : ℕ) (p : Part) (o : Origin) → AreBefore os → IsAt os w → k < length os → slice_get os k ≡ Some o → held_part o ≡ Some p → o.parent ≡ w.at
    → ((path : List Part) → IsLed path w → IsLed (path ++ p ∷ []) v) → IsAt os (record v { at = k })
down_part os w v k p o b a l e h q f = record {
  there = inl l;
  led = moved _ v k (subst (λ (path : List Part). IsLed path v) (sym (path_above os k o (Some p) b e h))
      (f (get_or (grown [] os) o.parent []) (subst (λ (n : ℕ). IsLed (get_or (grown [] os) n []) w) (sym q) a.led)));
}

pub down_root : (os : List Origin) (w : Walk) (k : ℕ) (o : Origin) → AreBefore os → IsAt os w → k < length os → slice_get os k ≡ Some o → held_part o ≡ None → o.parent ≡ w.at → IsAt os (record w { at = k })
down_root os w k o b a l e h q = record {
  there = inl l;
  led = moved _ w k (subst (λ (path : List Part). IsLed path w) (sym (path_above os k o None b e h ∙ append-nil _))
      (subst (λ (n : ℕ). IsLed (get_or (grown [] os) n []) w) (sym q) a.led));
}

-- ---- one node more
pub at_push : (os : List Origin) (x : Origin) (w : Walk) → AreBefore os → AreBefore (os ++ x ∷ []) → IsAt os w → IsAt (os ++ x ∷ []) w
at_push os x w b c a = record { there = still a.there; led = subst (λ (path : List Part). IsLed path w) (sym (same a.there)) a.led }
  where
    still : (w.at < length os) ⊎ (w.at ≡ 0) → (w.at < length (os ++ x ∷ [])) ⊎ (w.at ≡ 0)
    still (inl l) = inl (let n = length-append os (x ∷ []) in omega (arith, l, n))
    still (inr z) = inr z

    same : (w.at < length os) ⊎ (w.at ≡ 0) → get_or (grown [] (os ++ x ∷ [])) w.at [] ≡ get_or (grown [] os) w.at []
    same (inl l) =
        let n = grown-length [] os in
        ap (λ (ps : List (List Part)). get_or ps w.at []) (grown-push [] os x) ∙ get_or_append_left (grown [] os) (path_from (grown [] os) x ∷ []) [] w.at (omega (arith, l, n))
    same (inr z) =
        ap (λ (n : ℕ). get_or (grown [] (os ++ x ∷ [])) n []) z ∙ first_path (os ++ x ∷ []) c ∙ sym (ap (λ (n : ℕ). get_or (grown [] os) n []) z ∙ first_path os b)

-- ---- ways
pub way_more : (os : List Origin) (ns : List ℕ) (below target : ℕ) (o : Origin) → IsWay os ns below target → slice_get os below ≡ Some o → IsWay os (ns ++ below ∷ []) o.parent target
way_more os [] below target o h e = (h, o, e, refl)
way_more os (n ∷ ns) below target o h e = (h.0, h.1, h.2, way_more os ns below h.1.parent o h.3 e)

pub way_last : (os : List Origin) (ns : List ℕ) (m begin target : ℕ) → IsWay os (ns ++ m ∷ []) begin target → (o : Origin) × (slice_get os m ≡ Some o) × (begin ≡ o.parent) × IsWay os ns m target
way_last os [] m begin target h = (h.1, h.2, h.3, h.0)
way_last os (n ∷ ns) m begin target h = let r = way_last os ns m begin h.1.parent h.3 in (r.0, r.1, r.2, (h.0, h.1, h.2, r.3))

-- ---- a step of a way
pub same_place : (os : List Origin) (k : ℕ) (x y : Origin) → slice_get os k ≡ Some x → slice_get os k ≡ Some y → x ≡ y
same_place os k x y e h = cc
