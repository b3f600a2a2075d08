-- The bounds of whole decisions in the boxes of nodes: whole, and there where they are in the model's box.
use Rattle.std.proofs.Common.{◌≡◌, ◌≢◌, ◌⊎◌, inl, inr, ℕ, ◌<◌, refl, sym, ap, ◌∙◌, subst, Bool, true, false, cond, List, [], ◌∷◌, length, get_or, set, Option, Some, None, arith, get_or-set_same, get_or-set_other, pos, ◌+ℤ◌}
use Rattle.std.specs.Prelude.{slice_get}
use Rattle.std.proofs.lemmas.List.Elements.{recursion_from_All}
use Rattle.fractions.specs.Rational.{ℚ, le_ℚ, numerator}
use Rattle.fractions.specs.Whole.{whole_ℚ}
use Rattle.optimality.specs.Optimal.{IsWhole}
use Rattle.linear_models.specs.Box.{Box, bound_at, lesser, greater}
use Rattle.linear_models.specs.Model.{Model, AreWholeBounds, IsGroupOf, IsValid, is_whole_at}
use Rattle.linear_models.specs.Laws.{IsBoxOf}
use Rattle.linear_models.specs.Statement.{is_in}
use Rattle.linear_models.proofs.Groups.{place_of}
use Rattle.linear_models.proofs.Wholes.{whole_is}
use Rattle.opt_certificate.proofs.Clashes.{group_at}
use Rattle.opt_certificate.proofs.Multiples.{whole_number}
use Rattle.opt_certificate.proofs.Trees.{marked_within}
use Rattle.searches.specs.Trees.{Part, lower, upper, part_of, box_along, Node}
use Rattle.searches.specs.Trails.{box_of}
use Rattle.searches.specs.Alike.{AreAlike, AreFirstAlike, SplitsAt, at_first, at_second, HasTwoBounds}
use Rattle.searches.proofs.Boxes.{along_is_box, along_bounded}

some_is : {x y : ℚ} → Some x ≡ Some y → x ≡ y
some_is e = cc

pub record AreWholeIn (m : Model) (box : Box) : Type 0 where
  pub least : AreWholeBounds m.whole box.least
  pub greatest : AreWholeBounds m.whole box.greatest

same_or_not : (i j : ℕ) → (i ≡ j) ⊎ (i ≢ j)
same_or_not i j = grind arith

lesser_whole : (o : Option ℚ) (f : ℚ) → ((b : ℚ) → o ≡ Some b → IsWhole b) → IsWhole f → IsWhole (lesser o f)
lesser_whole None f h w = w
lesser_whole (Some b) f h w = cases (le_ℚ b f)
  where
    cases : (v : Bool) → IsWhole (cond v b f)
    cases true = h b refl
    cases false = w

greater_whole : (o : Option ℚ) (f : ℚ) → ((b : ℚ) → o ≡ Some b → IsWhole b) → IsWhole f → IsWhole (greater o f)
greater_whole None f h w = w
greater_whole (Some b) f h w = cases (le_ℚ f b)
  where
    cases : (v : Bool) → IsWhole (cond v b f)
    cases true = h b refl
    cases false = w

put_whole : (marks : List Bool) (os : List (Option ℚ)) (j : ℕ) (x : ℚ) → length os ≡ length marks → AreWholeBounds marks os → (is_whole_at marks j ≡ true → IsWhole x) → AreWholeBounds marks (set os j (Some x))
put_whole marks os j x n h w i b e q = cases (same_or_not i j)
  where
    cases : (i ≡ j) ⊎ (i ≢ j) → IsWhole b
    cases (inl k) =
        let l : j < length os = subst (λ t. j < t) (sym n) (marked_within marks j (subst (λ i. is_whole_at marks i ≡ true) k e)) in
        subst IsWhole (some_is (sym (get_or-set_same os j (Some x) None l) ∙ ap (λ k. get_or (set os j (Some x)) k None) (sym k) ∙ q)) (w (subst (λ i. is_whole_at marks i ≡ true) k e))
    cases (inr d) = h i b e (sym (get_or-set_other os j i (Some x) None d) ∙ q)

part_whole : (m : Model) (box : Box) (p : Part) → IsBoxOf m box → AreWholeIn m box → AreWholeIn m (part_of box p)
part_whole m box (lower j f) b h = record { least = h.least; greatest = put_whole m.whole box.greatest j _ b.greatest h.greatest (λ e. lesser_whole (bound_at box.greatest j) (whole_ℚ f) (λ c q. h.greatest j c e q) (whole_number f)) }
part_whole m box (upper j f) b h = record { least = put_whole m.whole box.least j _ b.least h.least (λ e. greater_whole (bound_at box.least j) (whole_ℚ (f +ℤ pos 1)) (λ c q. h.least j c e q) (whole_number (f +ℤ pos 1))); greatest = h.greatest }

along_whole : (m : Model) (box : Box) (ps : List Part) → IsBoxOf m box → AreWholeIn m box → AreWholeIn m (box_along box ps)
along_whole m box [] b h = h
along_whole m box (p ∷ ps) b h = along_whole m (part_of box p) ps (along_is_box m box (p ∷ []) b) (part_whole m box p b h)

-- a decision of a group has two whole bounds in each node's box
pub group_bounds : (m : Model) (node : Node) (k : ℕ) (g : List ℕ) (j : ℕ) → IsValid m → slice_get m.groups k ≡ Some g → is_in j g ≡ true → HasTwoBounds (box_of m node) j
group_bounds m node k g j v e i =
    let q = group_at (IsGroupOf m) m.groups k g (recursion_from_All _ m.groups v.groups) e in
    let p = place_of j g i in
    let s = along_bounded m.bounds node.path in
    let w = along_whole m m.bounds node.path record { least = v.least; greatest = v.greatest } record { least = v.whole_least; greatest = v.whole_greatest } in
    let low = q.least p.0 p.1 in
    let high = q.greatest p.0 p.1 in
    let a = s.least (get_or g p.0 0) low.0 low.1 in
    let b = s.greatest (get_or g p.0 0) high.0 high.1 in
    let marked = q.marked p.0 p.1 in
    subst (HasTwoBounds (box_of m node)) p.2 record {
      low = numerator a.0;
      high = numerator b.0;
      least = a.1 ∙ ap Some (whole_is a.0 (w.least (get_or g p.0 0) a.0 marked a.1));
      greatest = b.1 ∙ ap Some (whole_is b.0 (w.greatest (get_or g p.0 0) b.0 marked b.1));
    }

-- and is to be whole
pub marked_member : (m : Model) (k : ℕ) (g : List ℕ) (j : ℕ) → IsValid m → slice_get m.groups k ≡ Some g → is_in j g ≡ true → is_whole_at m.whole j ≡ true
marked_member m k g j v e i =
    let q = group_at (IsGroupOf m) m.groups k g (recursion_from_All _ m.groups v.groups) e in
    let p = place_of j g i in
    subst (λ j. is_whole_at m.whole j ≡ true) p.2 (q.marked p.0 p.1)

-- the decision that the box is split at is one of the group
pub chosen : (x : List ℚ) (g : List ℕ) (box : Box) (i j c : ℕ) → AreAlike x g i j → SplitsAt box i j c → is_in c g ≡ true
chosen x g box i j c a (at_first d) = a.one
chosen x g box i j c a (at_second n d) = a.other

pub split_bounds : (m : Model) (node : Node) (x : List ℚ) (i j c : ℕ) → IsValid m → AreFirstAlike x m.groups i j → SplitsAt (box_of m node) i j c → HasTwoBounds (box_of m node) c
split_bounds m node x i j c v a s = group_bounds m node a.place a.group c v a.group_is (chosen x a.group (box_of m node) i j c a.alike s)
