-- A true split leaves a whole value of the decision on either side.
use Rattle.std.proofs.Common.{◌≡◌, ℕ, sym, ◌∙◌, subst, List, [], ◌∷◌, arith, Bool, true, Some, ℤ, pos, ◌+ℤ◌}
use Rattle.std.specs.Prelude.{◌<ℤ◌}
use Rattle.std.proofs.lemmas.Int.{ints}
use borrow.Author.Differences.{at_most_in}
use Rattle.fractions.specs.Rational.{ℚ, ◌≤ℚ◌, ◌<ℚ◌}
use Rattle.fractions.specs.Vectors.{at}
use Rattle.fractions.specs.Whole.{whole_ℚ}
use Rattle.fractions.proofs.Order.{le_trans, lt_of_le_of_lt, lt_of_lt_of_le}
use Rattle.fractions.proofs.Whole.{whole-le, whole-lt}
use Rattle.linear_models.specs.Box.{Box}
use Rattle.linear_models.specs.Model.{Model, IsValid, is_whole_at}
use Rattle.linear_models.specs.Laws.{IsBoxOf, IsBoxPoint}
use Rattle.searches.specs.Trees.{lower, upper, part_of}
use Rattle.searches.specs.TrueTrees.{SplitTree, leaf, split_at, IsSplitAlike, IsTrueSplit, split_between, split_alike, IsTrueTree}
use Rattle.searches.proofs.AlikeSplits.{best_in_box}
use Rattle.searches.proofs.Boxes.{along_is_box}
use Rattle.search_bounds.specs.Trees.{HasBothParts, SplitsInParts}
use Rattle.search_bounds.specs.Laws.{TrueTreesSplitInParts, TreesAreSmall}
use Rattle.search_bounds.proofs.Halves.{halved}
use Rattle.search_bounds.proofs.Nodes.{nodes_few}
use Rattle.search_bounds.proofs.WholeBounds.{HasWholeBounds, model_bounds}

below_next : (a f : ℤ) → whole_ℚ a <ℚ whole_ℚ (f +ℤ pos 1) → whole_ℚ a ≤ℚ whole_ℚ f
below_next a f h = let k : a <ℤ (f +ℤ pos 1) = (whole-lt a (f +ℤ pos 1)).0 h in (whole-le a f).1 (at_most_in a f (omega (arith, ints)))

next_below : (f b : ℤ) → whole_ℚ f <ℚ whole_ℚ b → whole_ℚ (f +ℤ pos 1) ≤ℚ whole_ℚ b
next_below f b h = let k : f <ℤ b = (whole-lt f b).0 h in (whole-le (f +ℤ pos 1) b).1 (at_most_in (f +ℤ pos 1) b (omega (arith, ints)))

some_is : {x y : ℚ} → Some x ≡ Some y → x ≡ y
some_is e = cc

-- a number of the box that is strictly between f and f + 1
pub strictly_between : (m : Model) (box : Box) (x : List ℚ) (j : ℕ) (f : ℤ) → HasWholeBounds m box → IsBoxPoint m box x → is_whole_at m.whole j ≡ true → whole_ℚ f <ℚ at x j → at x j <ℚ whole_ℚ (f +ℤ pos 1) → HasBothParts m box j f
strictly_between m box x j f w p e a b = record {
  marked = e;
  inside = x;
  in_box = p.bounds;
  low = λ c q. let z = w.least j e in let k : whole_ℚ z.0 ≡ c = some_is (sym z.1 ∙ q) in subst (λ c. c ≤ℚ whole_ℚ f) k (below_next z.0 f (lt_of_le_of_lt _ (at x j) _ (p.bounds.least j (whole_ℚ z.0) z.1) b));
  high = λ c q. let z = w.greatest j e in let k : whole_ℚ z.0 ≡ c = some_is (sym z.1 ∙ q) in subst (λ c. whole_ℚ (f +ℤ pos 1) ≤ℚ c) k (next_below f z.0 (lt_of_lt_of_le _ (at x j) _ a (p.bounds.greatest j (whole_ℚ z.0) z.1)));
}

-- two decisions are alike there
pub alike_parts : (m : Model) (plain : Bool) (box : Box) (j : ℕ) (f : ℤ) → IsValid m → IsBoxOf m box → IsSplitAlike m plain box j f → HasBothParts m box j f
alike_parts m plain box j f v b h = record {
  marked = h.marked;
  inside = h.point;
  in_box = (best_in_box m plain box h.point v b h.best).bounds;
  low = λ c q. le_trans _ _ _ (h.low.1.least c q) ((whole-le h.low.0 f).1 h.low.2);
  high = λ c q. le_trans _ _ _ ((whole-le (f +ℤ pos 1) h.high.0).1 h.high.2) (h.high.1.greatest c q);
}

pub true_split : (m : Model) (plain : Bool) (box : Box) (j : ℕ) (f : ℤ) → IsValid m → IsBoxOf m box → HasWholeBounds m box → IsTrueSplit m plain box j f → HasBothParts m box j f
true_split m plain box j f v b w (split_between h) = strictly_between m box h.point j f w (best_in_box m plain box h.point v b h.best) h.marked h.above h.below
true_split m plain box j f v b w (split_alike h) = alike_parts m plain box j f v b h

pub true_in_parts : (m : Model) (plain : Bool) (box : Box) (t : SplitTree) → IsValid m → IsBoxOf m box → HasWholeBounds m box → IsTrueTree m plain box t → SplitsInParts m box t
true_in_parts m plain box leaf v b w h = tt
true_in_parts m plain box (split_at j f low high) v b w h =
    let s = true_split m plain box j f v b w h.0 in
    let k = halved m box j f b w s in
    (s, (true_in_parts m plain (part_of box (lower j f)) low v (along_is_box m box (lower j f ∷ []) b) k.low h.1.0, true_in_parts m plain (part_of box (upper j f)) high v (along_is_box m box (upper j f ∷ []) b) k.high h.1.1))

pub true_trees_split_in_parts : TrueTreesSplitInParts
true_trees_split_in_parts m plain t v h l = true_in_parts m plain m.bounds t v record { least = v.least; greatest = v.greatest } (model_bounds m v h) l

pub trees_are_small : TreesAreSmall
trees_are_small m t v h s = nodes_few m m.bounds t record { least = v.least; greatest = v.greatest } (model_bounds m v h) s
