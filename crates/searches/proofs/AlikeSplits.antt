-- A split at one of two decisions that are alike is a true one.
use Rattle.std.proofs.Common.{◌≡◌, ◌≢◌, ℕ, ◌<◌, sym, true, List, Bool, inr, arith, ℤ, pos, ◌+ℤ◌}
use Rattle.std.specs.Prelude.{◌≤ℤ◌}
use Rattle.std.proofs.lemmas.Int.{ints}
use borrow.Author.Differences.{at_most_in}
use Rattle.fractions.specs.Rational.{ℚ, ◌≤ℚ◌}
use Rattle.fractions.specs.Vectors.{at}
use Rattle.fractions.specs.Whole.{whole_ℚ}
use Rattle.fractions.proofs.Order.{le_trans}
use Rattle.fractions.proofs.Whole.{whole-le}
use Rattle.linear_programs.specs.Program.{Program}
use Rattle.dictionaries.specs.Reading.{point_of, basic_solution}
use Rattle.dictionaries.proofs.Ends.{ends_prove}
use Rattle.linear_models.specs.Box.{Box}
use Rattle.linear_models.specs.Model.{Model, AreWhole, IsValid}
use Rattle.linear_models.specs.Standard.{standard}
use Rattle.linear_models.specs.Laws.{IsBoxOf, IsBoxPoint}
use Rattle.linear_models.specs.Statement.{is_in}
use Rattle.linear_models.proofs.Points.{standard_keeps_points}
use Rattle.searches.specs.Alike.{AreAlike, AreFirstAlike, BoundsDiffer, SplitsAt, at_first, at_second, FloorIs, HasTwoBounds}
use Rattle.searches.specs.TrueTrees.{IsBasicBest, IsSplitAlike}
use Rattle.searches.proofs.Parting.{parted}
use Rattle.searches.proofs.GroupBounds.{marked_member}

-- the point of a basic optimal solution lies in the box
pub best_in_box : (m : Model) (plain : Bool) (box : Box) (x : List ℚ) → IsValid m → IsBoxOf m box → IsBasicBest (standard m box plain) x → IsBoxPoint m box x
best_in_box m plain box x v b h =
    let p : Program = standard m box plain in
    let pr = ends_prove.best p h.dictionary (standard_keeps_points.regular m box plain v b).regular record { dictionary = h.represents; feasible = inr h.is_best.phase.1 } h.is_best in
    ((standard_keeps_points.points m box plain v b).points x).0 (point_of p (basic_solution h.dictionary), pr.is_point, h.point)

-- the decision of the split, its partner, and what is known of them
record Pair (x : List ℚ) (g : List ℕ) (box : Box) (c : ℕ) : Type 0 where
  pub one : is_in c g ≡ true
  pub partner : ℕ
  pub other : is_in partner g ≡ true
  pub differ : c ≢ partner
  pub same : at x c ≡ at x partner
  pub bounds : BoundsDiffer box c

pair : (x : List ℚ) (g : List ℕ) (box : Box) (i j c : ℕ) → AreAlike x g i j → SplitsAt box i j c → Pair x g box c
pair x g box i j c a (at_first d) = let b : i < j = a.before in record { one = a.one; partner = j; other = a.other; differ = λ e. absurd (omega (arith, b, e)); same = a.same; bounds = d }
pair x g box i j c a (at_second n d) = let b : i < j = a.before in record { one = a.other; partner = i; other = a.one; differ = λ e. absurd (omega (arith, b, e)); same = sym a.same; bounds = d }

next : (f : ℤ) → whole_ℚ f ≤ℚ whole_ℚ (f +ℤ pos 1)
next f = (whole-le f (f +ℤ pos 1)).1 (at_most_in f (f +ℤ pos 1) (omega (arith, ints)))

self : (f : ℤ) → f ≤ℤ f
self f = at_most_in f f (omega (arith, ints))

pub alike_split : (m : Model) (plain : Bool) (box : Box) (x : List ℚ) (i j c : ℕ) (f : ℤ) → IsValid m → IsBoxOf m box → IsBasicBest (standard m box plain) x → AreWhole m.whole x
    → AreFirstAlike x m.groups i j → SplitsAt box i j c → FloorIs box c (at x c) f → HasTwoBounds box c → IsSplitAlike m plain box c f
alike_split m plain box x i j c f v b best w a s z t =
    let p = best_in_box m plain box x v b best in
    let k = pair x a.group box i j c a.alike s in
    let h = parted box x c f p.bounds t k.bounds z in
    record {
      marked = marked_member m a.place a.group c v a.group_is k.one;
      point = x;
      best = best;
      whole = w;
      place = a.place;
      group = a.group;
      group_is = a.group_is;
      one = k.one;
      partner = k.partner;
      other = k.other;
      differ = k.differ;
      same = k.same;
      low = (f, record { least = h.low; greatest = λ o q. le_trans _ _ _ (next f) (h.high o q) }, self f);
      high = (f +ℤ pos 1, record { least = λ o q. le_trans _ _ _ (h.low o q) (next f); greatest = h.high }, self (f +ℤ pos 1));
    }
