-- The points of a box are those that its standard program gives.
use Rattle.std.proofs.Common.{◌≡◌, ℕ, suc, ◌+◌, Bool, true, false, not, refl, sym, ap, ap₂, ◌∙◌, List, [], ◌∷◌, map, drop, Option, Some, None, arith, subst}
use Rattle.std.proofs.lemmas.List.{length-map, get_or-drop}
use Rattle.std.specs.Prelude.{flat_map}
use Rattle.std.proofs.lemmas.List.Elements.{All-from_recursion, recursion_from_All}
use Rattle.fractions.specs.Rational.{ℚ, ◌+ℚ◌, ◌-ℚ◌, ◌≤ℚ◌, zero_ℚ, le_ℚ}
use Rattle.fractions.specs.Vectors.{at}
use Rattle.fractions.proofs.Order.{le_trans}
use Rattle.fractions.proofs.Tests.{le_iff}
use Rattle.optimality.specs.Problem.{Assignment}
use Rattle.linear_models.specs.Worths.{form_at}
use Rattle.linear_models.specs.Box.{Box, InBox, bound_at}
use Rattle.linear_models.specs.Model.{Model, RowHolds, IsValid}
use Rattle.linear_programs.specs.Program.{IsPoint, cell_number, cell_numbers}
use Rattle.linear_models.specs.Standard.{is_split, standard, splits_of, wanted, limits, limits_of_row, limits_of_bounds, columns_from}
use Rattle.linear_models.specs.Laws.{IsBoxOf, IsBoxPoint, GivesPoints, StandardKeepsPoints}
use Rattle.linear_models.proofs.Forms.{joined, dot-spread_terms, length-joined}
use Rattle.linear_models.proofs.Rows.{AtMostZero, rows_are, both_parts, all_row_limits, BoundsHold, bounds_there, bounds_back}
use Rattle.linear_models.proofs.Regular.{all_forms, wanted_is, regular, one_dropped, two_dropped}
use Rattle.linear_models.proofs.Columns.{AreNonNegative, parted, length-parted, joined-parted, signs_parted, signs_joined, split_at}

from_zero : (i : ℕ) → 0 + i ≡ i
from_zero i = omega arith

box_there : (box : Box) (a : Assignment) → BoundsHold 0 box.least box.greatest a → InBox box a
box_there box a h = record {
  least = λ i b q. subst (λ k. b ≤ℚ at a k) (from_zero i) (h.least i b q);
  greatest = λ i b q. subst (λ k. at a k ≤ℚ b) (from_zero i) (h.greatest i b q);
}

box_back : (box : Box) (a : Assignment) → InBox box a → BoundsHold 0 box.least box.greatest a
box_back box a h = record {
  least = λ i b q. subst (λ k. b ≤ℚ at a k) (sym (from_zero i)) (h.least i b q);
  greatest = λ i b q. subst (λ k. at a k ≤ℚ b) (sym (from_zero i)) (h.greatest i b q);
}

-- a least value with one column isn't negative
one_column : (l : Option ℚ) (x : ℚ) → is_split l ≡ false → ((b : ℚ) → l ≡ Some b → b ≤ℚ x) → zero_ℚ ≤ℚ x
one_column None x e h = cc
one_column (Some b) x e h = le_trans _ _ _ ((le_iff zero_ℚ b).0 (positive (le_ℚ zero_ℚ b) e)) (h b refl)
  where
    positive : (v : Bool) → not v ≡ false → v ≡ true
    positive true q = refl
    positive false q = cc

columns_in_box : (box : Box) (a : Assignment) → InBox box a → AreNonNegative (splits_of box) a
columns_in_box box a h i e = one_column (bound_at box.least i) (at a i) (sym (split_at box.least i) ∙ e) (h.least i)

-- ---- the numbers that the columns give
after_drop : (k : ℕ) (y : List ℚ) (n i : ℕ) → n ≡ k + i → at y n ≡ at (drop k y) i
after_drop k y n i e = ap (λ n. at y n) e ∙ sym (get_or-drop k y i zero_ℚ)

two_gone : (k : ℕ) (y : List ℚ) → drop (suc (suc k)) y ≡ drop 2 (drop k y)
two_gone k y = two_dropped k y ∙ both (drop k y)
  where
    both : (y : List ℚ) → drop 1 (drop 1 y) ≡ drop 2 y
    both [] = refl
    both (x ∷ []) = refl
    both (x ∷ z ∷ y) = refl

pub cells_from : (k : ℕ) (splits : List Bool) (y : List ℚ) → map (cell_number y) (columns_from k splits) ≡ joined splits (drop k y)
cells_from k [] y = refl
cells_from k (false ∷ splits) y = ap₂ ◌∷◌ (after_drop k y k 0 (omega arith)) (cells_from (suc k) splits y ∙ ap (joined splits) (one_dropped k y))
cells_from k (true ∷ splits) y = ap₂ ◌∷◌ (ap₂ ◌-ℚ◌ (after_drop k y k 0 (omega arith)) (after_drop k y (suc k) 1 (omega arith))) (cells_from (suc (suc k)) splits y ∙ ap (joined splits) (two_gone k y))

pub cells_are : (m : Model) (box : Box) (plain : Bool) (y : List ℚ) → cell_numbers (standard m box plain) y ≡ joined (splits_of box) y
cells_are m box plain y = cells_from 0 (splits_of box) y

-- ---- both ways
there : (m : Model) (box : Box) (plain : Bool) (y : List ℚ) → IsValid m → IsBoxOf m box → IsPoint (standard m box plain) y → IsBoxPoint m box (joined (splits_of box) y)
there m box plain y v b p =
    let a = joined (splits_of box) y in
    let all = (rows_are (splits_of box) (limits m box) y (all_forms m box v)).0 p.rows in
    let parts = (both_parts a (flat_map limits_of_row m.rows) (limits_of_bounds 0 box.least box.greatest)).0 all in
    record {
      one_each = length-joined (splits_of box) y ∙ length-map box.least is_split ∙ b.least;
      rows = All-from_recursion (RowHolds a) m.rows ((all_row_limits a m.rows).0 parts.0);
      bounds = box_there box a (bounds_there 0 box.least box.greatest a (b.greatest ∙ sym b.least) (λ i q. subst (λ k. zero_ℚ ≤ℚ at a k) (sym (from_zero i)) (signs_joined (splits_of box) y p.signs i (split_at box.least i ∙ q))) parts.1);
    }

back : (m : Model) (box : Box) (plain : Bool) (a : Assignment) → IsValid m → IsBoxOf m box → IsBoxPoint m box a → (y : List ℚ) × IsPoint (standard m box plain) y × (joined (splits_of box) y ≡ a)
back m box plain a v b p =
    let y = parted (splits_of box) a in
    let e : joined (splits_of box) y ≡ a = joined-parted (splits_of box) a (p.one_each ∙ sym (length-map box.least is_split ∙ b.least)) in
    let all : AtMostZero a (limits m box) =
    (both_parts a (flat_map limits_of_row m.rows) (limits_of_bounds 0 box.least box.greatest)).1
    ((all_row_limits a m.rows).1 (recursion_from_All (RowHolds a) m.rows p.rows), bounds_back 0 box.least box.greatest a (box_back box a p.bounds)) in (
      y,
      record {
        size = length-parted (splits_of box) _ a;
        signs = signs_parted (splits_of box) a (columns_in_box box a p.bounds);
        rows = (rows_are (splits_of box) (limits m box) y (all_forms m box v)).1 (subst (λ x. AtMostZero x (limits m box)) (sym e) all);
      },
      e,
    )

gives : (m : Model) (box : Box) (plain : Bool) → IsValid m → IsBoxOf m box → GivesPoints m box plain (standard m box plain)
gives m box plain v b = record {
  points = λ a. (
    λ h. subst (IsBoxPoint m box) (sym (h.2 ∙ cells_are m box plain h.0)) (there m box plain h.0 v b h.1),
    λ h. let y = back m box plain a v b h in (y.0, y.1, sym (cells_are m box plain y.0 ∙ y.2)),
  );
  objective = λ y. ap (λ t. (wanted m plain).constant +ℚ t) (dot-spread_terms (splits_of box) (wanted m plain).terms y (wanted_is m plain v).rise) ∙ ap (form_at (wanted m plain)) (sym (cells_are m box plain y));
}

pub standard_keeps_points : StandardKeepsPoints
standard_keeps_points = record { points = gives; regular = regular }
