-- The most nodes of a box's trees, and those of its parts.
use Rattle.std.proofs.Common.{◌≡◌, ℕ, zero, suc, ◌+◌, ◌*◌, ◌-◌, ◌≤◌, refl, arith, ℤ, pos, ◌+ℤ◌}
use Rattle.fractions.specs.Whole.{whole_ℚ}
use Rattle.linear_models.specs.Box.{Box, lower_part, upper_part}
use Rattle.linear_models.specs.Model.{Model}
use Rattle.search_bounds.specs.Choices.{at_least_one, choices_in}
use Rattle.search_bounds.specs.Trees.{most_nodes}
use Rattle.search_bounds.proofs.Halves.{Halved}

at_least : (n : ℕ) → 1 ≤ n → at_least_one n ≡ n
at_least zero h = absurd (omega (arith, h))
at_least (suc n) h = refl

one_or_more : (n : ℕ) → 1 ≤ at_least_one n
one_or_more zero = omega arith
one_or_more (suc n) = omega arith

pub one_node : (m : Model) (box : Box) → 1 ≤ most_nodes m box
one_node m box = let h = one_or_more (choices_in m box) in omega (arith, h)

-- the node that is split and the nodes of both parts
pub halves_fit : (m : Model) (box : Box) (j : ℕ) (f : ℤ) → Halved m box j f → 1 + (most_nodes m (lower_part box j (whole_ℚ f)) + most_nodes m (upper_part box j (whole_ℚ (f +ℤ pos 1)))) ≤ most_nodes m box
halves_fit m box j f h =
    let x = at_least (choices_in m (lower_part box j (whole_ℚ f))) h.low_some in
    let y = at_least (choices_in m (upper_part box j (whole_ℚ (f +ℤ pos 1)))) h.high_some in
    sums (choices_in m box) (choices_in m (lower_part box j (whole_ℚ f))) (choices_in m (upper_part box j (whole_ℚ (f +ℤ pos 1)))) h.low_some h.high_some h.sum x y
  where
    sums : (p q r : ℕ) → 1 ≤ q → 1 ≤ r → p ≡ q + r → at_least_one q ≡ q → at_least_one r ≡ r → 1 + ((2 * at_least_one q - 1) + (2 * at_least_one r - 1)) ≤ 2 * at_least_one p - 1
    sums p q r a b e x y = let z = at_least p (omega (arith, a, e)) in omega (arith, z)
