-- The examples hold: what the places are worth is known, and the sums compute.
use Rattle.std.specs.Prelude.{option_map}
use Rattle.std.proofs.Common.{◌≡◌, refl, ap, ◌∙◌, Option, Some}
use Rattle.fractions.specs.Rational.{ℚ, ◌+ℚ◌, neg_ℚ, computed}
use Rattle.sheet_problems.specs.Examples.{WorthsHold, whole}
use Rattle.sheet_prices.specs.Examples.{RaisedRightsHold}

six : whole 4 +ℚ whole 2 ≡ whole 6
unfolding computed
six = refl

seven : whole 8 +ℚ neg_ℚ (whole 1) ≡ whole 7
unfolding computed
seven = refl

abbrev more : ℚ → Option ℚ → Option ℚ
more d = option_map (λ x. x +ℚ d)

-- from what D4, the right side 3 and the right side 2 are worth
pub raised_rights_hold : WorthsHold → RaisedRightsHold
raised_rights_hold h =
    let four = h.1.1.0 in
    let eight = h.1.1.1.1.1.1.1.1.1.1.0 in
    let nothing = h.1.1.1.1.1.1.1.1.1.0 in
    (ap (more (whole 2)) four ∙ ap Some six, (four, (ap (more (neg_ℚ (whole 1))) eight ∙ ap Some seven, (ap (more (whole 2)) nothing, tt))))
