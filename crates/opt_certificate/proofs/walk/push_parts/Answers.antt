use Rattle.std.proofs.Common.{◌≡◌, ap, ap₂, ◌∙◌, ◌++◌, ◌∷◌, [], append_assoc, Some}
use Rattle.std.specs.Prelude.{slice_set}
use Rattle.fractions.specs.Rational.{ℚ}
use Rattle.fractions.specs.Whole.{whole_ℚ}
use Rattle.linear_models.specs.Box.{bound_at, lesser, greater}
use Rattle.opt_certificate.specs.Certificate.{lower_child, upper_child}
use Rattle.std.specs.Int.{w128}
use Rattle.std.proofs.lemmas.Int.{to_z-of_z}
use Rattle.opt_certificate.proofs.Wholes.{folded}
use Rattle.opt_certificate.proofs.walk.push_parts.Goals as goal

pub returns : goal.returns
returns c =
    let b = c.args.within.now in
    let j = c.args.decision in
    let upper : c.in_ok-upper.upper ≡ upper_child b j c.args.floor =
    c.in_ok-upper.ensures ∙ ap (λ (x : ℚ). record { least = slice_set b.least j (Some (greater (bound_at b.least j) x)); greatest = b.greatest }) (c.whole.ensures ∙ ap whole_ℚ (folded c.args.floor c.ranges.floor c.requires.above)) in
    let lower : c.in_ok-lower.lower ≡ lower_child b j c.args.floor =
    c.in_ok-lower.ensures ∙ ap (λ (x : ℚ). record { least = b.least; greatest = slice_set b.greatest j (Some (lesser (bound_at b.greatest j) x)) }) (c.whole-2.ensures ∙ ap whole_ℚ (to_z-of_z w128 c.args.floor c.ranges.floor)) in
    c.in_ok-push-2.ensures.items
    ∙ ap₂ (λ xs x. xs ++ x ∷ []) c.in_ok-push.ensures.items lower
    ∙ append_assoc c.args.boxes.now.items (c.in_ok-upper.upper ∷ []) (lower_child b j c.args.floor ∷ [])
    ∙ ap (λ x. c.args.boxes.now.items ++ x ∷ lower_child b j c.args.floor ∷ []) upper
