use Rattle.std.proofs.Common.{◌≡◌, ap, ◌∙◌, subst, List, Option, ℕ, Some, Bool}
use Rattle.std.specs.Prelude.{All}
use Rattle.fractions.specs.Rational.{ℚ, ◌≤ℚ◌}
use Rattle.fractions.specs.Vectors.{at}
use Rattle.optimality.specs.Problem.{Relation}
use Rattle.optimality.specs.Groups.{AreDifferent}
use Rattle.affine_forms.specs.Forms.{AffineForm}
use Rattle.linear_models.specs.Box.{Box, bound_at}
use Rattle.linear_models.specs.Model.{AreWhole}
use Rattle.opt_certificate.specs.Rows.{RowIsNarrow, RowStands}
use Rattle.opt_certificate.proofs.Judging.{judged_as}
use Rattle.opt_certificate.proofs.point.is_point.Goals as goal

pub returns : goal.returns
returns c =
    let a = c.args.point.now in
    let whole : AreWhole c.args.of.now.whole a = subst (λ (marks : List Bool). AreWhole marks a) c.whole.ensures.whole (c.are_whole.ensures.0 c.if-not-are_whole.false) in
    let low : (j : ℕ) (b : ℚ) → bound_at c.args.of.now.bounds.least j ≡ Some b → b ≤ℚ at a j =
    subst (λ (bs : List (Option ℚ)). (j : ℕ) (b : ℚ) → bound_at bs j ≡ Some b → b ≤ℚ at a j) (c.least.ensures ∙ ap (λ (b : Box). b.least) c.bounds.ensures) (c.are_above.ensures.0 c.if-not-are_above.false) in
    let high : (j : ℕ) (b : ℚ) → bound_at c.args.of.now.bounds.greatest j ≡ Some b → at a j ≤ℚ b =
    subst (λ (bs : List (Option ℚ)). (j : ℕ) (b : ℚ) → bound_at bs j ≡ Some b → at a j ≤ℚ b) (c.greatest.ensures ∙ ap (λ (b : Box). b.greatest) c.bounds-2.ensures) (c.are_below.ensures.0 c.if-not-are_below.false) in
    let different : All (AreDifferent a) c.args.of.now.groups = subst (λ (gs : List (List ℕ)). All (AreDifferent a) gs) c.groups.ensures.groups (c.are_different.ensures.0 c.if-not-are_different.false) in
    judged_as (λ rows. record { one_each = c.requires.one_each; rows = rows; whole = whole; bounds = record { least = low; greatest = high }; different = different }) (λ p. p.rows) (λ n. n) (λ n. n) c.rows_stand.result
    (subst (λ (rs : List (AffineForm × Relation)). Rattle.opt_certificate.specs.Judged.Judged (All (RowStands Rattle.std.proofs.Common.true a) rs) (All (RowIsNarrow Rattle.std.proofs.Common.true a) rs) c.rows_stand.result) c.rows.ensures c.rows_stand.ensures)
