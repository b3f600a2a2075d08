use Rattle.std.proofs.Common.{◌≡◌, refl, ap, ◌∙◌, Bool, true, false, if◌then◌else◌}
use Rattle.std.specs.declared.cmp.Ordering.TheVariants.{Less, Equal, Greater}
use Rattle.std.specs.Ordering.{is_le}
use Rattle.fractions.specs.Rational.{le_ℚ}
use Rattle.sheet_model.proofs.NumberTests.{number_cmp-told}
use Rattle.form_ops.proofs.number_tests.is_at_most.Goals as goal

by_tests : (a b : Bool) → is_le (if a then (if b then Equal else Less) else Greater) ≡ a
by_tests true true = refl
by_tests true false = refl
by_tests false b = refl

pub returns : goal.returns
returns c =
    c.is_le.ensures ∙ ap is_le (number_cmp-told c.compare.result c.args.x c.args.y c.compare.ensures) ∙ by_tests (le_ℚ c.args.x c.args.y) (le_ℚ c.args.y c.args.x)
