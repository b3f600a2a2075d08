use Rattle.std.proofs.Common.{◌≡◌, refl, ap, ◌∙◌, Bool, true, false, ◌&&◌, if◌then◌else◌}
use Rattle.std.specs.declared.cmp.Ordering.{Ordering}
use Rattle.std.specs.declared.cmp.Ordering.TheVariants.{Less, Equal, Greater}
use Rattle.std.specs.Ordering.{is_eq}
use Rattle.fractions.specs.Rational.{ℚ, le_ℚ, eq_ℚ}
use Rattle.sheet_model.specs.Tests.{number_cmp}
use Rattle.sheet_model.proofs.NumberTests.{number_cmp-told}
use Rattle.form_ops.proofs.number_tests.are_equal.Goals as goal

by_tests : (a b : Bool) → is_eq (if a then (if b then Equal else Less) else Greater) ≡ (a && b)
by_tests true true = refl
by_tests true false = refl
by_tests false b = refl

eq_told : (o : Ordering) (x y : ℚ) → o ≡ number_cmp x y → is_eq o ≡ eq_ℚ x y
unfolding eq_ℚ
eq_told o x y e = ap is_eq e ∙ by_tests (le_ℚ x y) (le_ℚ y x)

pub returns : goal.returns
returns c = c.is_eq.ensures ∙ eq_told c.compare.result c.args.x c.args.y (number_cmp-told c.compare.result c.args.x c.args.y c.compare.ensures)
