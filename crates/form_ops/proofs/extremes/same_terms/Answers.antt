use Rattle.std.proofs.Common.{◌≡◌, refl, sym, Bool, true, false, ◌&&◌, ℕ}
use Rattle.std.specs.Prelude.{◌==◌}
use Rattle.fractions.specs.Rational.{ℚ, eq_ℚ}
use Rattle.affine_forms.specs.Forms.{same_terms}
use Rattle.form_ops.proofs.Pairwise.{IsPairwise, other_length}
use Rattle.form_ops.proofs.extremes.same_terms.Goals as goal

and_assoc : (a b c : Bool) → (a && (b && c)) ≡ ((a && b) && c)
and_assoc true b c = refl
and_assoc false b c = refl

by_terms : IsPairwise (λ (t u : ℕ × ℚ). (t.0 == u.0) && eq_ℚ t.1 u.1) same_terms
by_terms = record { at_end = refl; first_longer = λ x xs. refl; second_longer = λ y ys. refl; item = λ x y xs ys. and_assoc (x.0 == y.0) (eq_ℚ x.1 y.1) (same_terms xs ys) }

pub returns-then-left-right : goal.returns-then-left-right
returns-then-left-right c = sym (other_length _ same_terms by_terms c.args.left.now c.args.right.now c.if-left-right.true)
