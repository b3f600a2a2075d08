-- Two decisions that are alike and whose bounds don't differ are fixed to one number.
use Rattle.std.proofs.Common.{◌≡◌, ◌≢◌, ◌⊎◌, inl, inr, ℕ, ◌<◌, sym, ap, ◌∙◌, Some, arith}
use Rattle.fractions.specs.Rational.{ℚ}
use Rattle.fractions.specs.Vectors.{at}
use Rattle.fractions.specs.Whole.{whole_ℚ}
use Rattle.fractions.proofs.Order.{eq_or_ne}
use Rattle.optimality.specs.Problem.{Assignment}
use Rattle.linear_models.specs.Box.{Box, InBox, bound_at}
use Rattle.opt_certificate.specs.Clashes.{IsFixedTo}
use Rattle.opt_certificate.proofs.Clashes.{fixed_at}
use Rattle.searches.specs.Alike.{BoundsDiffer, HasTwoBounds, ClosedAtClash}

some_is : {x y : ℚ} → Some x ≡ Some y → x ≡ y
some_is e = cc

-- two bounds that don't differ are the number between them
one_bound : (box : Box) (i : ℕ) (x : Assignment) → InBox box x → HasTwoBounds box i → ¬ (BoundsDiffer box i) → IsFixedTo box i (at x i)
one_bound box i x h t n = cases (eq_or_ne (whole_ℚ t.low) (whole_ℚ t.high))
  where
    cases : (whole_ℚ t.low ≡ whole_ℚ t.high) ⊎ (whole_ℚ t.low ≢ whole_ℚ t.high) → IsFixedTo box i (at x i)
    cases (inl e) =
        let v : at x i ≡ whole_ℚ t.low = fixed_at box i (whole_ℚ t.low) x h record { least = t.least; greatest = t.greatest ∙ ap Some (sym e) } in
        record { least = t.least ∙ ap Some (sym v); greatest = t.greatest ∙ ap Some (sym (v ∙ e)) }
    cases (inr d) = absurd (n (λ q. d (some_is (sym t.least ∙ q ∙ t.greatest))))

pub closed_at_clash : ClosedAtClash
closed_at_clash groups box x i j h f t u m n =
    let p = one_bound box i x h t m in
    let q = one_bound box j x h u n in
    let b : i < j = f.alike.before in
    record {
      shared = record { place = f.place; group = f.group; group_is = f.group_is; one = f.alike.one; other = f.alike.other };
      differ = λ e. absurd (omega (arith, b, e));
      fixed = record { value = at x i; one = p; other = record { least = q.least ∙ ap Some (sym f.alike.same); greatest = q.greatest ∙ ap Some (sym f.alike.same) } };
    }
