-- Boxes whose decisions that are to be whole have two whole bounds.
use Rattle.std.proofs.Common.{◌≡◌, ℕ, ap, ◌∙◌, true, Some, ℤ}
use Rattle.fractions.specs.Whole.{whole_ℚ}
use Rattle.linear_models.specs.Box.{Box, bound_at}
use Rattle.linear_models.specs.Model.{Model, IsValid, is_whole_at}
use Rattle.linear_models.proofs.Wholes.{whole_is}
use Rattle.search_bounds.specs.Choices.{IsBounded}

-- each decision that is to be whole has two whole bounds
pub record HasWholeBounds (m : Model) (box : Box) : Type 0 where
  pub least : (j : ℕ) → is_whole_at m.whole j ≡ true → (z : ℤ) × (bound_at box.least j ≡ Some (whole_ℚ z))
  pub greatest : (j : ℕ) → is_whole_at m.whole j ≡ true → (z : ℤ) × (bound_at box.greatest j ≡ Some (whole_ℚ z))

-- the model's own bounds are whole
pub model_bounds : (m : Model) → IsValid m → IsBounded m → HasWholeBounds m m.bounds
model_bounds m v h = record {
  least = λ j e. let b = h j e in (_, b.2 ∙ ap Some (whole_is b.0 (v.whole_least j b.0 e b.2)));
  greatest = λ j e. let b = h j e in (_, b.3 ∙ ap Some (whole_is b.1 (v.whole_greatest j b.1 e b.3)));
}
