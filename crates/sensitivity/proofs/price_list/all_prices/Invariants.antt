use Rattle.std.proofs.Common.{◌≡◌, ℕ, ◌<◌, map}
use Rattle.std.specs.List.{range_with_len}
use Rattle.model_prices.specs.Own.{first_of}
use Rattle.sensitivity.specs.Prices.{price_at, IsNarrowRow}
use Rattle.sensitivity.proofs.price_list.all_prices.Given as goal

abbrev pub invariant-loop-place : goal.invariant-loop-place
invariant-loop-place l = record {
  made : l.prices.items ≡ map (price_at l.of l.dict) (range_with_len 0 l.place);
  narrow : (k : ℕ) → k < l.place → IsNarrowRow l.of l.dict k;
  first_is : l.first ≡ first_of l.of.rows l.place;
}
