-- Sums of products.
use Rattle.std.proofs.Common.{◌≡◌, ◌<◌, ◌≤◌, ◌+◌, ◌-◌, ap, ◌∙◌, ℕ, List, [], ◌∷◌, map, Option, Some, None, Result, Ok, Err}
use Rattle.std.specs.List.{range_with_len}
use Rattle.std.specs.Option.{option_and_then}
use Rattle.std.specs.Result.{IsErrAnd}
use Rattle.fractions.specs.Rational.{ℚ}
use Rattle.calculations.specs.Calculation.{Calculation, sum, product, after, done, followed_by, narrow, through}
use Rattle.calculations.proofs.CalculationLaws.{narrow-followed_by}
use Rattle.sheet_model.specs.Answers.{Answers}
use Rattle.sheet_model.specs.declared.stop.FuncStop.{FuncStop}
use Rattle.sheet_model.proofs.Spreading.{stopped}
use Rattle.sheet_funcs.specs.Products.{product_of}
use Rattle.sheet_funcs.specs.Steps.{IsStep}
use Rattle.sheet_funcs.proofs.Passing.{through_goes, through_stops}
use Rattle.sheet_funcs.proofs.Ranges.{from_below, from_end}
use Rattle.sheet_funcs.proofs.Stepping.{step_answers, step_some}

-- a product added to the sum so far
abbrev pub added : ℚ → List ℚ → Calculation ℚ
added so_far factors = followed_by (product_of factors) (λ p. after (sum so_far p) done)

-- the rest added to the sum so far
abbrev pub rest_added : (ℕ → List ℚ) → ℚ → ℕ → ℕ → Calculation ℚ
rest_added factors so_far i n = through added so_far (map factors (range_with_len i (n - i)))

product-added : (so_far : ℚ) (factors : List ℚ) (o : Option ℚ) → narrow (product_of factors) ≡ o → narrow (added so_far factors) ≡ option_and_then (λ p. narrow (after (sum so_far p) done)) o
product-added so_far factors o e = narrow-followed_by (product_of factors) (λ p. after (sum so_far p) done) ∙ ap (option_and_then (λ p. narrow (after (sum so_far p) done))) e

rest_from_place : (factors : ℕ → List ℚ) (i n : ℕ) → i < n → map factors (range_with_len i (n - i)) ≡ factors i ∷ map factors (range_with_len (i + 1) (n - (i + 1)))
rest_from_place factors i n h = ap (map factors) (from_below i n h)

-- one place more
pub dot_goes : (factors : ℕ → List ℚ) (whole : Option ℚ) (so_far : ℚ) (i n : ℕ) (p next : ℚ) → i < n → whole ≡ narrow (rest_added factors so_far i n) → narrow (product_of (factors i)) ≡ Some p
    → IsStep (sum so_far p) (Ok next) → whole ≡ narrow (rest_added factors next (i + 1) n)
dot_goes factors whole so_far i n p next h all e step =
    through_goes added whole so_far _ (factors i) _ next (rest_from_place factors i n h) all (product-added so_far (factors i) (Some p) e ∙ step_some (sum so_far p) next step)

-- a product that isn't narrow
pub dot_product_stops : (factors : ℕ → List ℚ) (whole : Calculation ℚ) (so_far : ℚ) (i n : ℕ) (e : FuncStop) (r : Result ℚ FuncStop) → i < n → narrow whole ≡ narrow (rest_added factors so_far i n)
    → IsErrAnd r (λ s. s ≡ e) → Answers (product_of (factors i)) (Err e) → Answers whole r
dot_product_stops factors whole so_far i n e r h all is part =
    stopped (product_of (factors i)) whole e r is part (λ wide. through_stops added (narrow whole) so_far _ (factors i) _ (rest_from_place factors i n h) all (product-added so_far (factors i) None wide))

-- a sum that isn't
pub dot_sum_stops : (factors : ℕ → List ℚ) (whole : Calculation ℚ) (so_far : ℚ) (i n : ℕ) (p : ℚ) (e : FuncStop) (r : Result ℚ FuncStop) → i < n → narrow whole ≡ narrow (rest_added factors so_far i n)
    → IsErrAnd r (λ s. s ≡ e) → narrow (product_of (factors i)) ≡ Some p → IsStep (sum so_far p) (Err e) → Answers whole r
dot_sum_stops factors whole so_far i n p e r h all is part step =
    stopped (after (sum so_far p) done) whole e r is (step_answers (sum so_far p) (Err e) step)
    (λ wide. through_stops added (narrow whole) so_far _ (factors i) _ (rest_from_place factors i n h) all (product-added so_far (factors i) (Some p) part ∙ wide))

-- at the end
pub dot_end : (factors : ℕ → List ℚ) (whole : Option ℚ) (so_far : ℚ) (i n : ℕ) → n ≤ i → whole ≡ narrow (rest_added factors so_far i n) → whole ≡ Some so_far
dot_end factors whole so_far i n h all = all ∙ ap (λ r. narrow (through added so_far (map factors r))) (from_end i n h)

-- two factors
pub pair_answers : (x y a b : ℚ) (r : Result ℚ FuncStop) → x ≡ a → y ≡ b → IsStep (product x y) r → Answers (product_of (a ∷ b ∷ [])) r
pair_answers x y a b r e f step = rw (← e, ← f) (step_answers (product x y) r step)
