-- What is computed at an end of the run is true of the model.
use Rattle.std.specs.List.{range_with_len}
use Rattle.std.proofs.Common.{◌≡◌, ℕ, zero, suc, ◌+◌, ◌<◌, refl, sym, ap, List, ◌∷◌, subst, map, length, get_or, arith, Ok}
use Rattle.std.proofs.lemmas.List.FromFn.{length-map-range_with_len, get_or-map-range_with_len}
use Rattle.linear_models.specs.Model.{Model}
use Rattle.dictionaries.specs.Dictionary.{Dictionary, first_of_program}
use Rattle.dictionaries.specs.Bland.{IsBestEnd}
use Rattle.dictionaries.specs.Run.{IsOnTheWay, Leads}
use Rattle.dictionaries.proofs.Reaching.{reached_on_the_way}
use Rattle.model_prices.specs.Prices.{program_of, value_of_model, IsContinuous}
use Rattle.model_prices.proofs.Ends.{ends_answer}
use Rattle.model_prices.proofs.Prices.{is_regular, prices_hold}
use Rattle.sensitivity.specs.Prices.{price_at, ArePrices}
use Rattle.sensitivity.specs.Answers.{IsAnswer}
use Rattle.sensitivity.specs.Truth.{AreTruePrices, IsTruePrice, PricesAreTrue}
use Rattle.sensitivity.specs.declared.row_prices.Price.{Price}
use Rattle.sensitivity.specs.declared.answer.PriceAnswer.{PriceAnswer}
use Rattle.sensitivity.specs.declared.answer.PriceAnswer.TheVariants as answers

-- the prices of so many rows are those of their places
own_places : (m : Model) (d : Dictionary) (a n : ℕ) → map (λ (p : Price). p.row) (map (price_at m d) (range_with_len a n)) ≡ range_with_len a n
own_places m d a zero = refl
own_places m d a (suc n) = ap (λ places. a ∷ places) (own_places m d (a + 1) n)

each_holds : (m : Model) (d : Dictionary) (n k : ℕ) (x : Price) → IsContinuous m → IsOnTheWay (program_of m) d → IsBestEnd d → k < length (map (price_at m d) (range_with_len 0 n))
    → IsTruePrice m (value_of_model m d) (get_or (map (price_at m d) (range_with_len 0 n)) k x)
each_holds m d n k x c w b h =
    let l : k < n = omega (arith, length-map-range_with_len (price_at m d) 0 n) in
    subst (IsTruePrice m (value_of_model m d)) (sym (get_or-map-range_with_len (price_at m d) 0 n k k x l (omega arith)))
    (λ q i. prices_hold m d k q c w b i)

best_is_true : (m : Model) (d : Dictionary) (prices : List Price) → IsContinuous m → IsOnTheWay (program_of m) d → IsBestEnd d → ArePrices m d (Ok prices)
    → AreTruePrices m (value_of_model m d) prices
best_is_true m d prices c w b p =
    subst (AreTruePrices m (value_of_model m d)) (sym p.0)
    record {
      best = ends_answer.best m d c w b;
      rows = own_places m d 0 (length m.rows);
      hold = λ k x h. each_holds m d (length m.rows) k x c w b h;
    }

on_the_way_is_true : (m : Model) (d : Dictionary) (a : PriceAnswer) → IsContinuous m → IsOnTheWay (program_of m) d → IsAnswer m d a → PricesAreTrue m a
on_the_way_is_true m d (answers.Best value prices) c w h = subst (λ v. AreTruePrices m v prices.items) (sym h.1) (best_is_true m d prices.items c w h.0 h.2)
on_the_way_is_true m d answers.Infeasible c w h = ends_answer.infeasible m d c w h
on_the_way_is_true m d answers.Unbounded c w h = ends_answer.unbounded m d h.0 c w h.1

-- so is an answer at any dictionary of the run
pub answer_is_true : (m : Model) (d : Dictionary) (k : ℕ) (a : PriceAnswer) → IsContinuous m → Leads k (first_of_program (program_of m)) d → IsAnswer m d a → PricesAreTrue m a
answer_is_true m d k a c l h = on_the_way_is_true m d a c (reached_on_the_way (program_of m) d (is_regular m c.valid) (k, l)) h
