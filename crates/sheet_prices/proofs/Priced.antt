-- True prices of a model are true of its sheet.
use Rattle.std.specs.Prelude.{zip, slice_index, is_some}
use Rattle.std.specs.List.{AllByRecursion}
use Rattle.std.proofs.Common.{◌≡◌, ℕ, suc, ◌+◌, ◌<◌, ◌≤◌, true, Option, Some, None, cond, refl, sym, ap, ◌∙◌, List, [], ◌∷◌, ◌++◌, subst, map, length, get_or, arith, length-append}
use Rattle.std.proofs.lemmas.List.{get_or-map}
use Rattle.std.proofs.lemmas.List.Elements.{All-from_recursion}
use Rattle.std.proofs.lemmas.List.FromFn.{length-range_with_len, get_or-range_with_len}
use Rattle.fractions.specs.Rational.{ℚ, ◌+ℚ◌, ◌*ℚ◌}
use Rattle.cell_refs.specs.declared.cell.Cell.{Cell}
use Rattle.optimality.specs.Problem.{Relation}
use Rattle.affine_forms.specs.Forms.{AffineForm}
use Rattle.linear_models.specs.Bounds.{bounded}
use Rattle.linear_models.specs.Linear.{form_or_zero}
use Rattle.linear_models.specs.Model.{Model}
use Rattle.linear_models.specs.Statement.{Constraint, Statement}
use Rattle.linear_models.proofs.Agreement.{rows_of as rows_split, reach_exact}
use Rattle.linear_models.proofs.Sides.{row_exact, rows_exact}
use Rattle.model_prices.specs.Prices.{BestIs}
use Rattle.model_prices.specs.Rows.{problem_against}
use Rattle.sensitivity.specs.Truth.{AreTruePrices}
use Rattle.sensitivity.specs.declared.answer.PriceAnswer.TheVariants as answers
use Rattle.sensitivity.specs.declared.row_prices.Price.{Price}
use Rattle.workbook.specs.State.{State}
use Rattle.solver_names.specs.Statement.{RowOf}
use Rattle.sheet_linear_model.specs.Lines.{numbers_of, row_numbers}
use Rattle.sheet_linear_model.specs.Prepared.{IsPrepared, Prepared, rows_of}
use Rattle.sheet_prices.specs.Laws.{PricesAreTheSheets}
use Rattle.sheet_prices.specs.Prices.{ArePricesOf, IsPriceOf, line_of, lines_of}
use Rattle.sheet_prices.proofs.Agreed.{answers_are_the_sheets, best_values_agree}

-- ---- there is a price for each number
both_fit : (o : Option ℕ) (m : ℕ) (c : Constraint) (ns : List ℕ) (rest : List (AffineForm × Relation)) → length ns ≤ length rest → length (cond (is_some o) ns (m ∷ ns)) ≤ length (row_exact o c ++ rest)
both_fit None m c ns rest h = omega arith
both_fit (Some j) m c ns rest h = h

numbers_fit : (rs : List RowOf) (cs : List Constraint) → length (row_numbers rs cs) ≤ length (rows_exact cs)
numbers_fit [] cs = omega arith
numbers_fit (r ∷ rs) [] = omega arith
numbers_fit (r ∷ rs) (c ∷ cs) = both_fit (bounded c) r.number c (row_numbers rs cs) (rows_exact cs) (numbers_fit rs cs)

pub few_numbers : (book : State) (sheet : ℕ) (p : Prepared) → IsPrepared book sheet p → length (numbers_of p) ≤ length p.model.rows
few_numbers book sheet p w =
    let t : Statement = rows_of p.statement p.objective p.sides in
    let e : length p.model.rows ≡ length (rows_exact t.rows ++ reach_exact t.goal (form_or_zero t.objective)) = ap (λ (m : Model). length m.rows) w.model ∙ ap length (rows_split t) in
    omega (arith, e, numbers_fit p.statement.rows t.rows, length-append (rows_exact t.rows) (reach_exact t.goal (form_or_zero t.objective)))

pub as_many : (m : Model) (value : ℚ) (prices : List Price) → AreTruePrices m value prices → length prices ≡ length m.rows
as_many m value prices h = sym (length-map_row prices) ∙ ap length h.rows ∙ length-range_with_len 0 (length m.rows)
  where
    length-map_row : (prices : List Price) → length (map (λ (x : Price). x.row) prices) ≡ length prices
    length-map_row [] = refl
    length-map_row (x ∷ prices) = ap suc (length-map_row prices)

-- ---- each of them stands at the place of its number
row_is : (m : Model) (value : ℚ) (prices : List Price) (k : ℕ) (x : Price) → AreTruePrices m value prices → k < length prices → (get_or prices k x).row ≡ k
row_is m value prices k x h l =
    let n = as_many m value prices h in
    sym (get_or-map (λ (x : Price). x.row) prices k x 0 l) ∙ ap (λ places. get_or places k 0) h.rows ∙ get_or-range_with_len 0 (length m.rows) k 0 (omega (arith, n)) ∙ omega arith

all_zip : {X : Type 0} (P : ℕ × X → Type 0) (ns : List ℕ) (xs : List X) → ((k : ℕ) (x : X) → k < length ns → k < length xs → P (slice_index ns k, get_or xs k x)) → AllByRecursion P (zip ns xs)
all_zip P [] xs h = tt
all_zip P (n ∷ ns) [] h = tt
all_zip P (n ∷ ns) (x ∷ xs) h = (h 0 x (omega arith) (omega arith), all_zip P ns xs (λ k y l m. h (suc k) y (omega arith) (omega arith)))

price_of : (book : State) (sheet : ℕ) (p : Prepared) (c : Cell) (value : ℚ) (prices : List Price) → IsPrepared book sheet p → p.statement.objective ≡ Some c → AreTruePrices p.model value prices
    → (k : ℕ) (x : Price) → k < length (numbers_of p) → k < length prices → IsPriceOf book p.statement value (line_of (slice_index (numbers_of p) k, get_or prices k x))
price_of book sheet p c value prices w o h k x l m d i =
    let r : (get_or prices k x).row ≡ k = row_is p.model value prices k x h m in
    best_values_agree book sheet p c k (slice_index (numbers_of p) k) d _ w o record { within = l; number_is = refl }
    (subst (λ place. BestIs (problem_against p.model place d) (value +ℚ (get_or prices k x).price *ℚ d)) r (h.hold k x m d i))

all_lines : {A B : Type 0} (P : B → Type 0) (f : A → B) (xs : List A) → AllByRecursion (λ x. P (f x)) xs → AllByRecursion P (map f xs)
all_lines P f [] h = tt
all_lines P f (x ∷ xs) h = (h.0, all_lines P f xs h.1)

best_prices : (book : State) (sheet : ℕ) (p : Prepared) (c : Cell) (value : ℚ) (prices : List Price) → IsPrepared book sheet p → p.statement.objective ≡ Some c → AreTruePrices p.model value prices
    → ArePricesOf book p.statement value (lines_of p prices)
best_prices book sheet p c value prices w o h = record {
  best = answers_are_the_sheets.best book sheet p c value w o h.best;
  hold = All-from_recursion (IsPriceOf book p.statement value) (lines_of p prices)
      (all_lines (IsPriceOf book p.statement value) line_of (zip (numbers_of p) prices)
      (all_zip (λ row. IsPriceOf book p.statement value (line_of row)) (numbers_of p) prices (price_of book sheet p c value prices w o h)));
}

pub prices_are_the_sheets : PricesAreTheSheets
prices_are_the_sheets book sheet p c (answers.Best value prices) w o h = best_prices book sheet p c value prices.items w o h
prices_are_the_sheets book sheet p c answers.Infeasible w o h = answers_are_the_sheets.infeasible book sheet p w h
prices_are_the_sheets book sheet p c answers.Unbounded w o h = answers_are_the_sheets.unbounded book sheet p w h
