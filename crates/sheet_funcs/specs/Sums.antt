-- SUM, AVERAGE, COUNT, MIN and MAX (OpenDocument 1.2 part 2, sections 6.16.61, 6.18.3, 6.13.6, 6.18.48 and 6.18.45). A sum goes
-- from 0, item by item; where an error stands among the items, no sum is made.
use Rattle.std.specs.Prelude.{Bool, true, false, if◌then◌else◌, List, [], ◌∷◌, length, filter, flat_map, pos}
use Rattle.fractions.specs.Rational.{ℚ, zero_ℚ, le_ℚ}
use Rattle.fractions.specs.Whole.{whole_ℚ}
use Rattle.calculations.specs.Calculation.{Calculation, sum, quotient, done, after, followed_by, through}
use Rattle.cell_refs.specs.declared.error_kind.ErrorKind.TheVariants as kind
use Rattle.sheet_model.specs.declared.value.Value.{Value}
use Rattle.sheet_model.specs.declared.value.Value.TheVariants.{Number, Error}
use Rattle.sheet_model.specs.declared.grid.Arg.{Arg}
use Rattle.sheet_funcs.specs.Arguments.{answered, counted, on_ok, elements_of}
use Rattle.sheet_funcs.specs.Items.{numbers_of}

-- the sum of some numbers
abbrev pub total : List ℚ → Calculation ℚ
total xs = through (λ so_far x. after (sum so_far x) done) zero_ℚ xs

-- how many there are
abbrev pub how_many : {A : Type 0} → List A → ℚ
how_many xs = whole_ℚ (pos (length xs))

abbrev pub sum_of : List Arg → Calculation Arg
sum_of args = on_ok (numbers_of args) (λ xs. counted (total xs))

-- the sum divided by the number of items
abbrev pub mean : List ℚ → Calculation Arg
mean [] = answered (Error kind.Div0)
mean xs = counted (followed_by (total xs) (λ s. after (quotient s (how_many xs)) done))

abbrev pub average_of : List Arg → Calculation Arg
average_of args = on_ok (numbers_of args) mean

abbrev pub is_number : Value → Bool
is_number (Number x) = true
is_number _ = false

-- the numbers in areas and among single values; no error is a result here
abbrev pub count_of : List Arg → Calculation Arg
count_of args = answered (Number (how_many (filter is_number (flat_map elements_of args))))

-- the lesser and the greater of two numbers
abbrev pub lesser : ℚ → ℚ → ℚ
lesser x y = if le_ℚ x y then x else y

abbrev pub greater : ℚ → ℚ → ℚ
greater x y = if le_ℚ x y then y else x

-- the least and the greatest of some numbers, 0 for none
abbrev pub least : List ℚ → ℚ
least [] = zero_ℚ
least (x ∷ []) = x
least (x ∷ y ∷ xs) = lesser x (least (y ∷ xs))

abbrev pub greatest : List ℚ → ℚ
greatest [] = zero_ℚ
greatest (x ∷ []) = x
greatest (x ∷ y ∷ xs) = greater x (greatest (y ∷ xs))

abbrev pub min_of : List Arg → Calculation Arg
min_of args = on_ok (numbers_of args) (λ xs. answered (Number (least xs)))

abbrev pub max_of : List Arg → Calculation Arg
max_of args = on_ok (numbers_of args) (λ xs. answered (Number (greatest xs)))
