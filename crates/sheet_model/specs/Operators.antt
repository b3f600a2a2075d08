-- The operators (OpenDocument 1.2 part 2, section 6.4), on single values and element by element on grids.
use Rattle.std.specs.Prelude.{ℕ, Bool, false, not, ◌&&◌, ◌==◌, if◌then◌else◌, List, [], ◌∷◌, ◌++◌, zip, pos, Result, Ok, Err}
use Rattle.std.specs.declared.cmp.Ordering.{Ordering}
use Rattle.std.specs.Ordering.{is_eq, is_ne, is_lt, is_le, is_gt, is_ge}
use Rattle.fractions.specs.Rational.{ℚ, numerator, neg_ℚ}
use Rattle.fractions.specs.Whole.{whole_ℚ}
use Rattle.calculations.specs.Calculation.{Calculation, Operation, sum, product, quotient, power, done, after, turned_into, for_each}
use Rattle.cell_refs.specs.declared.op.Op.{Op}
use Rattle.cell_refs.specs.declared.op.Op.TheVariants as op
use Rattle.cell_refs.specs.declared.error_kind.ErrorKind.{ErrorKind}
use Rattle.cell_refs.specs.declared.error_kind.ErrorKind.TheVariants as kind
use Rattle.sheet_model.specs.Tests.{is_zero, is_negative, is_exponent}
use Rattle.sheet_model.specs.Conversions.{number_in, text_in}
use Rattle.sheet_model.specs.Comparison.{value_cmp}
use Rattle.sheet_model.specs.Grids.{Rectangle}
use Rattle.sheet_model.specs.declared.value.Value.{Value}
use Rattle.sheet_model.specs.declared.value.Value.TheVariants.{Number, Text, Logical, Error}
use Rattle.sheet_model.specs.declared.grid.Arg.{Arg}
use Rattle.sheet_model.specs.declared.grid.Arg.TheVariants.{One, Area}

-- the number that an operation gives
abbrev pub calculated : Operation → Calculation Value
calculated o = after o (λ x. done (Number x))

-- x / y
abbrev pub divided : ℚ → ℚ → Calculation Value
divided x y = if is_zero y then done (Error kind.Div0) else calculated (quotient x y)

-- x to the power y: y has to be whole and from -1000 to 1000, and 0 has no negative power
abbrev pub raised : ℚ → ℚ → Calculation Value
raised x y =
    if not (is_exponent y) then done (Error kind.Num)
    else if is_zero x && is_negative y then done (Error kind.Div0)
    else calculated (power x (numerator y))

-- on two numbers; the first side that is none is the result
abbrev pub on_numbers : (ℚ → ℚ → Calculation Value) → Result ℚ ErrorKind → Result ℚ ErrorKind → Calculation Value
on_numbers f (Err k) y = done (Error k)
on_numbers f (Ok x) (Err k) = done (Error k)
on_numbers f (Ok x) (Ok y) = f x y

-- two texts joined; the first side that is none is the result
abbrev pub joined_texts : Result (List ℕ) ErrorKind → Result (List ℕ) ErrorKind → Value
joined_texts (Err k) t = Error k
joined_texts (Ok s) (Err k) = Error k
joined_texts (Ok s) (Ok t) = Text (s ++ t)

-- whether an order is one that the comparison asks for
abbrev pub asks_for : Op → Ordering → Bool
asks_for op.Eq o = is_eq o
asks_for op.Ne o = is_ne o
asks_for op.Lt o = is_lt o
asks_for op.Le o = is_le o
asks_for op.Gt o = is_gt o
asks_for op.Ge o = is_ge o
asks_for _ o = false

-- two values compared; the first side that is an error is the result
abbrev pub compared : Op → Value → Value → Value
compared operator (Error k) b = Error k
compared operator a (Error k) = Error k
compared operator a b = Logical (asks_for operator (value_cmp a b))

-- an infix operator on two values
abbrev pub infix_value : Op → Value → Value → Calculation Value
infix_value op.Add a b = on_numbers (λ x y. calculated (sum x y)) (number_in a) (number_in b)
infix_value op.Sub a b = on_numbers (λ x y. calculated (sum x (neg_ℚ y))) (number_in a) (number_in b)
infix_value op.Mul a b = on_numbers (λ x y. calculated (product x y)) (number_in a) (number_in b)
infix_value op.Div a b = on_numbers divided (number_in a) (number_in b)
infix_value op.Pow a b = on_numbers raised (number_in a) (number_in b)
infix_value op.Cat a b = done (joined_texts (text_in a) (text_in b))
infix_value operator a b = done (compared operator a b)

-- on one number, or the error in its place
abbrev pub on_number : (ℚ → Calculation Value) → Result ℚ ErrorKind → Calculation Value
on_number f (Err k) = done (Error k)
on_number f (Ok x) = f x

-- a value with its sign turned
abbrev pub minus_value : Value → Calculation Value
minus_value v = on_number (λ x. done (Number (neg_ℚ x))) (number_in v)

-- a value divided by 100
abbrev pub percent_value : Value → Calculation Value
percent_value v = on_number (λ x. calculated (quotient x (whole_ℚ (pos 100)))) (number_in v)

-- the one value of some, or the grid
abbrev pub one_of : Rectangle → List Value → Arg
one_of g (v ∷ []) = One v
one_of g items = Area g

-- a grid of one element is that element
abbrev pub single : Arg → Arg
single (One v) = One v
single (Area g) = one_of g g.items

-- a grid of the same size with these values
abbrev pub with_items : Rectangle → List Value → Arg
with_items g items = Area (record { rows = g.rows; columns = g.columns; items = items })

-- what is done to a value, done to each element
abbrev pub on_each : (Value → Calculation Value) → Arg → Calculation Arg
on_each f (One v) = turned_into One (f v)
on_each f (Area g) = turned_into (with_items g) (for_each f g.items)

-- what is done to two values, done to each pair of elements in the same place; a single value stands beside each element
abbrev pub on_pairs : (Value → Value → Calculation Value) → Arg → Arg → Calculation Arg
on_pairs f (One a) (One b) = turned_into One (f a b)
on_pairs f (One a) (Area h) = turned_into (with_items h) (for_each (f a) h.items)
on_pairs f (Area g) (One b) = turned_into (with_items g) (for_each (λ a. f a b) g.items)
on_pairs f (Area g) (Area h) =
    if (g.rows == h.rows) && (g.columns == h.columns)
    then turned_into (with_items g) (for_each (λ (p : Value × Value). f p.0 p.1) (zip g.items h.items))
    else done (One (Error kind.Value))

-- an infix operator, minus and %
abbrev pub infix_of : Op → Arg → Arg → Calculation Arg
infix_of operator a b = on_pairs (infix_value operator) (single a) (single b)

abbrev pub minus_of : Arg → Calculation Arg
minus_of a = on_each minus_value (single a)

abbrev pub percent_of : Arg → Calculation Arg
percent_of a = on_each percent_value (single a)
