-- Criteria (OpenDocument 1.2 part 2, section 4.11.8, without wildcards), SUMIF and COUNTIF (sections 6.16.62 and 6.13.7).
use Rattle.std.specs.Prelude.{ℕ, Bool, true, false, not, ◌&&◌, ◌==◌, if◌then◌else◌, List, [], ◌∷◌, map, filter, zip, drop, slice_index, Option, Some, None, option_map}
use Rattle.cell_refs.specs.declared.op.Op.{Op}
use Rattle.cell_refs.specs.declared.op.Op.TheVariants as op
use Rattle.cell_refs.specs.declared.error_kind.ErrorKind.TheVariants as kind
use Rattle.fractions.specs.Rational.{ℚ}
use Rattle.calculations.specs.Calculation.{Calculation}
use Rattle.sheet_model.specs.Comparison.{rank, value_cmp}
use Rattle.sheet_model.specs.Operators.{asks_for}
use Rattle.sheet_model.specs.Grids.{Rectangle}
use Rattle.sheet_model.specs.declared.value.Value.{Value}
use Rattle.sheet_model.specs.declared.value.Value.TheVariants.{Number, Text, Logical, Empty, Error}
use Rattle.sheet_model.specs.declared.grid.Arg.{Arg}
use Rattle.sheet_funcs.specs.Arguments.{grid_of, no_error, value_of, answered, counted, on_ok}
use Rattle.sheet_funcs.specs.Items.{numbers_among}
use Rattle.sheet_funcs.specs.Sums.{total, how_many}
use Rattle.sheet_funcs.specs.Products.{is_of_size}
use Rattle.sheet_funcs.specs.Numerals.{number_spelled}

-- what a text stands for in a criterion: a number where it is a numeral, and else itself
abbrev pub number_or_text : List ℕ → Option ℚ → Value
number_or_text text (Some x) = Number x
number_or_text text None = Text text

abbrev pub operand : List ℕ → Value
operand text = number_or_text text (number_spelled text)

abbrev pub is_differing : Op → Bool
is_differing op.Ne = true
is_differing _ = false

-- whether an element stands in a relation to what is asked for: an element of another kind, and what is empty, differs from it
-- and is in no other relation to it; an error is in none
abbrev pub stands_in : Op → Value → Value → Bool
stands_in relation asked (Error k) = false
stands_in relation asked v = if rank v == rank asked then asks_for relation (value_cmp v asked) else is_differing relation

-- the relation that one sign, and that two signs, ask for: '<' is 60, '=' is 61 and '>' is 62
abbrev pub one_sign : ℕ → Option Op
one_sign a = if a == 60 then Some op.Lt else if a == 61 then Some op.Eq else if a == 62 then Some op.Gt else None

abbrev pub two_signs : ℕ → ℕ → Option Op
two_signs a b =
    if (a == 60) && (b == 61) then Some op.Le
    else if (a == 60) && (b == 62) then Some op.Ne
    else if (a == 62) && (b == 61) then Some op.Ge
    else None

abbrev pub first_of : {A : Type 0} → Option A → Option A → Option A
first_of (Some x) other = Some x
first_of None other = other

-- the relation that a text asks for in front, and the rest of the text
abbrev pub relation_in : List ℕ → Option (Op × List ℕ)
relation_in text =
    first_of (option_map (λ o. (o, drop 2 text)) (two_signs (slice_index text 0) (slice_index text 1)))
    (option_map (λ o. (o, drop 1 text)) (one_sign (slice_index text 0)))

abbrev pub is_empty : Value → Bool
is_empty Empty = true
is_empty _ = false

abbrev pub is_error : Value → Bool
is_error (Error k) = true
is_error _ = false

-- a relation to nothing: '=' is met by what is empty alone, '<>' by everything else but errors, and another by what stands so
-- to the empty text
abbrev pub meets_nothing : Op → Value → Bool
meets_nothing op.Eq v = is_empty v
meets_nothing op.Ne v = not (is_empty v) && not (is_error v)
meets_nothing relation v = stands_in relation (Text []) v

abbrev pub meets_relation : Op × List ℕ → Value → Bool
meets_relation (relation, []) v = meets_nothing relation v
meets_relation (relation, (b ∷ rest)) v = stands_in relation (operand (b ∷ rest)) v

abbrev pub meets_text : List ℕ → Option (Op × List ℕ) → Value → Bool
meets_text text (Some r) v = meets_relation r v
meets_text text None v = stands_in op.Eq (operand text) v

-- whether an element meets a criterion: an empty one meets nothing, a number or a logical what equals it, and a text the
-- relation that it asks for, or else equality
abbrev pub meets : Value → Value → Bool
meets (Text t) v = meets_text t (relation_in t) v
meets (Number x) v = stands_in op.Eq (Number x) v
meets (Logical b) v = stands_in op.Eq (Logical b) v
meets Empty v = false
meets (Error k) v = false

-- of what stands beside some elements, that beside an element which meets a criterion
abbrev pub met : {A : Type 0} → Value → List Value → List A → List A
met {A = A} criterion tested others = map (λ (p : Value × A). p.1) (filter (λ (p : Value × A). meets criterion p.0) (zip tested others))

-- the sum of the numbers in those places
abbrev pub sum_where : Rectangle → Value → Rectangle → Calculation Arg
sum_where tested criterion summed =
    if is_of_size tested summed
    then on_ok (numbers_among (met criterion tested.items summed.items)) (λ xs. counted (total xs))
    else answered (Error kind.Value)

abbrev pub sumif_by : Arg → Arg → Arg → Calculation Arg
sumif_by tested criterion summed = on_ok (no_error (value_of criterion)) (λ c. sum_where (grid_of tested) c (grid_of summed))

-- the tested grid is summed where no other is given
abbrev pub sumif_of : List Arg → Calculation Arg
sumif_of (tested ∷ criterion ∷ []) = sumif_by tested criterion tested
sumif_of (tested ∷ criterion ∷ summed ∷ []) = sumif_by tested criterion summed
sumif_of _ = answered (Error kind.Value)

abbrev pub countif_of : Arg → Arg → Calculation Arg
countif_of tested criterion =
    on_ok (no_error (value_of criterion)) (λ c. answered (Number (how_many (filter (meets c) (grid_of tested).items))))
