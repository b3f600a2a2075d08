-- Searches through elements that stand at even steps.
use Rattle.std.specs.Prelude.{ℕ, ◌*◌, ◌<◌, Bool, List, map, length, slice_index_or}
use Rattle.std.specs.declared.cmp.Ordering.{Ordering}
use Rattle.std.specs.declared.cmp.Ordering.TheVariants as order
use Rattle.sheet_model.specs.declared.value.Value.{Value}
use Rattle.sheet_model.specs.declared.value.Value.TheVariants.{Empty}
use Rattle.sheet_funcs.specs.Arguments.{below}
use Rattle.sheet_funcs.specs.Lookups.{is_equal_to, is_greater_than, is_less_than}

-- so many elements, the first at the front, and each a step behind the one before
abbrev pub spaced : List Value → ℕ → ℕ → List Value
spaced items step count = map (λ place. slice_index_or items (place * step) Empty) (below count)

-- there are so many
abbrev pub IsSpaced : List Value → ℕ → ℕ → Type 0
IsSpaced items step count = (place : ℕ) → place < count → place * step < length items

-- whether a value is in this order beside a key
abbrev pub stands : Ordering → Value → Value → Bool
stands order.Less = is_less_than
stands order.Equal = is_equal_to
stands order.Greater = is_greater_than
