-- The order of values (OpenDocument 1.2 part 2, section 6.4.9, with an order between kinds): a number is less than a text, and a
-- text less than a logical. Texts compare by their bytes, with letters of ASCII as small letters. What is empty is the empty
-- text beside a text, and else the number 0.
use Rattle.std.specs.Prelude.{◌≡◌, ◌≢◌, ℕ, [], map}
use Rattle.std.specs.Char.{to_ascii_lowercase}
use Rattle.std.specs.declared.cmp.Ordering.{Ordering}
use Rattle.std.specs.declared.cmp.Ordering.TheVariants.{Equal, Greater}
use Rattle.std.specs.Ordering.{nat_cmp, bool_cmp, ordering_then, ordering_reverse}
use Rattle.std.specs.Cmp.Lexicographic.{slice_cmp}
use Rattle.fractions.specs.Rational.{zero_ℚ}
use Rattle.sheet_model.specs.Tests.{number_cmp}
use Rattle.sheet_model.specs.declared.value.Value.{Value}
use Rattle.sheet_model.specs.declared.value.Value.TheVariants.{Number, Text, Logical, Empty, Error}

-- the first value as it counts beside the second
abbrev pub beside : Value → Value → Value
beside Empty (Text t) = Text []
beside Empty other = Number zero_ℚ
beside v other = v

-- the place of a value's kind in the order of kinds
abbrev pub rank : Value → ℕ
rank (Number x) = 0
rank (Text t) = 1
rank (Logical b) = 2
rank Empty = 3
rank (Error k) = 4

-- the order of two values of one kind
abbrev pub cmp_in_kind : Value → Value → Ordering
cmp_in_kind (Number x) (Number y) = number_cmp x y
cmp_in_kind (Text s) (Text t) = slice_cmp nat_cmp (map to_ascii_lowercase s) (map to_ascii_lowercase t)
cmp_in_kind (Logical a) (Logical b) = bool_cmp a b
cmp_in_kind _ _ = Equal

-- the order of two values, neither of which is an error
abbrev pub value_cmp : Value → Value → Ordering
value_cmp a b = ordering_then (nat_cmp (rank (beside a b)) (rank (beside b a))) (cmp_in_kind (beside a b) (beside b a))

-- what is true of the order
pub record OrderLaws : Type 0 where
  pub same : (a : Value) → value_cmp a a ≡ Equal
  pub turned : (a b : Value) → value_cmp b a ≡ ordering_reverse (value_cmp a b)
  -- over values that aren't empty; where some are it may fail, since what is empty is both 0 and the empty text
  pub transitive : (a b c : Value) → a ≢ Empty → b ≢ Empty → c ≢ Empty → value_cmp a b ≢ Greater → value_cmp b c ≢ Greater → value_cmp a c ≢ Greater
