-- What is true of the order of values.
use Rattle.std.proofs.Common.{◌≡◌, ◌≢◌, refl, sym, ap, ◌∙◌, subst, ℕ, Bool, true, false, List, [], map}
use Rattle.std.specs.Char.{to_ascii_lowercase}
use Rattle.std.specs.Cmp.{IsTotalOrder, tied_itself, upto, on_total, nat_cmp_total, bool_cmp_total, then_total}
use Rattle.std.specs.Cmp.Lexicographic.{slice_cmp, nat_list_cmp_total}
use Rattle.std.specs.declared.cmp.Ordering.{Ordering}
use Rattle.std.specs.declared.cmp.Ordering.TheVariants.{Less, Equal, Greater}
use Rattle.std.specs.Ordering.{nat_cmp, bool_cmp, on, then_cmp, ordering_then, is_gt}
use Rattle.fractions.specs.Rational.{ℚ, zero_ℚ}
use Rattle.sheet_model.proofs.NumberTests.{number_cmp_total}
use Rattle.sheet_model.specs.Comparison.{beside, rank, cmp_in_kind, value_cmp, OrderLaws}
use Rattle.sheet_model.specs.Tests.{number_cmp}
use Rattle.sheet_model.specs.declared.value.Value.{Value}
use Rattle.sheet_model.specs.declared.value.Value.TheVariants.{Number, Text, Logical, Empty, Error}

-- the number of a value, or 0
abbrev number_of : Value → ℚ
number_of (Number x) = x
number_of _ = zero_ℚ

-- its text in small letters, or none
abbrev small_letters_of : Value → List ℕ
small_letters_of (Text t) = map to_ascii_lowercase t
small_letters_of _ = []

-- its logical, or FALSE
abbrev logical_of : Value → Bool
logical_of (Logical b) = b
logical_of _ = false

-- the order by kind, number, text and logical, in turn
abbrev by_parts : Value → Value → Ordering
by_parts = then_cmp (on rank nat_cmp) (then_cmp (on number_of number_cmp) (then_cmp (on small_letters_of (slice_cmp nat_cmp)) (on logical_of bool_cmp)))

-- each part has a total order, so they have one in turn
by_parts_total : IsTotalOrder by_parts
by_parts_total = then_total (on_total rank nat_cmp_total) (then_total (on_total number_of number_cmp_total) (then_total (on_total small_letters_of nat_list_cmp_total) (on_total logical_of bool_cmp_total)))

-- the order without a word on what is empty
abbrev by_kind : Value → Value → Ordering
by_kind a b = ordering_then (nat_cmp (rank a) (rank b)) (cmp_in_kind a b)

-- 0 equals 0
zeros : number_cmp zero_ℚ zero_ℚ ≡ Equal
zeros = tied_itself number_cmp_total zero_ℚ

-- nothing comes behind the last part
then-equal : (o : Ordering) → ordering_then o Equal ≡ o
then-equal Less = refl
then-equal Equal = refl
then-equal Greater = refl

-- the numbers of two values without one are equal
behind_zeros : (o : Ordering) → o ≡ ordering_then (number_cmp zero_ℚ zero_ℚ) o
behind_zeros o = ap (λ z. ordering_then z o) (sym zeros)

-- both are one order
same_order : (a b : Value) → by_kind a b ≡ by_parts a b
same_order (Number x) (Number y) = sym (then-equal (number_cmp x y))
same_order (Text s) (Text t) = sym (then-equal _) ∙ behind_zeros _
same_order (Logical p) (Logical q) = behind_zeros (bool_cmp p q)
same_order Empty Empty = behind_zeros Equal
same_order (Error j) (Error k) = behind_zeros Equal
same_order (Number x) (Text t) = refl
same_order (Number x) (Logical q) = refl
same_order (Number x) Empty = refl
same_order (Number x) (Error k) = refl
same_order (Text s) (Number y) = refl
same_order (Text s) (Logical q) = refl
same_order (Text s) Empty = refl
same_order (Text s) (Error k) = refl
same_order (Logical p) (Number y) = refl
same_order (Logical p) (Text t) = refl
same_order (Logical p) Empty = refl
same_order (Logical p) (Error k) = refl
same_order Empty (Number y) = refl
same_order Empty (Text t) = refl
same_order Empty (Logical q) = refl
same_order Empty (Error k) = refl
same_order (Error j) (Number y) = refl
same_order (Error j) (Text t) = refl
same_order (Error j) (Logical q) = refl
same_order (Error j) Empty = refl

-- so the other one is total too
by_kind_total : IsTotalOrder by_kind
by_kind_total = subst IsTotalOrder (λ i a b. sym (same_order a b) i) by_parts_total

-- what is not empty counts as itself
not_empty : (a b : Value) → a ≢ Empty → beside a b ≡ a
not_empty (Number x) b n = refl
not_empty (Text t) b n = refl
not_empty (Logical p) b n = refl
not_empty (Error k) b n = refl
not_empty Empty b n = absurd (n refl)

-- the order of values that are not empty
neither_empty : (a b : Value) → a ≢ Empty → b ≢ Empty → value_cmp a b ≡ by_kind a b
neither_empty a b n m = ap (λ v. by_kind v (beside b a)) (not_empty a b n) ∙ ap (by_kind a) (not_empty b a m)

-- what is not Greater fails its test
told_not_greater : (o : Ordering) → o ≢ Greater → is_gt o ≡ false
told_not_greater Less n = refl
told_not_greater Equal n = refl
told_not_greater Greater n = absurd (n refl)

-- and the other way round
not_greater : (o : Ordering) → is_gt o ≡ false → o ≢ Greater
not_greater o e g = let t : is_gt o ≡ true = ap is_gt g in cc

-- the laws
pub order-laws : OrderLaws
order-laws = record {
  same = λ a. tied_itself by_kind_total (beside a a);
  turned = λ a b. by_kind_total.antisymm (beside b a) (beside a b);
  transitive = λ a b c na nb nc p q.
      subst (λ o. o ≢ Greater) (sym (neither_empty a c na nc))
      (not_greater _ (upto by_kind_total a b c
      (told_not_greater _ (subst (λ o. o ≢ Greater) (neither_empty a b na nb) p))
      (told_not_greater _ (subst (λ o. o ≢ Greater) (neither_empty b c nb nc) q))));
}
