-- Operations on fractions in a stated order, and their answer: exactly, and on narrow numbers.
use Rattle.std.specs.Prelude.{ℤ, Bool, if◌then◌else◌, List, [], ◌∷◌, Option, Some, None}
use Rattle.fractions.specs.Rational.{ℚ, ◌+ℚ◌, ◌*ℚ◌, ◌/ℚ◌}
use Rattle.fractions.specs.Power.{power_ℚ}
use Rattle.frac128.specs.Narrow.{is_narrow, is_narrow_sum}

-- one operation; a difference is the sum with the second number negated
pub data Operation : Type 0 where
  sum : (x y : ℚ) → Operation
  product : (x y : ℚ) → Operation
  quotient : (x y : ℚ) → Operation
  power : (x : ℚ) (exponent : ℤ) → Operation

-- its result
abbrev pub result_of : Operation → ℚ
result_of (sum x y) = x +ℚ y
result_of (product x y) = x *ℚ y
result_of (quotient x y) = x /ℚ y
result_of (power x e) = power_ℚ x e

-- whether it meets narrow numbers alone
abbrev pub stays_narrow : Operation → Bool
stays_narrow (sum x y) = is_narrow_sum x y
stays_narrow (product x y) = is_narrow (x *ℚ y)
stays_narrow (quotient x y) = is_narrow (x /ℚ y)
stays_narrow (power x e) = is_narrow (power_ℚ x e)

-- a calculation: an answer, or an operation and how to go on with its result
pub data Calculation (A : Type 0) : Type 0 where
  done : (answer : A) → Calculation A
  after : (operation : Operation) (rest : ℚ → Calculation A) → Calculation A

-- the answer, over fractions of any size
abbrev pub exact : {A : Type 0} → Calculation A → A
exact (done answer) = answer
exact (after operation rest) = exact (rest (result_of operation))

-- the answer on narrow numbers; none where an operation meets a number that isn't narrow
abbrev pub narrow : {A : Type 0} → Calculation A → Option A
narrow (done answer) = Some answer
narrow (after operation rest) = if stays_narrow operation then narrow (rest (result_of operation)) else None

-- one calculation, and then one that depends on its answer
abbrev pub followed_by : {A B : Type 0} → Calculation A → (A → Calculation B) → Calculation B
followed_by (done answer) f = f answer
followed_by (after operation rest) f = after operation (λ x. followed_by (rest x) f)

-- a calculation whose answer is turned into another
abbrev pub turned_into : {A B : Type 0} → (A → B) → Calculation A → Calculation B
turned_into f (done answer) = done (f answer)
turned_into f (after operation rest) = after operation (λ x. turned_into f (rest x))

-- a calculation for each item, in their order
abbrev pub for_each : {A B : Type 0} → (A → Calculation B) → List A → Calculation (List B)
for_each f [] = done []
for_each f (x ∷ xs) = followed_by (f x) (λ y. turned_into (λ ys. y ∷ ys) (for_each f xs))

-- a calculation that goes through the items with an answer so far
abbrev pub through : {A B : Type 0} → (B → A → Calculation B) → B → List A → Calculation B
through f so_far [] = done so_far
through f so_far (x ∷ xs) = followed_by (f so_far x) (λ next. through f next xs)
