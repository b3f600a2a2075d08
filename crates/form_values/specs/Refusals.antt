-- When a refusal is right: two assignments show that a part isn't affine, or that an argument isn't the same under all.
use Rattle.std.specs.Prelude.{◌≡◌, ◌≢◌, ℕ, pos, List, slice_get, Some}
use Rattle.fractions.specs.Rational.{ℚ, ◌+ℚ◌, ◌/ℚ◌}
use Rattle.fractions.specs.Whole.{whole_ℚ}
use Rattle.sheet_model.specs.declared.value.Value.{Value}
use Rattle.sheet_model.specs.declared.value.Value.TheVariants.{Number}
use Rattle.affine_forms.specs.Forms.{Assignment}

-- the number in the middle of two, and the assignment in the middle
abbrev pub middle : ℚ → ℚ → ℚ
middle p q = (p +ℚ q) /ℚ whole_ℚ (pos 2)

abbrev pub midpoint : Assignment → Assignment → Assignment
midpoint x y = λ j. middle (x j) (y j)

abbrev pub IsNumber : Value → Type 0
IsNumber v = (p : ℚ) × (v ≡ Number p)

-- a part's value, a function of the assignment, isn't affine: at two assignments it is a number and in their middle it isn't the
-- number in the middle, or at two assignments it differs and isn't a number at both
pub data Bends (part : Assignment → Value) : Type 0 where
  bends : (x y : Assignment) (p q : ℚ) → part x ≡ Number p → part y ≡ Number q → part (midpoint x y) ≢ Number (middle p q) → Bends part
  jumps : (x y : Assignment) → part x ≢ part y → (IsNumber (part x) → IsNumber (part y) → ⊥) → Bends part

-- of a part that is a grid, an element does so
pub record SomeBends (part : Assignment → List Value) : Type 0 where
  pub place : ℕ
  pub element : Assignment → Value
  pub is_there : (x : Assignment) → slice_get (part x) place ≡ Some (element x)
  pub bent : Bends element

-- an argument's value isn't the same under all assignments
pub record Varies {V : Type 0} (argument : Assignment → V) : Type 0 where
  pub one : Assignment
  pub other : Assignment
  pub differ : argument one ≢ argument other
