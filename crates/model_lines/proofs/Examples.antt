-- A small model, and how it is printed.
use Rattle.std.proofs.Common.{◌≡◌, ℕ, List, [], ◌∷◌, codes, refl}
use Rattle.std.specs.Prelude.{false, true, Some, None, pos, neg_ℤ}
use Rattle.std.specs.Fmt.{digits}
use Rattle.fractions.specs.Rational.{ℚ}
use Rattle.fractions.specs.Rational as rational
use Rattle.fractions.specs.Gcd as divisor
use Rattle.fractions.specs.Whole.{whole_ℚ}
use Rattle.cell_refs.specs.declared.cell.Cell.{Cell}
use Rattle.optimality.specs.Problem.{at_most, at_least, greatest}
use Rattle.affine_forms.specs.Forms.{AffineForm}
use Rattle.model_lines.specs.Lines.{ModelLines, model_text}

sheets : List (List ℕ)
sheets = codes "plan" ∷ []

at : ℕ → ℕ → Cell
at row column = record { sheet = record { 0 = 0 }; row = row; col = column }

number : ℕ → ℚ
number n = whole_ℚ (pos n)

minus : ℕ → ℚ
minus n = whole_ℚ (neg_ℤ (pos n))

sum_of_two : ℕ → ℕ → ℚ → AffineForm
sum_of_two a b base = record { constant = base; terms = (0, number a) ∷ (1, number b) ∷ [] }

plan : ModelLines
plan = record {
  decisions = at 1 0 ∷ at 1 1 ∷ [];
  aim = Some (greatest, sum_of_two 3 2 (number 0));
  rows = (1, (sum_of_two 1 1 (minus 4), at_most)) ∷ (4, (sum_of_two 1 3 (minus 6), at_least)) ∷ [];
  whole = false ∷ true ∷ [];
  bounds = record { least = Some (number 0) ∷ Some (number 0) ∷ []; greatest = None ∷ Some (number 9) ∷ [] };
  groups = [];
}

lines_of_the_plan : model_text sheets plan ≡ codes "max 3*plan!A2 + 2*plan!B2 + 0\nrow 1 1*plan!A2 + 1*plan!B2 + -4 <= 0\nrow 4 1*plan!A2 + 3*plan!B2 + -6 >= 0\ncell plan!A2 continuous 0 -\ncell plan!B2 integer 0 9\nend"
unfolding digits number minus sum_of_two plan sheets at rational.numerator rational.denominator rational.frac rational.if_lowest rational.is_lowest divisor.gcd
lines_of_the_plan = refl

no_objective : model_text [] (record { decisions = []; aim = None; rows = []; whole = []; bounds = record { least = []; greatest = [] }; groups = [] }) ≡ codes "none\nend"
no_objective = refl

-- three cells that hold the numbers 1 to 3, each once
order : ModelLines
order = record {
  decisions = at 0 0 ∷ at 0 1 ∷ at 0 2 ∷ [];
  aim = Some (greatest, record { constant = number 0; terms = (0, number 3) ∷ (1, number 2) ∷ (2, number 1) ∷ [] });
  rows = [];
  whole = true ∷ true ∷ true ∷ [];
  bounds = record { least = Some (number 1) ∷ Some (number 1) ∷ Some (number 1) ∷ []; greatest = Some (number 3) ∷ Some (number 3) ∷ Some (number 3) ∷ [] };
  groups = (0 ∷ 1 ∷ 2 ∷ []) ∷ [];
}

lines_of_the_order : model_text sheets order ≡ codes "max 3*plan!A1 + 2*plan!B1 + 1*plan!C1 + 0\ncell plan!A1 integer 1 3\ncell plan!B1 integer 1 3\ncell plan!C1 integer 1 3\ndifferent plan!A1 plan!B1 plan!C1\nend"
unfolding digits number order sheets at rational.numerator rational.denominator rational.frac rational.if_lowest rational.is_lowest divisor.gcd
lines_of_the_order = refl
