-- What places are worth depends on the numbers of the decision cells.
use Rattle.std.proofs.Common.{◌≡◌, ◌<◌, ℕ, List, length, Option, Some, None, refl, ap}
use Rattle.std.specs.Prelude.{option_map}
use Rattle.std.specs.Option.{option_and_then}
use Rattle.std.proofs.lemmas.List.Quantifiers.{position-Some}
use Rattle.fractions.specs.Vectors.{at}
use Rattle.cell_refs.specs.Cells.{is_same_cell}
use Rattle.cell_refs.specs.declared.cell.Cell.{Cell}
use Rattle.affine_forms.specs.Assigned.{assigned}
use Rattle.affine_forms.specs.Forms as forms
use Rattle.form_extraction.specs.FromRecalculation.{Overriding}
use Rattle.form_extraction.proofs.FromRecalculation.{val_overridden}
use Rattle.form_extraction.specs.Places.{overriding, numbered_in}
use Rattle.sheet_problems.specs.Laws.{DecisionIsItsNumber, DependsOnDecisions, EqualNumbersGiveEqualValues}
use Rattle.sheet_problems.specs.Places.{number_in, put_over, value_at}

pub equal_numbers : EqualNumbersGiveEqualValues
equal_numbers book sides over under h p = ap (λ (o : Overriding). value_at book sides o p) (λ i c. h c i)

-- decisions are numbered below their count
pub number_below : (decisions : List Cell) (c : Cell) (j : ℕ) → numbered_in decisions c ≡ Some j → j < length decisions
number_below decisions c j e = (position-Some (is_same_cell c) decisions j c e).0

-- numbers that are equal below n are put alike, where the numbers of the decisions are below n
pub put_alike : (decisions : List Cell) (x y : forms.Assignment) → ((j : ℕ) → j < length decisions → x j ≡ y j) → (c : Cell)
    → overriding (numbered_in decisions) x c ≡ overriding (numbered_in decisions) y c
put_alike decisions x y h c = by_number (numbered_in decisions c) (λ j e. h j (number_below decisions c j e))
  where
    by_number : (o : Option ℕ) → ((j : ℕ) → o ≡ Some j → x j ≡ y j) → option_map x o ≡ option_map y o
    by_number None same = refl
    by_number (Some j) same = ap Some (same j refl)

pub depends_on_decisions : DependsOnDecisions
depends_on_decisions book sides decisions a b h p =
    ap (option_and_then number_in) (equal_numbers book sides (put_over decisions a) (put_over decisions b) (put_alike decisions (assigned a) (assigned b) h) p)

pub decision_is_its_number : DecisionIsItsNumber
decision_is_its_number book sides decisions c j e a =
    ap number_in (val_overridden book (put_over decisions a) c (at a j) (ap (option_map (assigned a)) e))
