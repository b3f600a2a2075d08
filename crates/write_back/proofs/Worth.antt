-- What a quotient is worth.
use Rattle.std.proofs.Common.{◌≡◌, ◌≢◌, false, cond, refl, sym, ap}
use Rattle.fractions.specs.Rational.{ℚ, zero_ℚ, neg_ℚ, ◌/ℚ◌}
use Rattle.calculations.specs.Calculation.{done, exact, quotient, turned_into}
use Rattle.cell_refs.specs.declared.error_kind.ErrorKind.TheVariants as kind
use Rattle.formula_ast.specs.Tree.{Tree}
use Rattle.sheet_model.specs.Operators.{calculated, divided}
use Rattle.sheet_model.specs.Tests.{is_zero}
use Rattle.sheet_model.specs.declared.grid.Arg.TheVariants.{One}
use Rattle.sheet_model.specs.declared.value.Value.TheVariants.{Number, Error}
use Rattle.sheet_model.proofs.NumberTests.{is_zero-told}
use Rattle.recalculation.specs.Evaluation.{cell_value}
use Rattle.write_back.proofs.Quotients.{IsQuotient, positive, negative}
use Rattle.written_cells.specs.Written.{IsWorth}

divides : (x y : ℚ) → y ≢ zero_ℚ → cell_value (exact (turned_into One (divided x y))) ≡ Number (x /ℚ y)
divides x y some =
    let other : is_zero y ≡ false = sym (is_zero-told false y (λ e. absurd cc, λ e. absurd (some e))) in
    ap (λ t. cell_value (exact (turned_into One (cond t (done (Error kind.Div0)) (calculated (quotient x y)))))) other

-- a quotient refers to no cell and is worth its two parts' quotient
pub worth_of : {t : Tree} {x y : ℚ} → IsQuotient t x y → y ≢ zero_ℚ → IsWorth t (x /ℚ y)
worth_of (positive {x} {y} at over under) some = record { alone = λ b. refl; worth = λ values. divides x y some }
worth_of (negative {x} {y} at minus over under) some = record { alone = λ b. refl; worth = λ values. divides (neg_ℚ x) y some }
