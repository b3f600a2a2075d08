-- What numbers come to, one after the other.
use Rattle.std.specs.Prelude.{if◌then◌else◌, List, [], ◌∷◌, Option, Some, None, Result}
use Rattle.std.specs.Result.{result_map_both}
use Rattle.fractions.specs.Rational.{ℚ}
use Rattle.calculations.specs.Calculation.{sum, result_of, stays_narrow}
use Rattle.cell_refs.specs.declared.error_kind.ErrorKind.{ErrorKind}
use Rattle.sheet_funcs.specs.Sums.{lesser, greater}
use Rattle.sheet_funcs.specs.declared.tally.Tally.{Tally}
use Rattle.sheet_funcs.specs.declared.tally.Tally.TheVariants.{Total, Least, Greatest}

-- with one number more
abbrev pub with_number : Tally → Option ℚ → ℚ → Option ℚ
with_number Total None x = None
with_number Total (Some s) x = if stays_narrow (sum s x) then Some (result_of (sum s x)) else None
with_number Least None x = Some x
with_number Least (Some s) x = Some (lesser s x)
with_number Greatest None x = Some x
with_number Greatest (Some s) x = Some (greater s x)

-- with some numbers more
abbrev pub with_numbers : Tally → Option ℚ → List ℚ → Option ℚ
with_numbers t so_far [] = so_far
with_numbers t so_far (x ∷ xs) = with_numbers t (with_number t so_far x) xs

-- the same of numbers or an error
abbrev pub tally_or_error : Tally → Option ℚ → Result (List ℚ) ErrorKind → Result (Option ℚ) ErrorKind
tally_or_error t so_far r = result_map_both (with_numbers t so_far) (λ k. k) r
