-- The examples hold.
use Rattle.std.proofs.Common.{refl}
use Rattle.fractions.specs.Rational.{eq_ℚ, computed}
use Rattle.fractions.specs.Floor.{floor_ℚ}
use Rattle.fractions.specs.Power.{power_ℚ}
use Rattle.affine_forms.specs.FromFrac128.{is_narrow, is_narrow_sum}
use Rattle.form_table.specs.CertainExamples.{index_errors, no_choices}
use Rattle.form_table.specs.CertainRecordExamples.{record_errors}
use Rattle.form_table.specs.Examples.{Hold, operators, choices, functions, picks, records, choose, certain}

pub operators_hold : Hold operators
unfolding computed eq_ℚ is_narrow is_narrow_sum floor_ℚ power_ℚ
operators_hold = (refl, (refl, (refl, (refl, (refl, (refl, (refl, (refl, (refl, (refl, (refl, (refl, (refl, (refl, (refl, (refl, (refl, (refl, (refl, (refl, (refl, (refl, (refl, (refl, (refl, (refl, (refl, (refl, (refl, (refl, (refl, (refl, (refl, (refl, (refl, (refl, (refl, (refl, (refl, (refl, (refl, (refl, (refl, (refl, (refl, (refl, (refl, (refl, (refl, (refl, (refl, (refl, (refl, (refl, tt))))))))))))))))))))))))))))))))))))))))))))))))))))))

pub choices_hold : Hold choices
unfolding computed eq_ℚ is_narrow is_narrow_sum floor_ℚ power_ℚ
choices_hold = (refl, (refl, (refl, (refl, (refl, (refl, (refl, (refl, (refl, (refl, (refl, (refl, (refl, (refl, tt))))))))))))))

pub functions_hold : Hold functions
unfolding computed eq_ℚ is_narrow is_narrow_sum floor_ℚ power_ℚ
functions_hold = (refl, (refl, (refl, (refl, (refl, (refl, (refl, (refl, (refl, (refl, (refl, (refl, (refl, (refl, (refl, (refl, (refl, (refl, (refl, (refl, (refl, (refl, (refl, (refl, (refl, (refl, (refl, (refl, (refl, (refl, (refl, (refl, (refl, (refl, (refl, (refl, (refl, (refl, (refl, (refl, (refl, (refl, (refl, (refl, (refl, (refl, (refl, (refl, (refl, (refl, (refl, (refl, (refl, (refl, (refl, (refl, (refl, (refl, (refl, (refl, (refl, (refl, (refl, (refl, (refl, (refl, (refl, (refl, (refl, (refl, (refl, (refl, (refl, (refl, (refl, (refl, (refl, (refl, (refl, (refl, tt))))))))))))))))))))))))))))))))))))))))))))))))))))))))))))))))))))))))))))))))

pub picks_hold : Hold picks
unfolding computed eq_ℚ is_narrow is_narrow_sum floor_ℚ power_ℚ
picks_hold = (refl, (refl, (refl, (refl, (refl, (refl, (refl, (refl, tt))))))))

pub records_hold : Hold records
unfolding computed eq_ℚ is_narrow is_narrow_sum floor_ℚ power_ℚ
records_hold = (refl, (refl, (refl, (refl, (refl, (refl, (refl, (refl, (refl, (refl, (refl, (refl, (refl, (refl, (refl, (refl, (refl, tt)))))))))))))))))

pub choose_hold : Hold choose
unfolding computed eq_ℚ is_narrow is_narrow_sum floor_ℚ power_ℚ
choose_hold = (refl, (refl, (refl, (refl, (refl, (refl, tt))))))

pub certain_hold : Hold certain
unfolding computed eq_ℚ is_narrow is_narrow_sum floor_ℚ power_ℚ
certain_hold = (refl, (refl, (refl, (refl, (refl, (refl, (refl, (refl, (refl, tt)))))))))

pub no_choices_hold : Hold no_choices
unfolding computed eq_ℚ is_narrow is_narrow_sum floor_ℚ power_ℚ
no_choices_hold = (refl, (refl, (refl, (refl, (refl, (refl, tt))))))

pub index_errors_hold : Hold index_errors
unfolding computed eq_ℚ is_narrow is_narrow_sum floor_ℚ power_ℚ
index_errors_hold = (refl, (refl, (refl, (refl, (refl, (refl, (refl, (refl, (refl, (refl, (refl, (refl, (refl, tt)))))))))))))

pub record_errors_hold : Hold record_errors
unfolding computed eq_ℚ is_narrow is_narrow_sum floor_ℚ power_ℚ
record_errors_hold = (refl, (refl, (refl, (refl, (refl, (refl, (refl, (refl, (refl, (refl, (refl, (refl, (refl, (refl, (refl, (refl, (refl, (refl, (refl, (refl, (refl, (refl, (refl, tt)))))))))))))))))))))))
