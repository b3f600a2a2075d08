-- The places of INDEX.
use Rattle.std.specs.Prelude.{ℕ, ◌==◌, if◌then◌else◌, Option, Some, option_map, Result, Ok, Err}
use Rattle.fractions.specs.Floor.{floor_ℚ}
use Rattle.fractions.specs.Rational.{ℚ}
use Rattle.sheet_funcs.specs.Picks.{part_of, picked}
use Rattle.sheet_funcs.specs.declared.pick.Pick.{Pick}
use Rattle.sheet_funcs.specs.declared.pick.Pick.TheVariants.{Part, Fault}
use Rattle.form_values.specs.Trials.{Trial}
use Rattle.form_values.specs.declared.refusal.OpRefusal.{OpRefusal}
use Rattle.form_values.specs.declared.refusal.OpRefusal.TheVariants.{Undecided}
use Rattle.form_table.specs.Certain.{in_range, part_in}
use Rattle.form_table.specs.Picks.{by_place, picked_by, whole}
use Rattle.form_table.specs.Wanted.{Wanted, open_test}

-- one place
abbrev pub one_place : ℕ → ℕ → Wanted → Trial Pick
one_place rows columns w =
    if rows == 1
    then by_place w (picked_by columns w) (part_of (whole rows))
    else by_place w (picked_by rows w) (λ r. part_of r (whole columns))

-- the one part that it picks in range
abbrev pub alone_in_range : ℕ → ℕ → Wanted → Option Pick
alone_in_range rows columns w =
    if rows == 1
    then part_in (Some (whole rows)) (in_range columns w (picked_by columns w))
    else part_in (in_range rows w (picked_by rows w)) (Some (whole columns))

-- the rows or columns that a known place picks
abbrev pub picked_at : ℕ → Option ℚ → Option (Option (ℕ × ℕ))
picked_at size o = option_map (λ x. picked size (floor_ℚ x)) o

-- a fault, or else a place decides
abbrev pub fault_or : Pick → ℕ → Result Pick OpRefusal
fault_or (Fault k) i = Ok (Fault k)
fault_or (Part top left bottom right) i = Err (Undecided i)

-- the place that decides where none is known
abbrev pub first_undecided : Wanted → Wanted → ℕ
first_undecided open_test d = 1
first_undecided w open_test = 2
first_undecided w d = 1
