-- INDEX (OpenDocument 1.2 part 2, section 6.14.6) by open places: which part of a grid it picks. A known place out of range is an
-- error whatever the other place is.
use Rattle.std.specs.Prelude.{ℕ, ◌==◌, if◌then◌else◌, List, [], ◌∷◌, pos, Option, Some, None, option_map}
use Rattle.fractions.specs.Floor.{floor_ℚ}
use Rattle.cell_refs.specs.declared.error_kind.ErrorKind.TheVariants as kind
use Rattle.sheet_funcs.specs.Picks.{picked, part_of}
use Rattle.sheet_funcs.specs.declared.pick.Pick.{Pick}
use Rattle.sheet_funcs.specs.declared.pick.Pick.TheVariants.{Fault}
use Rattle.form_values.specs.Trials.{Trial, given, undecided}
use Rattle.form_values.specs.declared.abs.AbsArg.{AbsArg}
use Rattle.form_table.specs.Wanted.{Wanted, open_test, none, number_of, known_number}

-- the rows or columns that a place picks, where it is known; a place out of range picks nothing
abbrev pub picked_by : ℕ → Wanted → Option (Option (ℕ × ℕ))
picked_by size w = option_map (λ x. picked size (floor_ℚ x)) (known_number w)

-- one place, and whole rows or columns in the other direction; open logicals come before open numbers
abbrev pub by_place : Wanted → Option (Option (ℕ × ℕ)) → (Option (ℕ × ℕ) → Pick) → Trial Pick
by_place (none k) p f = given (Fault k)
by_place w (Some p) f = given (f p)
by_place w None f = undecided 1

-- two places
abbrev pub of_places : Wanted → Wanted → Option (Option (ℕ × ℕ)) → Option (Option (ℕ × ℕ)) → Trial Pick
of_places (none k) d r c = given (Fault k)
of_places w (none k) r c = given (Fault k)
of_places w d (Some None) c = given (Fault kind.Ref)
of_places w d r (Some None) = given (Fault kind.Ref)
of_places w d (Some r) (Some c) = given (part_of r c)
of_places open_test d r c = undecided 1
of_places w open_test r c = undecided 2
of_places w d None c = undecided 1
of_places w d r c = undecided 2

-- all rows or columns
abbrev pub whole : ℕ → Option (ℕ × ℕ)
whole size = picked size (pos 0)

-- by a row and a column place; one place alone is a column where there is one row, and else a row with all its columns
abbrev pub pick_form : ℕ → ℕ → List AbsArg → Trial Pick
pick_form rows columns (a ∷ []) =
    if rows == 1
    then by_place (number_of a) (picked_by columns (number_of a)) (part_of (whole rows))
    else by_place (number_of a) (picked_by rows (number_of a)) (λ r. part_of r (whole columns))
pick_form rows columns (a ∷ b ∷ []) = of_places (number_of a) (number_of b) (picked_by rows (number_of a)) (picked_by columns (number_of b))
pick_form rows columns _ = given (Fault kind.Value)
