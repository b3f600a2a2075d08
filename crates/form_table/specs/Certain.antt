-- Errors that are certain though a place is open that decides, since they follow whatever it holds (OpenDocument 1.2 part 2, sections
-- 6.14.3 and 6.14.6). They come from known elements that are looked at anyhow, and from the sizes of grids. Those of SUMIF stand with its
-- row.
use Rattle.std.specs.Prelude.{ℕ, ◌+◌, ◌*◌, ◌&&◌, ◌==◌, Bool, true, false, if◌then◌else◌, List, [], ◌∷◌, slice_get, Option, Some, None}
use Rattle.cell_refs.specs.declared.error_kind.ErrorKind.{ErrorKind}
use Rattle.cell_refs.specs.declared.error_kind.ErrorKind.TheVariants as kind
use Rattle.form_values.specs.FromSheetModel.{Error}
use Rattle.sheet_funcs.specs.Picks.{part_of}
use Rattle.sheet_funcs.specs.declared.pick.Pick.{Pick}
use Rattle.sheet_funcs.specs.declared.pick.Pick.TheVariants.{Part, Fault}
use Rattle.form_values.specs.Meaning.{elements_of}
use Rattle.form_values.specs.declared.abs.Abs.{Abs}
use Rattle.form_values.specs.declared.abs.Abs.TheVariants.{Known}
use Rattle.form_values.specs.declared.abs.AbsArg.{AbsArg}
use Rattle.form_table.specs.Wanted.{Wanted, none, number_of}
use Rattle.form_table.specs.Picks.{picked_by, whole}

-- ---- CHOOSE: an open place may be out of range, so each choice has to be the error that stands where there is none
abbrev pub is_value_error : List Abs → Bool
is_value_error (Known (Error kind.Value) ∷ []) = true
is_value_error items = false

abbrev pub is_no_choice : AbsArg → Bool
is_no_choice a = is_value_error (elements_of a)

-- ---- INDEX: an open place may be out of range, which is #REF!, and it may be 0, which picks all rows or columns; so there has to be one
-- alone where a place is open, and the element that is picked there has to be #REF! too
-- the one row or column, where there is one alone
abbrev pub only_range : ℕ → Option (Option (ℕ × ℕ))
only_range size = if size == 1 then Some (Some (0, 0)) else None

-- the rows or columns that a place picks if it is in range
abbrev pub in_range : ℕ → Wanted → Option (Option (ℕ × ℕ)) → Option (Option (ℕ × ℕ))
in_range size (none k) picked = None
in_range size w (Some picked) = Some picked
in_range size w None = only_range size

abbrev pub part_in : Option (Option (ℕ × ℕ)) → Option (Option (ℕ × ℕ)) → Option Pick
part_in (Some r) (Some c) = Some (part_of r c)
part_in _ _ = None

abbrev pub pick_in_range : ℕ → ℕ → List AbsArg → Option Pick
pick_in_range rows columns (a ∷ []) =
    if rows == 1
    then part_in (Some (whole rows)) (in_range columns (number_of a) (picked_by columns (number_of a)))
    else part_in (in_range rows (number_of a) (picked_by rows (number_of a))) (Some (whole columns))
pick_in_range rows columns (a ∷ b ∷ []) =
    part_in (in_range rows (number_of a) (picked_by rows (number_of a))) (in_range columns (number_of b) (picked_by columns (number_of b)))
pick_in_range rows columns _ = None

-- whether that is one element and it is #REF!
abbrev pub is_ref_error : Option Abs → Bool
is_ref_error (Some (Known (Error kind.Ref))) = true
is_ref_error element = false

abbrev pub picks_ref_error : ℕ → List Abs → Option Pick → Bool
picks_ref_error columns items (Some (Part top left bottom right)) = (bottom == top) && ((right == left) && is_ref_error (slice_get items (top * columns + left)))
picks_ref_error columns items pick = false

-- the error that is certainly picked of a grid with these elements
abbrev pub index_error : ℕ → ℕ → List Abs → List AbsArg → Option ErrorKind
index_error rows columns items places = if picks_ref_error columns items (pick_in_range rows columns places) then Some kind.Ref else None
