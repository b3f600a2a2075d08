-- INDEX (OpenDocument 1.2 part 2, section 6.14.6): which part of a grid it picks.
use Rattle.std.specs.Prelude.{ℕ, zero, suc, ◌+◌, ◌-◌, ◌==◌, if◌then◌else◌, List, [], ◌∷◌, map, flat_map, ℤ, pos, negsuc, nat_le, Option, Some, None, Result, Ok, Err}
use Rattle.std.specs.List.{range_with_len}
use Rattle.calculations.specs.Calculation.{Calculation, done}
use Rattle.cell_refs.specs.declared.error_kind.ErrorKind.{ErrorKind}
use Rattle.cell_refs.specs.declared.error_kind.ErrorKind.TheVariants as kind
use Rattle.sheet_model.specs.Grids.{Rectangle}
use Rattle.sheet_model.specs.Operators.{single}
use Rattle.sheet_model.specs.declared.value.Value.{Value}
use Rattle.sheet_model.specs.declared.value.Value.TheVariants.{Error}
use Rattle.sheet_model.specs.declared.grid.Arg.{Arg}
use Rattle.sheet_model.specs.declared.grid.Arg.TheVariants.{One, Area}
use Rattle.sheet_funcs.specs.Arguments.{at, grid_of, answered}
use Rattle.sheet_funcs.specs.Rounding.{place_of}
use Rattle.sheet_funcs.specs.declared.pick.Pick.{Pick}
use Rattle.sheet_funcs.specs.declared.pick.Pick.TheVariants.{Part, Fault}

-- the first and the last of the rows or columns that a place picks: all for place 0, else that one, counted from 1
abbrev pub picked : ℕ → ℤ → Option (ℕ × ℕ)
picked size (pos zero) = Some (0, size - 1)
picked size (pos (suc n)) = if nat_le (n + 1) size then Some (n, n) else None
picked size (negsuc n) = None

-- the part of the picked rows and columns
abbrev pub part_of : Option (ℕ × ℕ) → Option (ℕ × ℕ) → Pick
part_of (Some r) (Some c) = Part r.0 c.0 r.1 c.1
part_of _ _ = Fault kind.Ref

abbrev pub pick_at : ℕ → ℕ → Result ℤ ErrorKind → Result ℤ ErrorKind → Pick
pick_at rows columns (Err k) c = Fault k
pick_at rows columns (Ok r) (Err k) = Fault k
pick_at rows columns (Ok r) (Ok c) = part_of (picked rows r) (picked columns c)

-- by a row and a column place; one place alone is a column where there is one row, and else a row with all its columns
abbrev pub pick_of : ℕ → ℕ → List Arg → Pick
pick_of rows columns (a ∷ []) =
    if rows == 1 then pick_at rows columns (Ok (pos 0)) (place_of a) else pick_at rows columns (place_of a) (Ok (pos 0))
pick_of rows columns (a ∷ b ∷ []) = pick_at rows columns (place_of a) (place_of b)
pick_of rows columns _ = Fault kind.Value

-- the whole numbers from one to another
abbrev pub from_to : ℕ → ℕ → List ℕ
from_to first last = range_with_len first (last + 1 - first)

-- the elements of a part of a grid, row by row
abbrev pub elements_in : Rectangle → ℕ → ℕ → ℕ → ℕ → List Value
elements_in g top left bottom right = flat_map (λ row. map (λ column. at g row column) (from_to left right)) (from_to top bottom)

-- what is picked of a grid; one element is a single value
abbrev pub taken_from : Rectangle → Pick → Arg
taken_from g (Part top left bottom right) =
    single (Area (record { rows = bottom + 1 - top; columns = right + 1 - left; items = elements_in g top left bottom right }))
taken_from g (Fault k) = One (Error k)

abbrev pub index_of : List Arg → Calculation Arg
index_of (a ∷ places) = let g = grid_of a in done (taken_from g (pick_of g.rows g.columns places))
index_of [] = answered (Error kind.Value)
