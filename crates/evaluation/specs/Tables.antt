-- Arguments whose elements count only as far as they are picked: where such a one is a reference, its values needn't be read first.
use Rattle.std.specs.Prelude.{ℕ, zero, suc, Bool, false, ◌==◌, if◌then◌else◌, List, [], ◌∷◌, Option, Some, None, is_some}
use Rattle.formula_ast.specs.declared.func.Func.{Func}
use Rattle.formula_ast.specs.declared.func.Func.TheVariants as func
use Rattle.sheet_model.specs.declared.grid.Arg.{Arg}
use Rattle.recalculation.specs.Looks.{Argument}

-- which argument of a function that is, counted from 0
abbrev pub table_place : Func → Option ℕ
table_place func.Index = Some 0
table_place func.VLookup = Some 1
table_place func.HLookup = Some 1
table_place func.Rows = Some 0
table_place func.Columns = Some 0
table_place _ = None

-- a part without its value, where it is a reference
abbrev pub unread : Argument Arg → Argument Arg
unread a = record { looks = a.looks; outcome = if is_some a.reference then None else a.outcome; reference = a.reference }

-- the one at a place
abbrev pub unread_from : ℕ → List (Argument Arg) → List (Argument Arg)
unread_from n [] = []
unread_from zero (a ∷ args) = unread a ∷ args
unread_from (suc n) (a ∷ args) = a ∷ unread_from n args

abbrev pub unread_at : Option ℕ → List (Argument Arg) → List (Argument Arg)
unread_at None args = args
unread_at (Some n) args = unread_from n args

-- as it is read or not, by its place
abbrev pub read_at : Bool → Argument Arg → Argument Arg
read_at b a = if b then unread a else a

-- whether that is the place of the table
abbrev pub is_place : Option ℕ → ℕ → Bool
is_place None i = false
is_place (Some n) i = n == i
