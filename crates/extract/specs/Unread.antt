-- Arguments whose elements count only as far as they are picked: where such a one is a reference, its forms needn't be read first.
use Rattle.std.specs.Prelude.{ℕ, zero, suc, Bool, false, ◌==◌, if◌then◌else◌, List, [], ◌∷◌, Option, Some, None}
use Rattle.formula_ast.specs.declared.func.Func.{Func}
use Rattle.formula_ast.specs.declared.func.Func.TheVariants as func
use Rattle.form_extraction.specs.Parts.{Part}
use Rattle.form_calls.specs.FromFormParts.{unread}

-- which argument of a function that is, counted from 0
abbrev pub table_place : Func → Option ℕ
table_place func.Index = Some 0
table_place func.VLookup = Some 1
table_place func.HLookup = Some 1
table_place func.Rows = Some 0
table_place func.Columns = Some 0
table_place _ = None

-- the one at a place is left unread
abbrev pub unread_from : ℕ → List Part → List Part
unread_from n [] = []
unread_from zero (p ∷ ps) = unread p ∷ ps
unread_from (suc n) (p ∷ ps) = p ∷ unread_from n ps

abbrev pub unread_at : Option ℕ → List Part → List Part
unread_at None ps = ps
unread_at (Some n) ps = unread_from n ps

-- as it is read or not, by its place
abbrev pub read_at : Bool → Part → Part
read_at b p = if b then unread p else p

-- whether that is the place of the table
abbrev pub is_place : Option ℕ → ℕ → Bool
is_place None i = false
is_place (Some n) i = n == i
