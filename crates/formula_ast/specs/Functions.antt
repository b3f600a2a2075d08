-- The functions of formulas, with their names and how many arguments they take (OpenDocument 1.2 part 2, section 6; where
-- that allows a form with fewer or more arguments than stand here, it is left out).
use Rattle.std.specs.Prelude.{◌≡◌, ◌⊎◌, ◌≤◌, ℕ, List, [], ◌∷◌, map, codes, Option, Some, None, if◌then◌else◌}
use Rattle.std.specs.Char.{to_ascii_lowercase}
use Rattle.cell_refs.specs.Names.{same_letters}
use Rattle.formula_ast.specs.declared.func.Func.{Func}
use Rattle.formula_ast.specs.declared.func.Func.TheVariants as func

-- the name, and the least and the greatest number of arguments; 255 stands for no greatest
abbrev pub table : Func → List ℕ × ℕ × ℕ
table func.Sum = (codes "SUM", 1, 255)
table func.Average = (codes "AVERAGE", 1, 255)
table func.Count = (codes "COUNT", 1, 255)
table func.SumProduct = (codes "SUMPRODUCT", 1, 255)
table func.MMult = (codes "MMULT", 2, 2)
table func.Transpose = (codes "TRANSPOSE", 1, 1)
table func.Index = (codes "INDEX", 2, 3)
table func.Match = (codes "MATCH", 2, 3)
table func.VLookup = (codes "VLOOKUP", 3, 4)
table func.HLookup = (codes "HLOOKUP", 3, 4)
table func.Choose = (codes "CHOOSE", 2, 255)
table func.SumIf = (codes "SUMIF", 2, 3)
table func.CountIf = (codes "COUNTIF", 2, 2)
table func.If = (codes "IF", 2, 3)
table func.IfError = (codes "IFERROR", 2, 2)
table func.And = (codes "AND", 1, 255)
table func.Or = (codes "OR", 1, 255)
table func.Not = (codes "NOT", 1, 1)
table func.True = (codes "TRUE", 0, 0)
table func.False = (codes "FALSE", 0, 0)
table func.Abs = (codes "ABS", 1, 1)
table func.Min = (codes "MIN", 1, 255)
table func.Max = (codes "MAX", 1, 255)
table func.Int = (codes "INT", 1, 1)
table func.Mod = (codes "MOD", 2, 2)
table func.Round = (codes "ROUND", 1, 2)
table func.Power = (codes "POWER", 2, 2)
table func.N = (codes "N", 1, 1)
table func.IsNumber = (codes "ISNUMBER", 1, 1)
table func.IsBlank = (codes "ISBLANK", 1, 1)
table func.Rows = (codes "ROWS", 1, 1)
table func.Columns = (codes "COLUMNS", 1, 1)

abbrev pub name_of : Func → List ℕ
name_of f = (table f).0

abbrev pub least_of : Func → ℕ
least_of f = (table f).1

abbrev pub most_of : Func → ℕ
most_of f = (table f).2

-- the function takes so many arguments
pub record Takes (f : Func) (arguments : ℕ) : Type 0 where
  pub least : least_of f ≤ arguments
  pub most : (most_of f ≡ 255) ⊎ (arguments ≤ most_of f)

-- the text is the function's name in any case of letters
abbrev pub IsNameOf : Func → List ℕ → Type 0
IsNameOf f text = map to_ascii_lowercase text ≡ map to_ascii_lowercase (name_of f)

-- all functions
abbrev pub functions : List Func
functions =
    func.Sum ∷ func.Average ∷ func.Count ∷ func.SumProduct ∷ func.MMult ∷ func.Transpose ∷ func.Index ∷ func.Match ∷ func.VLookup
    ∷ func.HLookup ∷ func.Choose ∷ func.SumIf ∷ func.CountIf ∷ func.If ∷ func.IfError ∷ func.And ∷ func.Or ∷ func.Not ∷ func.True
    ∷ func.False ∷ func.Abs ∷ func.Min ∷ func.Max ∷ func.Int ∷ func.Mod ∷ func.Round ∷ func.Power ∷ func.N ∷ func.IsNumber
    ∷ func.IsBlank ∷ func.Rows ∷ func.Columns ∷ []

abbrev pub first_named : List Func → List ℕ → Option Func
first_named [] text = None
first_named (f ∷ fs) text = if same_letters (name_of f) text then Some f else first_named fs text

-- the function of this name, in any case of letters
abbrev pub func_in : List ℕ → Option Func
func_in text = first_named functions text
