-- What the texts of a sheet's names say, name by name.
use Rattle.std.specs.Prelude.{ℕ, ◌==◌, ◌&&◌, ◌||◌, ◌++◌, not, Bool, true, false, List, [], ◌∷◌, map, fold, flat_map, slice_index, codes, if◌then◌else◌, Option, Some, None, option_map, ℤ, pos, int_le}
use Rattle.std.specs.Option.{option_and_then}
use Rattle.std.specs.List.{list_any}
use Rattle.std.specs.Fmt.{decimal}
use Rattle.fractions.specs.Rational.{ℚ, numerator, denominator}
use Rattle.cell_refs.specs.Areas.{Area, area_len, cell_at, cells_of}
use Rattle.cell_refs.specs.Cells.{is_same_cell}
use Rattle.cell_refs.specs.declared.cell.Cell.{Cell}
use Rattle.formula_ast.specs.Tree.{Tree}
use Rattle.formula_parser.specs.TextTrees.{area_in}
use Rattle.sheet_funcs.specs.Numerals.{number_spelled}
use Rattle.workbook.specs.State.{State, text_of}
use Rattle.workbook.specs.Kinds.{behind_equals, formula_tree}
use Rattle.solver_names.specs.declared.name.Name.{Name}
use Rattle.solver_names.specs.declared.name.Name.TheVariants as name
use Rattle.solver_names.specs.declared.said.Said.{Said}
use Rattle.solver_names.specs.declared.said.Said.TheVariants.{Absent, Unformed, Says}
use Rattle.solver_names.specs.declared.constraints.Side.{Side}
use Rattle.solver_names.specs.declared.constraints.Side.TheVariants as side

-- ---- a name's text
abbrev pub by_form : {A : Type 0} → Option A → Said A
by_form (Some a) = Says a
by_form None = Unformed

abbrev pub said_by : {A : Type 0} → (List ℕ → Option A) → Option (List ℕ) → Said A
said_by form (Some text) = by_form (form text)
said_by form None = Absent

abbrev pub is_unformed : {A : Type 0} → Said A → Bool
is_unformed Unformed = true
is_unformed _ = false

abbrev pub is_absent : {A : Type 0} → Said A → Bool
is_absent Absent = true
is_absent _ = false

-- what is said, or else this
abbrev pub or_else : {A : Type 0} → Said A → A → A
or_else (Says a) other = a
or_else _ other = other

-- how names are spelled; those of a constraint with its number behind
abbrev pub name_text : Name → List ℕ
name_text name.Decisions = codes "solver_adj"
name_text name.Objective = codes "solver_opt"
name_text name.Goal = codes "solver_typ"
name_text name.Value = codes "solver_val"
name_text name.Negative = codes "solver_neg"
name_text name.Count = codes "solver_num"
name_text (name.Left k) = codes "solver_lhs" ++ decimal k
name_text (name.Code k) = codes "solver_rel" ++ decimal k
name_text (name.Right k) = codes "solver_rhs" ++ decimal k

-- the names of one sheet alone are read
abbrev pub named : State → ℕ → Name → Option (List ℕ)
named book sheet n = text_of book.names (Some sheet) (name_text n)

-- ---- forms of texts
-- a number, behind an equals sign or not
abbrev pub number_in : List ℕ → Option ℚ
number_in text = number_spelled (behind_equals text)

-- a number that is whole, from one on to another
abbrev pub whole_between : ℕ → ℕ → ℚ → Option ℕ
whole_between least greatest x =
    if (denominator x == 1) && (int_le (pos least) (numerator x) && int_le (numerator x) (pos greatest)) then natural (numerator x) else None
  where
    natural : ℤ → Option ℕ
    natural (pos n) = Some n
    natural _ = None

abbrev pub whole_in : ℕ → ℕ → List ℕ → Option ℕ
whole_in least greatest text = option_and_then (whole_between least greatest) (number_in text)

-- one reference and nothing else, behind an equals sign or not; it is on the sheet of the names where it names none
abbrev pub area_on : State → ℕ → List ℕ → Option Area
area_on book sheet text = area_in (record { text = text; home = sheet; sheets = book.sheets })

abbrev pub reference_in : State → ℕ → List ℕ → Option Area
reference_in book sheet text = area_on book sheet (behind_equals text)

abbrev pub only_cell : Area → Option Cell
only_cell a = if area_len a == 1 then Some (cell_at a 0) else None

abbrev pub cell_in : State → ℕ → List ℕ → Option Cell
cell_in book sheet text = option_and_then only_cell (reference_in book sheet text)

-- the parts of a text between commas, semicolons and tildes that don't stand between single quotes
abbrev pub is_mark : ℕ → Bool
is_mark b = (b == 44) || (b == 59) || (b == 126)

abbrev pub put_before : ℕ → List (List ℕ) → List (List ℕ)
put_before b [] = (b ∷ []) ∷ []
put_before b (part ∷ parts) = (b ∷ part) ∷ parts

abbrev pub parts_from : Bool → List ℕ → List (List ℕ)
parts_from quoted [] = [] ∷ []
parts_from quoted (b ∷ rest) =
    if not quoted && is_mark b then [] ∷ parts_from false rest
    else put_before b (parts_from (if b == 39 then not quoted else quoted) rest)

abbrev pub all_of : {A : Type 0} → List (Option A) → Option (List A)
all_of [] = Some []
all_of (Some a ∷ rest) = option_map (λ others. a ∷ others) (all_of rest)
all_of (None ∷ rest) = None

-- cells one after the other, each at its first place
abbrev pub with_cell : List Cell → Cell → List Cell
with_cell cells c = if list_any (is_same_cell c) cells then cells else cells ++ c ∷ []

abbrev pub distinct : List Cell → List Cell
distinct cells = fold with_cell [] cells

abbrev pub cells_in : State → ℕ → List ℕ → Option (List Cell)
cells_in book sheet text = option_map (λ areas. distinct (flat_map cells_of areas)) (all_of (map (area_on book sheet) (parts_from false (behind_equals text))))

-- ---- right sides
-- the text as a formula: with an equals sign before it, where it has none
abbrev pub as_formula : List ℕ → List ℕ
as_formula text = if slice_index text 0 == 61 then text else 61 ∷ text

abbrev pub area_or_tree : Option Area → Option Tree → Option Side
area_or_tree (Some a) t = Some (side.Area a)
area_or_tree None t = option_map side.Tree t

-- one reference, or else an expression that would be allowed in a cell
abbrev pub side_in : State → ℕ → List ℕ → Option Side
side_in book sheet text = area_or_tree (reference_in book sheet text) (formula_tree book.sheets book.names sheet (as_formula text))
