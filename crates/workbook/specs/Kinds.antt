-- What the text of a cell says (OpenDocument 1.2 part 2, sections 3.2 and 5): a formula, a number, a logical, a plain text, or
-- nothing that is allowed.
use Rattle.std.specs.Prelude.{ℕ, ◌==◌, Bool, if◌then◌else◌, List, [], ◌∷◌, slice_index, drop, Option, Some, None, option_map}
use Rattle.std.specs.Option.{option_and_then, option_map_or}
use Rattle.fractions.specs.Rational.{ℚ}
use Rattle.frac128.specs.Numeral.{Numeral}
use Rattle.frac128.specs.NumeralReading.{reading}
use Rattle.cell_refs.specs.declared.span.Span.{Span}
use Rattle.cell_refs.specs.Areas.{Area}
use Rattle.cell_refs.specs.declared.cell.Cell.{Cell}
use Rattle.formula_ast.specs.Tree.{Tree, Trees, none, more, Listed}
use Rattle.formula_ast.specs.Tree as tree
use Rattle.formula_grammar.specs.Words.{logical_word}
use Rattle.formula_parser.specs.TextTrees.{tree_in, area_in}
use Rattle.sheet_model.specs.declared.value.Value.TheVariants as value
use Rattle.sheet_funcs.specs.Numerals.{narrow_value, number_spelled}
use Rattle.recalculation.specs.Entries.{Book, Entry, Constant, Formula, Malformed}
use Rattle.workbook.specs.State.{Name, State, is_formula_text, text_of}

-- ---- names in formulas
-- what a name stands for: a number or an area
pub data Meant : Type 0 where
  Amount : (value : ℚ) → Meant
  Cells : (area : Area) → Meant

-- what stands behind an equals sign, where there is one
abbrev pub behind_equals : List ℕ → List ℕ
behind_equals text = if slice_index text 0 == 61 then drop 1 text else text

abbrev pub number_or_area : Option ℚ → Option Area → Option Meant
number_or_area (Some x) area = Some (Amount x)
number_or_area None area = option_map Cells area

-- a text stands for a number where it is a numeral, and for an area where it is one reference, which is on the sheet `home`
-- where it names no sheet
abbrev pub meant_by : List (List ℕ) → ℕ → List ℕ → Option Meant
meant_by sheets home text =
    let rest = behind_equals text in
    number_or_area (number_spelled rest) (area_in (record { text = rest; home = home; sheets = sheets }))

abbrev pub first_of : Option (List ℕ) → Option (List ℕ) → Option (List ℕ)
first_of (Some text) other = Some text
first_of None other = other

-- a name in a formula is looked up for the formula's sheet, and then for the whole workbook
abbrev pub meant : List (List ℕ) → List Name → ℕ → List ℕ → Option Meant
meant sheets names home name = option_and_then (meant_by sheets home) (first_of (text_of names (Some home) name) (text_of names None name))

-- what a name stands for, in its place
abbrev pub put_at : Span → Meant → Tree
put_at at (Amount x) = tree.Number at x
put_at at (Cells area) = tree.Reference at (Listed area ∷ [])

abbrev mutual
  -- a tree with what its names stand for in their places; none where one stands for nothing, or where there is no such function
  pub with_names : (List ℕ → Option Meant) → Tree → Option Tree
  with_names look (tree.Name at name) = option_map (put_at at) (look name)
  with_names look (tree.Unknown at name args) = None
  with_names look (tree.Call at func args) = option_map (tree.Call at func) (all_with_names look args)
  with_names look (tree.Plus at x) = option_map (tree.Plus at) (with_names look x)
  with_names look (tree.Minus at x) = option_map (tree.Minus at) (with_names look x)
  with_names look (tree.Percent at x) = option_map (tree.Percent at) (with_names look x)
  with_names look (tree.Infix at op x y) = option_and_then (λ a. option_map (tree.Infix at op a) (with_names look y)) (with_names look x)
  with_names look t = Some t

  pub all_with_names : (List ℕ → Option Meant) → Trees → Option Trees
  all_with_names look none = Some none
  all_with_names look (more t ts) = option_and_then (λ a. option_map (more a) (all_with_names look ts)) (with_names look t)

-- ---- texts
-- the tree of a formula's text on a sheet
abbrev pub formula_tree : List (List ℕ) → List Name → ℕ → List ℕ → Option Tree
formula_tree sheets names home text =
    option_and_then (with_names (meant sheets names home)) (tree_in (record { text = text; home = home; sheets = sheets }))

abbrev pub logical_or_text : List ℕ → Option Bool → Entry
logical_or_text text (Some b) = Constant (value.Logical b)
logical_or_text text None = Constant (value.Text text)

-- a numeral that isn't narrow isn't allowed
abbrev pub number_or_other : List ℕ → Option Numeral → Entry
number_or_other text (Some n) = option_map_or (λ x. Constant (value.Number x)) (narrow_value n) Malformed
number_or_other text None = logical_or_text text (logical_word text)

-- what the text of a cell says
abbrev pub says : List (List ℕ) → List Name → Cell → List ℕ → Entry
says sheets names cell text =
    if is_formula_text text then option_map_or Formula (formula_tree sheets names cell.sheet.0 text) Malformed
    else number_or_other text (reading text)

-- the workbook as recalculation takes it
abbrev pub book_of : State → Book
book_of state = record { texts = state.contents; says = says state.sheets state.names }
