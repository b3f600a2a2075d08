-- References and arrays as the code keeps them.
use Rattle.std.specs.Prelude.{◌≡◌, ◌||◌, ℕ, suc, nat_eq, Bool, true, false, not, if◌then◌else◌, List, [], ◌∷◌, ◌++◌, length, Option, Some, None, string_bytes, option_map, is_some}
use Rattle.std.specs.Option.{option_and_then, option_map_or}
use Rattle.cell_refs.specs.declared.span.Span.{Span}
use Rattle.cell_refs.specs.Areas.{Area}
use Rattle.cell_refs.specs.Names.{place_in}
use Rattle.frac128.specs.Numeral.{Numeral}
use Rattle.frac128.specs.NumeralReading.{reading}
use Rattle.formula_ast.specs.Tree.{Tree, Referred, Listed, Unlisted, Text, Logical, Fault, Name, span_of}
use Rattle.formula_ast.specs.Measures.{listed}
use Rattle.formula_grammar.specs.declared.symbol.Symbol.{Symbol}
use Rattle.formula_grammar.specs.declared.symbol.Sign.{Sign}
use Rattle.formula_grammar.specs.declared.symbol.Sign.TheVariants as sign
use Rattle.formula_grammar.specs.Symbols.{Setting, bytes_of}
use Rattle.formula_grammar.specs.Faults.{some_unlisted, is_wide}
use Rattle.formula_grammar.specs.LeafReading.{RowsRead, reference_at, row_at, rows_turn}
use Rattle.formula_grammar.specs.Loops.{Found, Reader, all_turns}
use Rattle.formula_grammar.specs.Words as grammar
use Rattle.formula_grammar.specs.Words.{Own, Named, number_tree, negative_tree, quoted_text, error_in, logical_word}
use Rattle.formula_parser.specs.Built.{branch_of}
use Rattle.formula_parser.specs.declared.branch.Part.{Part}
use Rattle.formula_parser.specs.declared.corner.Given.{Given}
use Rattle.formula_parser.specs.declared.corner.Given.TheVariants as given
use Rattle.formula_parser.specs.declared.corner.Corner.{Corner}
use Rattle.formula_parser.specs.declared.array.Items.{Items}
use Rattle.formula_parser.specs.declared.array.Rows.{Rows}

-- a sheet as it is given
abbrev pub given_of : Given → grammar.Given
given_of given.Own = Own
given_of (given.Named name) = Named (string_bytes name)

abbrev pub corner_of : Corner → grammar.Corner
corner_of c = record { sheet = given_of c.sheet; row = c.row; column = c.column }

-- the number of a sheet as it is given, if it is listed
abbrev pub number_of : Setting → grammar.Given → Option ℕ
number_of S Own = Some S.home
number_of S (Named name) = place_in S.sheets name

-- the area of a listed sheet, or none of one that isn't
abbrev pub area_of : Referred → Option Area
area_of (Listed a) = Some a
area_of (Unlisted sheet) = None

abbrev pub some_area : Option Area → List Area
some_area (Some a) = a ∷ []
some_area None = []

abbrev pub is_missing : Option Area → Bool
is_missing area = not (is_some area)

-- the areas of listed sheets, and whether another is among them
abbrev pub areas_of : List Referred → List Area × Bool
areas_of rs = (listed rs, some_unlisted rs)

-- the reference at the front is added to the areas, and these symbols are behind it
pub record IsAdded (S : Setting) (symbols : List Symbol) (areas : List Area) (lost : Bool) (more : List Area) (missing : Bool) (rest : List Symbol) : Type 0 where
  pub area : Option Area
  pub read : option_map {U = Option Area × List Symbol} (λ f. (area_of f.0, f.1)) (reference_at S symbols) ≡ Some (area, rest)
  pub areas_are : more ≡ areas ++ some_area area
  pub lost_is : missing ≡ (lost || is_missing area)

-- the tree of an item, or none where its number is too wide
abbrev pub item_of : Tree → Option Tree
item_of t = if is_wide t then None else Some t

abbrev pub with_item : Option (List Tree) → Option Tree → Option (List Tree)
with_item items item = option_and_then (λ ts. option_map (λ t. ts ++ t ∷ []) item) items

abbrev pub with_items : Option (List Tree) → Option (List Tree) → Option (List Tree)
with_items items others = option_and_then (λ ts. option_map (λ us. ts ++ us) others) items

abbrev pub all_items : List Tree → Option (List Tree)
all_items [] = Some []
all_items (t ∷ ts) = option_and_then (λ u. option_map (λ us. u ∷ us) (all_items ts)) (item_of t)

-- how many items, and their trees
abbrev pub items_of : List Tree → ℕ × Option (List Tree)
items_of ts = (length ts, all_items ts)

abbrev pub read_items : Items → ℕ × Option (List Tree)
read_items items = (items.count, option_map (λ v. v.items) items.exprs)

-- rows of one length
abbrev pub rows_at : Setting → Reader RowsRead
rows_at S ss = option_and_then (λ (x : List Tree × List Symbol). all_turns (rows_turn S) (1, length x.0, x.0) x.1) (row_at S ss)

-- how many rows, how many items each has, and their trees
abbrev pub rows_of : RowsRead → ℕ × ℕ × Option (List Tree)
rows_of rows = (rows.0, rows.1, all_items rows.2)

-- the same of rows that the code has read
abbrev pub read_rows : Rows → ℕ × ℕ × Option (List Tree)
read_rows rows = (rows.count, rows.columns, option_map (λ v. v.items) rows.exprs)

-- rows with another behind them, if it is as long
abbrev pub row_behind : ℕ × ℕ × Option (List Tree) → ℕ × Option (List Tree) → Option (ℕ × ℕ × Option (List Tree))
row_behind rows row = if nat_eq row.0 rows.1 then Some (suc rows.0, rows.1, with_items rows.2 row.1) else None

-- what stands behind the first symbol, if that is such a one
abbrev pub behind_where : (Sign → Bool) → List Symbol → Option (List Symbol)
behind_where test [] = None
behind_where test (s ∷ ss) = if test s.sign then Some ss else None

-- whether the number behind a sign is turned
abbrev pub is_negative : Sign → Bool
is_negative sign.Plus = false
is_negative _ = true

abbrev pub signed_number : Bool → Span → Numeral → Tree
signed_number is_negative at n = if is_negative then negative_tree at n else number_tree at n

abbrev pub constant_by : Setting → Symbol → Sign → Option Tree
constant_by S s sign.Text = Some (Text s.span (quoted_text (bytes_of S s)))
constant_by S s sign.Word = option_map (Logical s.span) (logical_word (bytes_of S s))
constant_by S s _ = None

-- a text, or TRUE or FALSE
abbrev pub constant_in : Setting → Symbol → Option Tree
constant_in S s = constant_by S s s.sign

-- the part that a leaf is
abbrev pub leaf_part : Tree → Part
leaf_part t = record { branch = branch_of t; place = span_of t }

-- what the code keeps of an item that was read
abbrev pub item_found : Found Tree → Found (Option Tree)
item_found found = option_map (λ f. (item_of f.0, f.1)) found

-- the same of a row
abbrev pub row_found : Found (List Tree) → Found (ℕ × Option (List Tree))
row_found found = option_map (λ f. (items_of f.0, f.1)) found

-- the same of rows
abbrev pub rows_found : Found RowsRead → Found (ℕ × ℕ × Option (List Tree))
rows_found found = option_map (λ f. (rows_of f.0, f.1)) found

-- the same of a leaf
abbrev pub leaf_found : Found Tree → Found Part
leaf_found found = option_map (λ f. (leaf_part f.0, f.1)) found

abbrev pub single_by : Setting → Symbol → Sign → Option Tree
single_by S s sign.Number = option_map (number_tree s.span) (reading (bytes_of S s))
single_by S s sign.Text = Some (Text s.span (quoted_text (bytes_of S s)))
single_by S s sign.Fault = option_map (Fault s.span) (error_in (bytes_of S s))
single_by S s sign.Word = Some (option_map_or (Logical s.span) (logical_word (bytes_of S s)) (Name s.span (bytes_of S s)))
single_by S s _ = None

-- what a symbol says that stands alone and is no reference
abbrev pub single_in : Setting → Symbol → Option Tree
single_in S s = single_by S s s.sign
