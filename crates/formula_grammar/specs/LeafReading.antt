-- Reading the parts without parts of their own, from left to right.
use Rattle.std.specs.Prelude.{ℕ, suc, ◌-◌, take, Bool, true, false, List, [], ◌∷◌, ◌++◌, length, Option, Some, None, nat_eq, if◌then◌else◌}
use Rattle.std.specs.Option.{option_and_then}
use Rattle.frac128.specs.NumeralReading.{reading}
use Rattle.cell_refs.specs.declared.span.Span.{Span}
use Rattle.cell_refs.specs.Address.{address_in}
use Rattle.formula_ast.specs.Tree.{Tree, Text, Logical, Fault, Array, Reference, Name, Referred, trees}
use Rattle.formula_grammar.specs.Symbols.{Setting, bytes_of, from_to, place_of}
use Rattle.formula_grammar.specs.Words.{Given, Own, Named, Corner, corner_on, sheet_of, number_tree, negative_tree, quoted_text, error_in, logical_word}
use Rattle.formula_grammar.specs.WordReading.{split_corner, word_corner}
use Rattle.formula_grammar.specs.References.{area_between}
use Rattle.formula_grammar.specs.Loops.{Found, Reader, Turn, Stop, Fail, Go, go_on, all_turns, ◌>>=◌}
use Rattle.formula_grammar.specs.declared.symbol.Sign.{Sign}
use Rattle.formula_grammar.specs.declared.symbol.Sign.TheVariants as sign
use Rattle.formula_grammar.specs.declared.symbol.Symbol.{Symbol}

-- ---- single symbols

abbrev pub is_word : Sign → Bool
is_word sign.Word = true
is_word _ = false

abbrev pub is_colon : Sign → Bool
is_colon sign.Colon = true
is_colon _ = false

abbrev pub is_point : Sign → Bool
is_point sign.Point = true
is_point _ = false

-- a mark between a sheet and an address
abbrev pub is_sheet_mark : Sign → Bool
is_sheet_mark sign.Exclamation = true
is_sheet_mark sign.Point = true
is_sheet_mark _ = false

abbrev pub is_tilde : Sign → Bool
is_tilde sign.Tilde = true
is_tilde _ = false

abbrev pub is_semicolon : Sign → Bool
is_semicolon sign.Semicolon = true
is_semicolon _ = false

abbrev pub is_bar : Sign → Bool
is_bar sign.Bar = true
is_bar _ = false

abbrev pub is_close_square : Sign → Bool
is_close_square sign.CloseSquare = true
is_close_square _ = false

abbrev pub is_close_brace : Sign → Bool
is_close_brace sign.CloseBrace = true
is_close_brace _ = false

-- the symbol at the front, if it is such a one
unfoldable pub one_at : (Sign → Bool) → Reader Symbol
one_at test [] = None
one_at test (s ∷ ss) = if test s.sign then Some (s, ss) else None

-- whether such a symbol stands at the front
abbrev pub starts_with : (Sign → Bool) → List Symbol → Bool
starts_with test [] = false
starts_with test (s ∷ ss) = test s.sign

-- ---- references

-- an address behind a sheet
unfoldable pub address_at : Setting → Given → Reader Corner
address_at S sheet ss = do
  u ← one_at is_word ss
  c ← corner_on sheet (address_in (bytes_of S u.0))
  Some (c, u.1)

-- a sheet's mark and an address, behind the sheet's symbol
unfoldable pub behind_sheet_at : Setting → (Sign → Bool) → Symbol → Reader Corner
behind_sheet_at S mark s ss = do
  name ← sheet_of S s
  t ← one_at mark ss
  address_at S (Named name) t.1

abbrev pub corner_by : Setting → Symbol → Sign → List Symbol → Found Corner
corner_by S s sign.Word ss =
    if starts_with is_sheet_mark ss then behind_sheet_at S is_sheet_mark s ss
    else option_and_then (λ c. Some (c, ss)) (word_corner S (bytes_of S s))
corner_by S s _ ss = behind_sheet_at S is_sheet_mark s ss

-- a corner outside brackets
unfoldable pub corner_at : Setting → Reader Corner
corner_at S [] = None
corner_at S (s ∷ ss) = corner_by S s s.sign ss

abbrev pub inner_by : Setting → Symbol → Sign → List Symbol → Found Corner
inner_by S s sign.Point ss = address_at S Own ss
inner_by S s sign.Word ss =
    if starts_with is_point ss then behind_sheet_at S is_point s ss
    else option_and_then (λ c. Some (c, ss)) (split_corner (bytes_of S s))
inner_by S s _ ss = behind_sheet_at S is_point s ss

-- a corner within brackets
unfoldable pub inner_at : Setting → Reader Corner
inner_at S [] = None
inner_at S (s ∷ ss) = inner_by S s s.sign ss

-- behind a first corner: a colon and a second one, or nothing
unfoldable pub second_at : Setting → Reader Corner → Corner → Reader Referred
second_at S corner c ss =
    if starts_with is_colon ss then (do
      t ← one_at is_colon ss
      d ← corner t.1
      r ← area_between S c d.0
      Some (r, d.1))
    else option_and_then (λ r. Some (r, ss)) (area_between S c c)

-- a reference within brackets, behind the opening one
unfoldable pub brackets_at : Setting → Reader Referred
brackets_at S ss = do
  c ← inner_at S ss
  r ← second_at S (inner_at S) c.0 c.1
  t ← one_at is_close_square r.1
  Some (r.0, t.1)

unfoldable pub plain_at : Setting → Reader Referred
plain_at S ss = do
  c ← corner_at S ss
  second_at S (corner_at S) c.0 c.1

abbrev pub reference_by : Setting → Sign → Symbol → List Symbol → Found Referred
reference_by S sign.OpenSquare s ss = brackets_at S ss
reference_by S _ s ss = plain_at S (s ∷ ss)

unfoldable pub reference_at : Setting → Reader Referred
reference_at S [] = None
reference_at S (s ∷ ss) = reference_by S s.sign s ss

abbrev pub union_turn : Setting → List Referred → List Symbol → Turn (List Referred)
union_turn S rs [] = Stop
union_turn S rs (s ∷ ss) = if is_tilde s.sign then go_on (λ r. rs ++ r ∷ []) (reference_at S ss) else Stop

-- one reference, or several joined by ~
unfoldable pub union_at : Setting → Reader (List Referred)
union_at S ss = do
  r ← reference_at S ss
  all_turns (union_turn S) (r.0 ∷ []) r.1

-- ---- arrays

abbrev pub signed_by : Setting → Sign → Span → Symbol → List Symbol → Found Tree
signed_by S sign.Plus at t ss = option_and_then (λ n. Some (number_tree at n, ss)) (reading (bytes_of S t))
signed_by S _ at t ss = option_and_then (λ n. Some (negative_tree at n, ss)) (reading (bytes_of S t))

abbrev pub is_number : Sign → Bool
is_number sign.Number = true
is_number _ = false

-- a number behind its sign
unfoldable pub signed_number_at : Setting → Symbol → Reader Tree
signed_number_at S s ss = do
  t ← one_at is_number ss
  signed_by S s.sign (from_to s.span t.0.span) t.0 t.1

abbrev pub item_by : Setting → Sign → Symbol → List Symbol → Found Tree
item_by S sign.Number s ss = option_and_then (λ n. Some (number_tree s.span n, ss)) (reading (bytes_of S s))
item_by S sign.Plus s ss = signed_number_at S s ss
item_by S sign.Minus s ss = signed_number_at S s ss
item_by S sign.Text s ss = Some (Text s.span (quoted_text (bytes_of S s)), ss)
item_by S sign.Word s ss = option_and_then (λ b. Some (Logical s.span b, ss)) (logical_word (bytes_of S s))
item_by S _ s ss = None

unfoldable pub item_at : Setting → Reader Tree
item_at S [] = None
item_at S (s ∷ ss) = item_by S s.sign s ss

abbrev pub row_turn : Setting → List Tree → List Symbol → Turn (List Tree)
row_turn S xs [] = Stop
row_turn S xs (s ∷ ss) = if is_semicolon s.sign then go_on (λ x. xs ++ x ∷ []) (item_at S ss) else Stop

unfoldable pub row_at : Setting → Reader (List Tree)
row_at S ss = do
  x ← item_at S ss
  all_turns (row_turn S) (x.0 ∷ []) x.1

-- rows so far: how many, how many columns, and their items
abbrev pub RowsRead : Type 0
RowsRead = ℕ × ℕ × List Tree

abbrev pub with_row : RowsRead → Found (List Tree) → Turn RowsRead
with_row rows None = Fail
with_row rows (Some (xs, ss)) = if nat_eq (length xs) rows.1 then Go (suc rows.0, rows.1, rows.2 ++ xs) ss else Fail

abbrev pub rows_turn : Setting → RowsRead → List Symbol → Turn RowsRead
rows_turn S rows [] = Stop
rows_turn S rows (s ∷ ss) = if is_bar s.sign then with_row rows (row_at S ss) else Stop

-- an array, behind the opening brace
unfoldable pub array_at : Setting → Symbol → Reader Tree
array_at S s ss = do
  first ← row_at S ss
  rows ← all_turns (rows_turn S) (1, length first.0, first.0) first.1
  t ← one_at is_close_brace rows.1
  Some (Array (from_to s.span t.0.span) rows.0.0 rows.0.1 (trees rows.0.2), t.1)

-- ---- leaves

unfoldable pub references_at : Setting → Reader Tree
references_at S ss = do
  rs ← union_at S ss
  Some (Reference (place_of (take (length ss - length rs.1) ss)) rs.0, rs.1)

abbrev pub lone_word : Setting → Symbol → List Symbol → Option Bool → Option Corner → Found Tree
lone_word S s ss (Some b) corner = Some (Logical s.span b, ss)
lone_word S s ss None (Some c) = references_at S (s ∷ ss)
lone_word S s ss None None = Some (Name s.span (bytes_of S s), ss)

abbrev pub word_leaf : Setting → Symbol → List Symbol → Found Tree
word_leaf S s ss =
    if starts_with is_sheet_mark ss then references_at S (s ∷ ss)
    else lone_word S s ss (logical_word (bytes_of S s)) (word_corner S (bytes_of S s))

abbrev pub leaf_by : Setting → Sign → Symbol → List Symbol → Found Tree
leaf_by S sign.Number s ss = option_and_then (λ n. Some (number_tree s.span n, ss)) (reading (bytes_of S s))
leaf_by S sign.Text s ss = Some (Text s.span (quoted_text (bytes_of S s)), ss)
leaf_by S sign.Fault s ss = option_and_then (λ k. Some (Fault s.span k, ss)) (error_in (bytes_of S s))
leaf_by S sign.OpenBrace s ss = array_at S s ss
leaf_by S sign.Word s ss = word_leaf S s ss
leaf_by S sign.Quoted s ss = references_at S (s ∷ ss)
leaf_by S sign.OpenSquare s ss = references_at S (s ∷ ss)
leaf_by S _ s ss = None

unfoldable pub leaf_at : Setting → Reader Tree
leaf_at S [] = None
leaf_at S (s ∷ ss) = leaf_by S s.sign s ss
