-- What single symbols say: numbers, texts, errors, logicals, sheets and addresses (OpenDocument 1.2 part 2, sections 5.3 to
-- 5.12).
use Rattle.std.specs.Prelude.{ℕ, Bool, true, false, ◌||◌, if◌then◌else◌, nat_eq, List, [], ◌∷◌, codes, Option, Some, None, option_map}
use Rattle.fractions.specs.Rational.{neg_ℚ}
use Rattle.frac128.specs.Numeral.{Numeral, value, is_narrow_numeral}
use Rattle.cell_refs.specs.declared.span.Span.{Span}
use Rattle.cell_refs.specs.declared.error_kind.ErrorKind.{ErrorKind}
use Rattle.cell_refs.specs.declared.error_kind.ErrorKind.TheVariants as kind
use Rattle.cell_refs.specs.ErrorText.{error_text}
use Rattle.cell_refs.specs.Names.{same_letters}
use Rattle.cell_refs.specs.Sheets.{sheet_in}
use Rattle.formula_ast.specs.Tree.{Tree, Number, WideNumber}
use Rattle.formula_grammar.specs.Symbols.{Setting, bytes_of}
use Rattle.formula_grammar.specs.declared.symbol.Sign.{Sign}
use Rattle.formula_grammar.specs.declared.symbol.Sign.TheVariants as sign
use Rattle.formula_grammar.specs.declared.symbol.Symbol.{Symbol}

abbrev pub number_tree : Span → Numeral → Tree
number_tree at n = if is_narrow_numeral n then Number at (value n) else WideNumber at (value n)

-- a number with a minus before it
abbrev pub negative_tree : Span → Numeral → Tree
negative_tree at n = if is_narrow_numeral n then Number at (neg_ℚ (value n)) else WideNumber at (neg_ℚ (value n))

-- what stands before the closing quote, where a quote inside is doubled
abbrev pub inside : ℕ → List ℕ → List ℕ
inside q [] = []
inside q (b ∷ []) = if nat_eq b q then [] else b ∷ []
inside q (b ∷ c ∷ bytes) = if nat_eq b q then (if nat_eq c q then q ∷ inside q bytes else []) else b ∷ inside q (c ∷ bytes)

-- what stands behind the opening quote
abbrev pub behind_quote : ℕ → List ℕ → List ℕ
behind_quote q [] = []
behind_quote q (b ∷ bytes) = if nat_eq b q then bytes else []

-- the text of a symbol in double quotes
abbrev pub quoted_text : List ℕ → List ℕ
quoted_text bytes = inside 34 (behind_quote 34 bytes)

-- the error of this name, whose letters a token of an error has as they stand here
abbrev pub error_in : List ℕ → Option ErrorKind
error_in bytes =
    if same_letters bytes (error_text kind.Div0) then Some kind.Div0
    else if same_letters bytes (error_text kind.Value) then Some kind.Value
    else if same_letters bytes (error_text kind.Ref) then Some kind.Ref
    else if same_letters bytes (error_text kind.Num) then Some kind.Num
    else if same_letters bytes (error_text kind.NotAvailable) then Some kind.NotAvailable
    else None

-- TRUE or FALSE, in any case of letters
abbrev pub logical_word : List ℕ → Option Bool
logical_word bytes = if same_letters bytes (codes "TRUE") then Some true else if same_letters bytes (codes "FALSE") then Some false else None

-- whether a point stands in a word
abbrev pub has_point : List ℕ → Bool
has_point [] = false
has_point (b ∷ bytes) = nat_eq b 46 || has_point bytes

abbrev pub sheet_by : Setting → Sign → Symbol → Option (List ℕ)
sheet_by S sign.Word s = sheet_in (bytes_of S s)
sheet_by S sign.Quoted s = sheet_in (bytes_of S s)
sheet_by S _ s = None

-- the sheet's name that a symbol is
abbrev pub sheet_of : Setting → Symbol → Option (List ℕ)
sheet_of S s = sheet_by S s.sign s

-- a sheet as it is given: none, so that it is the formula's own, or by its name
pub data Given : Type 0 where
  Own : Given
  Named : (name : List ℕ) → Given

-- a corner of a reference: its sheet, its row and its column
pub record Corner : Type 0 where
  pub sheet : Given
  pub row : ℕ
  pub column : ℕ

abbrev pub corner_on : Given → Option (ℕ × ℕ) → Option Corner
corner_on sheet address = option_map (λ (a : ℕ × ℕ). record { sheet = sheet; row = a.0; column = a.1 }) address
