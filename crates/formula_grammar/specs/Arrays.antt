-- Arrays of constants (OpenDocument 1.2 part 2, section 5.13).
use Rattle.std.specs.Prelude.{◌≡◌, ℕ, suc, Bool, List, [], ◌∷◌, ◌++◌, length, Some}
use Rattle.frac128.specs.Numeral.{Numeral, Spells}
use Rattle.formula_ast.specs.Tree.{Tree, Text, Logical}
use Rattle.formula_grammar.specs.Symbols.{Setting, bytes_of, from_to}
use Rattle.formula_grammar.specs.Words.{number_tree, negative_tree, quoted_text, logical_word}
use Rattle.formula_grammar.specs.declared.symbol.Sign.TheVariants as sign
use Rattle.formula_grammar.specs.declared.symbol.Symbol.{Symbol}

-- an item: a number with a sign or without, a text, or TRUE or FALSE
pub data SpellsItem (S : Setting) : List Symbol → Tree → Type 0 where
  number : {n : Numeral} (s : Symbol) → s.sign ≡ sign.Number → Spells (bytes_of S s) n → SpellsItem S (s ∷ []) (number_tree s.span n)
  positive : {n : Numeral} (s t : Symbol) → s.sign ≡ sign.Plus → t.sign ≡ sign.Number → Spells (bytes_of S t) n
      → SpellsItem S (s ∷ t ∷ []) (number_tree (from_to s.span t.span) n)
  negative : {n : Numeral} (s t : Symbol) → s.sign ≡ sign.Minus → t.sign ≡ sign.Number → Spells (bytes_of S t) n
      → SpellsItem S (s ∷ t ∷ []) (negative_tree (from_to s.span t.span) n)
  text : (s : Symbol) → s.sign ≡ sign.Text → SpellsItem S (s ∷ []) (Text s.span (quoted_text (bytes_of S s)))
  logical : {b : Bool} (s : Symbol) → s.sign ≡ sign.Word → logical_word (bytes_of S s) ≡ Some b → SpellsItem S (s ∷ []) (Logical s.span b)

-- a row: items with ; between
pub data SpellsRow (S : Setting) : List Symbol → List Tree → Type 0 where
  first : {a : List Symbol} {x : Tree} → SpellsItem S a x → SpellsRow S a (x ∷ [])
  next : {a b : List Symbol} {xs : List Tree} {x : Tree} (s : Symbol) → s.sign ≡ sign.Semicolon → SpellsRow S a xs → SpellsItem S b x
      → SpellsRow S (a ++ s ∷ b) (xs ++ x ∷ [])

-- rows of one length with | between: how many rows, how many columns, and the items row by row
pub data SpellsRows (S : Setting) : List Symbol → ℕ → ℕ → List Tree → Type 0 where
  first_row : {a : List Symbol} {xs : List Tree} → SpellsRow S a xs → SpellsRows S a 1 (length xs) xs
  next_row : {a b : List Symbol} {rows columns : ℕ} {xs ys : List Tree} (s : Symbol) → s.sign ≡ sign.Bar → SpellsRows S a rows columns xs
      → SpellsRow S b ys → length ys ≡ columns → SpellsRows S (a ++ s ∷ b) (suc rows) columns (xs ++ ys)
