-- The parts of a formula that have no formula within: constants, arrays, names and references.
use Rattle.std.specs.Prelude.{◌≡◌, ℕ, Bool, List, [], ◌∷◌, ◌++◌, Some, None}
use Rattle.cell_refs.specs.declared.error_kind.ErrorKind.{ErrorKind}
use Rattle.frac128.specs.Numeral.{Numeral, Spells}
use Rattle.formula_ast.specs.Tree.{Tree, Text, Logical, Fault, Array, Reference, Name, Referred, trees}
use Rattle.formula_grammar.specs.Symbols.{Setting, bytes_of, from_to, place_of}
use Rattle.formula_grammar.specs.Words.{Corner, number_tree, quoted_text, error_in, logical_word}
use Rattle.formula_grammar.specs.References.{SpellsUnion, SpellsWord}
use Rattle.formula_grammar.specs.Arrays.{SpellsRows}
use Rattle.formula_grammar.specs.declared.symbol.Sign.TheVariants as sign
use Rattle.formula_grammar.specs.declared.symbol.Symbol.{Symbol}

-- a word that is no logical, no address and no cell of a listed sheet is a name
pub data SpellsLeaf (S : Setting) : List Symbol → Tree → Type 0 where
  number : {n : Numeral} (s : Symbol) → s.sign ≡ sign.Number → Spells (bytes_of S s) n → SpellsLeaf S (s ∷ []) (number_tree s.span n)
  text : (s : Symbol) → s.sign ≡ sign.Text → SpellsLeaf S (s ∷ []) (Text s.span (quoted_text (bytes_of S s)))
  error : {k : ErrorKind} (s : Symbol) → s.sign ≡ sign.Fault → error_in (bytes_of S s) ≡ Some k → SpellsLeaf S (s ∷ []) (Fault s.span k)
  logical : {b : Bool} (s : Symbol) → s.sign ≡ sign.Word → logical_word (bytes_of S s) ≡ Some b → SpellsLeaf S (s ∷ []) (Logical s.span b)
  name : (s : Symbol) → s.sign ≡ sign.Word → logical_word (bytes_of S s) ≡ None → ((c : Corner) → SpellsWord S (bytes_of S s) c → ⊥)
      → SpellsLeaf S (s ∷ []) (Name s.span (bytes_of S s))
  array : {a : List Symbol} {rows columns : ℕ} {xs : List Tree} (s t : Symbol) → s.sign ≡ sign.OpenBrace → t.sign ≡ sign.CloseBrace
      → SpellsRows S a rows columns xs → SpellsLeaf S (s ∷ (a ++ t ∷ [])) (Array (from_to s.span t.span) rows columns (trees xs))
  reference : {a : List Symbol} {rs : List Referred} → SpellsUnion S a rs → SpellsLeaf S a (Reference (place_of a) rs)
