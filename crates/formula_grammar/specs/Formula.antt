-- A formula's text: its tokens, each read as a symbol, are a mark and a comparison behind it (OpenDocument 1.2 part 2, section
-- 5.2).
use Rattle.std.specs.Prelude.{◌≡◌, ◌<◌, List, [], ◌∷◌, ◌++◌, codes}
use Rattle.formula_ast.specs.Tree.{Tree}
use Rattle.formula_lexer.specs.declared.token.Token.{Token}
use Rattle.formula_lexer.specs.Tokens.{Tokens}
use Rattle.formula_grammar.specs.declared.symbol.Sign.TheVariants as sign
use Rattle.formula_grammar.specs.declared.symbol.Symbol.{Symbol}
use Rattle.formula_grammar.specs.Symbols.{Setting, bytes_of, symbols_of}
use Rattle.formula_grammar.specs.Parts.{Part}
use Rattle.formula_grammar.specs.Grammar.{Spells, Level}
use Rattle.formula_grammar.specs.Depth.{most_open}

-- the word of and a colon, with no blank between
pub record IsOf (S : Setting) (s t : Symbol) : Type 0 where
  pub word : s.sign ≡ sign.Word
  pub bytes : bytes_of S s ≡ codes "of"
  pub colon : t.sign ≡ sign.Colon
  pub joined : t.span.start ≡ s.span.end

-- the mark of a formula: an equals sign, and a second one where recalculation is forced; before them may stand of and a colon
pub data SpellsMark (S : Setting) : List Symbol → Type 0 where
  equals : (u : Symbol) → u.sign ≡ sign.Equal → SpellsMark S (u ∷ [])
  forced : (u v : Symbol) → u.sign ≡ sign.Equal → v.sign ≡ sign.Equal → SpellsMark S (u ∷ v ∷ [])
  of_equals : (s t u : Symbol) → IsOf S s t → u.sign ≡ sign.Equal → SpellsMark S (s ∷ t ∷ u ∷ [])
  of_forced : (s t u v : Symbol) → IsOf S s t → u.sign ≡ sign.Equal → v.sign ≡ sign.Equal → SpellsMark S (s ∷ t ∷ u ∷ v ∷ [])

-- the symbols spell the tree behind a mark
pub record SpellsFormula (S : Setting) (symbols : List Symbol) (tree : Tree) : Type 0 where
  pub mark : List Symbol
  pub behind : List Symbol
  pub part : Part
  pub are : symbols ≡ mark ++ behind
  pub marks : SpellsMark S mark
  pub spells : Spells S (Level 5) behind part
  pub is : part.tree ≡ tree

-- the text spells the tree
pub record SpellsText (S : Setting) (tree : Tree) : Type 0 where
  pub tokens : List Token
  pub cut : Tokens 0 S.text tokens
  pub spells : SpellsFormula S (symbols_of S.text tokens) tree

-- more than 64 brackets of the tokens are open at a place
pub record IsTooDeep (S : Setting) : Type 0 where
  pub tokens : List Token
  pub cut : Tokens 0 S.text tokens
  pub deep : 64 < most_open 0 (symbols_of S.text tokens)
