-- The area that a text names (OpenDocument 1.2 part 2, section 5.8).
use Rattle.std.specs.Prelude.{◌≡◌, ◌↔◌, List, Some, None}
use Rattle.cell_refs.specs.Areas.{Area}
use Rattle.formula_ast.specs.Tree.{Listed}
use Rattle.formula_lexer.specs.declared.token.Token.{Token}
use Rattle.formula_lexer.specs.Tokens.{Tokens}
use Rattle.formula_grammar.specs.Symbols.{Setting, symbols_of}
use Rattle.formula_grammar.specs.References.{SpellsReference}
use Rattle.formula_parser.specs.TextTrees.{area_in}

-- the tokens of the text, all of them, spell a reference to an area of a listed sheet
pub record SpellsArea (S : Setting) (area : Area) : Type 0 where
  pub tokens : List Token
  pub cut : Tokens 0 S.text tokens
  pub spells : SpellsReference S (symbols_of S.text tokens) (Listed area)

-- the area that is read is the one that is spelled
abbrev pub AreasAreSpelled : Type 0
AreasAreSpelled = (S : Setting) (area : Area) → (area_in S ≡ Some area) ↔ SpellsArea S area

-- so a text spells one at most, and none is read exactly where none is spelled
abbrev pub OneAreaIsSpelled : Type 0
OneAreaIsSpelled = (S : Setting) (a b : Area) → SpellsArea S a → SpellsArea S b → a ≡ b

abbrev pub NoneIsRead : Type 0
NoneIsRead = (S : Setting) → (area_in S ≡ None) ↔ ((area : Area) → SpellsArea S area → ⊥)
