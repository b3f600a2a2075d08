-- The tree of a formula's text, and the area of a reference's, as functions of the text.
use Rattle.std.specs.Prelude.{◌≡◌, ◌↔◌, ℕ, zero, suc, ◌+◌, if◌then◌else◌, nat_le, List, [], ◌∷◌, length, drop, Option, Some, None, option_map, is_none, Result, Ok, Err}
use Rattle.std.specs.Option.{option_and_then}
use Rattle.cell_refs.specs.Areas.{Area}
use Rattle.formula_ast.specs.Tree.{Tree}
use Rattle.formula_lexer.specs.declared.token.TokenKind.{TokenKind}
use Rattle.formula_lexer.specs.declared.token.Token.{Token}
use Rattle.formula_lexer.specs.Front.{front, is_blank}
use Rattle.formula_lexer.specs.Tokens.{token}
use Rattle.formula_grammar.specs.declared.symbol.Symbol.{Symbol}
use Rattle.formula_grammar.specs.Symbols.{Setting, symbols_of}
use Rattle.formula_grammar.specs.Parts.{Part}
use Rattle.formula_grammar.specs.Making.{plain}
use Rattle.formula_grammar.specs.Depth.{most_open}
use Rattle.formula_grammar.specs.Formula.{IsTooDeep, SpellsText}
use Rattle.formula_grammar.specs.LeafReading.{reference_at}
use Rattle.formula_grammar.specs.Reading.{formula_at}
use Rattle.formula_parser.specs.Answers.{behind_mark, fault_of}
use Rattle.formula_parser.specs.Leaves.{area_of}
use Rattle.formula_parser.specs.declared.fault.ParseFault.{ParseFault}
use Rattle.formula_parser.specs.declared.fault.ParseFault.TheVariants as fault

-- ---- tokens
-- the tokens of what stands at a place, at most n of them and blanks together; none where a byte begins no token
unfoldable pub tokens_from : ℕ → ℕ → List ℕ → Option (List Token)
tokens_from zero at bytes = None
tokens_from (suc n) at [] = Some []
tokens_from (suc n) at (b ∷ bytes) =
    if is_blank b then tokens_from n (suc at) bytes
    else option_and_then (λ (f : TokenKind × ℕ). option_map (λ ts. token f.0 at f.1 ∷ ts) (tokens_from n (at + f.1) (drop f.1 (b ∷ bytes)))) (front (b ∷ bytes))

abbrev pub tokens_in : List ℕ → Option (List Token)
tokens_in text = tokens_from (suc (length text)) 0 text

-- what is read of some symbols, where all of them are read
abbrev pub to_the_end : {A : Type 0} → Option (A × List Symbol) → Option A
to_the_end (Some (x, [])) = Some x
to_the_end _ = None

-- ---- formulas
-- the tree behind the mark of a formula, where at most 64 brackets are open at a place
abbrev pub tree_of_symbols : Setting → List Symbol → Option Tree
tree_of_symbols S ss =
    if nat_le (most_open 0 ss) 64
    then option_and_then (λ behind. option_map (λ (p : Part). p.tree) (to_the_end (formula_at S (plain S) 65 behind))) (behind_mark S ss)
    else None

abbrev pub without_fault : Tree → Option Tree
without_fault t = if is_none (fault_of t) then Some t else None

-- the tree of a formula's text; none where it has none, or one with a fault
unfoldable pub tree_in : Setting → Option Tree
tree_in S = option_and_then without_fault (option_and_then (λ ts. tree_of_symbols S (symbols_of S.text ts)) (tokens_in S.text))

-- that tree is the one which the text spells, where it has no fault
abbrev pub TreesAreSpelled : Type 0
TreesAreSpelled = (S : Setting) (t : Tree) → (tree_in S ≡ Some t) ↔ ((IsTooDeep S → ⊥) × SpellsText S t × (fault_of t ≡ None))

-- what is answered of a text: its tree, or a fault where it has none
abbrev pub IsTreeIn : Setting → Result Tree ParseFault → Type 0
IsTreeIn S (Ok t) = tree_in S ≡ Some t
IsTreeIn S (Err fault.Memory) = Unit {0}
IsTreeIn S (Err f) = tree_in S ≡ None

-- ---- references
-- the area that a text names, which is one reference and nothing else; none where it is no such text, or where there is no such
-- sheet
unfoldable pub area_in : Setting → Option Area
area_in S =
    option_and_then (λ ts. option_and_then area_of (to_the_end (reference_at S (symbols_of S.text ts)))) (tokens_in S.text)
