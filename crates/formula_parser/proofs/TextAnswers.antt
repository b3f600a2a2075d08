-- What a text is answered.
use Rattle.std.proofs.Common.{◌≡◌, ℕ, ◌<◌, ◌≤◌, List, Result, Ok, Err, subst, inl, inr, arith}
use Rattle.formula_ast.specs.Tree.{Tree}
use Rattle.formula_lexer.specs.declared.token.Token.{Token}
use Rattle.formula_lexer.specs.Tokens.{NoToken, Tokens}
use Rattle.formula_grammar.specs.Symbols.{Setting, symbols_of}
use Rattle.formula_grammar.specs.Depth.{most_open}
use Rattle.formula_grammar.specs.Formula.{IsTooDeep, SpellsFormula, SpellsText}
use Rattle.formula_parser.specs.declared.fault.ParseFault.{ParseFault}
use Rattle.formula_parser.specs.declared.fault.ParseFault.TheVariants as fault
use Rattle.formula_parser.specs.Answers.{Answers, SymbolAnswers}

module _ (S : Setting) (ts : List Token) (cut : Tokens 0 S.text ts) (one : (a b : List Token) → Tokens 0 S.text a → Tokens 0 S.text b → a ≡ b) where
  not_deep : most_open 0 (symbols_of S.text ts) ≤ 64 → IsTooDeep S → ⊥
  not_deep room deep =
      let same = one deep.tokens ts deep.cut cut in
      let more : 64 < most_open 0 (symbols_of S.text ts) = subst (λ us. 64 < most_open 0 (symbols_of S.text us)) same deep.deep in
      omega arith

  text_of : (t : Tree) → SpellsFormula S (symbols_of S.text ts) t → SpellsText S t
  text_of t f = record { tokens = ts; cut = cut; spells = f }

  symbols_spell : (t : Tree) → SpellsText S t → SpellsFormula S (symbols_of S.text ts) t
  symbols_spell t s = subst (λ us. SpellsFormula S (symbols_of S.text us) t) (one s.tokens ts s.cut cut) s.spells

  pub text_answers : (r : Result Tree ParseFault) → SymbolAnswers S (symbols_of S.text ts) r → Answers S r
  text_answers (Ok t) a = (not_deep a.0, text_of t a.1, a.2)
  text_answers (Err fault.Memory) a = tt
  text_answers (Err fault.Syntax) a = (not_deep a.0, λ t s. a.1 t (symbols_spell t s))
  text_answers (Err fault.TooDeep) a = elim a [
    | inl deep ↦ inl (record { tokens = ts; cut = cut; deep = deep })
    | inr t ↦ inr (t.0, text_of t.0 t.1, t.2)
  ]
  text_answers (Err fault.UnknownSheet) a = (not_deep a.0, (a.1.0, text_of a.1.0 a.1.1, a.1.2))
  text_answers (Err fault.ArgumentCount) a = (not_deep a.0, (a.1.0, text_of a.1.0 a.1.1, a.1.2))
  text_answers (Err fault.WideNumeral) a = (not_deep a.0, (a.1.0, text_of a.1.0 a.1.1, a.1.2))

-- a text without tokens is no formula
pub no_tokens : (S : Setting) (place : ℕ) → NoToken 0 S.text place → ((ts : List Token) → NoToken 0 S.text place → Tokens 0 S.text ts → ⊥) → Answers S (Err fault.Syntax)
no_tokens S place stuck none = (λ deep. none deep.tokens stuck deep.cut, λ t s. none s.tokens stuck s.cut)
