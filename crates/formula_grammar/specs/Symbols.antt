-- Symbols: the tokens of a formula's text, each by what it is.
use Rattle.std.specs.Prelude.{ℕ, suc, ◌-◌, List, [], ◌∷◌, map, take, drop, slice_index, nat_eq, nat_lt, if◌then◌else◌}
use Rattle.cell_refs.specs.declared.span.Span.{Span}
use Rattle.formula_lexer.specs.declared.token.TokenKind.{TokenKind}
use Rattle.formula_lexer.specs.declared.token.TokenKind.TheVariants as kind
use Rattle.formula_lexer.specs.declared.token.Token.{Token}
use Rattle.formula_grammar.specs.declared.symbol.Sign.{Sign}
use Rattle.formula_grammar.specs.declared.symbol.Sign.TheVariants as sign
use Rattle.formula_grammar.specs.declared.symbol.Symbol.{Symbol}

-- what a mark is, by its first byte and the one behind it, if it has two
abbrev pub sign_of_mark : ℕ → ℕ → Sign
sign_of_mark b c =
    if nat_eq b 43 then sign.Plus
    else if nat_eq b 45 then sign.Minus
    else if nat_eq b 42 then sign.Times
    else if nat_eq b 47 then sign.Over
    else if nat_eq b 94 then sign.Power
    else if nat_eq b 37 then sign.Percent
    else if nat_eq b 38 then sign.And
    else if nat_eq b 61 then sign.Equal
    else if nat_eq b 60 then (if nat_eq c 61 then sign.AtMost else if nat_eq c 62 then sign.Differs else sign.Below)
    else if nat_eq b 62 then (if nat_eq c 61 then sign.AtLeast else sign.Above)
    else if nat_eq b 40 then sign.Open
    else if nat_eq b 41 then sign.Close
    else if nat_eq b 91 then sign.OpenSquare
    else if nat_eq b 93 then sign.CloseSquare
    else if nat_eq b 123 then sign.OpenBrace
    else if nat_eq b 125 then sign.CloseBrace
    else if nat_eq b 59 then sign.Semicolon
    else if nat_eq b 44 then sign.Comma
    else if nat_eq b 58 then sign.Colon
    else if nat_eq b 46 then sign.Point
    else if nat_eq b 33 then sign.Exclamation
    else if nat_eq b 126 then sign.Tilde
    else sign.Bar

abbrev pub sign_of : TokenKind → ℕ → ℕ → Sign
sign_of kind.Number b c = sign.Number
sign_of kind.Text b c = sign.Text
sign_of kind.Word b c = sign.Word
sign_of kind.Quoted b c = sign.Quoted
sign_of kind.Fault b c = sign.Fault
sign_of kind.Mark b c = sign_of_mark b c

-- the second byte of a token, or 0
abbrev pub second_at : List ℕ → Token → ℕ
second_at text t = if nat_lt (suc t.span.start) t.span.end then slice_index text (suc t.span.start) else 0

abbrev pub symbol_of : List ℕ → Token → Symbol
symbol_of text t = record { sign = sign_of t.kind (slice_index text t.span.start) (second_at text t); span = t.span }

-- the symbols of a text with these tokens
abbrev pub symbols_of : List ℕ → List Token → List Symbol
symbols_of text ts = map (symbol_of text) ts

-- a formula's text, the number of the sheet on which it stands, and the names of all sheets
pub record Setting : Type 0 where
  pub text : List ℕ
  pub home : ℕ
  pub sheets : List (List ℕ)

-- the bytes of a symbol
abbrev pub bytes_of : Setting → Symbol → List ℕ
bytes_of S s = take (s.span.end - s.span.start) (drop s.span.start S.text)

-- from the start of the first to the end of the last
abbrev pub from_to : Span → Span → Span
from_to a b = record { start = a.start; end = b.end }

-- the empty place at a byte
abbrev pub at_byte : ℕ → Span
at_byte n = record { start = n; end = n }

abbrev pub last_end : ℕ → List Symbol → ℕ
last_end n [] = n
last_end n (s ∷ ss) = last_end s.span.end ss

-- from the first of some symbols to the last
abbrev pub place_of : List Symbol → Span
place_of [] = at_byte 0
place_of (s ∷ ss) = record { start = s.span.start; end = last_end s.span.end ss }
