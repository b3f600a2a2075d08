-- The tokens of a text.
use Rattle.std.specs.Prelude.{◌≡◌, ℕ, suc, ◌+◌, ◌-◌, ◌<◌, ◌≤◌, length, true, false, List, [], ◌∷◌, drop, Some, None, Result, Ok, Err, Vec}
use Rattle.std.specs.declared.alloc.Global.{Global}
use Rattle.formula_lexer.specs.declared.token.TokenKind.{TokenKind}
use Rattle.formula_lexer.specs.declared.token.Token.{Token}
use Rattle.formula_lexer.specs.declared.token.LexFault.{LexFault}
use Rattle.formula_lexer.specs.declared.token.LexFault.TheVariants as faults
use Rattle.formula_lexer.specs.Front.{is_blank, front}

abbrev pub token : TokenKind → ℕ → ℕ → Token
token kind at len = record { kind = kind; span = record { start = at; end = at + len } }

-- the tokens of what stands at a place
pub data Tokens : ℕ → List ℕ → List Token → Type 0 where
  ends : {at : ℕ} → Tokens at [] []
  blank : {at b : ℕ} {bytes : List ℕ} {ts : List Token} → is_blank b ≡ true → Tokens (suc at) bytes ts → Tokens at (b ∷ bytes) ts
  begins : {at b : ℕ} {bytes : List ℕ} {ts : List Token} (kind : TokenKind) (len : ℕ) → is_blank b ≡ false → front (b ∷ bytes) ≡ Some (kind, len)
      → Tokens (at + len) (drop len (b ∷ bytes)) ts → Tokens at (b ∷ bytes) (token kind at len ∷ ts)

-- the first place at which no token begins
pub data NoToken : ℕ → List ℕ → ℕ → Type 0 where
  here : {at b : ℕ} {bytes : List ℕ} → is_blank b ≡ false → front (b ∷ bytes) ≡ None → NoToken at (b ∷ bytes) at
  behind_blank : {at b place : ℕ} {bytes : List ℕ} → is_blank b ≡ true → NoToken (suc at) bytes place → NoToken at (b ∷ bytes) place
  behind : {at b place : ℕ} {bytes : List ℕ} (kind : TokenKind) (len : ℕ) → is_blank b ≡ false → front (b ∷ bytes) ≡ Some (kind, len)
      → NoToken (at + len) (drop len (b ∷ bytes)) place → NoToken at (b ∷ bytes) place

-- what tokens answers, by cases
abbrev pub LexAnswers : List ℕ → Result (Vec Token Global) LexFault → Type 0
LexAnswers text (Ok ts) = Tokens 0 text ts.items
LexAnswers text (Err (faults.At place)) = NoToken 0 text place
LexAnswers text (Err faults.Memory) = Unit {0}

-- the tokens stand in order from a place on, within the text, and each is the one that begins at its place
abbrev pub AreSlices : List ℕ → ℕ → List Token → Type 0
AreSlices text from [] = from ≤ length text
AreSlices text from (t ∷ ts) =
    (from ≤ t.span.start) × (t.span.start < t.span.end) × (front (drop t.span.start text) ≡ Some (t.kind, t.span.end - t.span.start))
    × AreSlices text t.span.end ts
