-- What a token of each kind is (OpenDocument 1.2 part 2, sections 5.3 to 5.12), and the one in front of a text.
use Rattle.std.specs.Prelude.{◌≡◌, ◌↔◌, ◌≤◌, ◌+◌, ℕ, suc, ℤ, Bool, true, false, ◌&&◌, List, [], ◌∷◌, ◌++◌, length, Some, None, nat_eq, if◌then◌else◌}
use Rattle.std.specs.List.{list_all}
use Rattle.frac128.specs.Numeral.{SpellsMantissa, SpellsExponent}
use Rattle.cell_refs.specs.declared.error_kind.ErrorKind.{ErrorKind}
use Rattle.cell_refs.specs.declared.error_kind.ErrorKind.TheVariants as error
use Rattle.cell_refs.specs.ErrorText.{error_text}
use Rattle.formula_lexer.specs.declared.token.TokenKind.{TokenKind}
use Rattle.formula_lexer.specs.declared.token.TokenKind.TheVariants as kind
use Rattle.formula_lexer.specs.declared.token.Token.{Token}
use Rattle.formula_lexer.specs.Front.{front, is_blank, starts_word, continues_word, is_pair, is_mark}
use Rattle.formula_lexer.specs.Tokens.{Tokens, token}

-- a number without sign and %: a mantissa, and an exponent or none
pub record IsNumber (bytes : List ℕ) : Type 0 where
  pub mantissa : List ℕ
  pub exponent : List ℕ
  pub before : List ℕ
  pub behind : List ℕ
  pub power : ℤ
  pub joined : bytes ≡ mantissa ++ exponent
  pub mantissa_is : SpellsMantissa mantissa before behind
  pub exponent_is : SpellsExponent exponent power

-- a content with each quote in it twice
abbrev pub doubled : ℕ → List ℕ → List ℕ
doubled q [] = []
doubled q (b ∷ content) = if nat_eq b q then q ∷ q ∷ doubled q content else b ∷ doubled q content

-- any content between two quotes, with each quote in it twice
pub data IsQuoted (q : ℕ) : List ℕ → Type 0 where
  quoted : (content : List ℕ) → IsQuoted q (q ∷ (doubled q content ++ q ∷ []))

-- whether a byte stands in front, and whether it stands at the end
abbrev pub begins : ℕ → List ℕ → Bool
begins q [] = false
begins q (b ∷ bytes) = nat_eq b q

abbrev pub ends : ℕ → List ℕ → Bool
ends q [] = false
ends q (b ∷ []) = nat_eq b q
ends q (b ∷ c ∷ bytes) = ends q (c ∷ bytes)

-- the errors that have a name in formulas
abbrev pub has_name : ErrorKind → Bool
has_name error.Circular = false
has_name error.Malformed = false
has_name _ = true

-- a token of each kind, before what stands behind it: behind a closing quote stands no other quote, and a word does not end in a
-- dollar sign right before a single quote
pub data IsToken : TokenKind → List ℕ → List ℕ → Type 0 where
  number : {token behind : List ℕ} → IsNumber token → IsToken kind.Number token behind
  text : {token behind : List ℕ} → IsQuoted 34 token → begins 34 behind ≡ false → IsToken kind.Text token behind
  name : {token behind : List ℕ} → IsQuoted 39 token → begins 39 behind ≡ false → IsToken kind.Quoted token behind
  dollar_name : {token behind : List ℕ} → IsQuoted 39 token → begins 39 behind ≡ false → IsToken kind.Quoted (36 ∷ token) behind
  fault : {behind : List ℕ} (k : ErrorKind) → has_name k ≡ true → IsToken kind.Fault (error_text k) behind
  word : {b : ℕ} {others behind : List ℕ} → starts_word b ≡ true → list_all continues_word others ≡ true
      → (ends 36 (b ∷ others) && begins 39 behind) ≡ false → IsToken kind.Word (b ∷ others) behind
  pair : {b c : ℕ} {behind : List ℕ} → is_pair b c ≡ true → IsToken kind.Mark (b ∷ c ∷ []) behind
  mark : {b : ℕ} {behind : List ℕ} → is_mark b ≡ true → IsToken kind.Mark (b ∷ []) behind

-- a token stands in front of a text, and no longer one does, of any kind
pub record IsLongest (k : TokenKind) (token behind : List ℕ) : Type 0 where
  pub stands : IsToken k token behind
  pub longest : (j : TokenKind) (other rest : List ℕ) → other ++ rest ≡ token ++ behind → IsToken j other rest → length other ≤ length token

-- the token that is cut from the front of a text is the longest
abbrev pub LongestIsCut : Type 0
LongestIsCut = (k : TokenKind) (token behind : List ℕ) → (front (token ++ behind) ≡ Some (k, length token)) ↔ IsLongest k token behind

-- none is cut exactly where none stands in front
abbrev pub NoneIsCut : Type 0
NoneIsCut = (text : List ℕ) → (front text ≡ None) ↔ ((k : TokenKind) (token behind : List ℕ) → token ++ behind ≡ text → IsToken k token behind → ⊥)

-- a text from a place on is blanks and tokens, each the longest that stands where it begins
pub data IsCutInto : ℕ → List ℕ → List Token → Type 0 where
  ended : {at : ℕ} → IsCutInto at [] []
  behind_blank : {at b : ℕ} {bytes : List ℕ} {ts : List Token} → is_blank b ≡ true → IsCutInto (suc at) bytes ts → IsCutInto at (b ∷ bytes) ts
  next : {at b : ℕ} {others behind : List ℕ} {ts : List Token} (k : TokenKind) → is_blank b ≡ false → IsLongest k (b ∷ others) behind
      → IsCutInto (at + suc (length others)) behind ts → IsCutInto at (b ∷ (others ++ behind)) (token k at (suc (length others)) ∷ ts)

-- the tokens of a text are these
abbrev pub TokensAreLongest : Type 0
TokensAreLongest = (at : ℕ) (text : List ℕ) (ts : List Token) → Tokens at text ts ↔ IsCutInto at text ts
