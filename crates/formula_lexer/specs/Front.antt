-- The token at the front of a text, as long as it can be (OpenDocument 1.2 part 2, sections 5.3 to 5.12).
use Rattle.std.specs.Prelude.{ℕ, suc, ◌+◌, Bool, true, false, ◌&&◌, ◌||◌, not, List, [], ◌∷◌, length, drop, take_while, Option, Some, None, nat_eq, nat_le, if◌then◌else◌}
use Rattle.std.specs.Option.{option_map}
use Rattle.cell_refs.specs.declared.error_kind.ErrorKind.TheVariants as kind
use Rattle.cell_refs.specs.ErrorText.{error_text}
use Rattle.formula_lexer.specs.declared.token.TokenKind.{TokenKind}
use Rattle.formula_lexer.specs.declared.token.TokenKind.TheVariants as token

-- blanks, tabs and line ends
abbrev pub is_blank : ℕ → Bool
is_blank b = nat_eq b 32 || nat_eq b 9 || nat_eq b 10 || nat_eq b 13

abbrev pub is_digit : ℕ → Bool
is_digit b = nat_le 48 b && nat_le b 57

-- a letter of ASCII, or a byte of a character past it
abbrev pub is_letter : ℕ → Bool
is_letter b = (nat_le 65 b && nat_le b 90) || (nat_le 97 b && nat_le b 122) || nat_le 128 b

-- the byte at the front, or 0
abbrev pub first : List ℕ → ℕ
first [] = 0
first (b ∷ bytes) = b

-- what a word begins with: a letter, an underscore or a dollar sign
abbrev pub starts_word : ℕ → Bool
starts_word b = is_letter b || nat_eq b 95 || nat_eq b 36

-- what it goes on with: the same, a digit or a point
abbrev pub continues_word : ℕ → Bool
continues_word b = starts_word b || is_digit b || nat_eq b 46

-- a dollar sign right before a single quote, which belongs to the name in quotes
abbrev pub opens_name : ℕ → ℕ → Bool
opens_name b c = nat_eq b 36 && nat_eq c 39

-- how far a word goes on
abbrev pub word_rest : List ℕ → ℕ
word_rest [] = 0
word_rest (b ∷ bytes) = if continues_word b && not (opens_name b (first bytes)) then suc (word_rest bytes) else 0

abbrev pub digits : List ℕ → ℕ
digits bytes = length (take_while is_digit bytes)

-- a point and any digits
abbrev pub fraction : List ℕ → ℕ
fraction [] = 0
fraction (b ∷ bytes) = if nat_eq b 46 then suc (digits bytes) else 0

-- a sign at the front, if there is one
abbrev pub sign : List ℕ → ℕ
sign bytes = if nat_eq (first bytes) 43 || nat_eq (first bytes) 45 then 1 else 0

-- an e or E, a sign or none, and at least one digit
abbrev pub exponent : List ℕ → ℕ
exponent [] = 0
exponent (b ∷ bytes) =
    if (nat_eq b 101 || nat_eq b 69) && not (nat_eq (digits (drop (sign bytes) bytes)) 0)
    then suc (sign bytes + digits (drop (sign bytes) bytes)) else 0

-- digits and a fraction
abbrev pub mantissa : List ℕ → ℕ
mantissa bytes = digits bytes + fraction (drop (digits bytes) bytes)

-- the numeral at the front, without sign and %
abbrev pub number_len : List ℕ → ℕ
number_len bytes = mantissa bytes + exponent (drop (mantissa bytes) bytes)

-- a digit, or a point with a digit behind it
abbrev pub starts_number : ℕ → List ℕ → Bool
starts_number b bytes = is_digit b || (nat_eq b 46 && is_digit (first bytes))

-- up to the closing quote and with it, where a quote inside is doubled
unfoldable pub quoted_len : ℕ → List ℕ → Option ℕ
quoted_len q [] = None
quoted_len q (b ∷ []) = if nat_eq b q then Some 1 else None
quoted_len q (b ∷ c ∷ bytes) =
    if nat_eq b q then (if nat_eq c q then option_map (λ n. 2 + n) (quoted_len q bytes) else Some 1)
    else option_map (λ n. 1 + n) (quoted_len q (c ∷ bytes))

-- whether the second text begins with the first
abbrev pub begins_with : List ℕ → List ℕ → Bool
begins_with [] bytes = true
begins_with (w ∷ word) [] = false
begins_with (w ∷ word) (b ∷ bytes) = nat_eq w b && begins_with word bytes

-- the name of an error at the front; those of circular and malformed cells are none
abbrev pub fault_len : List ℕ → Option ℕ
fault_len bytes =
    if begins_with (error_text kind.Div0) bytes then Some 7
    else if begins_with (error_text kind.Value) bytes then Some 7
    else if begins_with (error_text kind.Ref) bytes then Some 5
    else if begins_with (error_text kind.Num) bytes then Some 5
    else if begins_with (error_text kind.NotAvailable) bytes then Some 4
    else None

-- a mark of two bytes: <=, >= or <>
abbrev pub is_pair : ℕ → ℕ → Bool
is_pair b c = (nat_eq c 61 && (nat_eq b 60 || nat_eq b 62)) || (nat_eq b 60 && nat_eq c 62)

-- ! % & ( ) * + , - . / : ; < = > [ ] ^ { | } ~
abbrev pub is_mark : ℕ → Bool
is_mark b =
    nat_eq b 33 || (nat_le 37 b && nat_le b 38) || (nat_le 40 b && nat_le b 47) || (nat_le 58 b && nat_le b 62) || nat_eq b 91
    || nat_eq b 93 || nat_eq b 94 || (nat_le 123 b && nat_le b 126)

-- a token's kind and its length
abbrev pub Front : Type 0
Front = Option (TokenKind × ℕ)

abbrev pub of_kind : TokenKind → ℕ → Option ℕ → Front
of_kind k start None = None
of_kind k start (Some n) = Some (k, start + n)

-- the token that begins with this byte, before these
abbrev pub front_of : ℕ → List ℕ → Front
front_of b bytes =
    if starts_number b bytes then Some (token.Number, number_len (b ∷ bytes))
    else if nat_eq b 34 then of_kind token.Text 1 (quoted_len 34 bytes)
    else if nat_eq b 39 then of_kind token.Quoted 1 (quoted_len 39 bytes)
    else if opens_name b (first bytes) then of_kind token.Quoted 2 (quoted_len 39 (drop 1 bytes))
    else if nat_eq b 35 then of_kind token.Fault 0 (fault_len (b ∷ bytes))
    else if starts_word b then Some (token.Word, suc (word_rest bytes))
    else if is_pair b (first bytes) then Some (token.Mark, 2)
    else if is_mark b then Some (token.Mark, 1)
    else None

-- the token that begins a text
abbrev pub front : List ℕ → Front
front [] = None
front (b ∷ bytes) = front_of b bytes
