-- The token in front by example. What is expected was worked out by hand.
use Rattle.std.specs.Prelude.{◌≡◌, ℕ, List, [], ◌∷◌, Option, Some, None, codes}
use Rattle.formula_lexer.specs.declared.token.TokenKind.{TokenKind}
use Rattle.formula_lexer.specs.declared.token.TokenKind.TheVariants as kind
use Rattle.formula_lexer.specs.Front.{front}

-- a text, and the kind and the length of the token in front of it, if there is one
abbrev pub Example : Type 0
Example = List ℕ × Option (TokenKind × ℕ)

abbrev pub Hold : List Example → Type 0
Hold [] = Unit {0}
Hold (e ∷ es) = (front e.0 ≡ e.1) × Hold es

-- numbers, and what looks like one
abbrev pub numbers : List Example
numbers =
    (codes "12.5e-3+A1", Some (kind.Number, 7))
    ∷ (codes "1e+", Some (kind.Number, 1))
    ∷ (codes "1.:2", Some (kind.Number, 2))
    ∷ (codes ".5", Some (kind.Number, 2))
    ∷ (codes ".A1", Some (kind.Mark, 1))
    ∷ []

-- quotes: 34 is a double one
abbrev pub quotes : List Example
quotes =
    (34 ∷ 97 ∷ 34 ∷ 34 ∷ 98 ∷ 34 ∷ 38 ∷ [], Some (kind.Text, 6))
    ∷ (34 ∷ 97 ∷ 34 ∷ 34 ∷ 98 ∷ [], None)
    ∷ (codes "'a b'!C1", Some (kind.Quoted, 5))
    ∷ (codes "$'a b'.C1", Some (kind.Quoted, 6))
    ∷ []

-- words, errors and marks
abbrev pub others : List Example
others =
    (codes "$A$1:B2", Some (kind.Word, 4))
    ∷ (codes "a$'b'", Some (kind.Word, 1))
    ∷ (codes "a$$'b'", Some (kind.Word, 2))
    ∷ (codes "#N/A)", Some (kind.Fault, 4))
    ∷ (codes "#CIRCULAR", None)
    ∷ (codes "<=1", Some (kind.Mark, 2))
    ∷ (codes "=<1", Some (kind.Mark, 1))
    ∷ []
