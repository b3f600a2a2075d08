-- The tokens of a text, found and cut.
use Rattle.std.proofs.Common.{◌≡◌, ℕ, zero, suc, ◌+◌, Bool, true, false, cond, List, [], ◌∷◌, drop, Option, Some, None, refl, subst}
use Rattle.std.specs.Prelude.{option_map}
use Rattle.std.specs.Option.{option_and_then}
use Rattle.formula_lexer.specs.declared.token.TokenKind.{TokenKind}
use Rattle.formula_lexer.specs.declared.token.Token.{Token}
use Rattle.formula_lexer.specs.Front.{front, is_blank}
use Rattle.formula_lexer.specs.Tokens.{token, Tokens, ends, blank, begins}
use Rattle.formula_parser.specs.TextTrees.{tokens_from}

-- the tokens that are found are those of the text
pub tokens_cut : (n at : ℕ) (bytes : List ℕ) (ts : List Token) → tokens_from n at bytes ≡ Some ts → Tokens at bytes ts
unfolding tokens_from
tokens_cut zero at bytes ts e = absurd cc
tokens_cut (suc n) at [] ts e = let k : [] ≡ ts = cc in subst (Tokens at []) k ends
tokens_cut (suc n) at (b ∷ bytes) ts e = by_blank (λ to from us h. tokens_cut n to from us h) (is_blank b) refl e
  where
    rest_of : Option (TokenKind × ℕ) → Option (List Token)
    rest_of = option_and_then (λ (f : TokenKind × ℕ). option_map (λ us. token f.0 at f.1 ∷ us) (tokens_from n (at + f.1) (drop f.1 (b ∷ bytes))))

    Later : Type 0
    Later = (to : ℕ) (from : List ℕ) (us : List Token) → tokens_from n to from ≡ Some us → Tokens to from us

    behind : Later → (kind : TokenKind) (len : ℕ) (o : Option (List Token)) → tokens_from n (at + len) (drop len (b ∷ bytes)) ≡ o → is_blank b ≡ false → front (b ∷ bytes) ≡ Some (kind, len)
        → option_map (λ us. token kind at len ∷ us) o ≡ Some ts → Tokens at (b ∷ bytes) ts
    behind later kind len None o is f h = absurd cc
    behind later kind len (Some us) o is f h =
        let k : token kind at len ∷ us ≡ ts = cc in
        subst (Tokens at (b ∷ bytes)) k (begins kind len is f (later (at + len) (drop len (b ∷ bytes)) us o))

    by_front : Later → (f : Option (TokenKind × ℕ)) → front (b ∷ bytes) ≡ f → is_blank b ≡ false → rest_of f ≡ Some ts → Tokens at (b ∷ bytes) ts
    by_front later None f is h = absurd cc
    by_front later (Some (kind, len)) f is h = behind later kind len (tokens_from n (at + len) (drop len (b ∷ bytes))) refl is f h

    by_blank : Later → (t : Bool) → is_blank b ≡ t → cond t (tokens_from n (suc at) bytes) (rest_of (front (b ∷ bytes))) ≡ Some ts → Tokens at (b ∷ bytes) ts
    by_blank later true is h = blank is (later (suc at) bytes ts h)
    by_blank later false is h = by_front later (front (b ∷ bytes)) refl is h
