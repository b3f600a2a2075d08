-- Texts with their quotes doubled.
use Rattle.std.proofs.Common.{◌≡◌, ◌≢◌, ℕ, List, [], ◌∷◌, ◌++◌, true, false, refl, ap, append-nil, lit<}
use Rattle.std.specs.Prelude.{encode_utf8, encode_utf8_all, ◌==◌, if◌then◌else◌}
use Rattle.std.proofs.lemmas.Str.{encodes-append}
use Rattle.commands.specs.Lines.{doubled}
use Rattle.commands.proofs.Others.{NoQuotes, other_char}

doubled-append : (a b : List ℕ) → doubled (a ++ b) ≡ doubled a ++ doubled b
doubled-append [] b = refl
doubled-append (x ∷ a) b = elim (x == 34) as (λ t. (if t then 34 ∷ 34 ∷ doubled (a ++ b) else x ∷ doubled (a ++ b)) ≡ (if t then 34 ∷ 34 ∷ doubled a else x ∷ doubled a) ++ doubled b) [
  | true ↦ ap (λ l. 34 ∷ 34 ∷ l) (doubled-append a b)
  | false ↦ ap (λ l. x ∷ l) (doubled-append a b)
]

doubled_others : (bs : List ℕ) → NoQuotes 34 bs → doubled bs ≡ bs
doubled_others [] h = refl
doubled_others (b ∷ bs) h = rw (h.0, doubled_others bs h.1) refl

-- a character but the quote stays one
pub doubled_other : (c : ℕ) → c ≢ 34 → doubled (encode_utf8 c) ≡ encode_utf8 c
doubled_other c other = doubled_others (encode_utf8 c) (other_char 34 c (lit< tt) other)

-- one character more
pub doubled_more : (done : List ℕ) (c : ℕ) → doubled (encode_utf8_all (done ++ c ∷ [])) ≡ doubled (encode_utf8_all done) ++ doubled (encode_utf8 c)
doubled_more done c = rw (encodes-append done (c ∷ []), append-nil (encode_utf8 c), doubled-append (encode_utf8_all done) (encode_utf8 c)) refl
