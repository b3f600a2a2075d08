-- How far a word goes on.
use Rattle.std.proofs.Common.{◌≡◌, ◌∙◌, ◌<◌, ◌+◌, ℕ, suc, Bool, true, false, List, ◌∷◌, length, drop, get_or, drop-cons, add-one, refl, sym, ap, arith, if◌then◌else◌, inl, inr, ◌⊎◌}
use Rattle.std.specs.Prelude.{◌&&◌, not}
use Rattle.std.proofs.Math.ListN.{drop_of_length-le}
use Rattle.formula_lexer.specs.Front.{first, continues_word, opens_name, word_rest}

-- the byte at a place, with those behind it
parts : (bytes : List ℕ) (at : ℕ) → at < length bytes → drop at bytes ≡ get_or bytes at 0 ∷ drop (at + 1) bytes
parts bytes at lt = drop-cons bytes at 0 lt ∙ ap (λ n. get_or bytes at 0 ∷ drop n bytes) (sym (add-one at))

-- one byte more
pub goes_on : (bytes : List ℕ) (at : ℕ) → at < length bytes → continues_word (get_or bytes at 0) ≡ true → opens_name (get_or bytes at 0) (first (drop (at + 1) bytes)) ≡ false
    → word_rest bytes ≡ at + word_rest (drop at bytes) → word_rest bytes ≡ (at + 1) + word_rest (drop (at + 1) bytes)
goes_on bytes at lt on other so_far =
    let one : word_rest (drop at bytes) ≡ suc (word_rest (drop (at + 1) bytes)) =
    ap word_rest (parts bytes at lt) ∙ ap (λ t. if t && not (opens_name (get_or bytes at 0) (first (drop (at + 1) bytes))) then suc (word_rest (drop (at + 1) bytes)) else 0) on
    ∙ ap (λ t. if not t then suc (word_rest (drop (at + 1) bytes)) else 0) other in
    omega (arith, so_far, one)

no_and : (a c : Bool) → (a ≡ false) ⊎ (c ≡ true) → (a && not c) ≡ false
no_and true c (inl e) = cc e
no_and true c (inr e) = ap not e
no_and false c h = refl

-- it ends there
pub ends_here : (bytes : List ℕ) (at : ℕ) → at < length bytes → (continues_word (get_or bytes at 0) ≡ false) ⊎ (opens_name (get_or bytes at 0) (first (drop (at + 1) bytes)) ≡ true)
    → word_rest bytes ≡ at + word_rest (drop at bytes) → at ≡ word_rest bytes
ends_here bytes at lt stop so_far =
    let none : word_rest (drop at bytes) ≡ 0 =
    ap word_rest (parts bytes at lt)
    ∙ ap (λ t. if t then suc (word_rest (drop (at + 1) bytes)) else 0) (no_and (continues_word (get_or bytes at 0)) (opens_name (get_or bytes at 0) (first (drop (at + 1) bytes))) stop) in
    omega (arith, so_far, none)

-- or with the text
pub ends_last : (bytes : List ℕ) → word_rest bytes ≡ length bytes + word_rest (drop (length bytes) bytes) → length bytes ≡ word_rest bytes
ends_last bytes so_far =
    let none : word_rest (drop (length bytes) bytes) ≡ 0 = ap word_rest (drop_of_length-le bytes (omega arith)) in
    omega (arith, so_far, none)
