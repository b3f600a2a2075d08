-- Words at the front of bytes.
use Rattle.std.proofs.Common.{◌≡◌, ◌≤◌, ℕ, Bool, true, false, List, [], ◌∷◌, length, arith}
use Rattle.std.specs.Prelude.{◌&&◌, nat_eq}
use Rattle.formula_lexer.specs.Front.{begins_with}

second : (b c : Bool) → (b && c) ≡ true → c ≡ true
second true c h = h
second false c h = cc h

-- a word at the front is no longer than the bytes
pub begins_within : (word bytes : List ℕ) → begins_with word bytes ≡ true → length word ≤ length bytes
begins_within [] bytes h = omega arith
begins_within (w ∷ word) [] h = cc h
begins_within (w ∷ word) (b ∷ bytes) h = let k = begins_within word bytes (second (nat_eq w b) (begins_with word bytes) h) in omega (arith, k)
