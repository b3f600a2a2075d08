-- Places in a list, and where there is none.
use Rattle.std.proofs.Common.{◌≡◌, ◌+◌, ◌≤◌, ℕ, suc, Bool, true, false, cond, List, [], ◌∷◌, length, Some, None, refl, ap, ◌∙◌, arith}
use Rattle.std.specs.Prelude.{◌||◌, not, position, nat_lt}
use Rattle.std.specs.List.{list_any, position_or_len}
use Rattle.std.proofs.lemmas.Bool.Decides.{nat_tests}

pub is_past : (q n : ℕ) → cond (nat_lt q n) (Some q) None ≡ None → n ≤ q
is_past q n e = by_case (nat_lt q n) refl e
  where
    by_case : (b : Bool) → nat_lt q n ≡ b → cond b (Some q) None ≡ None → n ≤ q
    by_case true h k = absurd cc
    by_case false h k = grind (arith, nat_tests)

pub is_none : (q n : ℕ) → n ≤ q → cond (nat_lt q n) (Some q) None ≡ None
is_none q n h = let e : nat_lt q n ≡ false = grind (arith, nat_tests) in ap (λ b. cond b (Some q) None) e

pub nowhere : {A : Type 0} (p : A → Bool) (x : A) (xs : List A) → position p (x ∷ xs) ≡ None → (p x ≡ false) × (position p xs ≡ None)
nowhere p x xs e = by_case (p x) refl (is_past (position_or_len p (x ∷ xs)) (suc (length xs)) e)
  where
    by_case : (b : Bool) → p x ≡ b → suc (length xs) ≤ position_or_len p (x ∷ xs) → (p x ≡ false) × (position p xs ≡ None)
    by_case true h k =
        let first : position_or_len p (x ∷ xs) ≡ 0 = ap (λ b. cond (not b) (1 + position_or_len p xs) 0) h in
        absurd (omega arith)
    by_case false h k =
        let later : position_or_len p (x ∷ xs) ≡ 1 + position_or_len p xs = ap (λ b. cond (not b) (1 + position_or_len p xs) 0) h in
        (h, is_none (position_or_len p xs) (length xs) (omega arith))

-- where no place passes, no element does
pub none_passes : {A : Type 0} (p : A → Bool) (xs : List A) → position p xs ≡ None → list_any p xs ≡ false
none_passes p [] e = refl
none_passes p (x ∷ xs) e = let k = nowhere p x xs e in ap (λ b. b || list_any p xs) k.0 ∙ none_passes p xs k.1
