-- The areas and places of a formula's references, gone through area by area.
use Rattle.std.proofs.Common.{◌≡◌, ℕ, ◌+◌, ◌*◌, ◌<◌, ap, arith, inl, inr}
use Rattle.std.proofs.lemmas.Bool.{cases_order}
use Rattle.std.proofs.lemmas.Nat.{mul-add-lt}

-- those of an area come before those of each later one
pub earlier_area : (n a p b q : ℕ) → a < b → p < n → a * n + p < b * n + q
earlier_area n a p b q h lt =
    let row : a * n + p < n * b = mul-add-lt a n p b h lt in
    omega (arith, row)

pub same_place : (n a p b q : ℕ) → p < n → q < n → a * n + p ≡ b * n + q → p ≡ q
same_place n a p b q h k e =
    elim (cases_order a b) as (λ _. p ≡ q) [
      | inl s ↦ let r : a * n ≡ b * n = ap (λ x. x * n) s in omega (arith, r)
      | inr w ↦ elim w as (λ _. p ≡ q) [
        | inl l ↦ let less = earlier_area n a p b q l h in absurd (omega arith)
        | inr l ↦ let less = earlier_area n b q a p l k in absurd (omega arith)
      ]
    ]
