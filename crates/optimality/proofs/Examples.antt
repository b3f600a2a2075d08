-- What problems with one group permit.
use Rattle.std.proofs.Common.{◌≡◌, ℕ, zero, suc, ◌<◌, ◌≤◌, refl, sym, ◌∙◌, List, [], ◌∷◌, length, arith, pos}
use Rattle.std.specs.Prelude.{All}
use Rattle.std.proofs.lemmas.List.Elements.{All-from_recursion, recursion_from_All}
use Rattle.fractions.specs.Whole.{whole_ℚ}
use Rattle.fractions.proofs.Whole.{whole_injective}
use Rattle.optimality.specs.Problem.{Assignment}
use Rattle.optimality.specs.Groups.{held_at, AreDifferent, HoldsEachOnce}
use Rattle.optimality.specs.Optimal.{Permitted}
use Rattle.optimality.specs.Examples.{with_groups, number, NumberedThree, DifferentTwo}

same_number : (a b : ℕ) → number a ≡ number b → a ≡ b
same_number a b e = same_pos (whole_injective (pos a) (pos b) e)
  where
    same_pos : pos a ≡ pos b → a ≡ b
    same_pos q = cc

nothing_else : (n : ℕ) (numbered different : List (List ℕ)) (a : Assignment) → length a ≡ n → All (HoldsEachOnce a) numbered → All (AreDifferent a) different → Permitted (with_groups n numbered different) a
nothing_else n numbered different a e h d = record {
  one_each = e;
  rows = All-from_recursion _ [] tt;
  whole = All-from_recursion _ [] tt;
  binary = All-from_recursion _ [] tt;
  not_negative = All-from_recursion _ [] tt;
  numbered = h;
  different = d;
  reached = tt;
}

-- ---- three that are 1 to 3
abbrev order : Assignment
order = number 2 ∷ number 3 ∷ number 1 ∷ []

abbrev three : List ℕ
three = 0 ∷ 1 ∷ 2 ∷ []

in_order : HoldsEachOnce order three
in_order = record { within = within; each = each; once = record { apart = apart } }
  where
    within : (i : ℕ) → i < 3 → (n : ℕ) × (1 ≤ n) × (n ≤ 3) × (held_at order three i ≡ whole_ℚ (pos n))
    within zero l = (2, omega arith, omega arith, refl)
    within (suc zero) l = (3, omega arith, omega arith, refl)
    within (suc (suc zero)) l = (1, omega arith, omega arith, refl)
    within (suc (suc (suc i))) l = absurd (omega (arith, l))

    each : (n : ℕ) → 1 ≤ n → n ≤ 3 → (i : ℕ) × (i < 3) × (held_at order three i ≡ whole_ℚ (pos n))
    each zero l m = absurd (omega (arith, l))
    each (suc zero) l m = (2, omega arith, refl)
    each (suc (suc zero)) l m = (0, omega arith, refl)
    each (suc (suc (suc zero))) l m = (1, omega arith, refl)
    each (suc (suc (suc (suc n)))) l m = absurd (omega (arith, m))

    place : ℕ → ℕ
    place zero = 2
    place (suc zero) = 3
    place (suc (suc i)) = 1

    held : (i : ℕ) → i < 3 → held_at order three i ≡ number (place i)
    held zero l = refl
    held (suc zero) l = refl
    held (suc (suc zero)) l = refl
    held (suc (suc (suc i))) l = absurd (omega (arith, l))

    one_place : (i k : ℕ) → i < 3 → k < 3 → place i ≡ place k → i ≡ k
    one_place zero zero l m e = refl
    one_place zero (suc zero) l m e = absurd (omega (arith, e))
    one_place zero (suc (suc k)) l m e = absurd (omega (arith, e))
    one_place (suc zero) zero l m e = absurd (omega (arith, e))
    one_place (suc zero) (suc zero) l m e = refl
    one_place (suc zero) (suc (suc k)) l m e = absurd (omega (arith, e))
    one_place (suc (suc i)) zero l m e = absurd (omega (arith, e))
    one_place (suc (suc i)) (suc zero) l m e = absurd (omega (arith, e))
    one_place (suc (suc i)) (suc (suc k)) l m e = omega (arith, l, m)

    apart : (i k : ℕ) → i < 3 → k < 3 → held_at order three i ≡ held_at order three k → i ≡ k
    apart i k l m e = one_place i k l m (same_number (place i) (place k) (sym (held i l) ∙ e ∙ held k m))

first_of : (a : Assignment) (g : List ℕ) → All (HoldsEachOnce a) (g ∷ []) → HoldsEachOnce a g
first_of a g h = (recursion_from_All (HoldsEachOnce a) (g ∷ []) h).0

pub numbered_three : NumberedThree
numbered_three = record {
  in_another_order = nothing_else 3 (three ∷ []) [] order refl (All-from_recursion (HoldsEachOnce order) (three ∷ []) (in_order, tt)) (All-from_recursion (AreDifferent order) [] tt);
  two_equal = λ p. let e : 0 ≡ 1 = (first_of _ three p.numbered).once.apart 0 1 (omega arith) (omega arith) refl in absurd (omega (arith, e));
  beyond = λ p. let w = (first_of _ three p.numbered).within 1 (omega arith) in let e = same_number 4 w.0 w.3 in let l : w.0 ≤ 3 = w.2 in absurd (omega (arith, e, l));
}

-- ---- two that are different
apart_two : AreDifferent (number 7 ∷ number 0 ∷ []) (0 ∷ 1 ∷ [])
apart_two = record { apart = apart }
  where
    apart : (i k : ℕ) → i < 2 → k < 2 → held_at (number 7 ∷ number 0 ∷ []) (0 ∷ 1 ∷ []) i ≡ held_at (number 7 ∷ number 0 ∷ []) (0 ∷ 1 ∷ []) k → i ≡ k
    apart zero zero l m e = refl
    apart zero (suc zero) l m e = let q = same_number 7 0 e in absurd (omega (arith, q))
    apart (suc zero) zero l m e = let q = same_number 0 7 e in absurd (omega (arith, q))
    apart (suc zero) (suc zero) l m e = refl
    apart (suc (suc i)) k l m e = absurd (omega (arith, l))
    apart zero (suc (suc k)) l m e = absurd (omega (arith, m))
    apart (suc zero) (suc (suc k)) l m e = absurd (omega (arith, m))

pub different_two : DifferentTwo
different_two = record {
  beyond = nothing_else 2 [] ((0 ∷ 1 ∷ []) ∷ []) (number 7 ∷ number 0 ∷ []) refl (All-from_recursion (HoldsEachOnce _) [] tt) (All-from_recursion (AreDifferent (number 7 ∷ number 0 ∷ [])) ((0 ∷ 1 ∷ []) ∷ []) (apart_two, tt));
  two_equal = λ p. let e : 0 ≡ 1 = (recursion_from_All (AreDifferent (number 7 ∷ number 7 ∷ [])) ((0 ∷ 1 ∷ []) ∷ []) p.different).0.apart 0 1 (omega arith) (omega arith) refl in absurd (omega (arith, e));
}
