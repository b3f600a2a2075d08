-- The two parts of a box have all of its points at which the decision is whole.
use Rattle.std.proofs.Common.{◌≡◌, ◌≢◌, ℕ, ◌<◌, Bool, true, false, refl, sym, ap, ◌∙◌, List, length, Option, Some, None, get_or, set, arith, subst, ◌⊎◌, inl, inr, cond, ℤ, pos, ◌+ℤ◌, get_or-set_same, get_or-set_other}
use Rattle.std.specs.Prelude.{◌≤ℤ◌}
use Rattle.std.proofs.lemmas.Int.{ints}
use borrow.Author.Differences.{at_most_in}
use Rattle.fractions.specs.Rational.{ℚ, ◌≤ℚ◌, le_ℚ, numerator}
use Rattle.fractions.specs.Whole.{whole_ℚ}
use Rattle.fractions.specs.Vectors.{at}
use Rattle.fractions.proofs.Whole.{whole-le}
use Rattle.linear_models.proofs.Wholes.{whole_is}
use Rattle.optimality.specs.Problem.{Assignment}
use Rattle.optimality.specs.Optimal.{IsWhole}
use Rattle.linear_models.specs.Box.{Box, InBox, bound_at, lesser, greater}
use Rattle.opt_certificate.specs.Certificate.{lower_child, upper_child}

some_is : {x y : ℚ} → Some x ≡ Some y → x ≡ y
some_is e = cc

-- a whole number is at most the floor, or at least the floor and 1
either : (n f : ℤ) → (n ≤ℤ f) ⊎ ((f +ℤ pos 1) ≤ℤ n)
either n f = cases (Rattle.std.specs.Prelude.int_le n f) refl
  where
    cases : (b : Bool) → Rattle.std.specs.Prelude.int_le n f ≡ b → (n ≤ℤ f) ⊎ ((f +ℤ pos 1) ≤ℤ n)
    cases true e = inl (at_most_in n f (omega (arith, ints)))
    cases false e = inr (at_most_in (f +ℤ pos 1) n (omega (arith, ints)))

pub sides : (x : ℚ) (f : ℤ) → IsWhole x → (x ≤ℚ whole_ℚ f) ⊎ (whole_ℚ (f +ℤ pos 1) ≤ℚ x)
sides x f e = elim (either (numerator x) f) [
  | inl h ↦ inl (subst (λ t. t ≤ℚ whole_ℚ f) (sym (whole_is x e)) ((whole-le _ _).1 h))
  | inr h ↦ inr (subst (λ t. whole_ℚ (f +ℤ pos 1) ≤ℚ t) (sym (whole_is x e)) ((whole-le _ _).1 h))
]

lesser_holds : (o : Option ℚ) (f x : ℚ) → ((b : ℚ) → o ≡ Some b → x ≤ℚ b) → x ≤ℚ f → x ≤ℚ lesser o f
lesser_holds None f x h i = i
lesser_holds (Some b) f x h i = cases (le_ℚ b f)
  where
    cases : (v : Bool) → x ≤ℚ cond v b f
    cases true = h b refl
    cases false = i

greater_holds : (o : Option ℚ) (f x : ℚ) → ((b : ℚ) → o ≡ Some b → b ≤ℚ x) → f ≤ℚ x → greater o f ≤ℚ x
greater_holds None f x h i = i
greater_holds (Some b) f x h i = cases (le_ℚ f b)
  where
    cases : (v : Bool) → cond v b f ≤ℚ x
    cases true = h b refl
    cases false = i

-- a list with one bound put in
after_set : (P : ℕ → ℚ → Type 0) (os : List (Option ℚ)) (j : ℕ) (c : ℚ) → j < length os → ((i : ℕ) (b : ℚ) → bound_at os i ≡ Some b → P i b) → P j c
    → (i : ℕ) (b : ℚ) → bound_at (set os j (Some c)) i ≡ Some b → P i b
after_set P os j c h old new i b e = cases (same_or_not i j)
  where
    same_or_not : (i j : ℕ) → (i ≡ j) ⊎ (i ≢ j)
    same_or_not i j = grind arith

    cases : (i ≡ j) ⊎ (i ≢ j) → P i b
    cases (inl q) =
        let k : Some c ≡ Some b = sym (get_or-set_same os j (Some c) None h) ∙ ap (λ k. get_or (set os j (Some c)) k None) (sym q) ∙ e in
        subst (λ k. P k b) (sym q) (subst (λ x. P j x) (some_is k) new)
    cases (inr n) = old i b (sym (get_or-set_other os j i (Some c) None n) ∙ e)

pub in_lower : (box : Box) (j : ℕ) (f : ℤ) (a : Assignment) → j < length box.greatest → InBox box a → at a j ≤ℚ whole_ℚ f → InBox (lower_child box j f) a
in_lower box j f a h i k = record {
  least = i.least;
  greatest = after_set (λ j b. at a j ≤ℚ b) box.greatest j _ h i.greatest (lesser_holds (bound_at box.greatest j) _ (at a j) (i.greatest j) k);
}

pub in_upper : (box : Box) (j : ℕ) (f : ℤ) (a : Assignment) → j < length box.least → InBox box a → whole_ℚ (f +ℤ pos 1) ≤ℚ at a j → InBox (upper_child box j f) a
in_upper box j f a h i k = record {
  least = after_set (λ j b. b ≤ℚ at a j) box.least j _ h i.least (greater_holds (bound_at box.least j) _ (at a j) (i.least j) k);
  greatest = i.greatest;
}
