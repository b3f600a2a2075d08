-- At each point all groups are different, or two decisions are the first that are alike.
use Rattle.std.proofs.Common.{◌≡◌, ◌≢◌, ◌⊎◌, inl, inr, ℕ, zero, suc, ◌+◌, ◌<◌, ◌≤◌, refl, sym, ap, ◌∙◌, subst, Bool, true, false, List, [], ◌∷◌, length, get_or, Some, arith}
use Rattle.std.specs.Prelude.{slice_get}
use Rattle.std.specs.List.{AllByRecursion}
use Rattle.std.proofs.lemmas.List.Elements.{All-from_recursion, recursion_from_All}
use Rattle.fractions.specs.Vectors.{at}
use Rattle.fractions.proofs.Order.{eq_or_ne}
use Rattle.optimality.specs.Problem.{Assignment}
use Rattle.optimality.specs.Groups.{AreDifferent}
use Rattle.linear_models.specs.Statement.{IsOnce, is_in}
use Rattle.linear_models.proofs.Groups.{place_of, in_at}
use Rattle.opt_certificate.proofs.Clashes.{same_decision, group_at}
use Rattle.searches.specs.Alike.{AreAlike, AreFirstAlike, AlikeOrDifferent}

-- ---- the least number of a kind
-- of the numbers below n the least that has the property, or none has it
least_of : (P : ℕ → Type 0) → ((i : ℕ) → P i ⊎ ¬ (P i)) → (n : ℕ) → ((i : ℕ) × (i < n) × P i × ((k : ℕ) → P k → i ≤ k)) ⊎ ((i : ℕ) → i < n → ¬ (P i))
least_of P d zero = inr (λ i l. absurd (omega (arith, l)))
least_of P d (suc n) = cases (least_of P d n) (d n)
  where
    or_last : (i n : ℕ) → i < suc n → (i < n) ⊎ (i ≡ n)
    or_last i n l = grind arith

    or_above : (k n : ℕ) → (k < n) ⊎ (n ≤ k)
    or_above k n = grind arith

    cases : ((i : ℕ) × (i < n) × P i × ((k : ℕ) → P k → i ≤ k)) ⊎ ((i : ℕ) → i < n → ¬ (P i)) → P n ⊎ ¬ (P n)
        → ((i : ℕ) × (i < suc n) × P i × ((k : ℕ) → P k → i ≤ k)) ⊎ ((i : ℕ) → i < suc n → ¬ (P i))
    cases (inl h) p = let l : h.0 < n = h.1 in inl (h.0, omega (arith, l), h.2, h.3)
    cases (inr h) (inl p) = inl (n, omega arith, p, λ k q. elim (or_above k n) [ inl l ↦ absurd (h k l q) | inr l ↦ l ])
    cases (inr h) (inr m) = inr (λ i l. elim (or_last i n l) [ inl q ↦ h i q | inr q ↦ subst (λ i. ¬ (P i)) (sym q) m ])

-- a number above all of a list
above : List ℕ → ℕ
above [] = 0
above (j ∷ js) = suc (j + above js)

below_above : (j : ℕ) (js : List ℕ) → is_in j js ≡ true → j < above js
unfolding above
below_above j js e = let p = place_of j js e in subst (λ j. j < above js) p.2 (each p.0 js p.1)
  where
    each : (i : ℕ) (js : List ℕ) → i < length js → get_or js i 0 < above js
    each i [] l = absurd (omega (arith, l))
    each zero (j ∷ js) l = omega arith
    each (suc i) (j ∷ js) l = let h = each i js (omega (arith, l)) in omega (arith, h)

-- ---- one group
is_true : (b : Bool) → (b ≡ true) ⊎ (b ≢ true)
is_true true = inl refl
is_true false = inr (λ e. cc)

alike : (x : Assignment) (g : List ℕ) (i j : ℕ) → AreAlike x g i j ⊎ ¬ (AreAlike x g i j)
alike x g i j = cases (is_true (is_in i g)) (is_true (is_in j g)) (less i j) (eq_or_ne (at x i) (at x j))
  where
    less : (i j : ℕ) → (i < j) ⊎ (j ≤ i)
    less i j = grind arith

    cases : (is_in i g ≡ true) ⊎ (is_in i g ≢ true) → (is_in j g ≡ true) ⊎ (is_in j g ≢ true) → (i < j) ⊎ (j ≤ i) → (at x i ≡ at x j) ⊎ (at x i ≢ at x j) → AreAlike x g i j ⊎ ¬ (AreAlike x g i j)
    cases (inl p) (inl q) (inl l) (inl e) = inl record { one = p; other = q; before = l; same = e }
    cases (inr n) q l e = inr (λ a. n a.one)
    cases p (inr n) l e = inr (λ a. n a.other)
    cases p q (inr l) e = inr (λ a. let b : i < j = a.before in absurd (omega (arith, b, l)))
    cases p q l (inr n) = inr (λ a. n a.same)

-- a partner of the decision
abbrev HasPartner : Assignment → List ℕ → ℕ → Type 0
HasPartner x g i = (j : ℕ) × AreAlike x g i j × ((b : ℕ) → AreAlike x g i b → j ≤ b)

partner : (x : Assignment) (g : List ℕ) (i : ℕ) → HasPartner x g i ⊎ ¬ (HasPartner x g i)
partner x g i = elim (least_of (AreAlike x g i) (alike x g i) (above g)) [
  | inl h ↦ inl (h.0, h.2, h.3)
  | inr n ↦ inr (λ h. n h.0 (below_above h.0 g h.1.other) h.1)
]

some_partner : (x : Assignment) (g : List ℕ) (i j : ℕ) → AreAlike x g i j → HasPartner x g i
some_partner x g i j a = elim (least_of (AreAlike x g i) (alike x g i) (above g)) [
  | inl h ↦ (h.0, h.2, h.3)
  | inr n ↦ absurd (n j (below_above j g a.other) a)
]

-- the first pair of a group
record IsFirstPair (x : Assignment) (g : List ℕ) (i j : ℕ) : Type 0 where
  pub alike : AreAlike x g i j
  pub least : (a b : ℕ) → AreAlike x g a b → i ≤ a
  pub then_least : (b : ℕ) → AreAlike x g i b → j ≤ b

one_group : (x : Assignment) (g : List ℕ) → ((i : ℕ) × (j : ℕ) × IsFirstPair x g i j) ⊎ ((i j : ℕ) → ¬ (AreAlike x g i j))
one_group x g = elim (least_of (HasPartner x g) (partner x g) (above g)) [
  | inl h ↦ let p = h.2 in inl (h.0, p.0, record { alike = p.1; least = λ a b q. h.3 a (some_partner x g a b q); then_least = p.2 })
  | inr n ↦ inr (λ i j a. n i (below_above i g a.one) (some_partner x g i j a))
]

-- a group with no such pair is different, if no decision stands in it twice
without_pair : (x : Assignment) (g : List ℕ) → IsOnce g → ((i j : ℕ) → ¬ (AreAlike x g i j)) → AreDifferent x g
without_pair x g o n = record { apart = λ i k l m e. by_order i k l m e (order (get_or g i 0) (get_or g k 0)) }
  where
    order : (a b : ℕ) → ((a < b) ⊎ (b < a)) ⊎ (a ≡ b)
    order a b = grind arith

    by_order : (i k : ℕ) → i < length g → k < length g → at x (get_or g i 0) ≡ at x (get_or g k 0) → ((get_or g i 0 < get_or g k 0) ⊎ (get_or g k 0 < get_or g i 0)) ⊎ (get_or g i 0 ≡ get_or g k 0) → i ≡ k
    by_order i k l m e (inl (inl b)) = absurd (n _ _ record { one = in_at i g l; other = in_at k g m; before = b; same = e })
    by_order i k l m e (inl (inr b)) = absurd (n _ _ record { one = in_at k g m; other = in_at i g l; before = b; same = sym e })
    by_order i k l m e (inr q) = o i k l m q

with_pair : (x : Assignment) (g : List ℕ) (i j : ℕ) → AreDifferent x g → AreAlike x g i j → ⊥
with_pair x g i j d a = let b : i < j = a.before in let e = same_decision x g i j d a.one a.other a.same in absurd (omega (arith, b, e))

-- ---- all groups
either : (x : Assignment) (gs : List (List ℕ)) → AllByRecursion IsOnce gs → AllByRecursion (AreDifferent x) gs ⊎ ((i : ℕ) × (j : ℕ) × AreFirstAlike x gs i j)
either x [] o = inl tt
either x (g ∷ gs) o = cases (one_group x g) (either x gs o.1)
  where
    cases : ((i : ℕ) × (j : ℕ) × IsFirstPair x g i j) ⊎ ((i j : ℕ) → ¬ (AreAlike x g i j)) → AllByRecursion (AreDifferent x) gs ⊎ ((i : ℕ) × (j : ℕ) × AreFirstAlike x gs i j)
        → AllByRecursion (AreDifferent x) (g ∷ gs) ⊎ ((i : ℕ) × (j : ℕ) × AreFirstAlike x (g ∷ gs) i j)
    cases (inl f) r = inr (f.0, f.1, record { place = 0; group = g; group_is = refl; alike = f.2.alike; first_group = λ k h a b l e p. absurd (omega (arith, l)); least = f.2.least; then_least = f.2.then_least })
    cases (inr n) (inl h) = inl (without_pair x g o.0 n, h)
    cases (inr n) (inr f) = inr (f.0, f.1, further f.2)
      where
        none : (k : ℕ) (h : List ℕ) (a b : ℕ) (p : ℕ) → k < suc p → slice_get (g ∷ gs) k ≡ Some h → AreAlike x h a b → ((k : ℕ) (h : List ℕ) (a b : ℕ) → k < p → slice_get gs k ≡ Some h → AreAlike x h a b → ⊥) → ⊥
        none zero h a b p l e q m = n a b (subst (λ (h : List ℕ). AreAlike x h a b) (sym (same g h e)) q)
          where
            same : (a b : List ℕ) → Some a ≡ Some b → a ≡ b
            same a b e = cc
        none (suc k) h a b p l e q m = m k h a b (omega (arith, l)) e q

        further : {i j : ℕ} → AreFirstAlike x gs i j → AreFirstAlike x (g ∷ gs) i j
        further f = record { place = suc f.place; group = f.group; group_is = f.group_is; alike = f.alike; first_group = λ k h a b l e q. none k h a b f.place l e q f.first_group; least = f.least; then_least = f.then_least }

one_pair : (x : Assignment) (gs : List (List ℕ)) (i j a b : ℕ) → AreFirstAlike x gs i j → AreFirstAlike x gs a b → (i ≡ a) × (j ≡ b)
one_pair x gs i j a b f h = by_order (order f.place h.place)
  where
    order : (a b : ℕ) → ((a < b) ⊎ (b < a)) ⊎ (a ≡ b)
    order a b = grind arith

    same : (g k : List ℕ) → Some g ≡ Some k → g ≡ k
    same g k e = cc

    both : {a b : ℕ} → a ≤ b → b ≤ a → a ≡ b
    both l m = omega (arith, l, m)

    in_one : h.group ≡ f.group → (i ≡ a) × (j ≡ b)
    in_one e =
        let there : AreAlike x f.group a b = subst (λ (g : List ℕ). AreAlike x g a b) e h.alike in
        let back : AreAlike x h.group i j = subst (λ (g : List ℕ). AreAlike x g i j) (sym e) f.alike in
        let q : i ≡ a = both (f.least a b there) (h.least i j back) in
        (q, both (f.then_least b (subst (λ k. AreAlike x f.group k b) (sym q) there)) (h.then_least j (subst (λ k. AreAlike x h.group k j) q back)))

    by_order : ((f.place < h.place) ⊎ (h.place < f.place)) ⊎ (f.place ≡ h.place) → (i ≡ a) × (j ≡ b)
    by_order (inl (inl l)) = absurd (h.first_group f.place f.group i j l f.group_is f.alike)
    by_order (inl (inr l)) = absurd (f.first_group h.place h.group a b l h.group_is h.alike)
    by_order (inr e) = in_one (same h.group f.group (sym h.group_is ∙ ap (slice_get gs) (sym e) ∙ f.group_is))

pub alike_or_different : AlikeOrDifferent
alike_or_different = record {
  either = λ x gs o. elim (either x gs (recursion_from_All IsOnce gs o)) [ inl h ↦ inl (All-from_recursion (AreDifferent x) gs h) | inr f ↦ inr f ];
  not_both = λ x gs i j d f. with_pair x f.group i j (group_at (AreDifferent x) gs f.place f.group (recursion_from_All _ gs d) f.group_is) f.alike;
  one_pair = one_pair;
}
