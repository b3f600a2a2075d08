-- How many elements of lists pass tests, where an element fails that passed before, and keys that differ.
use Rattle.std.proofs.Common.{◌≡◌, ℕ, zero, suc, ◌+◌, ◌<◌, ◌≤◌, Bool, true, false, cond, List, [], ◌∷◌, ◌++◌, length, refl, sym, ap, ◌∙◌, subst, Option, Some, None, nat_eq, arith}
use Rattle.std.specs.Prelude.{T, ◌==◌, ◌&&◌, ◌||◌, map, filter, is_some, slice_get}
use Rattle.std.specs.Cmp.{IsTotalOrder, eq_by_cmp_equiv, nat_cmp_total}
use Rattle.std.specs.FinMap.{FinMap, IsAntisymmetric, entries, entries_sorted, get, get-insert, insert, keys, len, len-insert, nat_cmp-IsAntisymmetric}
use Rattle.std.specs.FinMap.Entries.{below_all, is_sorted}
use Rattle.std.specs.List.{AllByRecursion, IsDistinct, list_any, find}
use Rattle.std.specs.Ordering.{eq_by_cmp, is_eq, is_lt, nat_cmp}
use Rattle.std.specs.declared.cmp.Ordering.{Ordering}
use Rattle.std.specs.declared.cmp.Ordering.TheVariants.{Less, Equal, Greater}
use Rattle.std.proofs.lemmas.Bool.{eq-eqb, eqb-true}
use Rattle.std.proofs.lemmas.Bool.Decides.{nat_tests}

-- ---- tests
both_first : (a b : Bool) → T (a && b) → T a
both_first true b h = tt
both_first false b h = h

both_second : (a b : Bool) → T (a && b) → T b
both_second true b h = h
both_second false b h = absurd h

less_apart : (o : Ordering) → T (is_lt o) → is_eq o ≡ false
less_apart Less h = refl
less_apart Equal h = absurd h
less_apart Greater h = absurd h

pub equal_of : (o : Ordering) → is_eq o ≡ true → o ≡ Equal
equal_of Less h = absurd cc
equal_of Equal h = refl
equal_of Greater h = absurd cc

both_any : (a b c : Bool) → (b ≡ true → c ≡ true) → (a || b) ≡ true → (a || c) ≡ true
both_any true b c h k = refl
both_any false b c h k = h k

-- ---- keys that differ
module _ {K X : Type 0} (R : K → K → Ordering) where
  apart_from_all : (k : K) (es : List (K × X)) → T (below_all R k es) → AllByRecursion (λ y. eq_by_cmp R k y ≡ false) (map (λ e. e.0) es)
  apart_from_all k [] h = tt
  apart_from_all k (e ∷ es) h = (less_apart (R k e.0) (both_first _ _ h), apart_from_all k es (both_second _ _ h))

  apart_sorted : (es : List (K × X)) → T (is_sorted R es) → IsDistinct (eq_by_cmp R) (map (λ e. e.0) es)
  unfolding IsDistinct
  apart_sorted [] h = tt
  apart_sorted (e ∷ es) h = (apart_from_all e.0 es (both_first _ _ h), apart_sorted es (both_second _ _ h))

-- the keys of a map do
pub keys_differ : {K X : Type 0} {R : K → K → Ordering} (m : FinMap R X) → IsDistinct (eq_by_cmp R) (keys m)
keys_differ {R = R} m = apart_sorted R (entries m) (entries_sorted m)

-- so do those that pass a test
module _ {A : Type 0} (eq : A → A → Bool) (f : A → Bool) where
  filter_apart : (a : A) (xs : List A) → AllByRecursion (λ y. eq a y ≡ false) xs → AllByRecursion (λ y. eq a y ≡ false) (filter f xs)
  filter_apart a [] h = tt
  filter_apart a (x ∷ xs) h = by (f x) (filter_apart a xs h.1)
    where
      by : (w : Bool) → AllByRecursion (λ y. eq a y ≡ false) (filter f xs) → AllByRecursion (λ y. eq a y ≡ false) (cond w (x ∷ filter f xs) (filter f xs))
      by true r = (h.0, r)
      by false r = r

  pub filter_differ : (xs : List A) → IsDistinct eq xs → IsDistinct eq (filter f xs)
  unfolding IsDistinct
  filter_differ [] h = tt
  filter_differ (x ∷ xs) h = by (f x) (filter_differ xs h.1)
    where
      by : (w : Bool) → IsDistinct eq (filter f xs) → IsDistinct eq (cond w (x ∷ filter f xs) (filter f xs))
      by true r = (filter_apart x xs h.0, r)
      by false r = r

  -- one that passes is among them
  pub filter_has : ((a b : A) → eq a b ≡ true → a ≡ b) → (a : A) → f a ≡ true → (xs : List A) → list_any (eq a) xs ≡ true → list_any (eq a) (filter f xs) ≡ true
  filter_has same a passes [] h = h
  filter_has same a passes (x ∷ xs) h = by (eq a x) refl (f x) refl h (filter_has same a passes xs)
    where
      by : (w : Bool) → eq a x ≡ w → (v : Bool) → f x ≡ v → (w || list_any (eq a) xs) ≡ true → (list_any (eq a) xs ≡ true → list_any (eq a) (filter f xs) ≡ true) → list_any (eq a) (cond v (x ∷ filter f xs) (filter f xs)) ≡ true
      by w e true u k later = both_any (eq a x) (list_any (eq a) xs) (list_any (eq a) (filter f xs)) later (ap (λ b. b || list_any (eq a) xs) e ∙ k)
      by false e false u k later = later k
      by true e false u k later = let never : true ≡ false = sym passes ∙ ap f (same a x e) ∙ u in absurd cc

-- ---- elements that pass
module _ {A : Type 0} (p : A → Bool) where
  pub one_passes : (xs : List A) → list_any p xs ≡ true → (i : ℕ) × (x : A) × (slice_get xs i ≡ Some x) × (p x ≡ true)
  one_passes [] h = absurd cc
  one_passes (x ∷ xs) h = by (p x) refl h (one_passes xs)
    where
      by : (w : Bool) → p x ≡ w → (w || list_any p xs) ≡ true → (list_any p xs ≡ true → (i : ℕ) × (y : A) × (slice_get xs i ≡ Some y) × (p y ≡ true)) → (i : ℕ) × (y : A) × (slice_get (x ∷ xs) i ≡ Some y) × (p y ≡ true)
      by true e k later = (0, x, refl, e)
      by false e k later = let r = later k in (suc r.0, r.1, r.2, r.3)

  pub passes_one : (xs : List A) (i : ℕ) (x : A) → slice_get xs i ≡ Some x → p x ≡ true → list_any p xs ≡ true
  passes_one [] i x at h = absurd cc
  passes_one (y ∷ xs) zero x at h = ap (λ (w : Bool). w || list_any p xs) (ap (λ (o : Option A). elim o as (λ _. Bool) [ Some c ↦ p c | None ↦ p x ]) at ∙ h)
  passes_one (y ∷ xs) (suc i) x at h = by (p y) (passes_one xs i x at h)
    where
      by : (w : Bool) → list_any p xs ≡ true → (w || list_any p xs) ≡ true
      by true k = refl
      by false k = k

-- ---- places
pub there_below : {A : Type 0} (xs : List A) (i : ℕ) (x : A) → slice_get xs i ≡ Some x → i < length xs
there_below [] i x at = absurd cc
there_below (y ∷ xs) zero x at = omega arith
there_below (y ∷ xs) (suc i) x at = let r = there_below xs i x at in omega (arith, r)

pub none_before : {A : Type 0} (p : ℕ) → p < 0 → A
none_before p less = absurd (omega (arith, less))

-- what holds before a place and at it holds before the next
pub before_or_at : (P : ℕ → Type 0) (n p : ℕ) → p < n + 1 → ((q : ℕ) → q < n → P q) → P n → P p
before_or_at P n p less before at = by (nat_eq p n) refl
  where
    by : (b : Bool) → nat_eq p n ≡ b → P p
    by true e = subst P (sym (eqb-true p n e)) at
    by false e = before p (grind (arith, nat_tests, e, less))

-- truth values that imply each other
pub alike : (v w : Bool) → (v ≡ true → w ≡ true) → (w ≡ true → v ≡ true) → v ≡ w
alike true w h k = sym (h refl)
alike false true h k = k refl
alike false false h k = refl

pub first_true : (v w : Bool) → (v && w) ≡ true → v ≡ true
first_true true w h = refl
first_true false w h = h

pub second_true : (v w : Bool) → (v && w) ≡ true → w ≡ true
second_true true w h = h
second_true false w h = absurd cc

-- ---- maps with one key more
module _ {K X : Type 0} {R : K → K → Ordering} (total : IsTotalOrder R) (exact : IsAntisymmetric R) (m : FinMap R X) (k : K) (v : X) where
  same_key : (a b : K) → eq_by_cmp R a b ≡ true → a ≡ b
  same_key a b h = exact a b (equal_of (R a b) h)

  pub put_has : get (insert m k v) k ≡ Some v
  put_has = get-insert total m k v k ∙ ap (λ w. cond w (Some v) (get m k)) ((eq_by_cmp_equiv total).refl k)

  pub put_apart : (q : K) → eq_by_cmp R k q ≡ false → get (insert m k v) q ≡ get m q
  put_apart q h = get-insert total m k v q ∙ ap (λ w. cond w (Some v) (get m q)) ((eq_by_cmp_equiv total).symm q k ∙ h)

  -- what holds of each entry and of the new one holds then
  pub put_holds : (P : K → X → Type 0) → P k v → ((q : K) (f : X) → get m q ≡ Some f → P q f) → (q : K) (f : X) → get (insert m k v) q ≡ Some f → P q f
  put_holds P here others q f at = by (eq_by_cmp R q k) refl (sym (get-insert total m k v q) ∙ at)
    where
      by : (w : Bool) → eq_by_cmp R q k ≡ w → cond (eq_by_cmp R q k) (Some v) (get m q) ≡ Some f → P q f
      by true e h =
          let is : v ≡ f = ap (λ (o : Option X). elim o as (λ _. X) [ Some c ↦ c | None ↦ v ]) (ap (λ w. cond w (Some v) (get m q)) (sym e) ∙ h) in
          subst (λ j. P j f) (sym (same_key q k e)) (subst (P k) is here)
      by false e h = others q f (ap (λ w. cond w (Some v) (get m q)) (sym e) ∙ h)

  module _ (none : get m k ≡ None) where
    pub put_keeps : (q : K) (f : X) → get m q ≡ Some f → get (insert m k v) q ≡ Some f
    put_keeps q f at = by (eq_by_cmp R k q) refl
      where
        by : (w : Bool) → eq_by_cmp R k q ≡ w → get (insert m k v) q ≡ Some f
        by true e = let never : None ≡ Some f = sym none ∙ ap (get m) (same_key k q e) ∙ at in absurd cc
        by false e = put_apart q e ∙ at

    pub put_length : len (insert m k v) ≡ len m + 1
    put_length = len-insert total m k v ∙ ap (λ (o : Option X). cond (is_some o) (len m) (len m + 1)) none

-- ---- counts
-- how many pass a test
abbrev pub passing : {A : Type 0} → (A → Bool) → List A → ℕ
passing p [] = 0
passing p (x ∷ xs) = cond (p x) 1 0 + passing p xs

module _ {A : Type 0} where
  pub count_append : (p : A → Bool) (xs ys : List A) → passing p (xs ++ ys) ≡ passing p xs + passing p ys
  count_append p [] ys = omega arith
  count_append p (x ∷ xs) ys = let e = count_append p xs ys in omega (arith, e)

  pub count_map : {B : Type 0} (p : A → Bool) (g : B → A) (xs : List B) → passing p (map g xs) ≡ passing (λ x. p (g x)) xs
  count_map p g [] = refl
  count_map p g (x ∷ xs) = ap (λ n. cond (p (g x)) 1 0 + n) (count_map p g xs)

  pub count_filter : (p : A → Bool) (xs : List A) → length (filter p xs) ≡ passing p xs
  count_filter p [] = refl
  count_filter p (x ∷ xs) = by (p x) (count_filter p xs)
    where
      by : (w : Bool) → length (filter p xs) ≡ passing p xs → length (cond w (x ∷ filter p xs) (filter p xs)) ≡ cond w 1 0 + passing p xs
      by true e = omega (arith, e)
      by false e = omega (arith, e)

  module _ (eq : A → A → Bool) (same : (a b : A) → eq a b ≡ true → a ≡ b) (p q : A → Bool) (a : A) (others : (b : A) → eq a b ≡ false → p b ≡ q b) where
    as_many : (xs : List A) → AllByRecursion (λ b. eq a b ≡ false) xs → passing p xs ≡ passing q xs
    as_many [] h = refl
    as_many (x ∷ xs) h = λ i. cond (others x h.0 i) 1 0 + as_many xs h.1 i

    -- where an element fails that passed, one fewer passes
    pub one_fewer : p a ≡ true → q a ≡ false → (xs : List A) → IsDistinct eq xs → list_any (eq a) xs ≡ true → passing p xs ≡ passing q xs + 1
    unfolding IsDistinct
    one_fewer passed fails [] h k = absurd cc
    one_fewer passed fails (x ∷ xs) h k = by (eq a x) refl k (λ j. one_fewer passed fails xs h.1 j)
      where
        by : (w : Bool) → eq a x ≡ w → (w || list_any (eq a) xs) ≡ true → (list_any (eq a) xs ≡ true → passing p xs ≡ passing q xs + 1) → cond (p x) 1 0 + passing p xs ≡ cond (q x) 1 0 + passing q xs + 1
        by true e j more =
            let is : a ≡ x = same a x e in
            let rest : passing p xs ≡ passing q xs = as_many xs (subst (λ y. AllByRecursion (λ b. eq y b ≡ false) xs) (sym is) h.0) in
            let was : cond {A = ℕ} (p x) 1 0 ≡ 1 = ap (λ y. cond (p y) 1 0) (sym is) ∙ ap (λ w. cond w 1 0) passed in
            let now : cond {A = ℕ} (q x) 1 0 ≡ 0 = ap (λ y. cond (q y) 1 0) (sym is) ∙ ap (λ w. cond w 1 0) fails in
            omega (arith, rest, was, now)
        by false e j more =
            let rest = more j in
            let here : cond {A = ℕ} (p x) 1 0 ≡ cond (q x) 1 0 = ap (λ w. cond w 1 0) (others x e) in
            omega (arith, rest, here)

  -- no more pass a test that passes only where another does
  pub no_more_pass : (p q : A → Bool) → ((a : A) → q a ≡ true → p a ≡ true) → (xs : List A) → passing q xs ≤ passing p xs
  no_more_pass p q h [] = omega arith
  no_more_pass p q h (x ∷ xs) = by (q x) (p x) (h x) (no_more_pass p q h xs)
    where
      by : (w v : Bool) → (w ≡ true → v ≡ true) → passing q xs ≤ passing p xs → cond w 1 0 + passing q xs ≤ cond v 1 0 + passing p xs
      by true true k r = omega (arith, r)
      by true false k r = let never : false ≡ true = k refl in absurd cc
      by false true k r = omega (arith, r)
      by false false k r = omega (arith, r)

  -- none passes where each that passes another test fails
  pub none_of_those : (p f : A → Bool) → ((a : A) → f a ≡ true → p a ≡ false) → (xs : List A) → passing p (filter f xs) ≡ 0
  none_of_those p f h [] = refl
  none_of_those p f h (x ∷ xs) = by (f x) refl (none_of_those p f h xs)
    where
      by : (w : Bool) → f x ≡ w → passing p (filter f xs) ≡ 0 → passing p (cond w (x ∷ filter f xs) (filter f xs)) ≡ 0
      by true e r = let here : cond {A = ℕ} (p x) 1 0 ≡ 0 = ap (λ w. cond w 1 0) (h x e) in omega (arith, here, r)
      by false e r = r

  -- or where each fails
  pub none_of_all : (p : A → Bool) (xs : List A) → ((i : ℕ) (x : A) → slice_get xs i ≡ Some x → p x ≡ false) → passing p xs ≡ 0
  none_of_all p [] h = refl
  none_of_all p (x ∷ xs) h =
      let here : cond {A = ℕ} (p x) 1 0 ≡ 0 = ap (λ w. cond w 1 0) (h 0 x refl) in
      let rest = none_of_all p xs (λ i y e. h (suc i) y e) in
      omega (arith, here, rest)

-- ---- pairs with numbers of their own
pub equal_numbers : (n m : ℕ) → eq_by_cmp nat_cmp n m ≡ true → n ≡ m
equal_numbers n m h = nat_cmp-IsAntisymmetric n m (equal_of (nat_cmp n m) h)

same_order : (n m : ℕ) → n ≡ m → eq_by_cmp nat_cmp n m ≡ true
same_order n m e = ap (eq_by_cmp nat_cmp n) (sym e) ∙ (eq_by_cmp_equiv nat_cmp_total).refl n

apart_order : (n m : ℕ) → (n ≡ m → ⊥) → eq_by_cmp nat_cmp n m ≡ false
apart_order n m h = by (eq_by_cmp nat_cmp n m) refl
  where
    by : (w : Bool) → eq_by_cmp nat_cmp n m ≡ w → w ≡ false
    by true e = absurd (h (equal_numbers n m e))
    by false e = refl

no_later : (j : ℕ) → 0 ≡ suc j → ⊥
no_later j e = omega (arith, e)

next_same : (i j : ℕ) → suc i ≡ suc j → i ≡ j
next_same i j e = omega (arith, e)

apart_number : (n m : ℕ) → (n ≡ m → ⊥) → (n == m) ≡ false
apart_number n m h = by (n == m) refl
  where
    by : (w : Bool) → (n == m) ≡ w → w ≡ false
    by true e = absurd (h (eqb-true n m e))
    by false e = refl

module _ {A : Type 0} where
  abbrev pub NoTwo : List (ℕ × A) → Type 0
  NoTwo sides = (i j : ℕ) (s t : ℕ × A) → slice_get sides i ≡ Some s → slice_get sides j ≡ Some t → s.0 ≡ t.0 → i ≡ j

  tail_own : (s : ℕ × A) (sides : List (ℕ × A)) → NoTwo (s ∷ sides) → NoTwo sides
  tail_own s sides own i j x y e d n = next_same i j (own (suc i) (suc j) x y e d n)

  apart_numbers : (n : ℕ) (sides : List (ℕ × A)) → ((j : ℕ) (t : ℕ × A) → slice_get sides j ≡ Some t → n ≡ t.0 → ⊥) → AllByRecursion (λ m. eq_by_cmp nat_cmp n m ≡ false) (map (λ s. s.0) sides)
  apart_numbers n [] h = tt
  apart_numbers n (t ∷ sides) h = (apart_order n t.0 (h 0 t refl), apart_numbers n sides (λ j s e. h (suc j) s e))

  pub numbers_differ : (sides : List (ℕ × A)) → NoTwo sides → IsDistinct (eq_by_cmp nat_cmp) (map (λ s. s.0) sides)
  unfolding IsDistinct
  numbers_differ [] own = tt
  numbers_differ (s ∷ sides) own = (
    apart_numbers s.0 sides (λ j t e n. no_later j (own 0 (suc j) s t refl e n)),
    numbers_differ sides (tail_own s sides own),
  )

  -- the first of a number is the only one
  pub found_at : (sides : List (ℕ × A)) → NoTwo sides → (i : ℕ) (s : ℕ × A) → slice_get sides i ≡ Some s → find (λ (t : ℕ × A). t.0 == s.0) sides ≡ Some s
  found_at [] own i s e = absurd cc
  found_at (t ∷ sides) own zero s e =
      let is : t ≡ s = ap (λ (o : Option (ℕ × A)). elim o as (λ _. ℕ × A) [ Some c ↦ c | None ↦ t ]) e in
      ap (λ w. cond w (Some t) (find (λ (u : ℕ × A). u.0 == s.0) sides)) (eq-eqb t.0 s.0 (ap (λ (u : ℕ × A). u.0) is)) ∙ ap Some is
  found_at (t ∷ sides) own (suc i) s e =
      ap (λ w. cond w (Some t) (find (λ (u : ℕ × A). u.0 == s.0) sides)) (apart_number t.0 s.0 (λ n. no_later i (own 0 (suc i) t s refl e n)))
      ∙ found_at sides (tail_own t sides own) i s e

  -- what is found is there
  pub there_is : (k : ℕ) (sides : List (ℕ × A)) (s : ℕ × A) → find (λ (t : ℕ × A). t.0 == k) sides ≡ Some s → (i : ℕ) × (slice_get sides i ≡ Some s) × (s.0 ≡ k)
  there_is k [] s e = absurd cc
  there_is k (t ∷ sides) s e = by (t.0 == k) refl e (there_is k sides s)
    where
      by : (w : Bool) → (t.0 == k) ≡ w → cond w (Some t) (find (λ (u : ℕ × A). u.0 == k) sides) ≡ Some s → (find (λ (u : ℕ × A). u.0 == k) sides ≡ Some s → (i : ℕ) × (slice_get sides i ≡ Some s) × (s.0 ≡ k)) → (i : ℕ) × (slice_get (t ∷ sides) i ≡ Some s) × (s.0 ≡ k)
      by true d f later = (0, f, ap (λ (o : Option (ℕ × A)). elim o as (λ _. ℕ) [ Some c ↦ c.0 | None ↦ k ]) (sym f) ∙ eqb-true t.0 k d)
      by false d f later = let r = later f in (suc r.0, r.1, r.2)

  -- the number of one that is there is among the numbers
  pub among_numbers : (k i : ℕ) (sides : List (ℕ × A)) (s : ℕ × A) → slice_get sides i ≡ Some s → s.0 ≡ k → list_any (eq_by_cmp nat_cmp k) (map (λ t. t.0) sides) ≡ true
  among_numbers k i [] s e n = absurd cc
  among_numbers k zero (t ∷ sides) s e n =
      let is : t.0 ≡ s.0 = ap (λ (o : Option (ℕ × A)). elim o as (λ _. ℕ) [ Some c ↦ c.0 | None ↦ t.0 ]) e in
      ap (λ w. w || list_any (eq_by_cmp nat_cmp k) (map (λ t. t.0) sides)) (same_order k t.0 (sym (is ∙ n)))
  among_numbers k (suc i) (t ∷ sides) s e n = by (eq_by_cmp nat_cmp k t.0) (among_numbers k i sides s e n)
    where
      by : (w : Bool) → list_any (eq_by_cmp nat_cmp k) (map (λ t. t.0) sides) ≡ true → (w || list_any (eq_by_cmp nat_cmp k) (map (λ t. t.0) sides)) ≡ true
      by true h = refl
      by false h = h
