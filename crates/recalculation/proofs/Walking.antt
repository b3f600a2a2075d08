-- Walks, and definitions that take a bound.
use Rattle.std.proofs.Common.{◌≡◌, ℕ, zero, suc, ◌≤◌, ◌+◌, ◌-◌, Bool, true, false, ◌&&◌, List, length, refl, sym, ap, subst, ◌∙◌, arith, [], ◌∷◌, ◌<◌, cond, ◌⊎◌, inl, inr}
use Rattle.std.specs.Prelude.{◌||◌}
use Rattle.std.proofs.lemmas.Bool.Decides.{leb_tells}
use Rattle.std.specs.List.{list_any, AllByRecursion}
use Rattle.recalculation.proofs.Lists.{both, each_weaker}
use Rattle.recalculation.specs.Walks.{has_walk, unfolded}

module _ {A : Type 0} (nodes : List A) (step : A → A → Bool) (is_node : A → Bool)
    (found : (b : A) (p : A → Bool) → is_node b ≡ true → p b ≡ true → list_any p nodes ≡ true) where
  -- where no walk of n + 1 steps starts at a, none of n steps starts at what it refers to
  pub shorter : (n : ℕ) (a b : A) → has_walk nodes step (suc n) a ≡ false → step a b ≡ true → is_node b ≡ true → has_walk nodes step n b ≡ false
  shorter n a b none s i =
      elim (has_walk nodes step n b) as (λ w. has_walk nodes step n b ≡ w → w ≡ false) [
        | true ↦ λ w. sym (found b (λ c. step a c && has_walk nodes step n c) i (both (step a b) _ s w)) ∙ none
        | false ↦ λ _. refl
      ] refl

  module _ {V : Type 0} (still : (b c : A) → is_node b ≡ false → step b c ≡ false)
      (layer : (A → V) → A → V)
      (congruent : (f g : A → V) (a : A) → ((b : A) → step a b ≡ true → f b ≡ g b) → layer f a ≡ layer g a)
      (start : V) where
    -- where no walk of k steps starts, following more references than k changes nothing
    pub enough : (k m : ℕ) (a : A) → has_walk nodes step k a ≡ false → k ≤ m → unfolded layer start (suc m) a ≡ unfolded layer start (suc k) a
    enough zero m a none h = cc
    enough (suc k) zero a none h = absurd (omega arith)
    enough (suc k) (suc m) a none h =
        congruent (unfolded layer start (suc m)) (unfolded layer start (suc k)) a (λ b s.
        elim (is_node b) as (λ i. is_node b ≡ i → unfolded layer start (suc m) b ≡ unfolded layer start (suc k) b) [
          | true ↦ λ i. enough k m b (shorter k a b none s i) (omega arith)
          | false ↦ λ i. congruent _ _ b (λ c t. let e = still b c i in cc)
        ] refl)

    module _ (looped : (f g : A → V) (a : A) → has_walk nodes step (length nodes) a ≡ true → layer f a ≡ layer g a) where
      -- a bound above the number of nodes is enough, at each place
      pub all_enough : (m : ℕ) (a : A) → length nodes ≤ m → unfolded layer start (suc m) a ≡ unfolded layer start (suc (length nodes)) a
      all_enough m a h =
          elim (has_walk nodes step (length nodes) a) as (λ w. has_walk nodes step (length nodes) a ≡ w → unfolded layer start (suc m) a ≡ unfolded layer start (suc (length nodes)) a) [
            | true ↦ λ w. looped _ _ a w
            | false ↦ λ w. enough (length nodes) m a w h
          ] refl

      -- so the meaning of a place is its layer over the meanings of the others
      pub fixed : (a : A) → unfolded layer start (suc (length nodes)) a ≡ layer (unfolded layer start (suc (length nodes))) a
      fixed a = sym (all_enough (suc (length nodes)) a (omega arith))

-- where no element passes, none passes a stronger test
none_weaker : {A : Type 0} (p q : A → Bool) → ((x : A) → p x ≡ false → q x ≡ false) → (xs : List A) → list_any p xs ≡ false → list_any q xs ≡ false
none_weaker p q w [] h = refl
none_weaker p q w (x ∷ xs) h =
    elim (p x) as (λ b. p x ≡ b → (b || list_any p xs) ≡ false → (q x || list_any q xs) ≡ false) [
      | true ↦ λ e h. cc
      | false ↦ λ e h. ap (λ b. b || list_any q xs) (w x e) ∙ none_weaker p q w xs h
    ] refl h

-- a stronger second test
and_weaker : (p q r : Bool) → (q ≡ false → r ≡ false) → (p && q) ≡ false → (p && r) ≡ false
and_weaker true q r h e = h e
and_weaker false q r h e = refl

-- where there is no walk of n steps, there is no longer one
pub no_longer : {A : Type 0} (nodes : List A) (step : A → A → Bool) (n : ℕ) (a : A) → has_walk nodes step n a ≡ false → has_walk nodes step (suc n) a ≡ false
no_longer nodes step zero a h = cc
no_longer nodes step (suc n) a h =
    none_weaker (λ b. step a b && has_walk nodes step n b) (λ b. step a b && has_walk nodes step (suc n) b)
    (λ b e. and_weaker (step a b) _ _ (no_longer nodes step n b) e) nodes h

-- ---- a walk of as many steps as there are nodes has no end
pub none_any : {A : Type 0} (p : A → Bool) → ((x : A) → p x ≡ false) → (xs : List A) → list_any p xs ≡ false
none_any p h [] = refl
none_any p h (x ∷ xs) = ap (λ b. b || list_any p xs) (h x) ∙ none_any p h xs

-- two tests that are alike at each element
any_alike : {A : Type 0} (p q : A → Bool) (xs : List A) → AllByRecursion (λ x. p x ≡ q x) xs → list_any p xs ≡ list_any q xs
any_alike p q [] h = refl
any_alike p q (x ∷ xs) h = λ i. (h.0 i) || (any_alike p q xs h.1 i)

module _ {A : Type 0} where
  -- how many elements pass a test
  abbrev passing : (A → Bool) → List A → ℕ
  passing p [] = 0
  passing p (x ∷ xs) = cond (p x) 1 0 + passing p xs

  -- no more than there are
  passing_few : (p : A → Bool) (xs : List A) → passing p xs ≤ length xs
  passing_few p [] = omega arith
  passing_few p (x ∷ xs) = let rest = passing_few p xs in elim (p x) as (λ b. cond b 1 0 + passing p xs ≤ suc (length xs)) [ true ↦ omega arith | false ↦ omega arith ]

  -- a stronger test passes fewer; where it passes as many the two are alike
  fewer : (p q : A → Bool) → ((x : A) → q x ≡ true → p x ≡ true) → (xs : List A) → (passing q xs ≤ passing p xs) × (passing q xs ≡ passing p xs → AllByRecursion (λ x. q x ≡ p x) xs)
  fewer p q w [] = (omega arith, λ e. tt)
  fewer p q w (x ∷ xs) =
      let rest = fewer p q w xs in
      let G : Bool → Bool → Type 0 = λ b d. (cond d 1 0 + passing q xs ≤ cond b 1 0 + passing p xs) × (cond d 1 0 + passing q xs ≡ cond b 1 0 + passing p xs → (d ≡ b) × AllByRecursion (λ x. q x ≡ p x) xs) in
      elim (p x) as (λ b. p x ≡ b → G b (q x)) [
        | true ↦ λ e. elim (q x) as (λ d. G true d) [
          | true ↦ (omega (arith, rest.0), λ f. (refl, rest.1 (omega arith)))
          | false ↦ (omega (arith, rest.0), λ f. absurd (omega (arith, rest.0)))
        ]
        | false ↦ λ e. elim (q x) as (λ d. q x ≡ d → G false d) [
          | true ↦ λ f. let h = w x f in cc
          | false ↦ λ f. (omega (arith, rest.0), λ f. (refl, rest.1 (omega arith)))
        ] refl
      ] refl

  -- where none are counted none passes
  none_pass : (p : A → Bool) (xs : List A) → passing p xs ≡ 0 → list_any p xs ≡ false
  none_pass p [] h = refl
  none_pass p (x ∷ xs) h =
      elim (p x) as (λ b. cond b 1 0 + passing p xs ≡ 0 → (b || list_any p xs) ≡ false) [ true ↦ λ h. absurd (omega arith) | false ↦ λ h. none_pass p xs (omega arith) ] h

  module _ (nodes : List A) (step : A → A → Bool) where
    -- walks of k + 1 steps start where walks of k steps do
    Stable : ℕ → Type 0
    Stable k = (a : A) → has_walk nodes step (suc k) a ≡ has_walk nodes step k a

    -- where that holds of all nodes it holds of the next number of steps
    stable_next : (k : ℕ) → AllByRecursion (λ b. has_walk nodes step (suc k) b ≡ has_walk nodes step k b) nodes → Stable (suc k)
    unfolding Stable
    stable_next k h a =
        any_alike (λ b. step a b && has_walk nodes step (suc k) b) (λ b. step a b && has_walk nodes step k b) nodes
        (each_weaker _ _ (λ b e. ap (λ w. step a b && w) e) nodes h)

    -- what always holds
    each_of_all : (P : A → Type 0) → ((x : A) → P x) → (xs : List A) → AllByRecursion P xs
    each_of_all P h [] = tt
    each_of_all P h (x ∷ xs) = (h x, each_of_all P h xs)

    -- and of each greater number
    stable_all : (k j : ℕ) → Stable k → Stable (j + k)
    unfolding Stable
    stable_all k zero h = let e : zero + k ≡ k = omega arith in subst Stable (sym e) h
    stable_all k (suc j) h = let e : suc j + k ≡ suc (j + k) = omega arith in subst Stable (sym e) (stable_next (j + k) (each_of_all _ (stable_all k j h) nodes))

    -- so walks of any greater number of steps start there
    stable_more : (k j : ℕ) → Stable k → (a : A) → has_walk nodes step (j + k) a ≡ has_walk nodes step k a
    unfolding Stable
    stable_more k zero h a = ap (λ n. has_walk nodes step n a) (omega arith)
    stable_more k (suc j) h a = let e : suc j + k ≡ suc (j + k) = omega arith in ap (λ n. has_walk nodes step n a) e ∙ stable_all k j h a ∙ stable_more k j h a

    -- a walk has a walk of one step less in it
    pub shorter_walk : (n : ℕ) (a : A) → has_walk nodes step (suc n) a ≡ true → has_walk nodes step n a ≡ true
    shorter_walk n a h =
        elim (has_walk nodes step n a) as (λ w. has_walk nodes step n a ≡ w → w ≡ true) [ true ↦ λ e. refl | false ↦ λ e. let f = no_longer nodes step n a e in cc ] refl

    -- and one of any smaller number of steps
    below_walk : (j n : ℕ) (a : A) → has_walk nodes step (j + n) a ≡ true → has_walk nodes step n a ≡ true
    below_walk zero n a h = let e : zero + n ≡ n = omega arith in ap (λ k. has_walk nodes step k a) (sym e) ∙ h
    below_walk (suc j) n a h = let e : suc j + n ≡ suc (j + n) = omega arith in below_walk j n a (shorter_walk (j + n) a (ap (λ k. has_walk nodes step k a) (sym e) ∙ h))

    -- the walks become stable, or fewer and fewer nodes have one
    settles : (k : ℕ) → ((j : ℕ) × (j < k) × Stable (suc j)) ⊎ (passing (has_walk nodes step k) nodes + k ≤ length nodes)
    settles zero = let few = passing_few (has_walk nodes step zero) nodes in inr (omega arith)
    settles (suc k) =
        let G : Type 0 = ((j : ℕ) × (j < suc k) × Stable (suc j)) ⊎ (passing (has_walk nodes step (suc k)) nodes + suc k ≤ length nodes) in
        elim (settles k) as (λ _. G) [
          | inl w ↦ inl (w.0, omega (arith, w.1), w.2)
          | inr few ↦
              let less = fewer (has_walk nodes step k) (has_walk nodes step (suc k)) (shorter_walk k) nodes in
              elim (leb_tells (passing (has_walk nodes step k) nodes) (passing (has_walk nodes step (suc k)) nodes)) as (λ _. G) [
                | inl w ↦ inl (k, omega arith, stable_next k (less.1 (omega (arith, less.0, w.1))))
                | inr w ↦ inr (omega (arith, w.1, few))
              ]
        ]

    module _ (is_node : A → Bool) (found : (b : A) (p : A → Bool) → is_node b ≡ true → p b ≡ true → list_any p nodes ≡ true) where
      -- from a node from which a walk of as many steps as there are nodes starts, walks of every length start
      pub endless : (a : A) → is_node a ≡ true → has_walk nodes step (length nodes) a ≡ true → (m : ℕ) → has_walk nodes step m a ≡ true
      endless a i h m =
          elim (settles (length nodes)) as (λ _. has_walk nodes step m a ≡ true) [
            | inl w ↦
                let j = w.0 in
                let e : (length nodes - suc j) + suc j ≡ length nodes = omega (arith, w.1) in
                let up : has_walk nodes step (suc j) a ≡ true = below_walk (length nodes - suc j) (suc j) a (ap (λ k. has_walk nodes step k a) e ∙ h) in
                elim (leb_tells (suc j) m) as (λ _. has_walk nodes step m a ≡ true) [
                  | inl v ↦ let f : m ≡ (m - suc j) + suc j = omega (arith, v.1) in ap (λ k. has_walk nodes step k a) f ∙ stable_more (suc j) (m - suc j) w.2 a ∙ up
                  | inr v ↦ let f : (suc j - m) + m ≡ suc j = omega (arith, v.1) in below_walk (suc j - m) m a (ap (λ k. has_walk nodes step k a) f ∙ up)
                ]
            | inr few ↦
                let none : passing (has_walk nodes step (length nodes)) nodes ≡ 0 = omega arith in
                let e = none_pass (has_walk nodes step (length nodes)) nodes none in
                let f = found a (has_walk nodes step (length nodes)) i h in cc
          ]
