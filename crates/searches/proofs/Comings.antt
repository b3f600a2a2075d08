-- Each outcome of a node comes to one end.
use Rattle.std.proofs.Common.{◌≡◌, ◌⊎◌, inl, inr, ℕ, zero, suc, ◌<◌, ◌≤◌, refl, sym, ap, ap₂, ◌∙◌, subst, Bool, true, false, List, [], ◌∷◌, length, Option, Some, None, arith, ℤ, pos, negsuc, ◌+ℤ◌}
use Rattle.std.specs.Prelude.{All, slice_get}
use Rattle.std.specs.List.{AllByRecursion}
use Rattle.std.proofs.lemmas.Int.{ints}
use Rattle.std.proofs.lemmas.Bool.{cases_eq}
use Rattle.std.proofs.lemmas.List.Elements.{All-from_recursion, recursion_from_All}
use Rattle.fractions.specs.Rational.{ℚ, ◌≤ℚ◌, ◌<ℚ◌, numerator, denominator}
use Rattle.fractions.specs.Vectors.{at}
use Rattle.fractions.specs.Floor.{floor_ℚ}
use Rattle.fractions.specs.Whole.{whole_ℚ}
use Rattle.fractions.proofs.Order.{eq_or_ne, lt_irrefl, lt_of_lt_of_le}
use Rattle.fractions.proofs.Tests.{le_or_lt, lt_iff}
use Rattle.fractions.proofs.Whole.{whole_injective}
use Rattle.optimality.specs.Optimal.{IsWhole}
use Rattle.linear_models.specs.Box.{Box}
use Rattle.linear_models.specs.Model.{Model, IsGroupOf, IsValid, is_whole_at}
use Rattle.linear_models.specs.Statement.{IsOnce, is_in}
use Rattle.linear_models.proofs.Wholes.{whole_is}
use Rattle.opt_certificate.proofs.Trees.{marked_within}
use Rattle.optimality.specs.Groups.{AreDifferent}
use Rattle.searches.specs.Trees.{Node, End, empty, beaten, whole, split, clash, endless, Found}
use Rattle.searches.specs.Alike.{AreFirstAlike, BoundsDiffer, SplitsAt, at_first, at_second, FloorIs, before_number, at_number, HasTwoBounds}
use Rattle.searches.specs.Trails.{Outcome, no_point, best, no_bound, box_of, IsBetterThan, IsBroken, IsFirstBroken, IsUnbroken, ComesTo, is_empty, is_endless, is_beaten, is_whole, is_split, is_parted, is_clash}
use Rattle.searches.proofs.Alike.{alike_or_different}
use Rattle.searches.proofs.GroupBounds.{group_bounds, marked_member}

some_is : {x y : ℚ} → Some x ≡ Some y → x ≡ y
some_is e = cc

-- ---- a first broken decision, or none
is_broken : (m : Model) (x : List ℚ) (j : ℕ) → IsBroken m x j ⊎ ¬ (IsBroken m x j)
is_broken m x j = cases (is_whole_at m.whole j) refl (cases_eq (denominator (at x j)) 1)
  where
    cases : (b : Bool) → is_whole_at m.whole j ≡ b → (denominator (at x j) ≡ 1) ⊎ (denominator (at x j) ≡ 1 → ⊥) → IsBroken m x j ⊎ ¬ (IsBroken m x j)
    cases false e h = inr (λ k. let q = k.marked in absurd cc)
    cases true e (inl h) = inr (λ k. k.broken h)
    cases true e (inr h) = inl record { marked = e; broken = h }

find_broken : (m : Model) (x : List ℚ) (n : ℕ) → ((j : ℕ) → j < n → ¬ (IsBroken m x j)) ⊎ ((j : ℕ) × IsFirstBroken m x j)
find_broken m x zero = inl (λ j l. absurd (omega (arith, l)))
find_broken m x (suc n) = cases (find_broken m x n) (is_broken m x n)
  where
    or_last : (j n : ℕ) → j < suc n → (j < n) ⊎ (j ≡ n)
    or_last j n l = grind arith

    or_below : (n i : ℕ) → (i < n) ⊎ (n ≤ i)
    or_below n i = grind arith

    cases : ((j : ℕ) → j < n → ¬ (IsBroken m x j)) ⊎ ((j : ℕ) × IsFirstBroken m x j) → IsBroken m x n ⊎ ¬ (IsBroken m x n)
        → ((j : ℕ) → j < suc n → ¬ (IsBroken m x j)) ⊎ ((j : ℕ) × IsFirstBroken m x j)
    cases (inr f) b = inr f
    cases (inl h) (inl b) = inr (n, record { broken = b; least = λ i k. elim (or_below n i) [ inl l ↦ absurd (h i l k) | inr l ↦ l ] })
    cases (inl h) (inr b) = inl (λ j l k. elim (or_last j n l) [ inl q ↦ h j q k | inr q ↦ b (subst (IsBroken m x) q k) ])

-- ---- where the box is split
differ_or_not : (box : Box) (j : ℕ) → HasTwoBounds box j → BoundsDiffer box j ⊎ ¬ (BoundsDiffer box j)
differ_or_not box j t = elim (eq_or_ne (whole_ℚ t.low) (whole_ℚ t.high)) [
  | inl e ↦ inr (λ d. d (t.least ∙ ap Some e ∙ sym t.greatest))
  | inr n ↦ inl (λ e. n (some_is (sym t.least ∙ e ∙ t.greatest)))
]

one_less : (z : ℤ) → (z +ℤ negsuc 0) +ℤ pos 1 ≡ z
one_less z = omega (arith, ints)

a_floor : (box : Box) (c : ℕ) (x : ℚ) → HasTwoBounds box c → IsWhole x → (f : ℤ) × FloorIs box c x f
a_floor box c x t w = cases (le_or_lt x (whole_ℚ t.low))
  where
    cases : (x ≤ℚ whole_ℚ t.low) ⊎ (whole_ℚ t.low <ℚ x) → (f : ℤ) × FloorIs box c x f
    cases (inl h) = (numerator x, at_number (whole_ℚ t.low) (numerator x) t.least (λ k. (lt_iff _ _).0 k h) (sym (whole_is x w)))
    cases (inr h) = (numerator x +ℤ negsuc 0, before_number (whole_ℚ t.low) (numerator x +ℤ negsuc 0) t.least h (ap whole_ℚ (one_less (numerator x)) ∙ sym (whole_is x w)))

all_once : (m : Model) (gs : List (List ℕ)) → AllByRecursion (IsGroupOf m) gs → AllByRecursion IsOnce gs
all_once m [] h = tt
all_once m (g ∷ gs) h = (h.0.once, all_once m gs h.1)

-- ---- some end
better : (m : Model) (node : Node) (found : Option Found) (x : List ℚ) (y : ℚ) → IsValid m → IsBetterThan found y → (e : End) × ComesTo m (box_of m node) found (best x y) e
better m node found x y v b = elim (find_broken m x (length m.whole)) [
  | inl h ↦ unbroken (λ j k. h j (marked_within m.whole j k.marked) k)
  | inr f ↦ (split f.0 (floor_ℚ (at x f.0)) y, is_split x y f.0 b f.1)
]
  where
    box : Box
    box = box_of m node

    at_pair : IsUnbroken m x → (i j : ℕ) → AreFirstAlike x m.groups i j → (e : End) × ComesTo m box found (best x y) e
    at_pair n i j a = cases (differ_or_not box i ti) (differ_or_not box j tj)
      where
        ti : HasTwoBounds box i
        ti = group_bounds m node a.place a.group i v a.group_is a.alike.one

        tj : HasTwoBounds box j
        tj = group_bounds m node a.place a.group j v a.group_is a.alike.other

        is_whole_number : (c : ℕ) → is_in c a.group ≡ true → IsWhole (at x c)
        is_whole_number c k = elim (cases_eq (denominator (at x c)) 1) [ inl q ↦ q | inr q ↦ absurd (n c record { marked = marked_member m a.place a.group c v a.group_is k; broken = q }) ]

        cases : BoundsDiffer box i ⊎ ¬ (BoundsDiffer box i) → BoundsDiffer box j ⊎ ¬ (BoundsDiffer box j) → (e : End) × ComesTo m box found (best x y) e
        cases (inl d) q = let f = a_floor box i (at x i) ti (is_whole_number i a.alike.one) in (split i f.0 y, is_parted x y i j i f.0 b n a (at_first d) f.1)
        cases (inr p) (inl d) = let f = a_floor box j (at x j) tj (is_whole_number j a.alike.other) in (split j f.0 y, is_parted x y i j j f.0 b n a (at_second p d) f.1)
        cases (inr p) (inr q) = (clash i j y, is_clash x y i j b n a p q)

    unbroken : IsUnbroken m x → (e : End) × ComesTo m box found (best x y) e
    unbroken n = elim (alike_or_different.either x m.groups (All-from_recursion IsOnce m.groups (all_once m m.groups (recursion_from_All _ m.groups v.groups)))) [
      | inl d ↦ (whole x y, is_whole x y b n d)
      | inr a ↦ at_pair n a.0 a.1 a.2
    ]

pub comes : (m : Model) (node : Node) (found : Option Found) (o : Outcome) → IsValid m → (e : End) × ComesTo m (box_of m node) found o e
comes m node found no_point v = (empty, is_empty)
comes m node found (no_bound x w) v = (endless x w, is_endless x w)
comes m node found (best x y) v = by_found found refl
  where
    by_found : (f : Option Found) → found ≡ f → (e : End) × ComesTo m (box_of m node) found (best x y) e
    by_found None e = better m node found x y v (subst (λ (f : Option Found). IsBetterThan f y) (sym e) tt)
    by_found (Some f) e = elim (le_or_lt y f.value) [
      | inl l ↦ (beaten y, is_beaten x y f e l)
      | inr l ↦ better m node found x y v (subst (λ (f : Option Found). IsBetterThan f y) (sym e) l)
    ]

-- ---- one end
-- the end of a node with a best point, by what is known of it
data Shape (m : Model) (box : Box) (found : Option Found) (x : List ℚ) (y : ℚ) : End → Type 0 where
  as_beaten : (f : Found) → found ≡ Some f → y ≤ℚ f.value → Shape m box found x y (beaten y)
  as_whole : IsBetterThan found y → IsUnbroken m x → All (AreDifferent x) m.groups → Shape m box found x y (whole x y)
  as_split : (j : ℕ) → IsBetterThan found y → IsFirstBroken m x j → Shape m box found x y (split j (floor_ℚ (at x j)) y)
  as_parted : (i j c : ℕ) (f : ℤ) → IsBetterThan found y → IsUnbroken m x → AreFirstAlike x m.groups i j → SplitsAt box i j c → FloorIs box c (at x c) f → Shape m box found x y (split c f y)
  as_clash : (i j : ℕ) → IsBetterThan found y → IsUnbroken m x → AreFirstAlike x m.groups i j → ¬ (BoundsDiffer box i) → ¬ (BoundsDiffer box j) → Shape m box found x y (clash i j y)

shape : (m : Model) (box : Box) (found : Option Found) (x : List ℚ) (y : ℚ) (e : End) → ComesTo m box found (best x y) e → Shape m box found x y e
shape m box found x y e (is_beaten x' y' f q l) = as_beaten f q l
shape m box found x y e (is_whole x' y' b n d) = as_whole b n d
shape m box found x y e (is_split x' y' j b n) = as_split j b n
shape m box found x y e (is_parted x' y' i j c f b n a s z) = as_parted i j c f b n a s z
shape m box found x y e (is_clash x' y' i j b n a p q) = as_clash i j b n a p q

without_point : (m : Model) (box : Box) (found : Option Found) (e : End) → ComesTo m box found no_point e → e ≡ empty
without_point m box found e is_empty = refl

without_bound : (m : Model) (box : Box) (found : Option Found) (x w : List ℚ) (e : End) → ComesTo m box found (no_bound x w) e → e ≡ endless x w
without_bound m box found x w e (is_endless x' w') = refl

better_not : (found : Option Found) (y : ℚ) (f : Found) → found ≡ Some f → y ≤ℚ f.value → IsBetterThan found y → ⊥
better_not found y f e l b = lt_irrefl f.value (lt_of_lt_of_le f.value y f.value (subst (λ (u : Option Found). IsBetterThan u y) e b) l)

first_one : (m : Model) (x : List ℚ) (i j : ℕ) → IsFirstBroken m x i → IsFirstBroken m x j → i ≡ j
first_one m x i j a b = let k = a.least j b.broken in let l = b.least i a.broken in omega (arith, k, l)

-- the decision of the split is one
one_place : (box : Box) (i j c d : ℕ) → SplitsAt box i j c → SplitsAt box i j d → c ≡ d
one_place box i j c d (at_first p) (at_first q) = refl
one_place box i j c d (at_first p) (at_second n q) = absurd (n p)
one_place box i j c d (at_second n p) (at_first q) = absurd (n q)
one_place box i j c d (at_second n p) (at_second k q) = refl

not_closed : (box : Box) (i j c : ℕ) → SplitsAt box i j c → ¬ (BoundsDiffer box i) → ¬ (BoundsDiffer box j) → ⊥
not_closed box i j c (at_first p) m n = m p
not_closed box i j c (at_second k p) m n = n p

same_below : (f g : ℤ) → f +ℤ pos 1 ≡ g +ℤ pos 1 → f ≡ g
same_below f g e = omega (arith, ints)

-- and so is its floor
one_floor : (box : Box) (c : ℕ) (x : ℚ) (f g : ℤ) → FloorIs box c x f → FloorIs box c x g → f ≡ g
one_floor box c x f g (before_number b f' p l q) (before_number b' g' p' l' q') = same_below f g (whole_injective _ _ (q ∙ sym q'))
one_floor box c x f g (before_number b f' p l q) (at_number b' g' p' n q') = absurd (n (subst (λ b. b <ℚ x) (some_is (sym p ∙ p')) l))
one_floor box c x f g (at_number b f' p n q) (before_number b' g' p' l q') = absurd (n (subst (λ b. b <ℚ x) (some_is (sym p' ∙ p)) l))
one_floor box c x f g (at_number b f' p n q) (at_number b' g' p' n' q') = whole_injective _ _ (q ∙ sym q')

one_split : (m : Model) (box : Box) (x : List ℚ) (y : ℚ) (i j c i' j' c' : ℕ) (f f' : ℤ) → AreFirstAlike x m.groups i j → AreFirstAlike x m.groups i' j' → SplitsAt box i j c → SplitsAt box i' j' c'
    → FloorIs box c (at x c) f → FloorIs box c' (at x c') f' → split c f y ≡ split c' f' y
one_split m box x y i j c i' j' c' f f' a a' s s' z z' =
    let q = alike_or_different.one_pair x m.groups i j i' j' a a' in
    let k : c ≡ c' = one_place box i' j' c c' (subst (λ j. SplitsAt box i' j c) q.1 (subst (λ i. SplitsAt box i j c) q.0 s)) s' in
    ap₂ (λ c f. split c f y) k (one_floor box c' (at x c') f f' (subst (λ c. FloorIs box c (at x c) f) k z) z')

by_shape : (m : Model) (box : Box) (found : Option Found) (x : List ℚ) (y : ℚ) (e e' : End) → Shape m box found x y e → Shape m box found x y e' → e ≡ e'
by_shape m box found x y e e' (as_beaten f q l) (as_beaten g r k) = refl
by_shape m box found x y e e' (as_beaten f q l) (as_whole b n d) = absurd (better_not found y f q l b)
by_shape m box found x y e e' (as_beaten f q l) (as_split j b n) = absurd (better_not found y f q l b)
by_shape m box found x y e e' (as_beaten f q l) (as_parted i j c g b n a s z) = absurd (better_not found y f q l b)
by_shape m box found x y e e' (as_beaten f q l) (as_clash i j b n a u w) = absurd (better_not found y f q l b)
by_shape m box found x y e e' (as_whole b n d) (as_beaten f q l) = absurd (better_not found y f q l b)
by_shape m box found x y e e' (as_whole b n d) (as_whole b' n' d') = refl
by_shape m box found x y e e' (as_whole b n d) (as_split j b' k) = absurd (n j k.broken)
by_shape m box found x y e e' (as_whole b n d) (as_parted i j c g b' n' a s z) = absurd (alike_or_different.not_both x m.groups i j d a)
by_shape m box found x y e e' (as_whole b n d) (as_clash i j b' n' a u w) = absurd (alike_or_different.not_both x m.groups i j d a)
by_shape m box found x y e e' (as_split j b k) (as_beaten f q l) = absurd (better_not found y f q l b)
by_shape m box found x y e e' (as_split j b k) (as_whole b' n d) = absurd (n j k.broken)
by_shape m box found x y e e' (as_split j b k) (as_split j' b' k') = ap (λ (q : ℕ). split q (floor_ℚ (at x q)) y) (first_one m x j j' k k')
by_shape m box found x y e e' (as_split j b k) (as_parted i i' c g b' n a s z) = absurd (n j k.broken)
by_shape m box found x y e e' (as_split j b k) (as_clash i i' b' n a u w) = absurd (n j k.broken)
by_shape m box found x y e e' (as_parted i j c g b n a s z) (as_beaten f q l) = absurd (better_not found y f q l b)
by_shape m box found x y e e' (as_parted i j c g b n a s z) (as_whole b' n' d) = absurd (alike_or_different.not_both x m.groups i j d a)
by_shape m box found x y e e' (as_parted i j c g b n a s z) (as_split j' b' k) = absurd (n j' k.broken)
by_shape m box found x y e e' (as_parted i j c g b n a s z) (as_parted i' j' c' g' b' n' a' s' z') = one_split m box x y i j c i' j' c' g g' a a' s s' z z'
by_shape m box found x y e e' (as_parted i j c g b n a s z) (as_clash i' j' b' n' a' u w) =
    let q = alike_or_different.one_pair x m.groups i j i' j' a a' in
    absurd (not_closed box i' j' c (subst (λ j. SplitsAt box i' j c) q.1 (subst (λ i. SplitsAt box i j c) q.0 s)) u w)
by_shape m box found x y e e' (as_clash i j b n a u w) (as_beaten f q l) = absurd (better_not found y f q l b)
by_shape m box found x y e e' (as_clash i j b n a u w) (as_whole b' n' d) = absurd (alike_or_different.not_both x m.groups i j d a)
by_shape m box found x y e e' (as_clash i j b n a u w) (as_split j' b' k) = absurd (n j' k.broken)
by_shape m box found x y e e' (as_clash i j b n a u w) (as_parted i' j' c g b' n' a' s z) =
    let q = alike_or_different.one_pair x m.groups i' j' i j a' a in
    absurd (not_closed box i j c (subst (λ j. SplitsAt box i j c) q.1 (subst (λ i. SplitsAt box i j' c) q.0 s)) u w)
by_shape m box found x y e e' (as_clash i j b n a u w) (as_clash i' j' b' n' a' u' w') = let q = alike_or_different.one_pair x m.groups i j i' j' a a' in ap₂ (λ i j. clash i j y) q.0 q.1

pub one_end : (m : Model) (box : Box) (found : Option Found) (o : Outcome) (e e' : End) → ComesTo m box found o e → ComesTo m box found o e' → e ≡ e'
one_end m box found no_point e e' c c' = without_point m box found e c ∙ sym (without_point m box found e' c')
one_end m box found (no_bound x w) e e' c c' = without_bound m box found x w e c ∙ sym (without_bound m box found x w e' c')
one_end m box found (best x y) e e' c c' = by_shape m box found x y e e' (shape m box found x y e c) (shape m box found x y e' c')
