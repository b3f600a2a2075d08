-- The bases of a run as rising lists are different: so there are no more dictionaries than C(n, m).
use Rattle.std.proofs.Common.{◌≡◌, ◌≢◌, ◌↔◌, ◌⊎◌, inl, inr, ⊎_elim, ℕ, zero, suc, ◌+◌, ◌-◌, ◌<◌, ◌≤◌, refl, sym, ap, ◌∙◌, subst, List, [], ◌∷◌, length, get_or, map, cond, eqb, arith}
use Rattle.std.specs.Prelude.{All, AllPairs}
use Rattle.std.proofs.lemmas.Bool.{eq-eqb}
use Rattle.std.proofs.lemmas.List.{get_or-map, length-map}
use Rattle.std.proofs.lemmas.List.Elements.{All-map}
use Rattle.linear_programs.specs.Program.{Program}
use Rattle.dictionaries.specs.Dictionary.{Dictionary, first_of_program, IsBasic, SameBasis, times_in, IsDictionaryOf}
use Rattle.dictionaries.specs.Run.{Follow, IsOnTheWay, RunsAreShort, UnitsAreEnough}
use Rattle.dictionaries.specs.Count.{choose, IsRising, IsMember}
use Rattle.dictionaries.proofs.Places.{first_places_past}
use Rattle.dictionaries.proofs.Solutions.{dictionary_once}
use Rattle.dictionaries.proofs.Bases.{IsAt, at_counts}
use Rattle.dictionaries.proofs.Runs.{step_on_the_way, first_on_the_way}
use Rattle.dictionaries.proofs.Unrepeated.{never_returns}
use Rattle.dictionaries.proofs.Count.{rising_lists_counted}

-- ---- a number put into a rising list
abbrev pick : {A B : Type 0} → List ℕ → List ℕ → A ⊎ B → List ℕ
pick xs ys (inl a) = xs
pick xs ys (inr b) = ys

lt_or_le : (a b : ℕ) → (a < b) ⊎ (b ≤ a)
lt_or_le a b = grind arith

insert : ℕ → List ℕ → List ℕ
insert v [] = v ∷ []
insert v (x ∷ xs) = pick (v ∷ x ∷ xs) (x ∷ insert v xs) (lt_or_le v x)

insert_rising : (low high v : ℕ) (xs : List ℕ) → low ≤ v → v < high → ¬ (IsMember v xs) → IsRising low high xs → IsRising low high (insert v xs)
unfolding insert
insert_rising low high v [] a b n r = (a, b, tt)
insert_rising low high v (x ∷ xs) a b n r = cases (lt_or_le v x) (λ h. insert_rising (suc x) high v xs h b (λ m. n (inr m)) r.2)
  where
    cases : (s : (v < x) ⊎ (x ≤ v)) → (suc x ≤ v → IsRising (suc x) high (insert v xs)) → IsRising low high (pick (v ∷ x ∷ xs) (x ∷ insert v xs) s)
    cases (inl h) f = (a, b, (h, r.1, r.2))
    cases (inr h) f = (r.0, r.1, f (strict h (λ e. n (inl e))))
      where
        strict : x ≤ v → x ≢ v → suc x ≤ v
        strict h n = omega arith

insert_iff : (w v : ℕ) (xs : List ℕ) → IsMember w (insert v xs) ↔ ((v ≡ w) ⊎ IsMember w xs)
unfolding insert
insert_iff w v [] = (λ h. h, λ h. h)
insert_iff w v (x ∷ xs) = cases (lt_or_le v x) (insert_iff w v xs)
  where
    cases : (s : (v < x) ⊎ (x ≤ v)) → IsMember w (insert v xs) ↔ ((v ≡ w) ⊎ IsMember w xs) → IsMember w (pick (v ∷ x ∷ xs) (x ∷ insert v xs) s) ↔ ((v ≡ w) ⊎ IsMember w (x ∷ xs))
    cases (inl h) i = (λ m. m, λ m. m)
    cases (inr h) i = (
      λ m. ⊎_elim (λ e. inr (inl e)) (λ k. ⊎_elim inl (λ j. inr (inr j)) (i.0 k)) m,
      λ m. ⊎_elim (λ e. inr (i.1 (inl e))) (λ k. ⊎_elim inl (λ j. inr (i.1 (inr j))) k) m,
    )

insert_length : (v : ℕ) (xs : List ℕ) → length (insert v xs) ≡ suc (length xs)
unfolding insert
insert_length v [] = refl
insert_length v (x ∷ xs) = cases (lt_or_le v x) (insert_length v xs)
  where
    cases : (s : (v < x) ⊎ (x ≤ v)) → length (insert v xs) ≡ suc (length xs) → length (pick (v ∷ x ∷ xs) (x ∷ insert v xs) s) ≡ suc (suc (length xs))
    cases (inl h) e = refl
    cases (inr h) e = ap suc e

-- ---- numbers in order
sorted : List ℕ → List ℕ
sorted [] = []
sorted (v ∷ vs) = insert v (sorted vs)

sorted_length : (vs : List ℕ) → length (sorted vs) ≡ length vs
unfolding sorted
sorted_length [] = refl
sorted_length (v ∷ vs) = insert_length v (sorted vs) ∙ ap suc (sorted_length vs)

sorted_iff : (w : ℕ) (vs : List ℕ) → IsMember w (sorted vs) ↔ IsMember w vs
unfolding sorted
sorted_iff w [] = (λ h. h, λ h. h)
sorted_iff w (v ∷ vs) = (
  λ m. ⊎_elim inl (λ k. inr ((sorted_iff w vs).0 k)) ((insert_iff w v (sorted vs)).0 m),
  λ m. (insert_iff w v (sorted vs)).1 (⊎_elim inl (λ k. inr ((sorted_iff w vs).1 k)) m),
)

member_at : (v : ℕ) (cs : List ℕ) → IsMember v cs → IsAt cs v
member_at v [] m = absurd m
member_at v (c ∷ cs) (inl e) = (0, omega arith, e)
member_at v (c ∷ cs) (inr m) = let p = member_at v cs m in (suc p.0, let h = p.1 in omega arith, p.2)

at_member : (v : ℕ) (cs : List ℕ) (i : ℕ) → i < length cs → get_or cs i 0 ≡ v → IsMember v cs
at_member v [] i h q = absurd (omega arith)
at_member v (c ∷ cs) zero h q = inl q
at_member v (c ∷ cs) (suc i) h q = inr (at_member v cs i (omega arith) q)

sorted_rising : (n : ℕ) (vs : List ℕ) → ((v : ℕ) → IsMember v vs → v < n) → ((v : ℕ) → times_in vs v ≤ 1) → IsRising 0 n (sorted vs)
unfolding sorted
sorted_rising n [] b o = tt
sorted_rising n (v ∷ vs) b o =
    insert_rising 0 n v (sorted vs) (omega arith) (b v (inl refl)) (λ m. twice (at_counts vs v (member_at v vs ((sorted_iff v vs).0 m)))) (sorted_rising n vs (λ w m. b w (inr m)) fewer)
  where
    head : ◌≡◌ {A = ℕ} (cond (eqb v v) 1 0) 1
    head = ap (λ b. cond b 1 0) (eq-eqb v v refl)

    twice : 1 ≤ times_in vs v → ⊥
    twice h = absurd (omega (arith, o v, head, h))

    fewer : (w : ℕ) → times_in vs w ≤ 1
    fewer w = omega (arith, o w)

-- ---- the basis of a dictionary
abbrev basis_of : Dictionary → List ℕ
basis_of d = sorted d.basic

same_basis : (d e : Dictionary) → basis_of d ≡ basis_of e → SameBasis d e
same_basis d e q v = (λ h. there d e q h, λ h. there e d (sym q) h)
  where
    there : (d e : Dictionary) → basis_of d ≡ basis_of e → IsBasic d v → IsBasic e v
    there d e q h = member_at v e.basic ((sorted_iff v e.basic).0 (subst (IsMember v) q ((sorted_iff v d.basic).1 (at_member v d.basic h.0 h.1 h.2))))

abbrev width_of : Program → ℕ
width_of p = length p.objective + length p.rows + 1

abbrev IsBasis : Program → List ℕ → Type 0
IsBasis p vs = IsRising 0 (width_of p) vs × (length vs ≡ length p.rows)

is_basis : (p : Program) (d : Dictionary) → IsDictionaryOf p d → IsBasis p (basis_of d)
is_basis p d k = (
  sorted_rising (width_of p) d.basic (λ v m. below v (at_counts d.basic v (member_at v d.basic m))) (λ v. omega (arith, dictionary_once p d k v)),
  sorted_length d.basic ∙ k.height,
)
  where
    halves : (j n : ℕ) → (j < n) ⊎ (n ≤ j)
    halves j n = grind arith

    below : (v : ℕ) → 1 ≤ times_in d.basic v → v < width_of p
    below v h = elim (halves v (width_of p)) [
      | inl l ↦ l
      | inr l ↦ absurd (omega (arith, h, k.places v, first_places_past p v (omega arith)))
    ]

-- ---- the bases of a run
each_basis : (p : Program) (d : Dictionary) (later : List Dictionary) → IsOnTheWay p d → Follow d later → All (λ d. IsBasis p (basis_of d)) (d ∷ later)
each_basis p d later w f zero x h = is_basis p d w.dictionary
each_basis p d [] w f (suc i) x h = absurd (omega arith)
each_basis p d (e ∷ es) w f (suc i) x h = each_basis p e es (step_on_the_way p d e w f.0) f.1 i x (omega arith)

bases_differ : (p : Program) (ds : List Dictionary) → AllPairs (λ d e. ¬ (SameBasis d e)) ds → AllPairs ◌≢◌ (map basis_of ds)
bases_differ p [] a i j x h k q = absurd (omega arith)
bases_differ p (d ∷ ds) a i j x h k q =
    let l : j < length (d ∷ ds) = rw length-map at k in
    a i j d h l (same_basis (get_or (d ∷ ds) i d) (get_or (d ∷ ds) j d) (sym (get_or-map basis_of (d ∷ ds) i d x (omega arith)) ∙ q ∙ get_or-map basis_of (d ∷ ds) j d x l))

pub runs_are_short : RunsAreShort
runs_are_short p d later w f =
    let h = rising_lists_counted (width_of p) (length p.rows) (map basis_of (d ∷ later)) (All-map (IsBasis p) basis_of (d ∷ later) (each_basis p d later w f))
    (bases_differ p (d ∷ later) (never_returns p d later w f)) in
    let e : length (map basis_of (d ∷ later)) ≡ length (d ∷ later) = length-map (d ∷ later) basis_of in
    subst (λ t. t ≤ choose (width_of p) (length p.rows)) e h

-- ---- more columns or rows, more choices
more_things : (k j : ℕ) → choose k j ≤ choose (suc k) j
more_things k zero = omega arith
more_things k (suc j) = omega arith

more_both : (k j : ℕ) → choose k j ≤ choose (suc k) (suc j)
more_both k j = omega arith

self : (a : ℕ) → a ≤ a
self a = omega arith

more_columns : (a k j : ℕ) → choose k j ≤ choose (a + k) j
more_columns zero k j = let e : k ≡ 0 + k = omega arith in subst (λ t. choose k j ≤ choose t j) e (self _)
more_columns (suc a) k j = let e : suc (a + k) ≡ suc a + k = omega arith in subst (λ t. choose k j ≤ choose t j) e (omega (arith, more_columns a k j, more_things (a + k) j))

more_rows : (b k j : ℕ) → choose k j ≤ choose (b + k) (b + j)
more_rows zero k j =
    let e : k ≡ 0 + k = omega arith in
    let f : j ≡ 0 + j = omega arith in
    subst (λ i. choose k j ≤ choose (0 + k) i) f (subst (λ t. choose k j ≤ choose t j) e (self _))
more_rows (suc b) k j =
    let e : suc (b + k) ≡ suc b + k = omega arith in
    let f : suc (b + j) ≡ suc b + j = omega arith in
    subst (λ i. choose k j ≤ choose (suc b + k) i) f
    (subst (λ t. choose k j ≤ choose t (suc (b + j))) e (omega (arith, more_rows b k j, more_both (b + k) (b + j))))

more : (n m N M : ℕ) → n ≤ N → m ≤ M → choose (n + m + 1) m ≤ choose (N + M + 1) M
more n m N M h k =
    let a = N - n in
    let b = M - m in
    let e : a + (b + (n + m + 1)) ≡ N + M + 1 = omega arith in
    let f : b + m ≡ M = omega arith in
    subst (λ j. choose (n + m + 1) m ≤ choose (N + M + 1) j) f
    (subst (λ t. choose (n + m + 1) m ≤ choose t (b + m)) e (omega (arith, more_rows b (n + m + 1) m, more_columns a (b + (n + m + 1)) (b + m))))

pub units_are_enough : UnitsAreEnough
units_are_enough p n m later g h k f =
    let s : length (first_of_program p ∷ later) ≤ choose (width_of p) (length p.rows) = runs_are_short p (first_of_program p) later (first_on_the_way p g) f in
    let t = more (length p.objective) (length p.rows) n m h k in
    omega (arith, s, t)
