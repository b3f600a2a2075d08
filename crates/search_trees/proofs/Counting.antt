-- Different numbers below a limit are no more than the limit.
use Rattle.std.proofs.Common.{◌≡◌, ◌≢◌, ℕ, suc, zero, ◌+◌, ◌<◌, ◌≤◌, refl, sym, ap, ◌∙◌, List, [], ◌∷◌, ◌++◌, length, arith, inl, inr, ◌⊎◌, Bool, true, false}
use Rattle.searches.specs.Laws.{Lacks, AreDistinct}

-- ---- numbers in a list
abbrev pub Has : List ℕ → ℕ → Type 0
Has [] n = ⊥
Has (m ∷ ms) n = (m ≡ n) ⊎ Has ms n

pub has_left : (a b : List ℕ) (n : ℕ) → Has a n → Has (a ++ b) n
has_left [] b n h = absurd h
has_left (m ∷ a) b n (inl e) = inl e
has_left (m ∷ a) b n (inr h) = inr (has_left a b n h)

pub has_right : (a b : List ℕ) (n : ℕ) → Has b n → Has (a ++ b) n
has_right [] b n h = h
has_right (m ∷ a) b n h = inr (has_right a b n h)

pub has_cases : (a b : List ℕ) (n : ℕ) → Has (a ++ b) n → Has a n ⊎ Has b n
has_cases [] b n h = inr h
has_cases (m ∷ a) b n (inl e) = inl (inl e)
has_cases (m ∷ a) b n (inr h) = elim (has_cases a b n h) [ inl k ↦ inl (inr k) | inr k ↦ inr k ]

-- an element more in the middle
pub has_between : (a b : List ℕ) (x n : ℕ) → Has (a ++ x ∷ b) n → (x ≡ n) ⊎ Has (a ++ b) n
has_between [] b x n h = h
has_between (m ∷ a) b x n (inl e) = inr (inl e)
has_between (m ∷ a) b x n (inr h) = elim (has_between a b x n h) [ inl e ↦ inl e | inr k ↦ inr (inr k) ]

pub has_more : (a b : List ℕ) (x n : ℕ) → Has (a ++ b) n → Has (a ++ x ∷ b) n
has_more [] b x n h = inr h
has_more (m ∷ a) b x n (inl e) = inl e
has_more (m ∷ a) b x n (inr h) = inr (has_more a b x n h)

pub lacks : (ns : List ℕ) (k : ℕ) → (Has ns k → ⊥) → Lacks ns k
lacks [] k h = tt
lacks (n ∷ ns) k h = (λ e. h (inl e), lacks ns k (λ i. h (inr i)))

pub not_has : (ns : List ℕ) (k : ℕ) → Lacks ns k → Has ns k → ⊥
not_has [] k l h = h
not_has (n ∷ ns) k l (inl e) = l.0 e
not_has (n ∷ ns) k l (inr h) = not_has ns k l.1 h

lacks_more : (a b : List ℕ) (x k : ℕ) → Lacks (a ++ b) k → x ≢ k → Lacks (a ++ x ∷ b) k
lacks_more [] b x k l n = (n, l)
lacks_more (m ∷ a) b x k l n = (l.0, lacks_more a b x k l.1 n)

-- ---- different numbers
pub distinct_right : (a b : List ℕ) → AreDistinct (a ++ b) → AreDistinct b
distinct_right [] b d = d
distinct_right (m ∷ a) b d = distinct_right a b d.1

pub distinct_more : (a b : List ℕ) (x : ℕ) → AreDistinct (a ++ b) → (Has (a ++ b) x → ⊥) → AreDistinct (a ++ x ∷ b)
distinct_more [] b x d h = (lacks b x h, d)
distinct_more (m ∷ a) b x d h = (lacks_more a b x m d.0 (λ e. h (inl (sym e))), distinct_more a b x d.1 (λ i. h (inr i)))

-- ---- marks
abbrev blank : ℕ → List Bool
blank zero = []
blank (suc n) = false ∷ blank n

abbrev mark : List Bool → ℕ → List Bool
mark [] k = []
mark (b ∷ bs) zero = true ∷ bs
mark (b ∷ bs) (suc k) = b ∷ mark bs k

abbrev is_marked : List Bool → ℕ → Bool
is_marked [] k = false
is_marked (b ∷ bs) zero = b
is_marked (b ∷ bs) (suc k) = is_marked bs k

abbrev count_of : Bool → ℕ
count_of true = 1
count_of false = 0

abbrev marks : List Bool → ℕ
marks [] = 0
marks (b ∷ bs) = count_of b + marks bs

abbrev all_marked : List ℕ → List Bool → List Bool
all_marked [] bs = bs
all_marked (n ∷ ns) bs = mark (all_marked ns bs) n

mark-length : (bs : List Bool) (k : ℕ) → length (mark bs k) ≡ length bs
mark-length [] k = refl
mark-length (b ∷ bs) zero = refl
mark-length (b ∷ bs) (suc k) = ap suc (mark-length bs k)

marked-length : (ns : List ℕ) (bs : List Bool) → length (all_marked ns bs) ≡ length bs
marked-length [] bs = refl
marked-length (n ∷ ns) bs = mark-length (all_marked ns bs) n ∙ marked-length ns bs

blank-length : (n : ℕ) → length (blank n) ≡ n
blank-length zero = refl
blank-length (suc n) = ap suc (blank-length n)

blank-marks : (n : ℕ) → marks (blank n) ≡ 0
blank-marks zero = refl
blank-marks (suc n) = let h = blank-marks n in omega (arith, h)

blank_unmarked : (n k : ℕ) → is_marked (blank n) k ≡ false
blank_unmarked zero k = refl
blank_unmarked (suc n) zero = refl
blank_unmarked (suc n) (suc k) = blank_unmarked n k

few_marks : (bs : List Bool) → marks bs ≤ length bs
few_marks [] = omega arith
few_marks (true ∷ bs) = let h = few_marks bs in omega (arith, h)
few_marks (false ∷ bs) = let h = few_marks bs in omega (arith, h)

mark_more : (bs : List Bool) (k : ℕ) → k < length bs → is_marked bs k ≡ false → marks (mark bs k) ≡ suc (marks bs)
mark_more [] k l e = absurd (omega (arith, l))
mark_more (true ∷ bs) zero l e = absurd cc
mark_more (false ∷ bs) zero l e = omega arith
mark_more (b ∷ bs) (suc k) l e = let h = mark_more bs k (omega (arith, l)) e in omega (arith, h)

other_mark : (bs : List Bool) (k j : ℕ) → k ≢ j → is_marked (mark bs k) j ≡ is_marked bs j
other_mark [] k j n = refl
other_mark (b ∷ bs) zero zero n = absurd (n refl)
other_mark (b ∷ bs) zero (suc j) n = refl
other_mark (b ∷ bs) (suc k) zero n = refl
other_mark (b ∷ bs) (suc k) (suc j) n = other_mark bs k j (λ e. n (ap suc e))

lacks_unmarked : (ns : List ℕ) (m k : ℕ) → Lacks ns k → is_marked (all_marked ns (blank m)) k ≡ false
lacks_unmarked [] m k l = blank_unmarked m k
lacks_unmarked (n ∷ ns) m k l = other_mark (all_marked ns (blank m)) n k l.0 ∙ lacks_unmarked ns m k l.1

count_marked : (ns : List ℕ) (m : ℕ) → AreDistinct ns → ((n : ℕ) → Has ns n → n < m) → marks (all_marked ns (blank m)) ≡ length ns
count_marked [] m d h = blank-marks m
count_marked (n ∷ ns) m d h =
    let e = marked-length ns (blank m) in
    let f = blank-length m in
    let l = h n (inl refl) in
    mark_more (all_marked ns (blank m)) n (omega (arith, e, f, l)) (lacks_unmarked ns m n d.0) ∙ ap suc (count_marked ns m d.1 (λ k i. h k (inr i)))

pub few_distinct : (ns : List ℕ) (m : ℕ) → AreDistinct ns → ((n : ℕ) → Has ns n → n < m) → length ns ≤ m
few_distinct ns m d h =
    let a = count_marked ns m d h in
    let b = few_marks (all_marked ns (blank m)) in
    let c = marked-length ns (blank m) in
    let e = blank-length m in
    omega (arith, a, b, c, e)
