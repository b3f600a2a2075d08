-- A list of entries after one of them was set, put in or taken out.
use Rattle.std.proofs.Common.{◌≡◌, ◌≢◌, ◌⊎◌, inl, inr, ℕ, ◌+◌, ◌-◌, ◌<◌, ◌≤◌, refl, sym, ap, ◌∙◌, subst, List, length, arith, Bool, true, false, cond, eqb, set}
use Rattle.std.specs.List.{insert, remove}
use Rattle.std.proofs.lemmas.Bool.{cases_lt, cases_eq, cases_order, eqb-true}
use Rattle.std.proofs.lemmas.List.{length-set, get_or-set_other}
use Rattle.std.proofs.lemmas.List.Edits.{length-insert, get_or-insert_below, get_or-insert_at, get_or-insert_above, length-remove, get_or-remove_below, get_or-remove_above}
use Rattle.std.proofs.lemmas.Grind.{get_or-set_at}
use Rattle.fractions.specs.Rational.{ℚ, zero_ℚ}
use Rattle.tableau.specs.Entries.{pair_at, entry_in, IsRising, IsSparse, IsGap}
use Rattle.tableau.proofs.Searching.{all_later}
use Rattle.tableau.proofs.Kept.{Misses, Among, entry-found, entry-missed, changed}

-- ---- another entry at a place
set_there : (kept : List (ℕ × ℚ)) (p i : ℕ) (pair : ℕ × ℚ) → p < length kept → i ≡ p → pair_at (set kept p pair) i ≡ pair
set_there kept p i pair h e = get_or-set_at kept p i pair (0, zero_ℚ) e h

set_elsewhere : (kept : List (ℕ × ℚ)) (p i : ℕ) (pair : ℕ × ℚ) → i ≢ p → pair_at (set kept p pair) i ≡ pair_at kept i
set_elsewhere kept p i pair n = get_or-set_other kept p i pair (0, zero_ℚ) n

same_column : (kept : List (ℕ × ℚ)) (p i col : ℕ) (x : ℚ) → p < length kept → (pair_at kept p).0 ≡ col → (pair_at (set kept p (col, x)) i).0 ≡ (pair_at kept i).0
same_column kept p i col x h c = cases (cases_eq i p)
  where
    cases : (i ≡ p) ⊎ (i ≢ p) → (pair_at (set kept p (col, x)) i).0 ≡ (pair_at kept i).0
    cases (inl e) = ap (λ (q : ℕ × ℚ). q.0) (set_there kept p i (col, x) h e) ∙ sym c ∙ ap (λ k. (pair_at kept k).0) (sym e)
    cases (inr n) = ap (λ (q : ℕ × ℚ). q.0) (set_elsewhere kept p i (col, x) n)

pub rising_set : (kept : List (ℕ × ℚ)) (p col : ℕ) (x : ℚ) → IsRising kept → p < length kept → (pair_at kept p).0 ≡ col → IsRising (set kept p (col, x))
rising_set kept p col x r h c i j l m =
    let size = length-set kept p (col, x) in
    let at_i = same_column kept p i col x h c in
    let at_j = same_column kept p j col x h c in
    let less : (pair_at kept i).0 < (pair_at kept j).0 = r i j l (omega arith) in
    omega arith

pub sparse_set : (n : ℕ) (kept : List (ℕ × ℚ)) (p col : ℕ) (x : ℚ) → p < length kept → (pair_at kept p).0 ≡ col → x ≢ zero_ℚ → IsSparse n kept → IsSparse n (set kept p (col, x))
sparse_set n kept p col x h c z s = record {
  rising = rising_set kept p col x s.rising h c;
  within = λ i l.
      let size = length-set kept p (col, x) in
      let at_i = same_column kept p i col x h c in
      let less : (pair_at kept i).0 < n = s.within i (omega arith) in
      omega arith;
  other_than_zero = λ i l. cases i (omega (arith, l, length-set kept p (col, x))) (cases_eq i p);
}
  where
    cases : (i : ℕ) → i < length kept → (i ≡ p) ⊎ (i ≢ p) → (pair_at (set kept p (col, x)) i).1 ≢ zero_ℚ
    cases i l (inl e) = λ f. z (sym (ap (λ (q : ℕ × ℚ). q.1) (set_there kept p i (col, x) h e)) ∙ f)
    cases i l (inr m) = λ f. s.other_than_zero i l (sym (ap (λ (q : ℕ × ℚ). q.1) (set_elsewhere kept p i (col, x) m)) ∙ f)

pub entries_set : (kept : List (ℕ × ℚ)) (p col : ℕ) (x : ℚ) → IsRising kept → p < length kept → (pair_at kept p).0 ≡ col
    → (j : ℕ) → entry_in (set kept p (col, x)) j ≡ cond (eqb col j) x (entry_in kept j)
entries_set kept p col x r h c =
    let size = length-set kept p (col, x) in
    let rises = rising_set kept p col x r h c in
    let here = set_there kept p p (col, x) h refl in
    changed kept (set kept p (col, x)) col x r rises
    (λ i l n. (i, omega arith, set_elsewhere kept p i (col, x) (λ e. n (ap (λ k. (pair_at kept k).0) e ∙ c))))
    (λ i l n. (i, omega arith, sym (set_elsewhere kept p i (col, x) (λ e. n (same_column kept p i col x h c ∙ ap (λ k. (pair_at kept k).0) e ∙ c)))))
    (subst (λ (q : ℕ × ℚ). entry_in (set kept p (col, x)) q.0 ≡ q.1) here (entry-found (set kept p (col, x)) p rises (omega arith)))

-- ---- an entry put in at a gap
insert_before : (kept : List (ℕ × ℚ)) (p i : ℕ) (pair : ℕ × ℚ) → p ≤ length kept → i < p → pair_at (insert kept p pair) i ≡ pair_at kept i
insert_before kept p i pair h l = get_or-insert_below kept p pair (0, zero_ℚ) i l h

insert_there : (kept : List (ℕ × ℚ)) (p i : ℕ) (pair : ℕ × ℚ) → p ≤ length kept → i ≡ p → pair_at (insert kept p pair) i ≡ pair
insert_there kept p i pair h e = ap (λ k. pair_at (insert kept p pair) k) e ∙ get_or-insert_at kept p pair (0, zero_ℚ) h

insert_behind : (kept : List (ℕ × ℚ)) (p i k : ℕ) (pair : ℕ × ℚ) → p ≤ length kept → p ≤ k → i ≡ k + 1 → pair_at (insert kept p pair) i ≡ pair_at kept k
insert_behind kept p i k pair h l e = ap (λ k. pair_at (insert kept p pair) k) e ∙ get_or-insert_above kept p pair (0, zero_ℚ) k l h

insert_column_there : (kept : List (ℕ × ℚ)) (p i col : ℕ) (x : ℚ) → p ≤ length kept → i ≡ p → (pair_at (insert kept p (col, x)) i).0 ≡ col
insert_column_there kept p i col x h e = ap (λ (q : ℕ × ℚ). q.0) (insert_there kept p i (col, x) h e)

insert_column_before : (kept : List (ℕ × ℚ)) (p i : ℕ) (pair : ℕ × ℚ) → p ≤ length kept → i < p → (pair_at (insert kept p pair) i).0 ≡ (pair_at kept i).0
insert_column_before kept p i pair h l = ap (λ (q : ℕ × ℚ). q.0) (insert_before kept p i pair h l)

insert_column_behind : (kept : List (ℕ × ℚ)) (p i k : ℕ) (pair : ℕ × ℚ) → p ≤ length kept → p ≤ k → i ≡ k + 1 → (pair_at (insert kept p pair) i).0 ≡ (pair_at kept k).0
insert_column_behind kept p i k pair h l e = ap (λ (q : ℕ × ℚ). q.0) (insert_behind kept p i k pair h l e)

pub rising_insert : (kept : List (ℕ × ℚ)) (p col : ℕ) (x : ℚ) → IsRising kept → IsGap kept col p → IsRising (insert kept p (col, x))
rising_insert kept p col x r g i j l m = cases (cases_order i p) (cases_order j p)
  where
    size : length (insert kept p (col, x)) ≡ length kept + 1
    size = length-insert kept p (col, x) g.within

    cases : (i ≡ p) ⊎ ((i < p) ⊎ (p < i)) → (j ≡ p) ⊎ ((j < p) ⊎ (p < j))
        → (pair_at (insert kept p (col, x)) i).0 < (pair_at (insert kept p (col, x)) j).0
    cases (inl a) (inl b) = absurd (omega arith)
    cases (inl a) (inr (inl b)) = absurd (omega arith)
    cases (inl a) (inr (inr b)) =
        let e = insert_column_there kept p i col x g.within a in
        let f = insert_column_behind kept p j (j - 1) (col, x) g.within (omega arith) (omega arith) in
        let less : col < (pair_at kept (j - 1)).0 = g.after (j - 1) (omega arith) (omega (arith, size, m)) in
        omega (arith, e, f, less)
    cases (inr (inl a)) (inl b) =
        let e = insert_column_before kept p i (col, x) g.within a in
        let f = insert_column_there kept p j col x g.within b in
        let less : (pair_at kept i).0 < col = g.before i a in
        omega (arith, e, f, less)
    cases (inr (inl a)) (inr (inl b)) =
        let e = insert_column_before kept p i (col, x) g.within a in
        let f = insert_column_before kept p j (col, x) g.within b in
        let less : (pair_at kept i).0 < (pair_at kept j).0 = r i j l (omega (arith, b, g.within)) in
        omega (arith, e, f, less)
    cases (inr (inl a)) (inr (inr b)) =
        let e = insert_column_before kept p i (col, x) g.within a in
        let f = insert_column_behind kept p j (j - 1) (col, x) g.within (omega arith) (omega arith) in
        let less : (pair_at kept i).0 < (pair_at kept (j - 1)).0 = r i (j - 1) (omega arith) (omega (arith, size, m)) in
        omega (arith, e, f, less)
    cases (inr (inr a)) (inl b) = absurd (omega arith)
    cases (inr (inr a)) (inr (inl b)) = absurd (omega arith)
    cases (inr (inr a)) (inr (inr b)) =
        let e = insert_column_behind kept p i (i - 1) (col, x) g.within (omega arith) (omega arith) in
        let f = insert_column_behind kept p j (j - 1) (col, x) g.within (omega arith) (omega arith) in
        let less : (pair_at kept (i - 1)).0 < (pair_at kept (j - 1)).0 = r (i - 1) (j - 1) (omega arith) (omega (arith, size, m)) in
        omega (arith, e, f, less)

-- what holds of each pair and of the one that is put in holds of each afterwards
insert_all : (P : ℕ × ℚ → Type 0) (kept : List (ℕ × ℚ)) (p : ℕ) (pair : ℕ × ℚ) → p ≤ length kept → ((i : ℕ) → i < length kept → P (pair_at kept i)) → P pair
    → (i : ℕ) → i < length (insert kept p pair) → P (pair_at (insert kept p pair) i)
insert_all P kept p pair h f x i l = cases (cases_order i p)
  where
    size : length (insert kept p pair) ≡ length kept + 1
    size = length-insert kept p pair h

    cases : (i ≡ p) ⊎ ((i < p) ⊎ (p < i)) → P (pair_at (insert kept p pair) i)
    cases (inl a) = subst P (sym (insert_there kept p i pair h a)) x
    cases (inr (inl a)) = subst P (sym (insert_before kept p i pair h a)) (f i (omega (arith, a, h)))
    cases (inr (inr a)) = subst P (sym (insert_behind kept p i (i - 1) pair h (omega arith) (omega arith))) (f (i - 1) (omega (arith, size, l, a)))

pub sparse_insert : (n : ℕ) (kept : List (ℕ × ℚ)) (p col : ℕ) (x : ℚ) → IsGap kept col p → col < n → x ≢ zero_ℚ → IsSparse n kept → IsSparse n (insert kept p (col, x))
sparse_insert n kept p col x g c z s = record {
  rising = rising_insert kept p col x s.rising g;
  within = insert_all (λ q. q.0 < n) kept p (col, x) g.within s.within c;
  other_than_zero = insert_all (λ q. q.1 ≢ zero_ℚ) kept p (col, x) g.within s.other_than_zero z;
}

pub entries_insert : (kept : List (ℕ × ℚ)) (p col : ℕ) (x : ℚ) → IsRising kept → IsGap kept col p
    → (j : ℕ) → entry_in (insert kept p (col, x)) j ≡ cond (eqb col j) x (entry_in kept j)
entries_insert kept p col x r g = changed kept (insert kept p (col, x)) col x r rises forth back here
  where
    size : length (insert kept p (col, x)) ≡ length kept + 1
    size = length-insert kept p (col, x) g.within

    rises : IsRising (insert kept p (col, x))
    rises = rising_insert kept p col x r g

    forth : (i : ℕ) → i < length kept → (pair_at kept i).0 ≢ col → Among (insert kept p (col, x)) (pair_at kept i)
    forth i l n = cases (cases_lt i p)
      where
        cases : (i < p) ⊎ (p ≤ i) → Among (insert kept p (col, x)) (pair_at kept i)
        cases (inl a) = (i, omega (arith, size, l), insert_before kept p i (col, x) g.within a)
        cases (inr a) = (i + 1, omega (arith, size, l), insert_behind kept p (i + 1) i (col, x) g.within a refl)

    back : (i : ℕ) → i < length (insert kept p (col, x)) → (pair_at (insert kept p (col, x)) i).0 ≢ col → Among kept (pair_at (insert kept p (col, x)) i)
    back i l n = cases (cases_order i p)
      where
        cases : (i ≡ p) ⊎ ((i < p) ⊎ (p < i)) → Among kept (pair_at (insert kept p (col, x)) i)
        cases (inl a) = absurd (n (insert_column_there kept p i col x g.within a))
        cases (inr (inl a)) = (i, omega (arith, a, g.within), sym (insert_before kept p i (col, x) g.within a))
        cases (inr (inr a)) = (i - 1, omega (arith, size, l, a), sym (insert_behind kept p i (i - 1) (col, x) g.within (omega arith) (omega arith)))

    here : entry_in (insert kept p (col, x)) col ≡ x
    here = subst (λ (q : ℕ × ℚ). entry_in (insert kept p (col, x)) q.0 ≡ q.1) (insert_there kept p p (col, x) g.within refl)
        (entry-found (insert kept p (col, x)) p rises (omega (arith, size, g.within)))

-- ---- an entry taken out
remove_before : (kept : List (ℕ × ℚ)) (p i : ℕ) → p < length kept → i < p → pair_at (remove kept p) i ≡ pair_at kept i
remove_before kept p i h l = get_or-remove_below kept p (0, zero_ℚ) i l h

remove_behind : (kept : List (ℕ × ℚ)) (p i k : ℕ) → p < length kept → p ≤ i → k ≡ i + 1 → pair_at (remove kept p) i ≡ pair_at kept k
remove_behind kept p i k h l e = get_or-remove_above kept p (0, zero_ℚ) i l h ∙ ap (pair_at kept) (sym e)

-- what stands at a place afterwards stood at that place, or at the next one
data Source (kept : List (ℕ × ℚ)) (p i : ℕ) : Type 0 where
  stayed : i < p → pair_at (remove kept p) i ≡ pair_at kept i → Source kept p i
  moved : p ≤ i → pair_at (remove kept p) i ≡ pair_at kept (i + 1) → Source kept p i

source_of : (kept : List (ℕ × ℚ)) (p i : ℕ) → p < length kept → Source kept p i
source_of kept p i h = cases (cases_lt i p)
  where
    cases : (i < p) ⊎ (p ≤ i) → Source kept p i
    cases (inl a) = stayed a (remove_before kept p i h a)
    cases (inr a) = moved a (remove_behind kept p i (i + 1) h a refl)

pub rising_remove : (kept : List (ℕ × ℚ)) (p : ℕ) → IsRising kept → p < length kept → IsRising (remove kept p)
rising_remove kept p r h i j l m = cases (source_of kept p i h) (source_of kept p j h)
  where
    size : length (remove kept p) + 1 ≡ length kept
    size = length-remove kept p h

    both : (a b : ℕ) → pair_at (remove kept p) i ≡ pair_at kept a → pair_at (remove kept p) j ≡ pair_at kept b → a < b → b < length kept
        → (pair_at (remove kept p) i).0 < (pair_at (remove kept p) j).0
    both a b e f l m =
        let e0 = ap (λ (q : ℕ × ℚ). q.0) e in
        let f0 = ap (λ (q : ℕ × ℚ). q.0) f in
        let less : (pair_at kept a).0 < (pair_at kept b).0 = r a b l m in
        omega (arith, e0, f0, less)

    cases : Source kept p i → Source kept p j → (pair_at (remove kept p) i).0 < (pair_at (remove kept p) j).0
    cases (stayed a e) (stayed b f) = both i j e f l (omega (arith, size, m))
    cases (stayed a e) (moved b f) = both i (j + 1) e f (omega arith) (omega (arith, size, m))
    cases (moved a e) (stayed b f) = absurd (omega arith)
    cases (moved a e) (moved b f) = both (i + 1) (j + 1) e f (omega arith) (omega (arith, size, m))

remove_all : (P : ℕ × ℚ → Type 0) (kept : List (ℕ × ℚ)) (p : ℕ) → p < length kept → ((i : ℕ) → i < length kept → P (pair_at kept i))
    → (i : ℕ) → i < length (remove kept p) → P (pair_at (remove kept p) i)
remove_all P kept p h f i l = cases (source_of kept p i h)
  where
    size : length (remove kept p) + 1 ≡ length kept
    size = length-remove kept p h

    cases : Source kept p i → P (pair_at (remove kept p) i)
    cases (stayed a e) = subst P (sym e) (f i (omega (arith, size, l)))
    cases (moved a e) = subst P (sym e) (f (i + 1) (omega (arith, size, l)))

pub sparse_remove : (n : ℕ) (kept : List (ℕ × ℚ)) (p : ℕ) → p < length kept → IsSparse n kept → IsSparse n (remove kept p)
sparse_remove n kept p h s = record {
  rising = rising_remove kept p s.rising h;
  within = remove_all (λ q. q.0 < n) kept p h s.within;
  other_than_zero = remove_all (λ q. q.1 ≢ zero_ℚ) kept p h s.other_than_zero;
}

pub entries_remove : (kept : List (ℕ × ℚ)) (p col : ℕ) (x : ℚ) → IsRising kept → p < length kept → (pair_at kept p).0 ≡ col → x ≡ zero_ℚ
    → (j : ℕ) → entry_in (remove kept p) j ≡ cond (eqb col j) x (entry_in kept j)
entries_remove kept p col x r h c z = changed kept (remove kept p) col x r (rising_remove kept p r h) forth back here
  where
    size : length (remove kept p) + 1 ≡ length kept
    size = length-remove kept p h

    forth : (i : ℕ) → i < length kept → (pair_at kept i).0 ≢ col → Among (remove kept p) (pair_at kept i)
    forth i l n = cases (cases_order i p)
      where
        cases : (i ≡ p) ⊎ ((i < p) ⊎ (p < i)) → Among (remove kept p) (pair_at kept i)
        cases (inl a) = absurd (n (ap (λ k. (pair_at kept k).0) a ∙ c))
        cases (inr (inl a)) = (i, omega (arith, size, h, a), remove_before kept p i h a)
        cases (inr (inr a)) = (i - 1, omega (arith, size, l, a), remove_behind kept p (i - 1) i h (omega arith) (omega arith))

    back : (i : ℕ) → i < length (remove kept p) → (pair_at (remove kept p) i).0 ≢ col → Among kept (pair_at (remove kept p) i)
    back i l n = cases (source_of kept p i h)
      where
        cases : Source kept p i → Among kept (pair_at (remove kept p) i)
        cases (stayed a e) = (i, omega (arith, size, l), sym e)
        cases (moved a e) = (i + 1, omega (arith, size, l), sym e)

    -- every other column is another one
    missed : Misses (remove kept p) col
    missed i l e = cases (source_of kept p i h)
      where
        cases : Source kept p i → ⊥
        cases (stayed a f) =
            let less : (pair_at kept i).0 < (pair_at kept p).0 = r i p a h in
            let f0 = ap (λ (q : ℕ × ℚ). q.0) f in
            omega (arith, less, f0, e, c)
        cases (moved a f) =
            let less : (pair_at kept p).0 < (pair_at kept (i + 1)).0 = r p (i + 1) (omega arith) (omega (arith, size, l)) in
            let f0 = ap (λ (q : ℕ × ℚ). q.0) f in
            omega (arith, less, f0, e, c)

    here : entry_in (remove kept p) col ≡ x
    here = entry-missed (remove kept p) col missed ∙ sym z

-- ---- places
-- at a gap the column isn't there
gap_missed : (kept : List (ℕ × ℚ)) (p col : ℕ) → IsGap kept col p → Misses kept col
gap_missed kept p col g i l e = there (cases_lt i p)
  where
    there : (i < p) ⊎ (p ≤ i) → ⊥
    there (inl a) = let less : (pair_at kept i).0 < col = g.before i a in omega (arith, less, e)
    there (inr a) = let less : col < (pair_at kept i).0 = g.after i a l in omega (arith, less, e)

-- nothing is put in for 0
pub entries_same : (kept : List (ℕ × ℚ)) (p col : ℕ) (x : ℚ) → IsGap kept col p → x ≡ zero_ℚ
    → (j : ℕ) → entry_in kept j ≡ cond (eqb col j) x (entry_in kept j)
entries_same kept p col x g z j = cases (eqb col j) refl
  where
    cases : (b : Bool) → eqb col j ≡ b → entry_in kept j ≡ cond b x (entry_in kept j)
    cases true e = ap (entry_in kept) (sym (eqb-true _ _ e)) ∙ entry-missed kept col (gap_missed kept p col g) ∙ sym z
    cases false e = refl

-- the entry at its place, and none at a gap
pub entry_there : (kept : List (ℕ × ℚ)) (p col : ℕ) (pair : ℕ × ℚ) → IsRising kept → p < length kept → (pair_at kept p).0 ≡ col → pair_at kept p ≡ pair → pair.1 ≡ entry_in kept col
entry_there kept p col pair r h c e = sym (ap (entry_in kept) (sym c) ∙ entry-found kept p r h ∙ ap (λ (q : ℕ × ℚ). q.1) e)

pub entry_gap : (kept : List (ℕ × ℚ)) (p col : ℕ) (z : ℚ) → IsGap kept col p → z ≡ zero_ℚ → z ≡ entry_in kept col
entry_gap kept p col z g e = e ∙ sym (entry-missed kept col (gap_missed kept p col g))

-- where the first column that isn't before is another one, there is a gap
pub gap_there : (kept : List (ℕ × ℚ)) (p col : ℕ) → IsRising kept → p ≤ length kept → ((i : ℕ) → i < p → (pair_at kept i).0 < col)
    → ((i : ℕ) → p ≤ i → i < length kept → col ≤ (pair_at kept i).0) → (p < length kept → (pair_at kept p).0 ≢ col) → IsGap kept col p
gap_there kept p col r h b a n = record { within = h; before = b; after = later }
  where
    later : (i : ℕ) → p ≤ i → i < length kept → col < (pair_at kept i).0
    later i l m =
        let inside : p < length kept = omega arith in
        let first : col ≤ (pair_at kept p).0 = a p (omega arith) inside in
        let other : (pair_at kept p).0 ≢ col = n inside in
        let less : col < (pair_at kept p).0 = omega arith in
        all_later kept p col r less i l m
