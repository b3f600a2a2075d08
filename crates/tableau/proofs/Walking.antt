-- How far two lists of entries are merged: the first `place` of the row's own, and the first `i` of what comes in.
use Rattle.std.proofs.Common.{◌≡◌, ◌≢◌, ◌⊎◌, inl, inr, ℕ, suc, ◌+◌, ◌<◌, ◌≤◌, sym, ap, ◌∙◌, subst, List, length, arith, set}
use Rattle.std.proofs.lemmas.Bool.{cases_lt, cases_eq}
use Rattle.fractions.specs.Rational.{ℚ, zero_ℚ}
use Rattle.fractions.specs.Vectors.{at}
use Rattle.dictionaries.specs.Dictionary.{substituted}
use Rattle.dictionaries.specs.Narrow.{IsNarrowAt}
use Rattle.tableau.specs.Entries.{pair_at, IsRising, AreEntries}
use Rattle.tableau.proofs.Kept.{Stands, Misses, stands_or_not}
use Rattle.tableau.proofs.Made.{put_here, put_other}
use Rattle.tableau.proofs.Merging.{none_there, own_stays}

pub record IsMerged (row by : List ℚ) (own other : List (ℕ × ℚ)) (col place i : ℕ) (into : List ℚ) : Type 0 where
  pub within : place ≤ length own
  pub behind : (p q : ℕ) → p < place → i ≤ q → q < length other → (pair_at own p).0 < (pair_at other q).0
  pub ahead : (p q : ℕ) → place ≤ p → p < length own → q < i → (pair_at other q).0 < (pair_at own p).0
  pub done : (j : ℕ) → suc j < length row → ((p : ℕ) → place ≤ p → p < length own → (pair_at own p).0 ≢ j)
      → ((q : ℕ) → i ≤ q → q < length other → (pair_at other q).0 ≢ j) → at into (suc j) ≡ at (substituted row (suc col) by) (suc j)

-- nothing is merged yet, and the row is blank
pub merged_none : (row by : List ℚ) (own other : List (ℕ × ℚ)) (col : ℕ) (into : List ℚ) → AreEntries row own → AreEntries by other → length by ≡ length row
    → at by (suc col) ≢ zero_ℚ → ((j : ℕ) → at into (suc j) ≡ zero_ℚ) → IsMerged row by own other col 0 0 into
merged_none row by own other col into a b e n z = record {
  within = omega arith;
  behind = λ p q l. absurd (omega arith);
  ahead = λ p q l m o. absurd (omega arith);
  done = λ j h f g.
      z j ∙ sym (own_stays row by other col j b e h n (λ q l. g q (omega arith) l) ∙ none_there row own j a h (λ p l. f p (omega arith) l));
}

-- some of the row's own entries are copied, which stand before all that still come in
pub merged_copies : (row by : List ℚ) (own other : List (ℕ × ℚ)) (col place next i : ℕ) (into mid : List ℚ) → AreEntries row own → AreEntries by other → length by ≡ length row
    → at by (suc col) ≢ zero_ℚ → place ≤ next → next ≤ length own
    → ((p q : ℕ) → place ≤ p → p < next → i ≤ q → q < length other → (pair_at own p).0 < (pair_at other q).0)
    → ((p : ℕ) → place ≤ p → p < next → at mid (suc (pair_at own p).0) ≡ (pair_at own p).1)
    → ((j : ℕ) → ((p : ℕ) → place ≤ p → p < next → (pair_at own p).0 ≢ j) → at mid (suc j) ≡ at into (suc j))
    → IsMerged row by own other col place i into → IsMerged row by own other col next i mid
merged_copies row by own other col place next i into mid a b e n first last before copied left s = record {
  within = last;
  behind = λ p q l m o. behind p q l m o (cases_lt p place);
  ahead = λ p q l m o. s.ahead p q (omega arith) m o;
  done = λ j h f g. done j h f g (stands_or_not own j);
}
  where
    behind : (p q : ℕ) → p < next → i ≤ q → q < length other → (p < place) ⊎ (place ≤ p) → (pair_at own p).0 < (pair_at other q).0
    behind p q l m o (inl x) = s.behind p q x m o
    behind p q l m o (inr x) = before p q x l m o

    still : (j : ℕ) → suc j < length row → ((p : ℕ) → next ≤ p → p < length own → (pair_at own p).0 ≢ j) → ((q : ℕ) → i ≤ q → q < length other → (pair_at other q).0 ≢ j)
        → ((p : ℕ) → place ≤ p → p < length own → (pair_at own p).0 ≢ j) → at mid (suc j) ≡ at (substituted row (suc col) by) (suc j)
    still j h f g m = left j (λ p l o. m p l (omega arith)) ∙ s.done j h m g

    found : (j p : ℕ) → suc j < length row → p < length own → (pair_at own p).0 ≡ j → ((p : ℕ) → next ≤ p → p < length own → (pair_at own p).0 ≢ j)
        → ((q : ℕ) → i ≤ q → q < length other → (pair_at other q).0 ≢ j) → (p < place) ⊎ (place ≤ p) → (p < next) ⊎ (next ≤ p)
        → at mid (suc j) ≡ at (substituted row (suc col) by) (suc j)
    found j p h l c f g x (inr y) = absurd (f p y l c)
    found j p h l c f g (inl x) (inl y) =
        still j h f g (λ k m o d. let less : (pair_at own p).0 < (pair_at own k).0 = a.rising p k (omega arith) o in omega (arith, less, c, d))
    found j p h l c f g (inr x) (inl y) =
        ap (λ k. at mid (suc k)) (sym c) ∙ copied p x y ∙ (a.each p l).value ∙ ap (λ k. at row (suc k)) c
        ∙ sym (own_stays row by other col j b e h n (λ q m. other_column q m (cases_lt q i)))
      where
        other_column : (q : ℕ) → q < length other → (q < i) ⊎ (i ≤ q) → (pair_at other q).0 ≢ j
        other_column q m (inl w) = let less : (pair_at other q).0 < (pair_at own p).0 = s.ahead p q x l w in omega (arith, less, c)
        other_column q m (inr w) = g q w m

    done : (j : ℕ) → suc j < length row → ((p : ℕ) → next ≤ p → p < length own → (pair_at own p).0 ≢ j) → ((q : ℕ) → i ≤ q → q < length other → (pair_at other q).0 ≢ j)
        → Stands own j ⊎ Misses own j → at mid (suc j) ≡ at (substituted row (suc col) by) (suc j)
    done j h f g (inl t) = found j t.0 h t.1 t.2 f g (cases_lt t.0 place) (cases_lt t.0 next)
    done j h f g (inr m) = still j h f g (λ p l o. m p o)

-- the next number that comes in is put, after the row's own of that column, if there is one
pub merged_put : (row by : List ℚ) (own other : List (ℕ × ℚ)) (col place next i : ℕ) (mid new : List ℚ) (x : ℚ) → AreEntries by other → i < length other
    → place ≤ next → next ≤ length own → ((p : ℕ) → place ≤ p → p < next → (pair_at own p).0 ≡ (pair_at other i).0)
    → ((p : ℕ) → next ≤ p → p < length own → (pair_at other i).0 < (pair_at own p).0)
    → suc (pair_at other i).0 < length mid → new ≡ set mid (suc (pair_at other i).0) x → x ≡ at (substituted row (suc col) by) (suc (pair_at other i).0)
    → IsMerged row by own other col place i mid → IsMerged row by own other col next (i + 1) new
merged_put row by own other col place next i mid new x b l first last same after h e v s = record {
  within = last;
  behind = λ p q m o r. behind p q m o r (cases_lt p place);
  ahead = λ p q m o r. ahead p q m o r (cases_eq q i);
  done = λ j k f g. done j k f g (cases_eq j (pair_at other i).0);
}
  where
    behind : (p q : ℕ) → p < next → i + 1 ≤ q → q < length other → (p < place) ⊎ (place ≤ p) → (pair_at own p).0 < (pair_at other q).0
    behind p q m o r (inl w) = s.behind p q w (omega arith) r
    behind p q m o r (inr w) = let less : (pair_at other i).0 < (pair_at other q).0 = b.rising i q (omega arith) r in omega (arith, less, same p w m)

    ahead : (p q : ℕ) → next ≤ p → p < length own → q < i + 1 → (q ≡ i) ⊎ (q ≢ i) → (pair_at other q).0 < (pair_at own p).0
    ahead p q m o r (inl w) = subst (λ k. (pair_at other k).0 < (pair_at own p).0) (sym w) (after p m o)
    ahead p q m o r (inr w) = s.ahead p q (omega arith) o (omega arith)

    own_column : (j : ℕ) → j ≢ (pair_at other i).0 → ((p : ℕ) → next ≤ p → p < length own → (pair_at own p).0 ≢ j)
        → (p : ℕ) → place ≤ p → p < length own → (p < next) ⊎ (next ≤ p) → (pair_at own p).0 ≢ j
    own_column j n f p m o (inl w) = λ d. n (sym d ∙ same p m w)
    own_column j n f p m o (inr w) = f p w o

    other_column : (j : ℕ) → j ≢ (pair_at other i).0 → ((q : ℕ) → i + 1 ≤ q → q < length other → (pair_at other q).0 ≢ j)
        → (q : ℕ) → i ≤ q → q < length other → (q ≡ i) ⊎ (q ≢ i) → (pair_at other q).0 ≢ j
    other_column j n g q m o (inl w) = λ d. n (sym d ∙ ap (λ k. (pair_at other k).0) w)
    other_column j n g q m o (inr w) = g q (omega arith) o

    done : (j : ℕ) → suc j < length row → ((p : ℕ) → next ≤ p → p < length own → (pair_at own p).0 ≢ j) → ((q : ℕ) → i + 1 ≤ q → q < length other → (pair_at other q).0 ≢ j)
        → (j ≡ (pair_at other i).0) ⊎ (j ≢ (pair_at other i).0) → at new (suc j) ≡ at (substituted row (suc col) by) (suc j)
    done j k f g (inl w) =
        subst (λ c. at new (suc c) ≡ at (substituted row (suc col) by) (suc c)) (sym w) (put_here mid new (suc (pair_at other i).0) x e h ∙ v)
    done j k f g (inr w) =
        let n : suc j ≢ suc (pair_at other i).0 = omega arith in
        put_other mid new (suc (pair_at other i).0) (suc j) x e n
        ∙ s.done j k (λ p m o. own_column j w f p m o (cases_lt p next)) (λ q m o. other_column j w g q m o (cases_eq q i))

-- all that stands before where the copies end stands before the next that comes in
pub earlier_than_next : (row by : List ℚ) (own other : List (ℕ × ℚ)) (col place i next : ℕ) (into : List ℚ) → i < length other
    → ((p : ℕ) → p < next → place ≤ p → (pair_at own p).0 < (pair_at other i).0) → IsMerged row by own other col place i into
    → (p : ℕ) → p < next → (pair_at own p).0 < (pair_at other i).0
earlier_than_next row by own other col place i next into h b s p l = cases (cases_lt p place)
  where
    cases : (p < place) ⊎ (place ≤ p) → (pair_at own p).0 < (pair_at other i).0
    cases (inl m) = s.behind p i m (omega arith) h
    cases (inr m) = b p l m

-- and before all that come in after it
pub before_all : (own other : List (ℕ × ℚ)) (place next i : ℕ) → IsRising other → ((p : ℕ) → p < next → place ≤ p → (pair_at own p).0 < (pair_at other i).0)
    → (p q : ℕ) → place ≤ p → p < next → i ≤ q → q < length other → (pair_at own p).0 < (pair_at other q).0
before_all own other place next i r b p q l m n o = cases (cases_eq q i)
  where
    cases : (q ≡ i) ⊎ (q ≢ i) → (pair_at own p).0 < (pair_at other q).0
    cases (inl e) = subst (λ k. (pair_at own p).0 < (pair_at other k).0) (sym e) (b p m l)
    cases (inr x) =
        let first : (pair_at own p).0 < (pair_at other i).0 = b p m l in
        let less : (pair_at other i).0 < (pair_at other q).0 = r i q (omega arith) o in
        omega (arith, first, less)

-- where nothing more comes in and the rest is copied, the row is made
pub merged_all : (row by : List ℚ) (own other : List (ℕ × ℚ)) (col place next size : ℕ) (into end : List ℚ) → AreEntries row own → AreEntries by other → length by ≡ length row
    → at by (suc col) ≢ zero_ℚ → place ≤ next → next ≤ length own → size ≡ length row → ((p : ℕ) → next ≤ p → p < length own → size ≤ (pair_at own p).0)
    → ((p : ℕ) → place ≤ p → p < next → at end (suc (pair_at own p).0) ≡ (pair_at own p).1)
    → ((j : ℕ) → ((p : ℕ) → place ≤ p → p < next → (pair_at own p).0 ≢ j) → at end (suc j) ≡ at into (suc j))
    → IsMerged row by own other col place (length other) into → (j : ℕ) → suc j < length row → at end (suc j) ≡ at (substituted row (suc col) by) (suc j)
merged_all row by own other col place next size into end a b e n first last same after copied left s j h =
    (merged_copies row by own other col place next (length other) into end a b e n first last (λ p q l m o r. absurd (omega (arith, o, r))) copied left s).done j h
    (λ p l m d. let far : size ≤ (pair_at own p).0 = after p l m in omega (arith, far, same, h, d))
    (λ q l m. absurd (omega (arith, l, m)))

-- each number that came in was found by narrow numbers
pub narrow_where_other : (row by : List ℚ) (other : List (ℕ × ℚ)) (col i : ℕ) → AreEntries by other → length by ≡ length row → i ≡ length other
    → ((q : ℕ) → q < i → IsNarrowAt row (suc col) by (suc (pair_at other q).0))
    → (j : ℕ) → suc j < length row → at by (suc j) ≢ zero_ℚ → IsNarrowAt row (suc col) by (suc j)
narrow_where_other row by other col i a e s n j h z =
    let t = a.all j (omega (arith, e, h)) z in
    subst (λ k. IsNarrowAt row (suc col) by (suc k)) t.2 (n t.0 (omega (arith, t.1, s)))
