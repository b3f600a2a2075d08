-- Runs of entries that are put into a row: behind all others at once, or one after the other.
use Rattle.std.proofs.Common.{◌≡◌, ◌≢◌, ◌⊎◌, inl, inr, ℕ, suc, ◌+◌, ◌-◌, ◌<◌, ◌≤◌, refl, sym, ap, ◌∙◌, subst, List, [], ◌∷◌, ◌++◌, length, arith, Bool, true, false, cond, eqb, length-append, take, drop}
use Rattle.std.specs.Prelude.{slice_range}
use Rattle.std.proofs.lemmas.Bool.{cases_lt, eq-eqb, ne_eqb}
use Rattle.std.proofs.lemmas.List.{get_or_append_left, get_or-append_right, get_or-drop, get_or-take, get_or_past, length-drop, length-take-le}
use Rattle.fractions.specs.Rational.{ℚ, zero_ℚ}
use Rattle.fractions.specs.Vectors.{at}
use Rattle.tableau.specs.Entries.{pair_at, IsRising, IsSparse, entry_in, spread}
use Rattle.tableau.specs.Runs.{HasRun, IsRun, IsRunPut}
use Rattle.tableau.proofs.Kept.{Misses, Stands, entry-found, entry-missed, stands_or_not}
use Rattle.tableau.proofs.Below.{below_more}
use Rattle.tableau.proofs.Spread.{length-spread, rest-spread, at-spread}

-- ---- one list behind another
earlier : (xs ys : List (ℕ × ℚ)) (i : ℕ) → i < length xs → pair_at (xs ++ ys) i ≡ pair_at xs i
earlier xs ys i h = get_or_append_left xs ys (0, zero_ℚ) i h

later : (xs ys : List (ℕ × ℚ)) (i : ℕ) → length xs ≤ i → pair_at (xs ++ ys) i ≡ pair_at ys (i - length xs)
later xs ys i h = get_or-append_right xs ys (length xs) i (0, zero_ℚ) refl h

entry_before : (xs ys : List (ℕ × ℚ)) (j : ℕ) → Misses ys j → entry_in (xs ++ ys) j ≡ entry_in xs j
entry_before [] ys j m = entry-missed ys j m
entry_before (pair ∷ xs) ys j m = ap (λ z. cond (eqb pair.0 j) pair.1 z) (entry_before xs ys j m)

module _ (columns : ℕ) (xs ys : List (ℕ × ℚ)) (s : IsSparse columns xs) (r : IsSparse columns ys) (behind : (i j : ℕ) → i < length xs → j < length ys → (pair_at xs i).0 < (pair_at ys j).0) where
  size : length (xs ++ ys) ≡ length xs + length ys
  size = length-append xs ys

  rising : IsRising (xs ++ ys)
  rising i j h l = by (cases_lt i (length xs)) (cases_lt j (length xs))
    where
      by : (i < length xs) ⊎ (length xs ≤ i) → (j < length xs) ⊎ (length xs ≤ j) → (pair_at (xs ++ ys) i).0 < (pair_at (xs ++ ys) j).0
      by (inl m) (inl n) = rw (earlier xs ys i m, earlier xs ys j n) (s.rising i j h n)
      by (inl m) (inr n) = rw (earlier xs ys i m, later xs ys j n) (behind i (j - length xs) m (omega (arith, l, size)))
      by (inr m) (inl n) = absurd (omega arith)
      by (inr m) (inr n) = rw (later xs ys i m, later xs ys j n) (r.rising (i - length xs) (j - length xs) (omega arith) (omega (arith, l, size)))

  pub joined_sparse : IsSparse columns (xs ++ ys)
  joined_sparse = record {
    rising = rising;
    within = λ i l. in_columns i l (cases_lt i (length xs));
    other_than_zero = λ i l. not_zero i l (cases_lt i (length xs));
  }
    where
      in_columns : (i : ℕ) → i < length (xs ++ ys) → (i < length xs) ⊎ (length xs ≤ i) → (pair_at (xs ++ ys) i).0 < columns
      in_columns i l (inl m) = rw (earlier xs ys i m) (s.within i m)
      in_columns i l (inr m) = rw (later xs ys i m) (r.within (i - length xs) (omega (arith, l, size)))

      not_zero : (i : ℕ) → i < length (xs ++ ys) → (i < length xs) ⊎ (length xs ≤ i) → (pair_at (xs ++ ys) i).1 ≢ zero_ℚ
      not_zero i l (inl m) = rw (earlier xs ys i m) (s.other_than_zero i m)
      not_zero i l (inr m) = rw (later xs ys i m) (r.other_than_zero (i - length xs) (omega (arith, l, size)))

  pub joined_run : HasRun ys (length ys) xs (xs ++ ys)
  joined_run = record {
    put = λ i h. there i h (length xs + i) refl;
    left = λ j n. entry_before xs ys j n;
  }
    where
      there : (i : ℕ) → i < length ys → (k : ℕ) → k ≡ length xs + i → entry_in (xs ++ ys) (pair_at ys i).0 ≡ (pair_at ys i).1
      there i h k e =
          let same : k - length xs ≡ i = omega (arith, e) in
          let is : pair_at (xs ++ ys) k ≡ pair_at ys i = later xs ys k (omega (arith, e)) ∙ ap (pair_at ys) same in
          subst (λ (p : ℕ × ℚ). entry_in (xs ++ ys) p.0 ≡ p.1) is (entry-found (xs ++ ys) k rising (omega (arith, e, h, size)))

-- what stands before the first of a run stands before each
pub all_behind : (kept run : List (ℕ × ℚ)) → IsRising run → ((i : ℕ) → i < length kept → (pair_at kept i).0 < (pair_at run 0).0)
    → (i j : ℕ) → i < length kept → j < length run → (pair_at kept i).0 < (pair_at run j).0
all_behind kept run r f i j h l = by (cases_lt 0 j)
  where
    by : (0 < j) ⊎ (j ≤ 0) → (pair_at kept i).0 < (pair_at run j).0
    by (inl m) = let x : (pair_at kept i).0 < (pair_at run 0).0 = f i h in let y : (pair_at run 0).0 < (pair_at run j).0 = r 0 j m l in omega (arith, x, y)
    by (inr m) = let e : 0 ≡ j = omega (arith, m) in subst (λ k. (pair_at kept i).0 < (pair_at run k).0) e (f i h)

-- ---- one entry after the other
pub run_none : (run kept : List (ℕ × ℚ)) → HasRun run 0 kept kept
run_none run kept = record { put = λ i h. absurd (omega (arith, h)); left = λ j n. refl }

pub run_more : (run before kept new : List (ℕ × ℚ)) (i : ℕ) → IsRising run → i < length run
    → ((j : ℕ) → entry_in new j ≡ cond (eqb (pair_at run i).0 j) (pair_at run i).1 (entry_in kept j)) → HasRun run i before kept → HasRun run (i + 1) before new
run_more run before kept new i r h put s = record {
  put = below_more (λ q. entry_in new (pair_at run q).0 ≡ (pair_at run q).1) i
      (λ q l. let less : (pair_at run q).0 < (pair_at run i).0 = r q i l h in
      let apart : (pair_at run i).0 ≢ (pair_at run q).0 = omega (arith, less) in
      put (pair_at run q).0 ∙ ap (λ b. cond b (pair_at run i).1 (entry_in kept (pair_at run q).0)) (ne_eqb _ _ apart) ∙ s.put q l)
      (put (pair_at run i).0 ∙ ap (λ b. cond b (pair_at run i).1 (entry_in kept (pair_at run i).0)) (same (pair_at run i).0));
  left = λ j n.
      put j ∙ ap (λ b. cond b (pair_at run i).1 (entry_in kept j)) (ne_eqb _ _ (n i (omega arith)))
      ∙ s.left j (λ q l. n q (omega (arith, l)));
}
  where
    same : (n : ℕ) → eqb n n ≡ true
    same n = eq-eqb n n refl

-- ---- of a row
pub run_of : (size columns : ℕ) (run : List (ℕ × ℚ)) → size ≡ suc columns → IsRun size run → IsSparse columns run
run_of size columns run e r = record {
  rising = r.rising;
  within = λ i l. let w : suc (pair_at run i).0 < size = r.within i l in omega (arith, w, e);
  other_than_zero = r.other_than_zero;
}

pub row_has_run : (rest : ℚ) (columns : ℕ) (run kept new : List (ℕ × ℚ)) → IsSparse columns run → HasRun run (length run) kept new → IsRunPut run (spread rest columns kept) (spread rest columns new)
row_has_run rest columns run kept new r h = record {
  size = length-spread rest columns new ∙ sym (length-spread rest columns kept);
  rest = rest-spread rest columns new ∙ sym (rest-spread rest columns kept);
  put = λ i l. at-spread rest columns new (pair_at run i).0 (r.within i l) ∙ h.put i l;
  left = λ j n. elsewhere j n (cases_lt j columns);
}
  where
    elsewhere : (j : ℕ) → ((i : ℕ) → i < length run → (pair_at run i).0 ≢ j) → (j < columns) ⊎ (columns ≤ j) → at (spread rest columns new) (suc j) ≡ at (spread rest columns kept) (suc j)
    elsewhere j n (inl l) = at-spread rest columns new j l ∙ h.left j n ∙ sym (at-spread rest columns kept j l)
    elsewhere j n (inr l) =
        get_or_past (spread rest columns new) (suc j) zero_ℚ (omega (arith, length-spread rest columns new, l))
        ∙ sym (get_or_past (spread rest columns kept) (suc j) zero_ℚ (omega (arith, length-spread rest columns kept, l)))

-- ---- a part of a list
length_part : (kept : List (ℕ × ℚ)) (first last : ℕ) → first ≤ last → last ≤ length kept → length (slice_range kept first last) ≡ last - first
length_part kept first last h l = length-take-le (last - first) (drop first kept) (omega (arith, length-drop first kept, h, l))

pub part_at : (kept : List (ℕ × ℚ)) (first last i : ℕ) → first + i < last → pair_at (slice_range kept first last) i ≡ pair_at kept (first + i)
part_at kept first last i h = get_or-take (last - first) (drop first kept) i (0, zero_ℚ) (omega (arith, h)) ∙ get_or-drop first kept i (0, zero_ℚ)

module _ (kept : List (ℕ × ℚ)) (first last : ℕ) (ends : first ≤ last) (within : last ≤ length kept) where
  pub part_size : length (slice_range kept first last) ≡ last - first
  part_size = length_part kept first last ends within

  pub part_is_run : (size : ℕ) → IsRising kept → ((i : ℕ) → i < length kept → suc (pair_at kept i).0 < size) → ((i : ℕ) → i < length kept → (pair_at kept i).1 ≢ zero_ℚ)
      → IsRun size (slice_range kept first last)
  part_is_run size r w z = record {
    rising = λ i j h l.
        let b : j < last - first = omega (arith, l, part_size) in
        rw (part_at kept first last i (omega (arith, b, h)), part_at kept first last j (omega (arith, b))) (r (first + i) (first + j) (omega (arith, h)) (omega (arith, b, within)));
    within = λ i l.
        let b : i < last - first = omega (arith, l, part_size) in
        rw (part_at kept first last i (omega (arith, b))) (w (first + i) (omega (arith, b, within)));
    other_than_zero = λ i l.
        let b : i < last - first = omega (arith, l, part_size) in
        rw (part_at kept first last i (omega (arith, b))) (z (first + i) (omega (arith, b, within)));
  }

  module _ (before after : List ℚ) (p : IsRunPut (slice_range kept first last) before after) where
    pub part_put : (i : ℕ) → first ≤ i → i < last → at after (suc (pair_at kept i).0) ≡ (pair_at kept i).1
    part_put i m l =
        let e : first + (i - first) ≡ i = omega (arith, m) in
        let is : pair_at (slice_range kept first last) (i - first) ≡ pair_at kept i = part_at kept first last (i - first) (omega (arith, m, l)) ∙ ap (pair_at kept) e in
        subst (λ (q : ℕ × ℚ). at after (suc q.0) ≡ q.1) is (p.put (i - first) (omega (arith, m, l, part_size)))

    pub part_left : (j : ℕ) → ((i : ℕ) → first ≤ i → i < last → (pair_at kept i).0 ≢ j) → at after (suc j) ≡ at before (suc j)
    part_left j n = p.left j (λ i l.
        let b : i < last - first = omega (arith, l, part_size) in
        subst (λ (q : ℕ × ℚ). q.0 ≢ j) (sym (part_at kept first last i (omega (arith, b)))) (n (first + i) (omega arith) (omega (arith, b))))
