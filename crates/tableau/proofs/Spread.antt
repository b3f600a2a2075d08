-- A row by what is kept of it.
use Rattle.std.proofs.Common.{◌≡◌, ◌≢◌, ◌⊎◌, inl, inr, ℕ, zero, suc, ◌<◌, refl, sym, ap, ◌∙◌, List, [], length, arith, Bool, true, false, cond, eqb, set, replicate}
use Rattle.std.proofs.lemmas.Bool.{eqb-true, eqb-false}
use Rattle.std.proofs.lemmas.List.{ext_get_or, length-set, length-replicate, get_or-replicate, get_or-set_other}
use Rattle.std.proofs.lemmas.List.FromFn.{length-map-range_with_len, get_or-map-range_with_len}
use Rattle.std.proofs.lemmas.Grind.{get_or-set_at}
use Rattle.fractions.specs.Rational.{ℚ, zero_ℚ}
use Rattle.fractions.specs.Vectors.{at}
use Rattle.tableau.specs.Entries.{pair_at, entry_in, spread, IsSparse, AreEntries}
use Rattle.tableau.proofs.Kept.{Stands, Misses, entry-found, entry-missed, stands_or_not}

pub length-spread : (c : ℚ) (n : ℕ) (kept : List (ℕ × ℚ)) → length (spread c n kept) ≡ suc n
unfolding spread
length-spread c n kept = ap suc (length-map-range_with_len (entry_in kept) 0 n)

pub rest-spread : (c : ℚ) (n : ℕ) (kept : List (ℕ × ℚ)) → at (spread c n kept) 0 ≡ c
unfolding spread
rest-spread c n kept = refl

pub at-spread : (c : ℚ) (n : ℕ) (kept : List (ℕ × ℚ)) (j : ℕ) → j < n → at (spread c n kept) (suc j) ≡ entry_in kept j
unfolding spread
at-spread c n kept j h = get_or-map-range_with_len (entry_in kept) 0 n j j zero_ℚ h (omega arith)

pub spread_rest : (c d : ℚ) (n : ℕ) (kept : List (ℕ × ℚ)) → spread d n kept ≡ set (spread c n kept) 0 d
unfolding spread
spread_rest c d n kept = refl

-- where one entry changes
pub spread_put : (c : ℚ) (n : ℕ) (kept new : List (ℕ × ℚ)) (col : ℕ) (x : ℚ) → col < n
    → ((j : ℕ) → entry_in new j ≡ cond (eqb col j) x (entry_in kept j))
    → spread c n new ≡ set (spread c n kept) (suc col) x
spread_put c n kept new col x h f =
    ext_get_or zero_ℚ (spread c n new) (set (spread c n kept) (suc col) x)
    (length-spread c n new ∙ sym (length-set (spread c n kept) (suc col) x ∙ length-spread c n kept))
    (λ i l. there i (omega (arith, l, length-spread c n new)))
  where
    there : (i : ℕ) → i < suc n → at (spread c n new) i ≡ at (set (spread c n kept) (suc col) x) i
    there zero l = rest-spread c n new ∙ sym (get_or-set_other (spread c n kept) (suc col) 0 x zero_ℚ (omega arith) ∙ rest-spread c n kept)
    there (suc j) l = at-spread c n new j (omega arith) ∙ f j ∙ cases (eqb col j) refl
      where
        cases : (b : Bool) → eqb col j ≡ b → cond b x (entry_in kept j) ≡ at (set (spread c n kept) (suc col) x) (suc j)
        cases true e =
            let i : suc j ≡ suc col = ap suc (sym (eqb-true _ _ e)) in
            sym (get_or-set_at (spread c n kept) (suc col) (suc j) x zero_ℚ i (omega (arith, h, length-spread c n kept)))
        cases false e =
            let i : col ≢ j = eqb-false _ _ e in
            sym (get_or-set_other (spread c n kept) (suc col) (suc j) x zero_ℚ (omega arith) ∙ at-spread c n kept j (omega arith))

-- where nothing is kept
pub spread_none : (n : ℕ) (kept : List (ℕ × ℚ)) (z : ℚ) → kept ≡ [] → z ≡ zero_ℚ → spread z n kept ≡ replicate (suc n) zero_ℚ
spread_none n kept z e f =
    ext_get_or zero_ℚ (spread z n kept) (replicate (suc n) zero_ℚ)
    (length-spread z n kept ∙ sym (length-replicate (suc n) zero_ℚ))
    (λ i l. there i (omega (arith, l, length-spread z n kept)))
  where
    there : (i : ℕ) → i < suc n → at (spread z n kept) i ≡ at (replicate (suc n) zero_ℚ) i
    there zero l = rest-spread z n kept ∙ f
    there (suc j) l =
        at-spread z n kept j (omega arith) ∙ ap (λ k. entry_in k j) e
        ∙ sym (get_or-replicate (suc n) (suc j) zero_ℚ zero_ℚ l)

-- what is kept are the entries that aren't 0
pub spread_entries : (c : ℚ) (n : ℕ) (kept : List (ℕ × ℚ)) → IsSparse n kept → AreEntries (spread c n kept) kept
spread_entries c n kept s = record {
  rising = s.rising;
  each = λ i l.
      let h : (pair_at kept i).0 < n = s.within i l in
      record {
        within = omega (arith, h, length-spread c n kept);
        value = sym (at-spread c n kept (pair_at kept i).0 h ∙ entry-found kept i s.rising l);
        other_than_zero = s.other_than_zero i l;
      };
  all = λ j l z. cases j (omega (arith, l, length-spread c n kept)) z (stands_or_not kept j);
}
  where
    cases : (j : ℕ) → j < n → at (spread c n kept) (suc j) ≢ zero_ℚ → Stands kept j ⊎ Misses kept j → Stands kept j
    cases j h z (inl t) = t
    cases j h z (inr m) = absurd (z (at-spread c n kept j h ∙ entry-missed kept j m))
