-- Rows that change one by one, and are changed back.
use Rattle.std.proofs.Common.{◌≡◌, ◌≢◌, ◌⊎◌, inl, inr, ℕ, ◌+◌, ◌<◌, ◌≤◌, refl, sym, ap, ◌∙◌, subst, List, [], length, arith, get_or, set}
use Rattle.std.specs.Prelude.{All}
use Rattle.std.proofs.lemmas.Bool.{cases_eq, cases_lt}
use Rattle.std.proofs.lemmas.List.{ext_get_or, length-set, get_or-set_other, get_or_read}
use Rattle.std.proofs.lemmas.Grind.{get_or-set_at}
use Rattle.fractions.specs.Rational.{ℚ, zero_ℚ}
use Rattle.fractions.specs.Vectors.{at}
use Rattle.dictionaries.specs.Dictionary.{solved_row, substituted}
use Rattle.dictionaries.specs.Narrow.{IsNarrowSubstituted}
use Rattle.tableau.specs.Changed.{IsChanged, AreChanged}
use Rattle.tableau.proofs.TakenBack.{taken_back, narrow_taken_back}

-- ---- one row
-- the change is made back by the leaving row, with narrow numbers
pub narrow_back_again : (row r by now : List ℚ) (k : ℕ) → at r k ≢ zero_ℚ → by ≡ solved_row r k → length by ≡ length row → k < length row → IsChanged row k by now
    → IsNarrowSubstituted now k r
narrow_back_again row r by now k n e l h c = subst (λ t. IsNarrowSubstituted t k r) (sym c.value) (narrow_taken_back row r by k n e l h c.numbers c.narrow)

pub same_again : (row r by now new : List ℚ) (k : ℕ) → at r k ≢ zero_ℚ → by ≡ solved_row r k → length by ≡ length row → length r ≡ length row → IsChanged row k by now
    → new ≡ substituted now k r → new ≡ row
same_again row r by now new k n e l m c f = f ∙ ap (λ t. substituted t k r) c.value ∙ taken_back row r by k n e l m

-- ---- rows, one after the other
pub changed_none : (rows : List (List ℚ)) (leaving k : ℕ) (by : List ℚ) → AreChanged rows 0 leaving k by rows
changed_none rows leaving k by = record {
  size = refl;
  changed = λ i l m. absurd (omega (arith, l));
  stays = refl;
  behind = λ i l. refl;
}

-- the leaving row is passed by
pub changed_past : (was rows : List (List ℚ)) (n leaving k : ℕ) (by : List ℚ) → n ≡ leaving → AreChanged was n leaving k by rows → AreChanged was (n + 1) leaving k by rows
changed_past was rows n leaving k by e s = record {
  size = s.size;
  changed = λ i l m. cases i l m (cases_lt i n);
  stays = s.stays;
  behind = λ i l. s.behind i (omega (arith, l));
}
  where
    cases : (i : ℕ) → i < n + 1 → i ≢ leaving → (i < n) ⊎ (n ≤ i) → IsChanged (get_or was i []) k by (get_or rows i [])
    cases i l m (inl h) = s.changed i h m
    cases i l m (inr h) = let same : i ≡ n = omega (arith, l, h) in absurd (m (same ∙ e))

-- the next row has changed
pub changed_next : (was rows : List (List ℚ)) (n leaving k : ℕ) (by x : List ℚ) → n < length rows → n ≢ leaving → IsChanged (get_or was n []) k by x
    → AreChanged was n leaving k by rows → AreChanged was (n + 1) leaving k by (set rows n x)
changed_next was rows n leaving k by x h o c s = record {
  size = length-set rows n x ∙ s.size;
  changed = λ i l m. cases i l m (cases_eq i n);
  stays = get_or-set_other rows n leaving x [] (λ e. o (sym e)) ∙ s.stays;
  behind = λ i l. let m : i ≢ n = omega (arith, l) in get_or-set_other rows n i x [] m ∙ s.behind i (omega (arith, l));
}
  where
    cases : (i : ℕ) → i < n + 1 → i ≢ leaving → (i ≡ n) ⊎ (i ≢ n) → IsChanged (get_or was i []) k by (get_or (set rows n x) i [])
    cases i l m (inl e) =
        subst (λ t. IsChanged (get_or was t []) k by (get_or (set rows n x) t [])) (sym e)
        (subst (IsChanged (get_or was n []) k by) (sym (get_or-set_at rows n n x [] refl h)) c)
    cases i l m (inr p) =
        let less : i < n = omega (arith, l, p) in
        subst (IsChanged (get_or was i []) k by) (sym (get_or-set_other rows n i x [] p)) (s.changed i less m)

-- a row is put where it stands
pub changed_same : (was rows : List (List ℚ)) (n leaving k : ℕ) (by x : List ℚ) → n < length rows → n ≢ leaving → x ≡ get_or rows n []
    → AreChanged was n leaving k by rows → AreChanged was n leaving k by (set rows n x)
changed_same was rows n leaving k by x h o e s = record {
  size = length-set rows n x ∙ s.size;
  changed = λ i l m. let p : i ≢ n = omega (arith, l) in subst (IsChanged (get_or was i []) k by) (sym (get_or-set_other rows n i x [] p)) (s.changed i l m);
  stays = get_or-set_other rows n leaving x [] (λ f. o (sym f)) ∙ s.stays;
  behind = λ i l. cases i l (cases_eq i n);
}
  where
    cases : (i : ℕ) → n ≤ i → (i ≡ n) ⊎ (i ≢ n) → get_or (set rows n x) i [] ≡ get_or was i []
    cases i l (inl f) = get_or-set_at rows n i x [] f h ∙ e ∙ ap (λ t. get_or rows t []) (sym f) ∙ s.behind i l
    cases i l (inr m) = get_or-set_other rows n i x [] m ∙ s.behind i l

-- another row stands in the place of the leaving one meanwhile
pub changed_around : (rows mid : List (List ℚ)) (end leaving k : ℕ) (x by : List ℚ) → leaving < length rows → by ≡ get_or rows leaving []
    → AreChanged (set rows leaving x) end leaving k by mid → AreChanged rows end leaving k by (set mid leaving by)
changed_around rows mid end leaving k x by h e s = record {
  size = length-set mid leaving by ∙ s.size ∙ length-set rows leaving x;
  changed = λ i l m.
      subst (λ t. IsChanged t k by (get_or (set mid leaving by) i [])) (get_or-set_other rows leaving i x [] m)
      (subst (IsChanged (get_or (set rows leaving x) i []) k by) (sym (get_or-set_other mid leaving i by [] m)) (s.changed i l m));
  stays = there leaving refl;
  behind = λ i l. cases i l (cases_eq i leaving);
}
  where
    there : (i : ℕ) → i ≡ leaving → get_or (set mid leaving by) i [] ≡ get_or rows i []
    there i f = get_or-set_at mid leaving i by [] f (omega (arith, h, s.size, length-set rows leaving x)) ∙ e ∙ ap (λ t. get_or rows t []) (sym f)

    cases : (i : ℕ) → end ≤ i → (i ≡ leaving) ⊎ (i ≢ leaving) → get_or (set mid leaving by) i [] ≡ get_or rows i []
    cases i l (inl f) = there i f
    cases i l (inr m) = get_or-set_other mid leaving i by [] m ∙ s.behind i l ∙ get_or-set_other rows leaving i x [] m

-- ---- and back
pub width_at : (rows : List (List ℚ)) (w i : ℕ) → All (λ r. length r ≡ w) rows → i < length rows → length (get_or rows i []) ≡ w
width_at rows w i a l = a i [] l

-- the leaving row comes in again with narrow numbers
pub narrow_rows_back : (was mid : List (List ℚ)) (end leaving k : ℕ) (by : List ℚ) → leaving < length was → k < length by → end ≤ length was
    → at (get_or was leaving []) k ≢ zero_ℚ → by ≡ solved_row (get_or was leaving []) k → All (λ r. length r ≡ length by) was → AreChanged was end leaving k by mid
    → (i : ℕ) → i < end → i ≢ leaving → IsNarrowSubstituted (get_or mid i []) k (get_or mid leaving [])
narrow_rows_back was mid end leaving k by h p e n f a s i l m =
    let width = width_at was (length by) i a (omega (arith, l, e)) in
    let within : k < length (get_or was i []) = omega (arith, p, width) in
    subst (IsNarrowSubstituted (get_or mid i []) k) (sym s.stays)
    (narrow_back_again (get_or was i []) (get_or was leaving []) by (get_or mid i []) k n f (sym width) within (s.changed i l m))

-- and all rows are what they were
pub all_back : (was mid new : List (List ℚ)) (end leaving k : ℕ) (by : List ℚ) → leaving < length was → end ≤ length was
    → at (get_or was leaving []) k ≢ zero_ℚ → by ≡ solved_row (get_or was leaving []) k → All (λ r. length r ≡ length by) was
    → AreChanged was end leaving k by mid → AreChanged mid end leaving k (get_or mid leaving []) new → new ≡ was
all_back was mid new end leaving k by h e n f a s t =
    ext_get_or [] new was (t.size ∙ s.size) (λ i l. cases i (omega (arith, l, t.size, s.size)) (cases_eq i leaving) (cases_lt i end))
  where
    cases : (i : ℕ) → i < length was → (i ≡ leaving) ⊎ (i ≢ leaving) → (i < end) ⊎ (end ≤ i) → get_or new i [] ≡ get_or was i []
    cases i l (inl g) x = ap (λ j. get_or new j []) g ∙ t.stays ∙ s.stays ∙ ap (λ j. get_or was j []) (sym g)
    cases i l (inr m) (inl x) =
        let own = width_at was (length by) i a l in
        let leaves = width_at was (length by) leaving a h in
        same_again (get_or was i []) (get_or was leaving []) by (get_or mid i []) (get_or new i []) k n f (sym own) (leaves ∙ sym own) (s.changed i x m)
        ((t.changed i x m).value ∙ ap (substituted (get_or mid i []) k) s.stays)
    cases i l (inr m) (inr x) = t.behind i x ∙ s.behind i x

-- a row that is read where the rows are what they were
pub read_again : (items was : List (List ℚ)) (leaving : ℕ) (x : List ℚ) → items ≡ was → leaving < length was → x ≡ get_or items leaving x → x ≡ get_or was leaving []
read_again items was leaving x e h r =
    get_or_read items leaving x (subst (λ rows. leaving < length rows) (sym e) h) r [] ∙ ap (λ rows. get_or rows leaving []) e
