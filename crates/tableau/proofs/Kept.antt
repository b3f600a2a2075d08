-- What stands in a list of entries, by its places.
use Rattle.std.proofs.Common.{◌≡◌, ◌≢◌, ◌⊎◌, inl, inr, ℕ, zero, suc, ◌<◌, ◌≤◌, refl, sym, ap, ◌∙◌, subst, List, [], ◌∷◌, length, arith, Bool, true, false, cond, eqb}
use Rattle.std.proofs.lemmas.Bool.{eqb-true, eqb-false, ne_eqb, eq-eqb, cases_lt}
use Rattle.fractions.specs.Rational.{ℚ, zero_ℚ}
use Rattle.tableau.specs.Entries.{pair_at, entry_in, IsRising, IsSparse}

-- the column stands at some place
abbrev pub Stands : List (ℕ × ℚ) → ℕ → Type 0
Stands kept j = (i : ℕ) × (i < length kept) × ((pair_at kept i).0 ≡ j)

-- it stands at none
abbrev pub Misses : List (ℕ × ℚ) → ℕ → Type 0
Misses kept j = (i : ℕ) → i < length kept → (pair_at kept i).0 ≢ j

-- the pair stands at some place
abbrev pub Among : List (ℕ × ℚ) → ℕ × ℚ → Type 0
Among kept pair = (i : ℕ) × (i < length kept) × (pair_at kept i ≡ pair)

rest_rises : (pair : ℕ × ℚ) (pairs : List (ℕ × ℚ)) → IsRising (pair ∷ pairs) → IsRising pairs
rest_rises pair pairs r i j h l = r (suc i) (suc j) (omega arith) (omega arith)

pub entry-found : (kept : List (ℕ × ℚ)) (i : ℕ) → IsRising kept → i < length kept → entry_in kept (pair_at kept i).0 ≡ (pair_at kept i).1
entry-found [] i r h = absurd (omega arith)
entry-found (pair ∷ pairs) zero r h = ap (λ b. cond b pair.1 (entry_in pairs pair.0)) (eq-eqb pair.0 pair.0 refl)
entry-found (pair ∷ pairs) (suc i) r h =
    let l : pair.0 < (pair_at pairs i).0 = r 0 (suc i) (omega arith) h in
    let n : pair.0 ≢ (pair_at pairs i).0 = omega arith in
    ap (λ b. cond b pair.1 (entry_in pairs (pair_at pairs i).0)) (ne_eqb _ _ n) ∙ entry-found pairs i (rest_rises pair pairs r) (omega arith)

pub entry-missed : (kept : List (ℕ × ℚ)) (j : ℕ) → Misses kept j → entry_in kept j ≡ zero_ℚ
entry-missed [] j n = refl
entry-missed (pair ∷ pairs) j n =
    ap (λ b. cond b pair.1 (entry_in pairs j)) (ne_eqb _ _ (n 0 (omega arith))) ∙ entry-missed pairs j (λ i h. n (suc i) (omega arith))

pub stands_or_not : (kept : List (ℕ × ℚ)) (j : ℕ) → Stands kept j ⊎ Misses kept j
stands_or_not [] j = inr (λ i h. absurd (omega arith))
stands_or_not (pair ∷ pairs) j = cases (eqb pair.0 j) refl (stands_or_not pairs j)
  where
    none : pair.0 ≢ j → Misses pairs j → Misses (pair ∷ pairs) j
    none n m zero h = n
    none n m (suc i) h = m i (omega arith)

    cases : (b : Bool) → eqb pair.0 j ≡ b → Stands pairs j ⊎ Misses pairs j → Stands (pair ∷ pairs) j ⊎ Misses (pair ∷ pairs) j
    cases true e s = inl (0, omega arith, eqb-true _ _ e)
    cases false e (inl s) = inl (suc s.0, omega (arith, s.1), s.2)
    cases false e (inr m) = inr (none (eqb-false _ _ e) m)

-- lists with the same pairs but for one column
pub changed : (old new : List (ℕ × ℚ)) (col : ℕ) (x : ℚ) → IsRising old → IsRising new
    → ((i : ℕ) → i < length old → (pair_at old i).0 ≢ col → Among new (pair_at old i))
    → ((i : ℕ) → i < length new → (pair_at new i).0 ≢ col → Among old (pair_at new i))
    → entry_in new col ≡ x
    → (j : ℕ) → entry_in new j ≡ cond (eqb col j) x (entry_in old j)
changed old new col x r s f b v j = cases (eqb col j) refl
  where
    other : col ≢ j → Stands old j ⊎ Misses old j → Stands new j ⊎ Misses new j → entry_in new j ≡ entry_in old j
    other n (inl o) m =
        let a = f o.0 o.1 (λ e. n (sym e ∙ o.2)) in
        let there : entry_in new (pair_at old o.0).0 ≡ (pair_at old o.0).1 =
        subst (λ (p : ℕ × ℚ). entry_in new p.0 ≡ p.1) a.2 (entry-found new a.0 s a.1) in
        ap (entry_in new) (sym o.2) ∙ there ∙ sym (entry-found old o.0 r o.1) ∙ ap (entry_in old) o.2
    other n (inr o) (inl m) =
        let a = b m.0 m.1 (λ e. n (sym e ∙ m.2)) in
        absurd (o a.0 a.1 (ap (λ (p : ℕ × ℚ). p.0) a.2 ∙ m.2))
    other n (inr o) (inr m) = entry-missed new j m ∙ sym (entry-missed old j o)

    cases : (c : Bool) → eqb col j ≡ c → entry_in new j ≡ cond c x (entry_in old j)
    cases true e = ap (entry_in new) (sym (eqb-true _ _ e)) ∙ v
    cases false e = other (eqb-false _ _ e) (stands_or_not old j) (stands_or_not new j)

column-least : (kept : List (ℕ × ℚ)) (i : ℕ) → IsRising kept → i < length kept → i ≤ (pair_at kept i).0
column-least kept zero r h = omega arith
column-least kept (suc i) r h =
    let below : i ≤ (pair_at kept i).0 = column-least kept i r (omega arith) in
    let next : (pair_at kept i).0 < (pair_at kept (suc i)).0 = r i (suc i) (omega arith) h in
    omega arith

-- there are no more entries than columns
pub few_kept : (n : ℕ) (kept : List (ℕ × ℚ)) → IsSparse n kept → length kept ≤ n
few_kept n kept s = cases (cases_lt n (length kept))
  where
    cases : (n < length kept) ⊎ (length kept ≤ n) → length kept ≤ n
    cases (inl l) =
        let least : n ≤ (pair_at kept n).0 = column-least kept n s.rising l in
        let within : (pair_at kept n).0 < n = s.within n l in
        omega arith
    cases (inr l) = l
