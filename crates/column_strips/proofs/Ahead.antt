-- One more row among those that are sought.
use Rattle.std.proofs.Common.{◌≡◌, ℕ, zero, suc, ◌+◌, ◌-◌, ◌<◌, ◌≤◌, List, [], ◌∷◌, ◌++◌, length, get_or, refl, sym, ap, subst, ◌∙◌, arith, ◌⊎◌, inl, inr}
use Rattle.std.specs.Prelude.{Some, slice_get}
use Rattle.std.proofs.lemmas.Bool.{cases_lt}
use Rattle.std.proofs.lemmas.Option.{same_Some, slice_get-get_or, slice_get_past, slice_get_within}
use Rattle.column_strips.specs.Rows.{AreAhead, IsSought}

-- the row stands at the places from one on up to it, where rows behind it stood or none
pub record IsLowered (old new : List ℕ) (low row : ℕ) : Type 0 where
  pub there : slice_get new row ≡ Some row
  pub before : (k : ℕ) → k < low → slice_get new k ≡ slice_get old k
  pub filled : (k : ℕ) → low ≤ k → k ≤ row → slice_get new k ≡ Some row
  pub behind : (k : ℕ) → row < k → slice_get new k ≡ slice_get old k
  pub past : (k v : ℕ) → low ≤ k → k ≤ row → slice_get old k ≡ Some v → row < v
  pub short : (k v : ℕ) → k < low → slice_get old k ≡ Some v → v ≤ row

module _ (old new : List ℕ) (low row : ℕ) (a : AreAhead old) (l : IsLowered old new low row) where
  pub added_row : IsSought new row
  added_row = l.there

  -- at each place it stands, or what stood there
  either : (k : ℕ) → ((low ≤ k) × (k ≤ row) × (slice_get new k ≡ Some row)) ⊎ (((k < low) ⊎ (row < k)) × (slice_get new k ≡ slice_get old k))
  either k =
      let G : Type 0 = ((low ≤ k) × (k ≤ row) × (slice_get new k ≡ Some row)) ⊎ (((k < low) ⊎ (row < k)) × (slice_get new k ≡ slice_get old k)) in
      elim (cases_lt k low) as (λ _. G) [
        | inl b ↦ inr (inl b, l.before k b)
        | inr m ↦ elim (cases_lt row k) as (λ _. G) [ inl b ↦ inr (inr b, l.behind k b) | inr u ↦ inl (m, u, l.filled k m u) ]
      ]

  pub kept_row : (r : ℕ) → IsSought old r → IsSought new r
  kept_row r s =
      elim (either r) as (λ _. IsSought new r) [
        | inl w ↦ let less = l.past r r w.0 w.1 s in absurd (omega (arith, less, w.1))
        | inr w ↦ w.1 ∙ s
      ]

  pub other_row : (r : ℕ) → IsSought new r → (r ≡ row) ⊎ IsSought old r
  other_row r s =
      elim (either r) as (λ _. (r ≡ row) ⊎ IsSought old r) [
        | inl w ↦ inl (same_Some r row (sym s ∙ w.2))
        | inr w ↦ inr (sym w.1 ∙ s)
      ]

  still_sought : (k v : ℕ) → slice_get new k ≡ Some v → (k ≤ v) × IsSought new v
  still_sought k v h =
      elim (either k) as (λ _. (k ≤ v) × IsSought new v) [
        | inl w ↦ let e : row ≡ v = same_Some row v (sym w.2 ∙ h) in (omega (arith, w.1, e), subst (IsSought new) e added_row)
        | inr w ↦ let s = a.sought k v (sym w.1 ∙ h) in (s.0, kept_row v s.1)
      ]

  -- no row comes before the one that stands there
  none_before : (k v r : ℕ) → slice_get new k ≡ Some v → k ≤ r → IsSought new r → v ≤ r
  none_before k v r h from s =
      elim (either k) as (λ _. v ≤ r) [
        | inl w ↦
            let e : row ≡ v = same_Some row v (sym w.2 ∙ h) in
            elim (other_row r s) as (λ _. v ≤ r) [
              | inl same ↦ omega (arith, e, same)
              | inr was ↦ elim (cases_lt r row) as (λ _. v ≤ r) [
                | inl b ↦ let less = l.past r r (omega (arith, w.0, from)) (omega (arith, b)) was in absurd (omega (arith, less, b))
                | inr m ↦ omega (arith, e, m)
              ]
            ]
        | inr w ↦
            let at : slice_get old k ≡ Some v = sym w.1 ∙ h in
            elim (other_row r s) as (λ _. v ≤ r) [
              | inl same ↦ elim w.0 as (λ _. v ≤ r) [
                | inl b ↦ let most = l.short k v b at in omega (arith, most, same)
                | inr b ↦ absurd (omega (arith, b, from, same))
              ]
              | inr was ↦ a.first k v r at from was
            ]
      ]

  pub still_ahead : AreAhead new
  still_ahead = record { sought = still_sought; first = none_before }

-- where it comes behind the list
pub put_behind : (old new : List ℕ) (row : ℕ) → AreAhead old → length old ≤ row → length new ≡ row + 1
    → ((k : ℕ) → k < length old → slice_get new k ≡ slice_get old k) → ((k : ℕ) → length old ≤ k → k ≤ row → slice_get new k ≡ Some row)
    → IsLowered old new (length old) row
put_behind old new row a behind n before filled = record {
  there = filled row behind (omega arith);
  before = before;
  filled = filled;
  behind = λ k h. slice_get_past new k (omega (arith, n, h)) ∙ sym (slice_get_past old k (omega (arith, behind, h)));
  past = λ k v m u at. let b = slice_get_within old k v at in absurd (omega (arith, b, m));
  short = λ k v b at. let s = a.sought k v at in let w = slice_get_within old v v s.1 in omega (arith, w, behind);
}

-- where it comes within the list
module _ (old new : List ℕ) (low row : ℕ) (a : AreAhead old) (inside : row < length old) (most : low ≤ row + 1)
    (past : (k v : ℕ) → low ≤ k → k ≤ row → slice_get old k ≡ Some v → row < v) (short : (k v : ℕ) → k + 1 ≡ low → slice_get old k ≡ Some v → v ≤ row)
    (before : (k : ℕ) → k < low → slice_get new k ≡ slice_get old k) (filled : (k : ℕ) → low ≤ k → k ≤ row → slice_get new k ≡ Some row)
    (behind : (k : ℕ) → row < k → slice_get new k ≡ slice_get old k) where
  all_short : (k v : ℕ) → k < low → slice_get old k ≡ Some v → v ≤ row
  all_short k v b at =
      let j : ℕ = low - 1 in
      let u : ℕ = get_or old j 0 in
      let there : slice_get old j ≡ Some u = slice_get-get_or old j 0 (omega (arith, b, inside, most)) in
      let s = a.sought j u there in
      let less = short j u (omega (arith, b)) there in
      let f = a.first k v u at (omega (arith, b, s.0)) s.1 in
      omega (arith, less, f)

  stands : slice_get new row ≡ Some row
  stands =
      elim (cases_lt row low) as (λ _. slice_get new row ≡ Some row) [
        | inl b ↦
            let v : ℕ = get_or old row 0 in
            let at : slice_get old row ≡ Some v = slice_get-get_or old row 0 inside in
            let s = a.sought row v at in
            let less = short row v (omega (arith, b, most)) at in
            let same : v ≡ row = omega (arith, s.0, less) in
            before row b ∙ at ∙ ap Some same
        | inr m ↦ filled row m (omega arith)
      ]

  pub put_lowered : IsLowered old new low row
  put_lowered = record { there = stands; before = before; filled = filled; behind = behind; past = past; short = all_short }

-- ---- what stands where in a list with one more
pub get_push_before : {X : Type 0} (xs : List X) (y : X) (k : ℕ) → k < length xs → slice_get (xs ++ y ∷ []) k ≡ slice_get xs k
get_push_before [] y k h = absurd (omega (arith, h))
get_push_before (x ∷ xs) y zero h = refl
get_push_before (x ∷ xs) y (suc k) h = get_push_before xs y k (omega (arith, h))

pub get_push_last : {X : Type 0} (xs : List X) (y : X) → slice_get (xs ++ y ∷ []) (length xs) ≡ Some y
get_push_last [] y = refl
get_push_last (x ∷ xs) y = get_push_last xs y
