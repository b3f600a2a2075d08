-- Each variable has one place, so its entry in a row is what the row has at that place.
use Rattle.std.proofs.Common.{◌≡◌, ℕ, zero, suc, ◌+◌, ◌<◌, ◌≤◌, refl, sym, ap, ap₂, ◌∙◌, List, [], ◌∷◌, length, set, get_or, arith, Bool, true, false, cond, eqb, ◌⊎◌, inl, inr}
use Rattle.std.specs.Prelude.{◌==◌}
use Rattle.std.specs.List.{range_with_len}
use Rattle.std.proofs.lemmas.Bool.{eqb-true, eqb-false}
use Rattle.fractions.specs.Rational.{ℚ, ◌+ℚ◌, zero_ℚ}
use Rattle.fractions.specs.Vectors.{at, plus, only}
use Rattle.fractions.proofs.Laws.{zero-add, add-zero}
use Rattle.linear_programs.specs.Program.{Program}
use Rattle.dictionaries.specs.Dictionary.{Dictionary, first_of_program, pivoted, times_in, places_of, IsPlace}
use Rattle.dictionaries.specs.Reading.{column_entry}
use Rattle.linear_programs.proofs.Vectors.{at-plus, at-only_same, at-only_other}
use Rattle.dictionaries.proofs.Multipliers.{spread}

at-spread_none : (cs : List ℕ) (es : List ℚ) (v : ℕ) → times_in cs v ≡ 0 → at (spread cs es) v ≡ zero_ℚ
at-spread_none [] es v h = refl
at-spread_none (c ∷ cs) [] v h = refl
at-spread_none (c ∷ cs) (e ∷ es) v h = cases (eqb c v) refl h (λ k. at-spread_none cs es v k)
  where
    cases : (b : Bool) → eqb c v ≡ b → cond b 1 0 + times_in cs v ≡ 0 → (times_in cs v ≡ 0 → at (spread cs es) v ≡ zero_ℚ) → at (plus (only c e) (spread cs es)) v ≡ zero_ℚ
    cases true q k f = absurd (omega arith)
    cases false q k f =
        at-plus (only c e) (spread cs es) v
        ∙ ap₂ ◌+ℚ◌ (at-only_other c e v (λ i. eqb-false c v q (sym i))) (f (omega arith)) ∙ zero-add zero_ℚ

pub at-spread : (cs : List ℕ) (es : List ℚ) (v : ℕ) → times_in cs v ≤ 1 → at (spread cs es) v ≡ column_entry cs es v
at-spread [] es v h = refl
at-spread (c ∷ cs) [] v h = refl
at-spread (c ∷ cs) (e ∷ es) v h = cases (eqb c v) refl h (λ k. at-spread cs es v k)
  where
    cases : (b : Bool) → eqb c v ≡ b → cond b 1 0 + times_in cs v ≤ 1 → (times_in cs v ≤ 1 → at (spread cs es) v ≡ column_entry cs es v) → at (plus (only c e) (spread cs es)) v ≡ cond b e (column_entry cs es v)
    cases true q k f =
        at-plus (only c e) (spread cs es) v
        ∙ ap₂ ◌+ℚ◌ (ap (at (only c e)) (sym (eqb-true c v q)) ∙ at-only_same c e) (at-spread_none cs es v (omega arith)) ∙ add-zero e
    cases false q k f =
        at-plus (only c e) (spread cs es) v
        ∙ ap₂ ◌+ℚ◌ (at-only_other c e v (λ i. eqb-false c v q (sym i))) (f (omega arith)) ∙ zero-add _

-- ---- the places of a first dictionary
range_below : (a n v : ℕ) → v < a → times_in (range_with_len a n) v ≡ 0
range_below a zero v h = refl
range_below a (suc n) v h = cases (eqb a v) refl (range_below (a + 1) n v (omega arith))
  where
    cases : (b : Bool) → eqb a v ≡ b → times_in (range_with_len (a + 1) n) v ≡ 0 → cond b 1 0 + times_in (range_with_len (a + 1) n) v ≡ 0
    cases true q f = let e = eqb-true a v q in absurd (omega (arith, e))
    cases false q f = omega arith

range_at_most : (a n v : ℕ) → times_in (range_with_len a n) v ≤ 1
range_at_most a zero v = omega arith
range_at_most a (suc n) v = cases (eqb a v) refl (range_at_most (a + 1) n v)
  where
    cases : (b : Bool) → eqb a v ≡ b → times_in (range_with_len (a + 1) n) v ≤ 1 → cond b 1 0 + times_in (range_with_len (a + 1) n) v ≤ 1
    cases true q f = let e = eqb-true a v q in omega (arith, range_below (a + 1) n v (omega (arith, e)))
    cases false q f = omega arith

range_past : (a n v : ℕ) → a + n ≤ v → times_in (range_with_len a n) v ≡ 0
range_past a zero v h = refl
range_past a (suc n) v h = cases (eqb a v) refl (range_past (a + 1) n v (omega arith))
  where
    cases : (b : Bool) → eqb a v ≡ b → times_in (range_with_len (a + 1) n) v ≡ 0 → cond b 1 0 + times_in (range_with_len (a + 1) n) v ≡ 0
    cases true q f = let e = eqb-true a v q in absurd (omega (arith, e))
    cases false q f = omega arith

pub first_places : (p : Program) (v : ℕ) → places_of (first_of_program p) v ≤ 1
first_places p v = elim (split v (suc (length p.objective))) [
  | inl h ↦ omega (arith, range_below (suc (length p.objective)) (length p.rows) v h, range_at_most 0 (suc (length p.objective)) v)
  | inr h ↦ omega (arith, range_past 0 (suc (length p.objective)) v (omega arith), range_at_most (suc (length p.objective)) (length p.rows) v)
]
  where
    split : (v n : ℕ) → (v < n) ⊎ (n ≤ v)
    split v n = grind arith

pub first_places_past : (p : Program) (v : ℕ) → length p.objective + length p.rows + 1 ≤ v → places_of (first_of_program p) v ≡ 0
first_places_past p v h =
    omega (arith, range_past (suc (length p.objective)) (length p.rows) v (omega arith), range_past 0 (suc (length p.objective)) v (omega arith))

-- ---- a pivot keeps the places
times_in-set : (cs : List ℕ) (i y v : ℕ) → i < length cs → times_in (set cs i y) v + cond (get_or cs i 0 == v) 1 0 ≡ times_in cs v + cond (y == v) 1 0
times_in-set [] i y v h = absurd (omega arith)
times_in-set (c ∷ cs) zero y v h = omega arith
times_in-set (c ∷ cs) (suc i) y v h = omega (arith, times_in-set cs i y v (omega arith))

pub pivot_keeps_places : (d : Dictionary) (r c v : ℕ) → IsPlace d r c → places_of (pivoted d r c) v ≡ places_of d v
pivot_keeps_places d r c v p =
    omega (arith, times_in-set d.basic r (get_or d.nonbasic c 0) v p.row, times_in-set d.nonbasic c (get_or d.basic r 0) v p.column)
