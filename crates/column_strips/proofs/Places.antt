-- Columns at their places.
use Rattle.std.proofs.Common.{◌≡◌, ℕ, zero, suc, ◌-◌, ◌<◌, ◌≤◌, [], ◌∷◌, ◌++◌, length, get_or, set, refl, sym, ap, subst, ◌∙◌, arith, inl, inr}
use Rattle.std.specs.Prelude.{Vec, vec_capacity, vec_len}
use Rattle.std.specs.Global.{Global}
use Rattle.std.proofs.lemmas.Bool.{cases_eq, cases_lt}
use Rattle.std.proofs.lemmas.Option.{slice_get-get_or, slice_get_past}
use Rattle.column_strips.specs.declared.strip.Strip.{Strip}
use Rattle.column_strips.specs.Columns.{AllRising, Columns, items_of, room_at, room_of, strips_at}
use Rattle.column_strips.specs.Formulas.{IsRising}
use Rattle.column_strips.specs.Strips.{strip_cmp}
use Rattle.column_strips.proofs.Rising.{get_set_other, get_set_same}

-- where there is room there is a column
pub room_within : (columns : Columns) (i : ℕ) → 1 ≤ room_at columns i → i < length columns
room_within columns i h =
    elim (cases_lt i (length columns)) as (λ _. i < length columns) [
      | inl l ↦ l
      | inr m ↦ absurd (omega (arith, h, ap room_of (slice_get_past columns i m)))
    ]

-- what is read at a place
pub read_strips : (columns : Columns) (i : ℕ) (d : Vec Strip Global) → i < length columns → strips_at columns i ≡ (get_or columns i d).items
read_strips columns i d h = ap items_of (slice_get-get_or columns i d h)

pub read_room : (columns : Columns) (i : ℕ) (d : Vec Strip Global) → i < length columns → room_at columns i ≡ vec_capacity (get_or columns i d) - vec_len (get_or columns i d)
read_room columns i d h = ap room_of (slice_get-get_or columns i d h)

-- there are no strips past the columns
pub none_past : (columns : Columns) (i : ℕ) → length columns ≤ i → strips_at columns i ≡ []
none_past columns i h = ap items_of (slice_get_past columns i h)

module _ (columns : Columns) (i : ℕ) (w : Vec Strip Global) (h : i < length columns) where
  pub strips_set : strips_at (set columns i w) i ≡ w.items
  strips_set = ap items_of (get_set_same columns i w h)

  pub room_set : room_at (set columns i w) i ≡ vec_capacity w - vec_len w
  room_set = ap room_of (get_set_same columns i w h)

  pub rising_set : AllRising columns → IsRising strip_cmp w.items → AllRising (set columns i w)
  rising_set all one k =
      elim (cases_eq k i) as (λ _. IsRising strip_cmp (strips_at (set columns i w) k)) [
        | inl e ↦ subst (IsRising strip_cmp) (sym (ap (strips_at (set columns i w)) e ∙ strips_set)) one
        | inr n ↦ subst (IsRising strip_cmp) (sym (ap items_of (get_set_other columns i w k n))) (all k)
      ]

  -- a column is exchanged for one with the same strips and no less room
  pub same_set : w.items ≡ strips_at columns i → (k : ℕ) → strips_at (set columns i w) k ≡ strips_at columns k
  same_set same k =
      elim (cases_eq k i) as (λ _. strips_at (set columns i w) k ≡ strips_at columns k) [
        | inl e ↦ ap (strips_at (set columns i w)) e ∙ strips_set ∙ same ∙ ap (strips_at columns) (sym e)
        | inr n ↦ ap items_of (get_set_other columns i w k n)
      ]

  pub kept_set : room_at columns i ≤ vec_capacity w - vec_len w → (k : ℕ) → room_at columns k ≤ room_at (set columns i w) k
  kept_set more k =
      elim (cases_eq k i) as (λ _. room_at columns k ≤ room_at (set columns i w) k) [
        | inl e ↦ let a = ap (room_at columns) e in let b = ap (room_at (set columns i w)) e in omega (arith, a, b, room_set, more)
        | inr n ↦ let a = ap room_of (get_set_other columns i w k n) in omega (arith, a)
      ]

-- an empty column behind the others changes nothing
pub get_pushed : (columns : Columns) (w : Vec Strip Global) (k : ℕ) → w.items ≡ [] → (strips_at (columns ++ w ∷ []) k ≡ strips_at columns k) × (room_at columns k ≤ room_at (columns ++ w ∷ []) k)
get_pushed [] w zero e = (e, omega arith)
get_pushed [] w (suc k) e = (refl, omega arith)
get_pushed (x ∷ columns) w zero e = (refl, omega arith)
get_pushed (x ∷ columns) w (suc k) e = get_pushed columns w k e
