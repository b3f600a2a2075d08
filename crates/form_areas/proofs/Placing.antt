-- The part that one known place and one open place pick.
use Rattle.std.proofs.Common.{◌≡◌, refl, sym, ap, subst, Bool, true, false, if◌then◌else◌, ℕ, ◌-◌, [], ◌∷◌, pos, Option, Some, None, arith}
use Rattle.std.proofs.lemmas.Bool.Decides.{nat_tests}
use Rattle.std.specs.Prelude.{option_map, ◌==◌}
use Rattle.fractions.specs.Rational.{ℚ, computed, zero_ℚ}
use Rattle.fractions.specs.Floor.{floor_ℚ}
use Rattle.cell_refs.specs.declared.error_kind.ErrorKind.{ErrorKind}
use Rattle.sheet_funcs.specs.Picks.{part_of, pick_of, picked}
use Rattle.sheet_model.specs.declared.grid.Arg.TheVariants.{One}
use Rattle.sheet_model.specs.declared.value.Value.TheVariants.{Number}
use Rattle.form_values.specs.Trials.{Answers}
use Rattle.form_table.specs.Certain.{in_range, only_range}
use Rattle.form_table.specs.Picks.{of_places, picked_by, whole}
use Rattle.form_table.specs.Wanted.{Wanted, form, open_test, none, known_number}
use Rattle.form_ops.specs.Operands.{wanted_in}
use Rattle.form_ops.specs.declared.operand.Operand.{Operand}
use Rattle.form_ops.specs.declared.operand.Operand.TheVariants as operand
use Rattle.form_areas.specs.Places.{fault_or, picked_at}

-- an operand that is an error
pub none_fault : (o : Operand) (k : ErrorKind) → wanted_in o ≡ none k → o ≡ operand.Fault k
none_fault (operand.Known n) k e = cc
none_fault (operand.Open f) k e = cc
none_fault operand.Test k e = cc
none_fault (operand.Fault j) k e = let same : j ≡ k = cc in ap operand.Fault same

floor_zero : floor_ℚ zero_ℚ ≡ pos 0
unfolding computed floor_ℚ
floor_zero = refl

-- a known row
row_picked : (d : Wanted) (w : Wanted) (f : Rattle.affine_forms.specs.Forms.AffineForm) (p : Option (ℕ × ℕ)) (columns : ℕ) → w ≡ form f → known_number d ≡ None → ((k : ErrorKind) → d ≡ none k → ⊥)
    → Answers (of_places (form f) d (Some p) (picked_by columns d)) (fault_or (part_of p (Some (0, columns - 1))) 2)
row_picked (none k) w f p columns e unknown no_fault = absurd (no_fault k refl)
row_picked open_test w f None columns e unknown no_fault = refl
row_picked open_test w f (Some r) columns e unknown no_fault = refl
row_picked (form g) w f None columns e unknown no_fault =
    subst (λ o. Answers (of_places (form f) (form g) (Some None) (option_map (λ x. picked columns (floor_ℚ x)) o)) (fault_or (part_of None (Some (0, columns - 1))) 2)) (sym unknown) refl
row_picked (form g) w f (Some r) columns e unknown no_fault =
    subst (λ o. Answers (of_places (form f) (form g) (Some (Some r)) (option_map (λ x. picked columns (floor_ℚ x)) o)) (fault_or (part_of (Some r) (Some (0, columns - 1))) 2)) (sym unknown) refl

pub row_known : (rows columns : ℕ) (w d : Wanted) (x : ℚ) → known_number w ≡ Some x → known_number d ≡ None → ((k : ErrorKind) → d ≡ none k → ⊥)
    → Answers (of_places w d (picked_by rows w) (picked_by columns d)) (fault_or (pick_of rows columns (One (Number x) ∷ One (Number zero_ℚ) ∷ [])) 2)
row_known rows columns (none k) d x e unknown no_fault = cc
row_known rows columns open_test d x e unknown no_fault = cc
row_known rows columns (form f) d x e unknown no_fault =
    subst (λ o. Answers (of_places (form f) d (option_map (λ y. picked rows (floor_ℚ y)) o) (picked_by columns d)) (fault_or (part_of (picked rows (floor_ℚ x)) (picked columns (floor_ℚ zero_ℚ))) 2)) (sym e)
    (subst (λ n. Answers (of_places (form f) d (Some (picked rows (floor_ℚ x))) (picked_by columns d)) (fault_or (part_of (picked rows (floor_ℚ x)) (picked columns n)) 2)) (sym floor_zero)
    (row_picked d (form f) f (picked rows (floor_ℚ x)) columns refl unknown no_fault))

-- a known column
column_picked : (w : Wanted) (g : Rattle.affine_forms.specs.Forms.AffineForm) (p : Option (ℕ × ℕ)) (rows : ℕ) → known_number w ≡ None → ((k : ErrorKind) → w ≡ none k → ⊥)
    → Answers (of_places w (form g) (picked_by rows w) (Some p)) (fault_or (part_of (Some (0, rows - 1)) p) 1)
column_picked (none k) g p rows unknown no_fault = absurd (no_fault k refl)
column_picked open_test g None rows unknown no_fault = refl
column_picked open_test g (Some c) rows unknown no_fault = refl
column_picked (form f) g None rows unknown no_fault =
    subst (λ o. Answers (of_places (form f) (form g) (option_map (λ x. picked rows (floor_ℚ x)) o) (Some None)) (fault_or (part_of (Some (0, rows - 1)) None) 1)) (sym unknown) refl
column_picked (form f) g (Some c) rows unknown no_fault =
    subst (λ o. Answers (of_places (form f) (form g) (option_map (λ x. picked rows (floor_ℚ x)) o) (Some (Some c))) (fault_or (part_of (Some (0, rows - 1)) (Some c)) 1)) (sym unknown) refl

pub column_known : (rows columns : ℕ) (w d : Wanted) (y : ℚ) → known_number d ≡ Some y → known_number w ≡ None → ((k : ErrorKind) → w ≡ none k → ⊥)
    → Answers (of_places w d (picked_by rows w) (picked_by columns d)) (fault_or (pick_of rows columns (One (Number zero_ℚ) ∷ One (Number y) ∷ [])) 1)
column_known rows columns w (none k) y e unknown no_fault = cc
column_known rows columns w open_test y e unknown no_fault = cc
column_known rows columns w (form g) y e unknown no_fault =
    subst (λ o. Answers (of_places w (form g) (picked_by rows w) (option_map (λ x. picked columns (floor_ℚ x)) o)) (fault_or (part_of (picked rows (floor_ℚ zero_ℚ)) (picked columns (floor_ℚ y))) 1)) (sym e)
    (subst (λ n. Answers (of_places w (form g) (picked_by rows w) (Some (picked columns (floor_ℚ y)))) (fault_or (part_of (picked rows n) (picked columns (floor_ℚ y))) 1)) (sym floor_zero)
    (column_picked w g (picked columns (floor_ℚ y)) rows unknown no_fault))

-- ---- places in range
-- place 0 picks all rows or columns, and so the one that there is
pub whole_at : (size : ℕ) → picked_at size (Some zero_ℚ) ≡ Some (whole size)
whole_at size = ap (λ n. Some (picked size n)) floor_zero

pub only_one : (size : ℕ) → size ≡ 1 → picked_at size (Some zero_ℚ) ≡ only_range size
only_one size e = subst (λ n. picked_at n (Some zero_ℚ) ≡ only_range n) (sym e) (whole_at 1)

-- where there are more there is none
equal_of : (m n : ℕ) → (m == n) ≡ true → m ≡ n
equal_of m n h = grind (arith, nat_tests)

pub only_none : (size : ℕ) → (size ≡ 1 → ⊥) → None ≡ only_range size
only_none size h = sym (by (size == 1) refl)
  where
    by : (b : Bool) → (size == 1) ≡ b → only_range size ≡ None
    by true e = absurd (h (equal_of size 1 e))
    by false e = let f : Bool → Option (Option (ℕ × ℕ)) = λ b. if b then Some (Some (0, 0)) else None in ap f e

-- a known place picks in range what it picks, and an open one the one row or column
pub range_known : (size : ℕ) (w : Wanted) (x : ℚ) → Some x ≡ known_number w → picked_at size (Some x) ≡ in_range size w (picked_by size w)
range_known size (none k) x e = cc
range_known size open_test x e = cc
range_known size (form f) x e = ap (λ o. in_range size (form f) (option_map (λ y. picked size (floor_ℚ y)) o)) e

pub range_open : (size : ℕ) (w : Wanted) → None ≡ known_number w → ((k : ErrorKind) → w ≡ none k → ⊥) → only_range size ≡ in_range size w (picked_by size w)
range_open size (none k) e no_fault = absurd (no_fault k refl)
range_open size open_test e no_fault = refl
range_open size (form f) e no_fault = ap (λ o. in_range size (form f) (option_map (λ y. picked size (floor_ℚ y)) o)) e
