-- The problem of a model permits its points.
use Rattle.std.proofs.Common.{◌≡◌, ◌↔◌, ℕ, zero, suc, ◌+◌, ◌<◌, Bool, true, false, refl, sym, ap, ◌∙◌, List, [], ◌∷◌, ◌++◌, map, length, Option, Some, None, arith, subst}
use Rattle.std.specs.Prelude.{slice_get}
use Rattle.std.specs.List.{AllByRecursion}
use Rattle.std.proofs.lemmas.List.Elements.{All-from_recursion, recursion_from_All}
use Rattle.fractions.specs.Rational.{ℚ, ◌≤ℚ◌, zero_ℚ}
use Rattle.fractions.specs.Vectors.{at}
use Rattle.fractions.proofs.Laws.{add-zero}
use Rattle.optimality.specs.Problem.{Assignment, Relation, at_most, at_least, Goal, greatest, least, reach}
use Rattle.optimality.specs.Optimal.{Stand, Meets, Has, IsWhole, Reaches}
use Rattle.affine_forms.specs.Forms.{AffineForm, constant_form}
use Rattle.linear_models.specs.Worths.{form_at}
use Rattle.linear_models.specs.Box.{bound_at}
use Rattle.linear_models.specs.Model.{RowHolds, is_whole_at, row_of_form, bound_row, bound_rows, marked, objective_of}
use Rattle.linear_models.specs.Laws.{PointsArePermitted}

some_is : {x y : ℚ} → Some x ≡ Some y → x ≡ y
some_is e = cc

-- ---- rows
zero_at : (a : Assignment) → form_at (constant_form zero_ℚ) a ≡ zero_ℚ
zero_at a = add-zero zero_ℚ

stands : (r : Relation) (x y v w : ℚ) → x ≡ v → y ≡ w → Stand r x y → Stand r v w
stands r x y v w e f h = subst (λ t. Stand r v t) f (subst (λ t. Stand r t y) e h)

row_meets : (a : Assignment) (row : AffineForm × Relation) → Meets a (row_of_form row) ↔ RowHolds a row
row_meets a row = (
  λ h. stands row.1 h.left h.right _ _ (sym (some_is h.left_is)) (sym (some_is h.right_is) ∙ zero_at a) h.stand,
  λ h. record { left = form_at row.0 a; right = form_at (constant_form zero_ℚ) a; left_is = refl; right_is = refl; stand = stands row.1 _ _ _ _ refl (sym (zero_at a)) h },
)

rows_meet : (a : Assignment) (rows : List (AffineForm × Relation)) → AllByRecursion (Meets a) (map row_of_form rows) ↔ AllByRecursion (RowHolds a) rows
rows_meet a [] = (λ h. tt, λ h. tt)
rows_meet a (r ∷ rows) = let one = row_meets a r in let more = rows_meet a rows in (λ h. (one.0 h.0, more.0 h.1), λ h. (one.1 h.0, more.1 h.1))

all_parts : {X : Type 0} (P : X → Type 0) (xs ys : List X) → AllByRecursion P (xs ++ ys) ↔ (AllByRecursion P xs × AllByRecursion P ys)
all_parts P [] ys = (λ h. (tt, h), λ h. h.1)
all_parts P (x ∷ xs) ys = let b = all_parts P xs ys in (λ h. ((h.0, (b.0 h.1).0), (b.0 h.1).1), λ h. (h.0.0, b.1 (h.0.1, h.1)))

-- ---- bounds
abbrev Stands : Relation → ℕ → List (Option ℚ) → Assignment → Type 0
Stands r j bs a = (i : ℕ) (b : ℚ) → bound_at bs i ≡ Some b → Stand r (at a (j + i)) b

one_bound : (r : Relation) (j : ℕ) (o : Option ℚ) (a : Assignment) → AllByRecursion (Meets a) (bound_row r j o) ↔ ((b : ℚ) → o ≡ Some b → Stand r (at a j) b)
one_bound r j None a = (λ h b e. cc, λ h. tt)
one_bound r j (Some c) a = (
  λ h b e. stands r h.0.left h.0.right _ _ (sym (some_is h.0.left_is)) (sym (some_is h.0.right_is) ∙ some_is e) h.0.stand,
  λ h. (record { left = at a j; right = c; left_is = refl; right_is = refl; stand = h c refl }, tt),
)

bounds_meet : (r : Relation) (j : ℕ) (bs : List (Option ℚ)) (a : Assignment) → AllByRecursion (Meets a) (bound_rows r j bs) ↔ Stands r j bs a
bounds_meet r j [] a = (λ h i b e. cc, λ h. tt)
bounds_meet r j (o ∷ bs) a =
    let parts = all_parts (Meets a) (bound_row r j o) (bound_rows r (suc j) bs) in
    let one = one_bound r j o a in
    let more = bounds_meet r (suc j) bs a in (
      λ h. there (one.0 (parts.0 h).0) (more.0 (parts.0 h).1),
      λ h. parts.1 (one.1 (λ b e. subst (λ k. Stand r (at a k) b) (omega arith) (h 0 b e)), more.1 (λ i b e. subst (λ k. Stand r (at a k) b) (omega arith) (h (suc i) b e))),
    )
  where
    there : ((b : ℚ) → o ≡ Some b → Stand r (at a j) b) → Stands r (suc j) bs a → Stands r j (o ∷ bs) a
    there one more zero b e = subst (λ k. Stand r (at a k) b) (omega arith) (one b e)
    there one more (suc i) b e = subst (λ k. Stand r (at a k) b) (omega arith) (more i b e)

-- ---- whole marks
pub get_at : (a : Assignment) (j : ℕ) → j < length a → slice_get a j ≡ Some (at a j)
get_at [] j h = absurd (omega arith)
get_at (x ∷ a) zero h = refl
get_at (x ∷ a) (suc j) h = get_at a j (omega arith)

has_at : (a : Assignment) (j : ℕ) → Has IsWhole a j → IsWhole (at a j)
has_at a j h = subst IsWhole (found a j h.0 h.1) h.2
  where
    found : (a : Assignment) (j : ℕ) (x : ℚ) → slice_get a j ≡ Some x → x ≡ at a j
    found [] j x e = cc
    found (y ∷ a) zero x e = sym (some_is e)
    found (y ∷ a) (suc j) x e = found a j x e

whole_there : (j : ℕ) (marks : List Bool) (a : Assignment) → AllByRecursion (Has IsWhole a) (marked j marks) → (i : ℕ) → is_whole_at marks i ≡ true → IsWhole (at a (j + i))
whole_there j [] a h i e = cc
whole_there j (true ∷ marks) a h zero e = subst (λ k. IsWhole (at a k)) (omega arith) (has_at a j h.0)
whole_there j (true ∷ marks) a h (suc i) e = subst (λ k. IsWhole (at a k)) (omega arith) (whole_there (suc j) marks a h.1 i e)
whole_there j (false ∷ marks) a h zero e = cc
whole_there j (false ∷ marks) a h (suc i) e = subst (λ k. IsWhole (at a k)) (omega arith) (whole_there (suc j) marks a h i e)

whole_back : (j : ℕ) (marks : List Bool) (a : Assignment) → length a ≡ j + length marks → ((i : ℕ) → is_whole_at marks i ≡ true → IsWhole (at a (j + i))) → AllByRecursion (Has IsWhole a) (marked j marks)
whole_back j [] a l h = tt
whole_back j (true ∷ marks) a l h =
    ((at a j, get_at a j (omega arith), subst (λ k. IsWhole (at a k)) (omega arith) (h 0 refl)), whole_back (suc j) marks a (omega arith) (λ i e. subst (λ k. IsWhole (at a k)) (omega arith) (h (suc i) e)))
whole_back j (false ∷ marks) a l h = whole_back (suc j) marks a (omega arith) (λ i e. subst (λ k. IsWhole (at a k)) (omega arith) (h (suc i) e))

reaches : (g : Goal) (f : AffineForm) (a : Assignment) → Reaches g (Some (objective_of g f)) a
reaches greatest f a = tt
reaches least f a = tt
reaches (reach v) f a = ap Some (add-zero v)

pub points_are_permitted : PointsArePermitted
points_are_permitted m a =
    let rows = rows_meet a m.rows in
    let parts = all_parts (Meets a) (map row_of_form m.rows) (bound_rows at_least 0 m.bounds.least ++ bound_rows at_most 0 m.bounds.greatest) in
    let two = all_parts (Meets a) (bound_rows at_least 0 m.bounds.least) (bound_rows at_most 0 m.bounds.greatest) in
    let lows = bounds_meet at_least 0 m.bounds.least a in
    let highs = bounds_meet at_most 0 m.bounds.greatest a in (
      λ p.
          let all = parts.0 (recursion_from_All (Meets a) _ p.rows) in
          let bounds = two.0 all.1 in
          record {
            one_each = p.one_each;
            rows = All-from_recursion (RowHolds a) m.rows (rows.0 all.0);
            whole = λ i e. subst (λ k. IsWhole (at a k)) (omega arith) (whole_there 0 m.whole a (recursion_from_All (Has IsWhole a) _ p.whole) i e);
            bounds = record {
              least = λ i b e. subst (λ k. b ≤ℚ at a k) (omega arith) (lows.0 bounds.0 i b e);
              greatest = λ i b e. subst (λ k. at a k ≤ℚ b) (omega arith) (highs.0 bounds.1 i b e);
            };
            different = p.different;
          },
      λ p. record {
        one_each = p.one_each;
        rows = All-from_recursion (Meets a) _ (parts.1 (
          rows.1 (recursion_from_All (RowHolds a) m.rows p.rows),
          two.1 (
            lows.1 (λ i b e. subst (λ k. b ≤ℚ at a k) (omega arith) (p.bounds.least i b e)),
            highs.1 (λ i b e. subst (λ k. at a k ≤ℚ b) (omega arith) (p.bounds.greatest i b e)),
          ),
        ));
        whole = All-from_recursion (Has IsWhole a) _ (whole_back 0 m.whole a (omega (arith, p.one_each)) (λ i e. subst (λ k. IsWhole (at a k)) (omega arith) (p.whole i e)));
        binary = λ k d h. absurd (omega arith);
        not_negative = λ k d h. absurd (omega arith);
        numbered = λ k d h. absurd (omega arith);
        different = p.different;
        reached = reaches m.goal m.objective a;
      },
    )
