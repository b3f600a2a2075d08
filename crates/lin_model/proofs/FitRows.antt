-- Rows that fit, one after the other.
use Rattle.std.specs.Prelude.{All, IsTrue}
use Rattle.std.specs.List.{AllByRecursion}
use Rattle.std.proofs.Common.{◌≡◌, ◌↔◌, ℕ, ◌+◌, ◌<◌, ◌≤◌, Bool, false, refl, sym, ap₂, ◌∙◌, subst, List, [], ◌∷◌, drop, length, Option, Some, None, arith}
use Rattle.std.proofs.lemmas.Bool.{false≢true}
use Rattle.std.proofs.lemmas.List.Elements.{All-from_recursion, recursion_from_All}
use Rattle.optimality.specs.Problem.{Goal, greatest}
use Rattle.affine_forms.specs.Assigned.{ReachTo}
use Rattle.affine_forms.specs.Forms.{AffineForm, decision_form}
use Rattle.linear_models.specs.Agreement.{Fits, IsGroupIn, IsOwn, SidesReach}
use Rattle.linear_models.specs.Conditions.{Condition, Conditions, constraint_of, constraints, goal_or_greatest, objective_where}
use Rattle.linear_models.specs.Statement.{Constraint}
use Rattle.lin_model.proofs.RowsLeft.{same_length}
use Rattle.lin_model.specs.Inner.{RowFits, RowsFit}

first_and_rest : (n : ℕ) (rows : List Condition) (sides : List (AffineForm × AffineForm)) (k : ℕ) (c : Condition) (s : AffineForm × AffineForm)
    → drop k rows ≡ c ∷ drop (k + 1) rows → drop k sides ≡ s ∷ drop (k + 1) sides → RowsFit n (drop k rows) (drop k sides) ≡ (RowFits n (constraint_of c s) × RowsFit n (drop (k + 1) rows) (drop (k + 1) sides))
first_and_rest n rows sides k c s d e = ap₂ (λ xs ys. RowsFit n xs ys) d e

pub fits_more : (n : ℕ) (rows : List Condition) (sides : List (AffineForm × AffineForm)) (k : ℕ) (c : Condition) (s : AffineForm × AffineForm)
    → drop k rows ≡ c ∷ drop (k + 1) rows → drop k sides ≡ s ∷ drop (k + 1) sides → RowFits n (constraint_of c s)
    → RowsFit n rows sides ↔ RowsFit n (drop k rows) (drop k sides) → RowsFit n rows sides ↔ RowsFit n (drop (k + 1) rows) (drop (k + 1) sides)
fits_more n rows sides k c s d e f h =
    let q = first_and_rest n rows sides k c s d e in
    (λ a. (subst (λ (t : Type 0). t) q (h.0 a)).1, λ a. h.1 (subst (λ (t : Type 0). t) (sym q) (f, a)))

pub fits_not : (n : ℕ) (rows : List Condition) (sides : List (AffineForm × AffineForm)) (k : ℕ) (c : Condition) (s : AffineForm × AffineForm)
    → drop k rows ≡ c ∷ drop (k + 1) rows → drop k sides ≡ s ∷ drop (k + 1) sides → ¬ (RowFits n (constraint_of c s))
    → RowsFit n rows sides ↔ RowsFit n (drop k rows) (drop k sides) → ¬ (RowsFit n rows sides)
fits_not n rows sides k c s d e f h a = f (subst (λ (t : Type 0). t) (first_and_rest n rows sides k c s d e) (h.0 a)).0

-- what doesn't hold is told by false
pub told_not : {P : Type 0} → ¬ P → IsTrue false ↔ P
told_not n = (λ e. absurd (false≢true e), λ p. absurd (n p))

pub failed : {P Q : Type 0} (b : Bool) → IsTrue b ↔ P → b ≡ false → (Q → P) → IsTrue false ↔ Q
failed b h e f = told_not (λ q. absurd (false≢true (sym e ∙ h.1 (f q))))

pub own_told : (n : ℕ) (row : Condition) (left : AffineForm) (j : ℕ) (b : Bool) → row.own ≡ Some j → IsTrue b ↔ ((j < n) × (left ≡ decision_form j)) → IsTrue b ↔ ((right : AffineForm) → IsOwn n (constraint_of row (left, right)))
own_told n row left j b e h = (
  λ t right i q. subst (λ k. (k < n) × (left ≡ decision_form k)) (some_is (sym e ∙ q)) (h.0 t),
  λ f. h.1 (f left j e),
)
  where
    some_is : {x y : ℕ} → Some x ≡ Some y → x ≡ y
    some_is e = cc

-- all parts of a statement
pub all_fit : (c : Conditions) (f : AffineForm) (sides : List (AffineForm × AffineForm)) (b : Bool) → c.decisions ≤ 512 → length c.rows ≤ 256 → length sides ≡ length c.rows
    → ((g : AffineForm) → objective_where c.goal f ≡ Some g → ReachTo g.terms c.decisions) → RowsFit c.decisions c.rows sides → All (λ j. j < c.decisions) c.whole
    → All (λ j. j < c.decisions) c.binary → IsTrue b ↔ All (IsGroupIn c.decisions) c.groups → IsTrue b ↔ Fits c f sides
all_fit c f sides b few rows each objective fit whole binary h = (
  λ t. (
    each,
    record {
      few = few;
      few_rows = omega (arith, rows, same_length c.rows sides each);
      own = All-from_recursion _ _ (owns c.decisions (constraints c.rows sides) fit);
      sides = All-from_recursion _ _ (reaches c.decisions (constraints c.rows sides) fit);
      objective = objective;
      whole = whole;
      binary = binary;
      groups = h.0 t;
      goal = goal c.goal;
    },
  ),
  λ p. h.1 p.1.groups,
)
  where
    goal : (g : Option Goal) → objective_where g f ≡ None → goal_or_greatest g ≡ greatest
    goal None e = refl
    goal (Some g) e = cc

    owns : (n : ℕ) (rs : List Constraint) → AllByRecursion (RowFits n) rs → AllByRecursion (IsOwn n) rs
    owns n [] h = tt
    owns n (r ∷ rs) h = (h.0.0, owns n rs h.1)

    reaches : (n : ℕ) (rs : List Constraint) → AllByRecursion (RowFits n) rs → AllByRecursion (SidesReach n) rs
    reaches n [] h = tt
    reaches n (r ∷ rs) h = (h.0.1, reaches n rs h.1)

-- what a statement has
pub rows_of_fit : (c : Conditions) (f : AffineForm) (sides : List (AffineForm × AffineForm)) → Fits c f sides → RowsFit c.decisions c.rows sides
rows_of_fit c f sides p = both c.decisions (constraints c.rows sides) (recursion_from_All _ _ p.1.own) (recursion_from_All _ _ p.1.sides)
  where
    both : (n : ℕ) (rs : List Constraint) → AllByRecursion (IsOwn n) rs → AllByRecursion (SidesReach n) rs → AllByRecursion (RowFits n) rs
    both n [] a b = tt
    both n (r ∷ rs) a b = ((a.0, b.0), both n rs a.1 b.1)

pub few_rows_of_fit : (c : Conditions) (f : AffineForm) (sides : List (AffineForm × AffineForm)) → Fits c f sides → length c.rows ≤ 256
few_rows_of_fit c f sides p = omega (arith, same_length c.rows sides p.0, p.1.few_rows)
