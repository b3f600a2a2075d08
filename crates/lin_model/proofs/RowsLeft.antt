-- The rows that sides leave, one after the other.
use Rattle.std.proofs.Common.{◌≡◌, refl, sym, ap, ap₂, ◌∙◌, subst, ℕ, suc, ◌+◌, Bool, List, [], ◌∷◌, ◌++◌, map, drop, length, Option, Some, None, append_assoc, append-nil, Result, Ok, Err}
use Rattle.std.specs.Prelude.{flat_map}
use Rattle.std.specs.List.{AllByRecursion}
use Rattle.std.specs.Result.{IsErrAnd, result_map_both}
use Rattle.linear_models.specs.Box.{Box}
use Rattle.linear_models.specs.Model.{Model}
use Rattle.optimality.specs.Problem.{Relation, Goal}
use Rattle.calculations.specs.Calculation.{Calculation, exact, narrow, turned_into}
use Rattle.calculations.proofs.CalculationLaws.{narrow-exact}
use Rattle.affine_forms.specs.Forms.{AffineForm, IsForm}
use Rattle.affine_forms.specs.Steps.{subtracted}
use Rattle.affine_forms.specs.declared.stop.FormStop.{FormStop}
use Rattle.lin_model.specs.Inner.{AreBuilt, AreForms, Pushed}
use Rattle.lin_model.specs.declared.stop.BuildStop.{BuildStop}
use Rattle.lin_model.specs.declared.stop.BuildStop.TheVariants as stops
use Rattle.linear_models.proofs.Valid.{SidesAreForms}
use Rattle.linear_models.specs.Statement.{Constraint}
use Rattle.linear_models.specs.Bounds.{bounded}
use Rattle.linear_models.specs.Linear.{first_wide, number_or, row_left, row_or_none, reaching, form_or_zero}
use Rattle.linear_models.specs.Conditions.{Condition, constraint_of, constraints, goal_or_greatest, objective_where}

-- the calculations from a place on
abbrev pub left_from : ℕ → List Condition → List (AffineForm × AffineForm) → List (Calculation (List (AffineForm × Relation)))
left_from k of sides = map row_left (constraints (drop k of) (drop k sides))

pub from_more : (of : List Condition) (sides : List (AffineForm × AffineForm)) (k : ℕ) (c : Condition) (s : AffineForm × AffineForm)
    → drop k of ≡ c ∷ drop (k + 1) of → drop k sides ≡ s ∷ drop (k + 1) sides → left_from k of sides ≡ row_left (constraint_of c s) ∷ left_from (k + 1) of sides
from_more of sides k c s d e = ap₂ (λ xs ys. map row_left (constraints xs ys)) d e

-- one calculation that is narrow
pub more_rows : (q : Calculation (List (AffineForm × Relation))) (cs rest : List (Calculation (List (AffineForm × Relation)))) (rows more next all : List (AffineForm × Relation))
    → cs ≡ q ∷ rest → narrow q ≡ Some more → next ≡ rows ++ more → rows ++ flat_map exact cs ≡ all → next ++ flat_map exact rest ≡ all
more_rows q cs rest rows more next all d n e h =
    ap (λ xs. xs ++ flat_map exact rest) e ∙ append_assoc rows more (flat_map exact rest)
    ∙ ap (λ xs. rows ++ (xs ++ flat_map exact rest)) (sym (narrow-exact q more n))
    ∙ ap (λ xs. rows ++ flat_map exact xs) (sym d) ∙ h

pub more_narrow : {A : Type 0} (q : Calculation A) (cs rest : List (Calculation A)) (k next : ℕ) (more : A) (wide : Option ℕ)
    → next ≡ suc k → cs ≡ q ∷ rest → narrow q ≡ Some more → first_wide k cs ≡ wide → first_wide next rest ≡ wide
more_narrow q cs rest k next more wide e d n h = ap (λ i. first_wide i rest) e ∙ sym (ap (λ o. number_or k o (first_wide (suc k) rest)) n) ∙ ap (first_wide k) (sym d) ∙ h

-- one that isn't
pub is_wide : {A : Type 0} (q : Calculation A) (cs rest : List (Calculation A)) (k : ℕ) (wide : Option ℕ)
    → cs ≡ q ∷ rest → narrow q ≡ None → first_wide k cs ≡ wide → wide ≡ Some k
is_wide q cs rest k wide d n h = sym h ∙ ap (first_wide k) d ∙ ap (λ o. number_or k o (first_wide (suc k) rest)) n

-- the row of sides that are a bound, and of others
pub left_none : (r : Constraint) → bounded r ≡ None → row_left r ≡ row_or_none None r
left_none r e = ap (λ o. row_or_none o r) e

pub left_bound : (r : Constraint) (j : ℕ) → bounded r ≡ Some j → narrow (row_left r) ≡ Some []
left_bound r j e = ap (λ o. narrow (row_or_none o r)) e

pub pushed_left : {B : Type 0} (r : Constraint) (k : Relation) (before after : List (AffineForm × Relation)) (result : Result B FormStop) → k ≡ r.relation → bounded r ≡ None
    → Pushed (turned_into (λ f. (f, k) ∷ []) (subtracted r.left r.right)) before after result → Pushed (row_left r) before after result
pushed_left r k before after result q e h =
    subst (λ c. Pushed c before after result) (sym (left_none r e)) (subst (λ k. Pushed (turned_into (λ f. (f, k) ∷ []) (subtracted r.left r.right)) before after result) q h)

-- ---- the last row
pub wide_appended : {A : Type 0} (cs : List (Calculation A)) (q : Calculation A) (k : ℕ) → first_wide k cs ≡ None → first_wide k (cs ++ q ∷ []) ≡ number_or (k + length cs) (narrow q) None
wide_appended [] q k h = ap (λ n. number_or n (narrow q) None) (omega Rattle.std.proofs.Common.arith)
wide_appended {A = A} (c ∷ cs) q k h = cases (narrow c) h (wide_appended cs q (suc k))
  where
    cases : (o : Option A) → number_or k o (first_wide (suc k) cs) ≡ None → (first_wide (suc k) cs ≡ None → first_wide (suc k) (cs ++ q ∷ []) ≡ number_or (suc k + length cs) (narrow q) None) → number_or k o (first_wide (suc k) (cs ++ q ∷ [])) ≡ number_or (k + length (c ∷ cs)) (narrow q) None
    cases None e more = cc
    cases (Some x) e more = more e ∙ ap (λ n. number_or n (narrow q) None) (omega Rattle.std.proofs.Common.arith)

pub found_appended : {A : Type 0} (cs : List (Calculation A)) (q : Calculation A) (k n : ℕ) → first_wide k cs ≡ Some n → first_wide k (cs ++ q ∷ []) ≡ Some n
found_appended [] q k n h = cc
found_appended {A = A} (c ∷ cs) q k n h = cases (narrow c) h (found_appended cs q (suc k) n)
  where
    cases : (o : Option A) → number_or k o (first_wide (suc k) cs) ≡ Some n → (first_wide (suc k) cs ≡ Some n → first_wide (suc k) (cs ++ q ∷ []) ≡ Some n) → number_or k o (first_wide (suc k) (cs ++ q ∷ [])) ≡ Some n
    cases None e more = e
    cases (Some x) e more = more e

pub rows_appended : (cs : List (Calculation (List (AffineForm × Relation)))) (q : Calculation (List (AffineForm × Relation))) → flat_map exact (cs ++ q ∷ []) ≡ flat_map exact cs ++ exact q
rows_appended [] q = append-nil (exact q)
rows_appended (c ∷ cs) q = ap (λ xs. exact c ++ xs) (rows_appended cs q) ∙ sym (append_assoc (exact c) (flat_map exact cs) (exact q))

pub length-constraints : (of : List Condition) (sides : List (AffineForm × AffineForm)) → length sides ≡ length of → length (map row_left (constraints of sides)) ≡ length of
length-constraints [] sides e = refl
length-constraints (c ∷ of) [] e = absurd (omega Rattle.std.proofs.Common.arith)
length-constraints (c ∷ of) (s ∷ sides) e = ap suc (length-constraints of sides (omega Rattle.std.proofs.Common.arith))

-- ---- all rows
pub all_built : (cs : List (Calculation (List (AffineForm × Relation)))) (q : Calculation (List (AffineForm × Relation))) (before more after : List (AffineForm × Relation))
    → (before ≡ flat_map exact cs) × (first_wide 1 cs ≡ None) → narrow q ≡ Some more → after ≡ before ++ more → (after ≡ flat_map exact (cs ++ q ∷ [])) × (first_wide 1 (cs ++ q ∷ []) ≡ None)
all_built cs q before more after h n e = (
  e ∙ ap₂ ◌++◌ h.0 (sym (narrow-exact q more n)) ∙ sym (rows_appended cs q),
  wide_appended cs q 1 h.1 ∙ ap (λ o. number_or (1 + length cs) o None) n,
)

pub last_wide : {A : Type 0} (cs : List (Calculation A)) (q : Calculation A) (k : ℕ) → first_wide 1 cs ≡ None → narrow q ≡ None → 1 + length cs ≡ k → first_wide 1 (cs ++ q ∷ []) ≡ Some k
last_wide cs q k h n e = wide_appended cs q 1 h ∙ ap (λ o. number_or (1 + length cs) o None) n ∙ ap Some e

pub still_stopped : (cs : List (Calculation (List (AffineForm × Relation)))) (q : Calculation (List (AffineForm × Relation))) (e : BuildStop) → AreBuilt cs (Err e) → AreBuilt (cs ++ q ∷ []) (Err e)
still_stopped cs q (stops.WideRow k) h = found_appended cs q 1 k h
still_stopped cs q stops.Memory h = tt

-- the goal and the objective of a statement
pub reaching_same : (g : Option Goal) (f : AffineForm) → reaching (goal_or_greatest g) f ≡ reaching (goal_or_greatest g) (form_or_zero (objective_where g f))
reaching_same None f = refl
reaching_same (Some g) f = refl

pub stated_objective : (g : Option Goal) (f h : AffineForm) → IsForm f → objective_where g f ≡ Some h → IsForm h
stated_objective None f h i e = cc
stated_objective (Some g) f h i e = subst IsForm (some_is e) i
  where
    some_is : Some f ≡ Some h → f ≡ h
    some_is e = cc

pub all_sides : (of : List Condition) (sides : List (AffineForm × AffineForm)) → AllByRecursion AreForms sides → AllByRecursion SidesAreForms (constraints of sides)
all_sides [] sides h = tt
all_sides (c ∷ of) [] h = tt
all_sides (c ∷ of) (s ∷ sides) h = (h.0, all_sides of sides h.1)

pub same_length : (of : List Condition) (sides : List (AffineForm × AffineForm)) → length sides ≡ length of → length (constraints of sides) ≡ length of
same_length [] sides e = refl
same_length (c ∷ of) [] e = absurd (omega Rattle.std.proofs.Common.arith)
same_length (c ∷ of) (s ∷ sides) e = ap suc (same_length of sides (omega Rattle.std.proofs.Common.arith))

pub stopped_all : {V : Type 0} (items : V → List (AffineForm × Relation)) (cs : List (Calculation (List (AffineForm × Relation)))) (q : Calculation (List (AffineForm × Relation))) (e : BuildStop) (r : Result V BuildStop)
    → IsErrAnd r (λ s. s ≡ e) → AreBuilt cs (Err e) → AreBuilt (cs ++ q ∷ []) (result_map_both items (λ s. s) r)
stopped_all items cs q e (Ok x) is h = absurd is
stopped_all items cs q e (Err s) is h = subst (λ t. AreBuilt (cs ++ q ∷ []) (Err t)) (sym is) (still_stopped cs q e h)

-- a model by its fields
pub model_is : (m : Model) (goal : Goal) (objective : AffineForm) (rows : List (AffineForm × Relation)) (whole : List Bool) (bounds : Box) (groups : List (List ℕ))
    → goal ≡ m.goal → objective ≡ m.objective → rows ≡ m.rows → whole ≡ m.whole → bounds ≡ m.bounds → groups ≡ m.groups
    → record { goal = goal; objective = objective; rows = rows; whole = whole; bounds = bounds; groups = groups } ≡ m
model_is m goal objective rows whole bounds groups g o r w b s = λ i. record { goal = g i; objective = o i; rows = r i; whole = w i; bounds = b i; groups = s i }
