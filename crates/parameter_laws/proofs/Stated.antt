-- The statement with values put in, and the problem that it is.
use Rattle.std.proofs.Common.{◌≡◌, ℕ, List, [], ◌∷◌, map, length, Option, Some, None, arith, refl, sym, ap, ap₂, ◌∙◌, subst, suc}
use Rattle.std.specs.Prelude.{All, ◌↔◌}
use Rattle.std.specs.Option.{option_map}
use Rattle.std.specs.List.{AllByRecursion}
use Rattle.std.proofs.lemmas.List.Elements.{All-from_recursion, recursion_from_All}
use Rattle.optimality.specs.Problem as problems
use Rattle.optimality.specs.Problem.{greatest}
use Rattle.optimality.specs.Laws.{Agree, SameAnswers}
use Rattle.optimality.specs.Optimal.{Permitted}
use Rattle.calculations.specs.Calculation.{exact, turned_into}
use Rattle.affine_forms.specs.Assigned.{ReachTo, assigned}
use Rattle.affine_forms.specs.Forms.{Assignment, AffineForm, decision_form}
use Rattle.affine_forms.proofs.Exact.{exact-followed_by, exact-turned_into}
use Rattle.linear_models.specs.Agreement.{IsOwn, SidesReach}
use Rattle.linear_models.specs.Conditions.{Condition, constraint_of, constraints, goal_or_greatest, objective_where}
use Rattle.linear_models.specs.Linear.{linear}
use Rattle.linear_models.specs.Model.{IsPoint, problem_of}
use Rattle.linear_models.specs.Statement.{Constraint, not_negative_in, row_of_sides}
use Rattle.linear_models.specs.Worths.{worth_of}
use Rattle.linear_models.proofs.SameAnswers.{linear_agrees}
use Rattle.parameter_laws.specs.Laws.{FitsWithValues, LinearWithValues, ValuesStateTheProblem}
use Rattle.parameter_laws.specs.Putting.{put_in}
use Rattle.parameter_laws.specs.Statements.{form_at, row_with, sides_at, sides_put_in, statement_at, worth_with}
use Rattle.parameter_laws.proofs.Putting.{putting_laws}

-- ---- sides
pub side_is : (n : ℕ) (y : Assignment) (s : AffineForm × AffineForm) → exact (sides_put_in n y s) ≡ (form_at n y s.0, form_at n y s.1)
side_is n y s =
    exact-followed_by (put_in n y s.0) (λ left. turned_into (λ right. (left, right)) (put_in n y s.1))
    ∙ exact-turned_into (λ right. (form_at n y s.0, right)) (put_in n y s.1)

abbrev constraint_at : ℕ → Assignment → Constraint → Constraint
constraint_at n y r = record { own = r.own; left = form_at n y r.left; relation = r.relation; right = form_at n y r.right }

rows_at : (n : ℕ) (y : Assignment) (rows : List Condition) (sides : List (AffineForm × AffineForm))
    → constraints rows (sides_at n y sides) ≡ map (constraint_at n y) (constraints rows sides)
rows_at n y [] sides = refl
rows_at n y (c ∷ rows) [] = refl
rows_at n y (c ∷ rows) (s ∷ sides) = ap₂ (λ (pair : AffineForm × AffineForm) rs. constraint_of c pair ∷ rs) (side_is n y s) (rows_at n y rows sides)

-- ---- the problem
worth_at : (n : ℕ) (y : Assignment) (f : AffineForm) → worth_of (form_at n y f) ≡ worth_with n y f
worth_at n y f = λ i a. Some (putting_laws.worth n y (assigned a) f i)

row_at : (n : ℕ) (y : Assignment) (r : Constraint) → row_of_sides (constraint_at n y r) ≡ row_with n y r
row_at n y r = λ i. record { left = worth_at n y r.left i; relation = r.relation; right = worth_at n y r.right i }

all_rows_at : (n : ℕ) (y : Assignment) (rs : List Constraint) → map row_of_sides (map (constraint_at n y) rs) ≡ map (row_with n y) rs
all_rows_at n y [] = refl
all_rows_at n y (r ∷ rs) = ap₂ (λ x xs. x ∷ xs) (row_at n y r) (all_rows_at n y rs)

objective_at : (n : ℕ) (y : Assignment) (goal : Option problems.Goal) (f : AffineForm)
    → option_map worth_of (objective_where goal (form_at n y f)) ≡ option_map (worth_with n y) (objective_where goal f)
objective_at n y None f = refl
objective_at n y (Some g) f = ap Some (worth_at n y f)

pub values_state_the_problem : ValuesStateTheProblem
values_state_the_problem c y f sides =
    let n : ℕ = c.decisions in
    let rows : map row_of_sides (constraints c.rows (sides_at n y sides)) ≡ map (row_with n y) (constraints c.rows sides) =
    ap (map row_of_sides) (rows_at n y c.rows sides) ∙ all_rows_at n y (constraints c.rows sides) in
    λ i. record {
      decisions = n;
      rows = rows i;
      whole = c.whole;
      binary = c.binary;
      not_negative = not_negative_in (statement_at c y f sides);
      numbered = c.groups;
      different = [];
      objective = objective_at n y c.goal f i;
      goal = goal_or_greatest c.goal;
    }

-- ---- what fits
length_at : (n : ℕ) (y : Assignment) (rs : List Constraint) → length (map (constraint_at n y) rs) ≡ length rs
length_at n y [] = refl
length_at n y (r ∷ rs) = ap suc (length_at n y rs)

length_sides : (n : ℕ) (y : Assignment) (sides : List (AffineForm × AffineForm)) → length (sides_at n y sides) ≡ length sides
length_sides n y [] = refl
length_sides n y (s ∷ sides) = ap suc (length_sides n y sides)

own_at : (n : ℕ) (y : Assignment) (r : Constraint) → IsOwn n r → IsOwn n (constraint_at n y r)
own_at n y r h j e =
    let own = h j e in (own.0, ap (form_at n y) own.1 ∙ ap exact (putting_laws.nothing n y (decision_form j) (own.0, tt)))

all_own : (n : ℕ) (y : Assignment) (rs : List Constraint) → AllByRecursion (IsOwn n) rs → AllByRecursion (IsOwn n) (map (constraint_at n y) rs)
all_own n y [] h = tt
all_own n y (r ∷ rs) h = (own_at n y r h.0, all_own n y rs h.1)

all_reach : (n : ℕ) (y : Assignment) (rs : List Constraint) → AllByRecursion (SidesReach n) (map (constraint_at n y) rs)
all_reach n y [] = tt
all_reach n y (r ∷ rs) = (record { left = putting_laws.reach n y r.left; right = putting_laws.reach n y r.right }, all_reach n y rs)

objective_reaches : (n : ℕ) (y : Assignment) (goal : Option problems.Goal) (f g : AffineForm) → objective_where goal (form_at n y f) ≡ Some g → ReachTo g.terms n
objective_reaches n y None f g e = cc
objective_reaches n y (Some goal) f g e = let same : form_at n y f ≡ g = cc in subst (λ (h : AffineForm). ReachTo h.terms n) same (putting_laws.reach n y f)

none_alike : (goal : Option problems.Goal) (f g : AffineForm) → objective_where goal f ≡ None → objective_where goal g ≡ None
none_alike None f g e = refl
none_alike (Some goal) f g e = cc

pub fits_with_values : FitsWithValues
fits_with_values count c y f sides h =
    let n : ℕ = c.decisions in
    let rs : List Constraint = constraints c.rows sides in
    let rows : constraints c.rows (sides_at n y sides) ≡ map (constraint_at n y) rs = rows_at n y c.rows sides in (
      length_sides n y sides ∙ h.0,
      record {
        few = h.1.few;
        few_rows = let many : length (constraints c.rows (sides_at n y sides)) ≡ length rs = ap length rows ∙ length_at n y rs in omega (arith, many, h.1.few_rows);
        own = subst (All (IsOwn n)) (sym rows) (All-from_recursion (IsOwn n) (map (constraint_at n y) rs) (all_own n y rs (recursion_from_All (IsOwn n) rs h.1.own)));
        sides = subst (All (SidesReach n)) (sym rows) (All-from_recursion (SidesReach n) (map (constraint_at n y) rs) (all_reach n y rs));
        objective = λ g e. objective_reaches n y c.goal f g e;
        whole = h.1.whole;
        binary = h.1.binary;
        groups = h.1.groups;
        goal = λ e. h.1.goal (none_alike c.goal (form_at n y f) f e);
      },
    )

-- ---- the model
objective_is : (n : ℕ) (y : Assignment) (goal : Option problems.Goal) (f : AffineForm) (w : problems.Worth)
    → option_map (worth_with n y) (objective_where goal f) ≡ Some w → objective_where goal (form_at n y f) ≡ Some (form_at n y f)
objective_is n y None f w e = cc
objective_is n y (Some g) f w e = refl

pub linear_with_values : LinearWithValues
linear_with_values count c y f sides h =
    let m = linear (statement_at c y f sides) in
    let same = values_state_the_problem c y f sides in
    let agrees = linear_agrees (statement_at c y f sides) (fits_with_values count c y f sides h).1 in
    record {
      permitted = λ a. subst (λ (p : problems.Problem). Permitted p a ↔ IsPoint m a) same (agrees.permitted a);
      answers = subst (λ (p : problems.Problem). SameAnswers p (problem_of m)) same agrees.answers;
      objective = λ w e. subst (λ (p : problems.Problem). Agree p (problem_of m)) same
          (agrees.objective (form_at c.decisions y f) (objective_is c.decisions y c.goal f w e));
    }
