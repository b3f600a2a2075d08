-- The part of a formula is composed of the parts of its own parts.
use Rattle.std.proofs.Common.{◌≡◌, ℕ, zero, suc, Bool, true, false, ◌&&◌, if◌then◌else◌, List, [], ◌∷◌, ◌++◌, refl, ap, ◌∙◌, Option, Some, None}
use Rattle.std.specs.Prelude.{is_some, option_map}
use Rattle.std.specs.Option.{option_and_then}
use Rattle.calculations.specs.Calculation.{Calculation, narrow, followed_by, turned_into, for_each}
use Rattle.calculations.proofs.CalculationLaws.{narrow-followed_by, narrow-turned_into}
use Rattle.cell_refs.specs.declared.cell.Cell.{Cell}
use Rattle.cell_refs.specs.declared.op.Op.{Op}
use Rattle.cell_refs.specs.declared.span.Span.{Span}
use Rattle.formula_ast.specs.Tree.{Tree, Trees, none, more}
use Rattle.formula_ast.specs.Tree as tree
use Rattle.formula_ast.specs.declared.func.Func.{Func}
use Rattle.sheet_model.specs.Operators.{infix_of, minus_of, percent_of, single}
use Rattle.sheet_model.specs.declared.value.Value.{Value}
use Rattle.sheet_model.specs.declared.grid.Arg.{Arg}
use Rattle.sheet_funcs.specs.Table.{called}
use Rattle.recalculation.specs.Evaluation.{at_chosen, chosen_place, without_choice, chosen_or, choosing, evaluated, all_evaluated}
use Rattle.recalculation.specs.Looks.{all_looks, both, outcomes, then_cells, looks_of, chosen_looks, choosing_looks}
use Rattle.recalculation.specs.Looking.{by_value, known_or_empty, are_known, outcome_of, reference_in, looked_at, arguments}
use Rattle.recalculation.proofs.Calculating.{in_order}
use Rattle.recalculation.proofs.Deciding.{decided_is}
use Rattle.evaluation.specs.Parts.{part_of}
use Rattle.evaluation.specs.Composed.{turned, joined, chosen_outcome, choosing_outcome, narrow_called}

module _ (known : Cell → Option Value) where
  -- the values of a formula's cells, and Empty where there is none
  abbrev pub filled_in : Cell → Value
  filled_in = known_or_empty known

  -- whether all at which a part looks is known
  abbrev pub told : Tree → Bool
  told t = are_known known (looked_at known t)

  -- an answer, where all is known
  abbrev pub where_known : {A : Type 0} → Bool → Option A → Option A
  where_known b o = if b then o else None

  -- the cells of two lists are known
  pub are_known-append : (xs ys : List Cell) → are_known known (xs ++ ys) ≡ (are_known known xs && are_known known ys)
  are_known-append [] ys = refl
  are_known-append (x ∷ xs) ys = by (is_some (known x)) (are_known-append xs ys)
    where
      by : (b : Bool) → are_known known (xs ++ ys) ≡ (are_known known xs && are_known known ys)
          → (b && are_known known (xs ++ ys)) ≡ ((b && are_known known xs) && are_known known ys)
      by true e = e
      by false e = refl

  -- ---- operators
  pub turned_told : {A : Type 0} (b : Bool) (c : Calculation A) (f : A → Calculation Arg)
      → where_known b (narrow (followed_by c f)) ≡ option_and_then (λ v. narrow (f v)) (where_known b (narrow c))
  turned_told true c f = narrow-followed_by c f
  turned_told false c f = refl

  -- an operator in front or behind
  turned_part : (t u : Tree) (f : Arg → Calculation Arg) → looked_at known u ≡ looked_at known t → evaluated filled_in u ≡ followed_by (evaluated filled_in t) f → reference_in u ≡ None
      → part_of known u ≡ turned f (part_of known t)
  turned_part t u f looks value no_reference =
      let outcome : outcome_of known u (looked_at known u) ≡ option_and_then (λ v. narrow (f v)) (outcome_of known t (looked_at known t)) =
      (λ i. where_known (are_known known (looks i)) (narrow (value i))) ∙ turned_told (told t) (evaluated filled_in t) f in
      λ i. record { looks = looks i; outcome = outcome i; reference = no_reference i }

  -- a minus in front
  pub minus_part : (s : Span) (t : Tree) → part_of known (tree.Minus s t) ≡ turned minus_of (part_of known t)
  minus_part s t = turned_part t (tree.Minus s t) minus_of refl refl refl

  -- a percent sign behind
  pub percent_part : (s : Span) (t : Tree) → part_of known (tree.Percent s t) ≡ turned percent_of (part_of known t)
  percent_part s t = turned_part t (tree.Percent s t) percent_of refl refl refl

  joined_told : (b c : Bool) (x y : Calculation Arg) (f : Arg → Arg → Calculation Arg)
      → where_known (b && c) (narrow (followed_by x (λ v. followed_by y (f v))))
      ≡ option_and_then (λ v. option_and_then (λ w. narrow (f v w)) (where_known c (narrow y))) (where_known b (narrow x))
  joined_told false c x y f = refl
  joined_told true c x y f = by c
    where
      second : (o : Option Arg) → option_and_then (λ v. narrow (followed_by y (f v))) o ≡ option_and_then (λ v. option_and_then (λ w. narrow (f v w)) (narrow y)) o
      second None = refl
      second (Some v) = narrow-followed_by y (f v)

      nothing : (o : Option Arg) → None ≡ option_and_then (λ (v : Arg). option_and_then (λ w. narrow (f v w)) None) o
      nothing None = refl
      nothing (Some v) = refl

      by : (c : Bool) → where_known c (narrow (followed_by x (λ v. followed_by y (f v)))) ≡ option_and_then (λ v. option_and_then (λ w. narrow (f v w)) (where_known c (narrow y))) (narrow x)
      by true = narrow-followed_by x (λ v. followed_by y (f v)) ∙ second (narrow x)
      by false = nothing (narrow x)

  -- an operator between two parts
  pub infix_part : (s : Span) (op : Op) (t u : Tree) → part_of known (tree.Infix s op t u) ≡ joined op (part_of known t) (part_of known u)
  infix_part s op t u =
      let outcome : outcome_of known (tree.Infix s op t u) (looked_at known t ++ looked_at known u)
      ≡ option_and_then (λ x. option_and_then (λ y. narrow (infix_of op x y)) (part_of known u).outcome) (part_of known t).outcome =
      ap (λ b. where_known b (narrow (evaluated filled_in (tree.Infix s op t u)))) (are_known-append (looked_at known t) (looked_at known u))
      ∙ joined_told (told t) (told u) (evaluated filled_in t) (evaluated filled_in u) (infix_of op) in
      λ i. record { looks = looked_at known t ++ looked_at known u; outcome = outcome i; reference = None }

  -- ---- functions that choose
  -- what is chosen
  single_told : (t : Tree) → where_known (told t) (narrow (turned_into single (evaluated filled_in t))) ≡ option_map single (part_of known t).outcome
  single_told t = by (told t)
    where
      by : (b : Bool) → where_known b (narrow (turned_into single (evaluated filled_in t))) ≡ option_map single (where_known b (narrow (evaluated filled_in t)))
      by true = narrow-turned_into single (evaluated filled_in t)
      by false = refl

  -- what follows from a value
  pub behind_told : (cells : List Cell) (c : Calculation Arg) (next : Arg → List Cell) (f : Arg → Calculation Arg) (g : Arg → Option Arg)
      → ((v : Arg) → where_known (are_known known (next v)) (narrow (f v)) ≡ g v)
      → where_known (are_known known (cells ++ then_cells (where_known (are_known known cells) (narrow c)) next)) (narrow (followed_by c f))
      ≡ option_and_then g (where_known (are_known known cells) (narrow c))
  behind_told cells c next f g h =
      ap (λ b. where_known b (narrow (followed_by c f))) (are_known-append cells (then_cells (where_known (are_known known cells) (narrow c)) next))
      ∙ by (are_known known cells)
    where
      on_value : (o : Option Arg) → where_known (are_known known (then_cells o next)) (option_and_then (λ v. narrow (f v)) o) ≡ option_and_then g o
      on_value None = refl
      on_value (Some v) = h v

      by : (b : Bool) → where_known (b && are_known known (then_cells (where_known b (narrow c)) next)) (narrow (followed_by c f)) ≡ option_and_then g (where_known b (narrow c))
      by true = ap (λ o. where_known (are_known known (then_cells (narrow c) next)) o) (narrow-followed_by c f) ∙ on_value (narrow c)
      by false = refl

  -- the argument at a place
  chosen_told : (ts : Trees) (o : Option ℕ) (a : Arg)
      → where_known (are_known known (looks_of (at_chosen (arguments known ts) o))) (narrow (chosen_or a (at_chosen (all_evaluated filled_in ts) o)))
      ≡ chosen_outcome a (at_chosen (arguments known ts) o)
  chosen_told ts None a = refl
  chosen_told none (Some n) a = refl
  chosen_told (more t ts) (Some zero) a = single_told t
  chosen_told (more t ts) (Some (suc n)) a = chosen_told ts (Some n) a

  -- IF, IFERROR and CHOOSE
  pub choosing_told : (f : Func) (ts : Trees)
      → where_known (are_known known (choosing_looks by_value f (arguments known ts))) (narrow (choosing f (all_evaluated filled_in ts))) ≡ choosing_outcome f (arguments known ts)
  choosing_told f none = refl
  choosing_told f (more t ts) =
      behind_told (looked_at known t) (evaluated filled_in t) _ _ (λ v. chosen_outcome (without_choice f v) (at_chosen (arguments known ts) (chosen_place f v)))
      (λ v. ap (λ o. where_known (are_known known (chosen_looks f (arguments known ts) o)) (narrow (chosen_or (without_choice f v) (at_chosen (all_evaluated filled_in ts) (chosen_place f v))))) (decided_is f v)
      ∙ chosen_told ts (chosen_place f v) (without_choice f v))

  -- ---- functions of all their arguments
  -- the answers of calculations, where all at which they look is known
  both_told : {A : Type 0} (b c : Bool) (x : Option A) (xs : Option (List A)) → where_known (b && c) (both x xs) ≡ both (where_known b x) (where_known c xs)
  both_told true true x xs = refl
  both_told true false None xs = refl
  both_told true false (Some x) xs = refl
  both_told false c x xs = refl

  pub all_told : (ts : Trees) → where_known (are_known known (all_looks (arguments known ts))) (narrow (for_each (λ c. c) (all_evaluated filled_in ts))) ≡ outcomes (arguments known ts)
  all_told none = refl
  all_told (more t ts) =
      (λ i. where_known (are_known-append (looked_at known t) (all_looks (arguments known ts)) i) (in_order (evaluated filled_in t) (all_evaluated filled_in ts) i))
      ∙ both_told (told t) (are_known known (all_looks (arguments known ts))) (narrow (evaluated filled_in t)) (narrow (for_each (λ c. c) (all_evaluated filled_in ts)))
      ∙ ap (both (outcome_of known t (looked_at known t))) (all_told ts)

  -- a function that looks at all of its arguments
  pub whole_told : (name : Func) (ts : Trees)
      → where_known (are_known known (all_looks (arguments known ts))) (narrow (followed_by (for_each (λ c. c) (all_evaluated filled_in ts)) (called name)))
      ≡ narrow_called name (outcomes (arguments known ts))
  whole_told name ts =
      turned_told (are_known known (all_looks (arguments known ts))) (for_each (λ c. c) (all_evaluated filled_in ts)) (called name)
      ∙ ap (narrow_called name) (all_told ts)
