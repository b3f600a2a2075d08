-- INDEX, ROWS and COLUMNS of what a function picks from, under an assignment.
use Rattle.std.specs.Prelude.{◌+◌, ◌-◌, ◌*◌, flat_map, slice_get, slice_index_or}
use Rattle.std.proofs.Common.{◌≡◌, refl, sym, ap, ap₂, ◌∙◌, subst, List, [], ◌∷◌, map, Option, Some, None, Result, Ok, Err, ℕ, zero, suc, arith}
use Rattle.std.specs.List.{AllByRecursion, range_with_len}
use Rattle.calculations.specs.Calculation.{Calculation, exact, for_each}
use Rattle.cell_refs.specs.declared.cell.Cell.{Cell}
use Rattle.cell_refs.specs.declared.span.Span.{Span}
use Rattle.cell_refs.specs.declared.error_kind.ErrorKind.{ErrorKind}
use Rattle.cell_refs.specs.declared.error_kind.ErrorKind.TheVariants as kind
use Rattle.formula_ast.specs.Tree.{Tree, Trees, none, more}
use Rattle.sheet_model.specs.Grids.{Rectangle}
use Rattle.sheet_model.specs.Operators.{single}
use Rattle.sheet_model.specs.declared.value.Value.{Value}
use Rattle.sheet_model.specs.declared.value.Value.TheVariants.{Empty, Error}
use Rattle.sheet_model.specs.declared.grid.Arg.TheVariants as arg
use Rattle.sheet_funcs.specs.Arguments as functions
use Rattle.sheet_funcs.specs.Picks.{from_to, pick_of, taken_from, index_of}
use Rattle.sheet_funcs.specs.declared.pick.Pick.{Pick}
use Rattle.sheet_funcs.specs.declared.pick.Pick.TheVariants.{Part as Picked, Fault}
use Rattle.recalculation.specs.Evaluation.{CellGrid, evaluated, all_evaluated}
use Rattle.affine_forms.specs.Forms.{Assignment}
use Rattle.affine_forms.proofs.Exact.{exact-followed_by, exact-turned_into}
use Rattle.form_values.specs.Meaning.{abs_at, arg_at}
use Rattle.form_values.proofs.Opening.{IsSound}
use Rattle.form_values.specs.Trials.{Refusal}
use Rattle.form_values.specs.declared.abs.Abs.{Abs}
use Rattle.form_values.specs.declared.abs.Abs.TheVariants.{Known}
use Rattle.form_values.specs.declared.abs.AbsArg.{AbsArg}
use Rattle.form_values.specs.declared.abs.AbsArg.TheVariants.{One, Area}
use Rattle.form_table.specs.Wanted.{grid_of}
use Rattle.form_table.specs.Picks.{pick_form}
use Rattle.form_table.specs.Certain.{index_error}
use Rattle.form_truth.specs.Picks.{IsPick, IsErrorPicked}
use Rattle.form_truth.proofs.CertainPicks.{certain_is_picked}
use Rattle.form_truth.proofs.Picking.{index_is_right}
use Rattle.form_extraction.specs.Parts.{on_parts, tried_on}
use Rattle.form_extraction.specs.declared.forms.Outcome.{Outcome}
use Rattle.form_extraction.specs.declared.forms.Outcome.TheVariants.{Gives, Refused, Without}
use Rattle.form_extraction.specs.Sources.{Source}
use Rattle.form_extraction.specs.Calls.{unless_error, seen_before, picked_from, picked_at, index_outcome}
use Rattle.form_extraction.specs.Formulas.{part_of, parts_of}
use Rattle.form_extraction.proofs.Worth.{IsWorth, Agree, PartIsTrue, ArePartsTrue}
use Rattle.form_extraction.proofs.Parts.{given_first, tried_first}
use Rattle.form_extraction.proofs.Choices.{error_worth}
use Rattle.form_extraction.proofs.Picking.{Matches, source_first, picked_true}

-- ---- the values of all arguments
pub each_exact : {A : Type 0} (cs : List (Calculation A)) → exact (for_each (λ c. c) cs) ≡ map exact cs
each_exact [] = refl
each_exact (c ∷ cs) = exact-followed_by c _ ∙ exact-turned_into (λ ys. exact c ∷ ys) (for_each (λ c. c) cs) ∙ ap (λ ys. exact c ∷ ys) (each_exact cs)

module _ (x : Assignment) (forms : Cell → Option Abs) (values : Cell → Value) where
  pub record AllGiven (ts : Trees) (f : List AbsArg → Outcome) (a : AbsArg) : Type 0 where
    pub args : List AbsArg
    pub sound : AllByRecursion IsSound args
    pub same : map exact (all_evaluated values ts) ≡ map (arg_at x) args
    pub goes : f args ≡ Gives a

  pub all_given : (ts : Trees) → ArePartsTrue x forms values ts → (f : List AbsArg → Outcome) (a : AbsArg) → on_parts (parts_of forms ts) f ≡ Gives a → AllGiven ts f a
  all_given none h f a e = record { args = []; sound = tt; same = refl; goes = e }
  all_given (more t ts) h f a e =
      let p = given_first (part_of forms t).outcome (λ b. on_parts (parts_of forms ts) (λ args. f (b ∷ args))) a e in
      let r = h.0 p.value p.is in
      let q = all_given ts h.1 (λ args. f (p.value ∷ args)) a p.goes in
      record { args = p.value ∷ q.args; sound = (r.0, q.sound); same = ap₂ (λ v vs. v ∷ vs) r.1 q.same; goes = q.goes }

-- what INDEX picks
picks_same : (x : Assignment) (rows columns : ℕ) (args : List AbsArg) → AllByRecursion IsSound args → (pick : Pick) → exact (pick_form rows columns args) ≡ Ok pick → pick_of rows columns (map (arg_at x) args) ≡ pick
picks_same x rows columns args h pick e = picked (exact (pick_form rows columns args)) (index_is_right rows columns (One (Known Empty)) args) e
  where
    picked : (r : Result Pick Refusal) → IsPick (λ x. pick_of rows columns (map (arg_at x) args)) (One (Known Empty) ∷ args) r → r ≡ Ok pick → pick_of rows columns (map (arg_at x) args) ≡ pick
    picked (Ok p) k e = let s : p ≡ pick = cc in k x ∙ s
    picked (Err r) k e = cc

-- ---- INDEX
-- one element of a grid
one_row : (n : ℕ) → n + 1 - n ≡ 1
one_row n = omega arith

row_alone : (n : ℕ) → from_to n n ≡ n ∷ []
row_alone n = ap (range_with_len n) (one_row n)

element_alone : (g : Rectangle) (top left : ℕ) → taken_from g (Picked top left top left) ≡ arg.One (functions.at g top left)
element_alone g top left =
    ap₂ (λ rows columns. single (arg.Area (record { rows = top + 1 - top; columns = left + 1 - left; items = flat_map (λ row. map (λ column. functions.at g row column) columns) rows })))
    (row_alone top) (row_alone left)

module _ (x : Assignment) (forms : Cell → Option Abs) (values : Cell → Value) (agree : Agree x forms values) where
  -- what is seen before of a part: nothing of a reference, and else all elements
  abbrev AreSeen : List Abs → List Value → Type 0
  AreSeen seen us = (i : ℕ) (b : Abs) → slice_get seen i ≡ Some b → slice_index_or us i Empty ≡ abs_at x b

  nothing_seen : (us : List Value) → AreSeen [] us
  nothing_seen us i b e = cc

  all_seen : (items : List Abs) → AreSeen items (map (abs_at x) items)
  all_seen [] i b e = cc
  all_seen (a ∷ items) zero b e = let s : a ≡ b = cc in ap (abs_at x) s
  all_seen (a ∷ items) (suc i) b e = all_seen items i b e

  seen_items : (a : AbsArg) → AreSeen (grid_of a).items (functions.grid_of (arg_at x a)).items
  seen_items (One a) = all_seen (a ∷ [])
  seen_items (Area g) = all_seen g.items

  pub seen_are : (t : Tree) → PartIsTrue x forms values t → AreSeen (seen_before (part_of forms t).reference (part_of forms t).outcome) (functions.grid_of (exact (evaluated values t))).items
  seen_are t h = by_part (part_of forms t).reference (part_of forms t).outcome (λ a e. h a e)
    where
      by_part : (r : Option CellGrid) (o : Outcome) → ((a : AbsArg) → o ≡ Gives a → IsWorth x (exact (evaluated values t)) a) → AreSeen (seen_before r o) (functions.grid_of (exact (evaluated values t))).items
      by_part (Some g) o h = nothing_seen (functions.grid_of (exact (evaluated values t))).items
      by_part None (Gives a) h = subst (AreSeen (grid_of a).items) (sym (ap (λ v. (functions.grid_of v).items) (h a refl).1)) (seen_items a)
      by_part None (Refused at cause) h = nothing_seen (functions.grid_of (exact (evaluated values t))).items
      by_part None Without h = nothing_seen (functions.grid_of (exact (evaluated values t))).items

  -- an error that is certainly picked
  module _ (g : Rectangle) (seen : List Abs) (are : AreSeen seen g.items) (k : ErrorKind) where
    error_taken : (p : Pick) → IsErrorPicked k g.columns seen p → taken_from g p ≡ arg.One (Error k)
    error_taken (Fault l) e = ap (λ m. arg.One (Error m)) e
    error_taken (Picked top left bottom right) e =
        ap₂ (λ b r. taken_from g (Picked top left b r)) e.0 e.1 ∙ element_alone g top left ∙ ap arg.One (are (top * g.columns + left) (Known (Error k)) e.2)

    certain_taken : (rows columns : ℕ) → rows ≡ g.rows → columns ≡ g.columns → (args : List AbsArg) → AllByRecursion IsSound args → index_error rows columns seen args ≡ Some k
        → taken_from g (pick_of g.rows g.columns (map (arg_at x) args)) ≡ arg.One (Error k)
    certain_taken rows columns d e args h i =
        error_taken (pick_of g.rows g.columns (map (arg_at x) args))
        (certain_is_picked x g.rows g.columns seen args k (sym (ap₂ (λ rows columns. index_error rows columns seen args) d e) ∙ i))

  pub index_true : (s : Span) (ts : Trees) → ArePartsTrue x forms values ts → (a : AbsArg) → index_outcome forms s (parts_of forms ts) ≡ Gives a
      → IsWorth x (exact (index_of (map exact (all_evaluated values ts)))) a
  index_true s none h a e = error_worth x kind.Value a e
  index_true s (more t ts) h a e =
      let seen = seen_before (part_of forms t).reference (part_of forms t).outcome in
      let o = source_first x forms values agree t h.0 (λ g. on_parts (parts_of forms ts) (picked_at s (part_of forms t ∷ parts_of forms ts) g seen)) a e in
      let g = all_given x forms values ts h.1 (picked_at s (part_of forms t ∷ parts_of forms ts) o.source seen) a o.goes in
      subst (λ vs. IsWorth x (taken_from (functions.grid_of (exact (evaluated values t))) (pick_of (functions.grid_of (exact (evaluated values t))).rows (functions.grid_of (exact (evaluated values t))).columns vs)) a) (sym g.same)
      (by_certain o.source o.matches g.args g.sound (index_error o.source.rows o.source.columns seen g.args) refl g.goes)
    where
      by_certain : (src : Source) → Matches x src (functions.grid_of (exact (evaluated values t))) → (args : List AbsArg) → AllByRecursion IsSound args → (c : Option ErrorKind)
          → index_error src.rows src.columns (seen_before (part_of forms t).reference (part_of forms t).outcome) args ≡ c
          → unless_error c (tried_on s (part_of forms t ∷ parts_of forms ts) (pick_form src.rows src.columns args) (picked_from src)) ≡ Gives a
          → IsWorth x (taken_from (functions.grid_of (exact (evaluated values t))) (pick_of (functions.grid_of (exact (evaluated values t))).rows (functions.grid_of (exact (evaluated values t))).columns (map (arg_at x) args))) a
      by_certain src m args sound (Some k) d e =
          subst (λ v. IsWorth x v a)
          (sym (certain_taken (functions.grid_of (exact (evaluated values t))) (seen_before (part_of forms t).reference (part_of forms t).outcome) (seen_are t h.0) k src.rows src.columns m.rows m.columns args sound d))
          (error_worth x k a e)
      by_certain src m args sound None d e =
          let q = tried_first s (part_of forms t ∷ parts_of forms ts) (pick_form src.rows src.columns args) (picked_from src) a e in
          subst (λ v. IsWorth x v a)
          (ap (taken_from (functions.grid_of (exact (evaluated values t))))
          (sym (picks_same x src.rows src.columns args sound q.value q.is) ∙ ap₂ (λ rows columns. pick_of rows columns (map (arg_at x) args)) m.rows m.columns))
          (picked_true x forms values agree src (functions.grid_of (exact (evaluated values t))) m q.value a q.goes)
