-- What is refused in a part of a formula: one of its own parts, or the part itself by its row of the form table.
use Rattle.std.specs.Prelude.{⊤}
use Rattle.std.proofs.Common.{◌≡◌, refl, sym, ap₂, ◌∙◌, subst, List, [], ◌∷◌, map, Option, Some, None, Ok, Err, ℕ, zero, suc, ◌⊎◌, inl, inr}
use Rattle.std.specs.List.{AllByRecursion}
use Rattle.fractions.specs.Rational.{zero_ℚ}
use Rattle.calculations.specs.Calculation.{exact, narrow}
use Rattle.calculations.proofs.CalculationLaws.{narrow-exact}
use Rattle.cell_refs.specs.declared.cell.Cell.{Cell}
use Rattle.cell_refs.specs.declared.span.Span.{Span}
use Rattle.formula_ast.specs.Tree.{Tree, Trees, none, more, span_of}
use Rattle.formula_ast.specs.Tree as tree
use Rattle.sheet_model.specs.declared.value.Value.{Value}
use Rattle.sheet_funcs.specs.Arguments as functions
use Rattle.recalculation.specs.Evaluation.{CellGrid, evaluated, all_evaluated}
use Rattle.affine_forms.specs.Forms.{Assignment}
use Rattle.form_values.specs.Meaning.{arg_at}
use Rattle.form_values.proofs.Opening.{IsSound}
use Rattle.form_values.specs.Refusals.{Varies}
use Rattle.form_values.specs.Trials.{Trial, Breaks, Undecided}
use Rattle.form_values.specs.declared.abs.Abs.{Abs}
use Rattle.form_values.specs.declared.abs.AbsArg.{AbsArg}
use Rattle.form_table.specs.Wanted.{grid_of}
use Rattle.form_truth.specs.Rows.{ArgumentVaries}
use Rattle.form_extraction.specs.declared.forms.Why.{Why}
use Rattle.form_extraction.specs.declared.forms.Why.TheVariants as why
use Rattle.form_extraction.specs.Parts.{Part, span_at, tried, tried_on, on_outcome, on_part, on_parts}
use Rattle.form_extraction.specs.declared.forms.Outcome.{Outcome}
use Rattle.form_extraction.specs.declared.forms.Outcome.TheVariants.{Gives, Refused, Without}
use Rattle.form_extraction.specs.Sources.{Source, of_cells, of_raster, in_source, on_source, on_elements}
use Rattle.form_extraction.specs.Formulas.{part_of, parts_of}
use Rattle.form_extraction.specs.Refuted.{itself, IsAmong, first, later, IsSo, IsRefuted}
use Rattle.form_extraction.proofs.Worth.{Agree}
use Rattle.form_extraction.proofs.Picking.{Matches, grid_match, cells_source}
use Rattle.form_extraction.proofs.Trees.{part_true}

-- ---- outcomes that are refused
-- what comes before is refused, or it gives a value with which the rest is
pub record Behind {A : Type 0} (holds : A → Type 0) (f : A → Outcome) (at : Span) (cause : Why) : Type 0 where
  pub value : A
  pub is : holds value
  pub goes : f value ≡ Refused at cause

pub outcome_first : (o : Outcome) (f : AbsArg → Outcome) (at : Span) (cause : Why) → on_outcome o f ≡ Refused at cause
    → (o ≡ Refused at cause) ⊎ Behind (λ v. o ≡ Gives v) f at cause
outcome_first (Gives a) f at cause h = inr (record { value = a; is = refl; goes = h })
outcome_first (Refused s c) f at cause h = inl h
outcome_first Without f at cause h = cc

-- a value isn't refused
pub gives_never : (a : AbsArg) (at : Span) (cause : Why) → Gives a ≡ Refused at cause → ⊥
gives_never a at cause h = cc

pub elements_never : (o : Option (List Abs)) (f : List Abs → Outcome) (at : Span) (cause : Why) → on_elements o f ≡ Refused at cause → Behind (λ items. o ≡ Some items) f at cause
elements_never (Some items) f at cause h = record { value = items; is = refl; goes = h }
elements_never None f at cause h = cc

-- of a trial: a number isn't narrow, what it gives is refused, or it is refused itself
pub data Own {A : Type 0} (whole : Span) (parts : List Part) (c : Trial A) (f : A → Outcome) (at : Span) (cause : Why) : Type 0 where
  too_wide : whole ≡ at → cause ≡ why.Wide → Own whole parts c f at cause
  behind : Behind (λ v. exact c ≡ Ok v) f at cause → Own whole parts c f at cause
  breaks : exact c ≡ Err Breaks → whole ≡ at → cause ≡ why.Break → Own whole parts c f at cause
  undecided : (i : ℕ) → exact c ≡ Err (Undecided i) → span_at whole parts i ≡ at → cause ≡ why.Undecided → Own whole parts c f at cause

pub tried_own : {A : Type 0} (whole : Span) (parts : List Part) (c : Trial A) (f : A → Outcome) (at : Span) (cause : Why) → tried_on whole parts c f ≡ Refused at cause → Own whole parts c f at cause
tried_own whole parts c f at cause h = by_answer (narrow c) refl h
  where
    by_answer : (o : Option _) → narrow c ≡ o → tried whole parts f o ≡ Refused at cause → Own whole parts c f at cause
    by_answer None e h = let at_there : whole ≡ at = cc in let so : why.Wide ≡ cause = cc in too_wide at_there (sym so)
    by_answer (Some (Ok v)) e h = behind (record { value = v; is = narrow-exact c (Ok v) e; goes = h })
    by_answer (Some (Err Breaks)) e h = let at_there : whole ≡ at = cc in let so : why.Break ≡ cause = cc in breaks (narrow-exact c (Err Breaks) e) at_there (sym so)
    by_answer (Some (Err (Undecided i))) e h = let at_there : span_at whole parts i ≡ at = cc in let so : why.Undecided ≡ cause = cc in undecided i (narrow-exact c (Err (Undecided i)) e) at_there (sym so)

-- ---- parts and their trees
-- a part stands where its tree does
pub span_is : (forms : Cell → Option Abs) (t : Tree) → (part_of forms t).span ≡ span_of t
span_is forms (tree.Number s y) = refl
span_is forms (tree.Text s y) = refl
span_is forms (tree.Logical s y) = refl
span_is forms (tree.Fault s y) = refl
span_is forms (tree.Missing s) = refl
span_is forms (tree.Array s rows columns items) = refl
span_is forms (tree.Reference s areas) = refl
span_is forms (tree.Call s f args) = refl
span_is forms (tree.Plus s t) = refl
span_is forms (tree.Minus s t) = refl
span_is forms (tree.Percent s t) = refl
span_is forms (tree.Infix s o t u) = refl
span_is forms (tree.WideNumber s y) = refl
span_is forms (tree.Name s n) = refl
span_is forms (tree.Unknown s n args) = refl

-- one of some trees is refuted
pub record AmongRefuted (values : Assignment → Cell → Value) (ts : Trees) (at : Span) (cause : Why) : Type 0 where
  pub part : Tree
  pub is_among : IsAmong part ts
  pub is_there : span_of part ≡ at
  pub is_so : IsSo values cause part

pub first_refuted : (values : Assignment → Cell → Value) (t : Tree) (ts : Trees) (at : Span) (cause : Why) → IsRefuted values t at cause → AmongRefuted values (more t ts) at cause
first_refuted values t ts at cause r = record { part = r.part; is_among = first t ts r.is_part; is_there = r.is_there; is_so = r.is_so }

pub later_refuted : (values : Assignment → Cell → Value) (t : Tree) (ts : Trees) (at : Span) (cause : Why) → AmongRefuted values ts at cause → AmongRefuted values (more t ts) at cause
later_refuted values t ts at cause r = record { part = r.part; is_among = later t ts r.is_among; is_there = r.is_there; is_so = r.is_so }

module _ (forms : Cell → Option Abs) (values : Assignment → Cell → Value) (agree : (x : Assignment) → Agree x forms (values x)) where
  -- what is refused in a part is so
  abbrev pub PartIsRefuted : Tree → Type 0
  PartIsRefuted t = (at : Span) (cause : Why) → (part_of forms t).outcome ≡ Refused at cause → IsRefuted values t at cause

  abbrev pub ArePartsRefuted : Trees → Type 0
  ArePartsRefuted none = ⊤
  ArePartsRefuted (more t ts) = PartIsRefuted t × ArePartsRefuted ts

  -- an open argument has the value of a tree under every assignment
  abbrev pub IsOf : Tree → AbsArg → Type 0
  IsOf t a = IsSound a × ((x : Assignment) → exact (evaluated (values x) t) ≡ arg_at x a)

  abbrev pub AreOf : Trees → List AbsArg → Type 0
  AreOf none [] = ⊤
  AreOf (more t ts) (a ∷ args) = IsOf t a × AreOf ts args
  AreOf _ _ = ⊥

  pub given_of : (t : Tree) (a : AbsArg) → (part_of forms t).outcome ≡ Gives a → IsOf t a
  given_of t a e = ((part_true (λ j. zero_ℚ) forms (values (λ j. zero_ℚ)) (agree (λ j. zero_ℚ)) t a e).0, λ x. (part_true x forms (values x) (agree x) t a e).1)

  pub are_sound : (ts : Trees) (args : List AbsArg) → AreOf ts args → AllByRecursion IsSound args
  are_sound none [] h = tt
  are_sound (more t ts) (a ∷ args) h = (h.0.0, are_sound ts args h.1)
  are_sound none (a ∷ args) h = absurd h
  are_sound (more t ts) [] h = absurd h

  pub all_are : (x : Assignment) (ts : Trees) (args : List AbsArg) → AreOf ts args → map exact (all_evaluated (values x) ts) ≡ map (arg_at x) args
  all_are x none [] h = refl
  all_are x (more t ts) (a ∷ args) h = ap₂ (λ v vs. v ∷ vs) (h.0.1 x) (all_are x ts args h.1)
  all_are x none (a ∷ args) h = absurd h
  all_are x (more t ts) [] h = absurd h

  -- ---- parts in their order
  pub part_first : (t : Tree) → PartIsRefuted t → (f : AbsArg → Outcome) (at : Span) (cause : Why) → on_part (part_of forms t) f ≡ Refused at cause
      → IsRefuted values t at cause ⊎ Behind (IsOf t) f at cause
  part_first t h f at cause e = by (outcome_first (part_of forms t).outcome f at cause e)
    where
      by : ((part_of forms t).outcome ≡ Refused at cause) ⊎ Behind (λ v. (part_of forms t).outcome ≡ Gives v) f at cause → IsRefuted values t at cause ⊎ Behind (IsOf t) f at cause
      by (inl r) = inl (h at cause r)
      by (inr b) = inr (record { value = b.value; is = given_of t b.value b.is; goes = b.goes })

  pub parts_first : (ts : Trees) → ArePartsRefuted ts → (f : List AbsArg → Outcome) (at : Span) (cause : Why) → on_parts (parts_of forms ts) f ≡ Refused at cause
      → AmongRefuted values ts at cause ⊎ Behind (AreOf ts) f at cause
  parts_first none h f at cause e = inr (record { value = []; is = tt; goes = e })
  parts_first (more t ts) h f at cause e =
      by (part_first t h.0 (λ a. on_parts (parts_of forms ts) (λ args. f (a ∷ args))) at cause e) (λ a d. parts_first ts h.1 (λ args. f (a ∷ args)) at cause d)
    where
      later_by : (a : AbsArg) → IsOf t a → AmongRefuted values ts at cause ⊎ Behind (AreOf ts) (λ args. f (a ∷ args)) at cause → AmongRefuted values (more t ts) at cause ⊎ Behind (AreOf (more t ts)) f at cause
      later_by a k (inl r) = inl (later_refuted values t ts at cause r)
      later_by a k (inr b) = inr (record { value = a ∷ b.value; is = (k, b.is); goes = b.goes })

      by : IsRefuted values t at cause ⊎ Behind (IsOf t) (λ a. on_parts (parts_of forms ts) (λ args. f (a ∷ args))) at cause
          → ((a : AbsArg) → on_parts (parts_of forms ts) (λ args. f (a ∷ args)) ≡ Refused at cause → AmongRefuted values ts at cause ⊎ Behind (AreOf ts) (λ args. f (a ∷ args)) at cause)
          → AmongRefuted values (more t ts) at cause ⊎ Behind (AreOf (more t ts)) f at cause
      by (inl r) ih = inl (first_refuted values t ts at cause r)
      by (inr b) ih = later_by b.value b.is (ih b.value b.goes)

  -- a source stands for the value of a tree under every assignment
  abbrev pub IsSourceOf : Tree → Source → Type 0
  IsSourceOf t s = (x : Assignment) → Matches x s (functions.grid_of (exact (evaluated (values x) t)))

  pub source_first : (t : Tree) → PartIsRefuted t → (f : Source → Outcome) (at : Span) (cause : Why) → on_source forms (part_of forms t) f ≡ Refused at cause
      → IsRefuted values t at cause ⊎ Behind (IsSourceOf t) f at cause
  source_first t h f at cause e = by_reference (part_of forms t).reference refl e
    where
      by_part : IsRefuted values t at cause ⊎ Behind (IsOf t) (λ a. f (of_raster (grid_of a))) at cause → IsRefuted values t at cause ⊎ Behind (IsSourceOf t) f at cause
      by_part (inl k) = inl k
      by_part (inr b) =
          inr (record {
            value = of_raster (grid_of b.value);
            is = λ x. subst (λ v. Matches x (of_raster (grid_of b.value)) (functions.grid_of v)) (sym (b.is.1 x)) (grid_match x forms (values x) (agree x) b.value b.is.0);
            goes = b.goes;
          })

      by_reference : (r : Option CellGrid) → (part_of forms t).reference ≡ r → in_source r forms (part_of forms t) f ≡ Refused at cause
          → IsRefuted values t at cause ⊎ Behind (IsSourceOf t) f at cause
      by_reference (Some g) d e = inr (record { value = of_cells forms g; is = λ x. cells_source x forms (values x) (agree x) t g d; goes = e })
      by_reference None d e = by_part (part_first t h (λ a. f (of_raster (grid_of a))) at cause e)

  -- ---- an argument that varies
  pub tree_varies : (t : Tree) (ts : Trees) → Varies (λ x. exact (evaluated (values x) t)) → (at : Span) → (part_of forms t).span ≡ at → (cause : Why) → cause ≡ why.Undecided → AmongRefuted values (more t ts) at cause
  tree_varies t ts v at e cause c = record { part = t; is_among = first t ts itself; is_there = sym (span_is forms t) ∙ e; is_so = subst (λ c. IsSo values c t) (sym c) v }

  pub of_varies : (t : Tree) (a : AbsArg) → IsOf t a → Varies (λ x. arg_at x a) → Varies (λ x. exact (evaluated (values x) t))
  of_varies t a k v = record { one = v.one; other = v.other; differ = λ d. v.differ (sym (k.1 v.one) ∙ d ∙ k.1 v.other) }

  pub argument_varies : (whole : Span) (ts : Trees) (args : List AbsArg) → AreOf ts args → (i : ℕ) → ArgumentVaries arg_at args i → (at : Span) → span_at whole (parts_of forms ts) i ≡ at → (cause : Why) → cause ≡ why.Undecided
      → AmongRefuted values ts at cause
  argument_varies whole none [] h i v at e cause c = let n : ◌≡◌ {A = Option AbsArg} None (Some v.argument) = v.is_there in cc
  argument_varies whole none (a ∷ args) h i v at e cause c = absurd h
  argument_varies whole (more t ts) [] h i v at e cause c = absurd h
  argument_varies whole (more t ts) (a ∷ args) h zero v at e cause c =
      let same : v.argument ≡ a = let s = v.is_there in cc in
      tree_varies t ts (of_varies t a h.0 (subst (λ b. Varies (λ x. arg_at x b)) same v.varies)) at e cause c
  argument_varies whole (more t ts) (a ∷ args) h (suc i) v at e cause c =
      later_refuted values t ts at cause (argument_varies whole ts args h.1 i (record { argument = v.argument; is_there = v.is_there; varies = v.varies }) at e cause c)
