-- Refusals of operators and of functions that look at all their arguments are right.
use Rattle.std.proofs.Common.{◌≡◌, sym, ap, ap₂, ◌∙◌, subst, List, [], ◌∷◌, Option, ◌⊎◌, inl, inr}
use Rattle.std.specs.Prelude.{⊤}
use Rattle.calculations.specs.Calculation.{Calculation, exact, followed_by, for_each}
use Rattle.cell_refs.specs.declared.cell.Cell.{Cell}
use Rattle.cell_refs.specs.declared.span.Span.{Span}
use Rattle.cell_refs.specs.declared.op.Op.{Op}
use Rattle.formula_ast.specs.Tree.{Tree, Trees, none, more}
use Rattle.formula_ast.specs.Tree as tree
use Rattle.formula_ast.specs.declared.func.Func.{Func}
use Rattle.sheet_model.specs.Operators.{infix_of}
use Rattle.sheet_model.specs.declared.value.Value.{Value}
use Rattle.sheet_model.specs.declared.grid.Arg.{Arg}
use Rattle.sheet_funcs.specs.Arguments.{elements_of}
use Rattle.sheet_funcs.specs.Table.{called}
use Rattle.recalculation.specs.Evaluation.{evaluated, all_evaluated, call_of}
use Rattle.affine_forms.specs.Forms.{Assignment}
use Rattle.affine_forms.proofs.Exact.{exact-followed_by}
use Rattle.form_values.specs.Meaning.{arg_at}
use Rattle.form_values.specs.Refusals.{Bends, SomeBends}
use Rattle.form_values.specs.Trials.{Trial}
use Rattle.form_values.specs.declared.abs.Abs.{Abs}
use Rattle.form_values.specs.declared.abs.AbsArg.{AbsArg}
use Rattle.form_table.specs.Operators.{infix_form}
use Rattle.form_table.specs.Table.{form_called}
use Rattle.form_truth.specs.Rows.{IsOutcome, IsOutcomeOf}
use Rattle.form_truth.specs.Laws.{called_at, CallIsRight}
use Rattle.form_truth.proofs.Rows.{infix_is_right}
use Rattle.form_extraction.specs.declared.forms.Why.{Why}
use Rattle.form_extraction.specs.declared.forms.Why.TheVariants as why
use Rattle.form_extraction.specs.Parts.{outcome_by, on_part, on_parts}
use Rattle.form_extraction.specs.declared.forms.Outcome.{Outcome}
use Rattle.form_extraction.specs.declared.forms.Outcome.TheVariants.{Gives, Refused}
use Rattle.form_extraction.specs.Formulas.{part_of, parts_of}
use Rattle.form_extraction.specs.Refuted.{IsPart, itself, in_call, in_left, in_right, IsAmong, first, later, PartBends, IsSo, IsRefuted}
use Rattle.form_extraction.proofs.Worth.{Agree}
use Rattle.form_extraction.proofs.Indexing.{each_exact}
use Rattle.form_extraction.proofs.Refusing.{Behind, gives_never, Own, too_wide, behind, breaks, undecided, tried_own, AmongRefuted, PartIsRefuted, ArePartsRefuted, IsOf, AreOf, all_are, part_first, parts_first, argument_varies}

-- ---- from parts to the whole
pub some_same : (v w : Assignment → List Value) → ((x : Assignment) → w x ≡ v x) → SomeBends w → SomeBends v
some_same v w e h = subst (λ (v : Assignment → List Value). SomeBends v) (λ i x. e x i) h

pub bends_same : (v w : Assignment → Value) → ((x : Assignment) → w x ≡ v x) → Bends w → Bends v
bends_same v w e h = subst (λ (v : Assignment → Value). Bends v) (λ i x. e x i) h

-- the whole itself
pub whole_refuted : (values : Assignment → Cell → Value) (t : Tree) (at : Span) (cause : Why) → tree.span_of t ≡ at → IsSo values cause t → IsRefuted values t at cause
whole_refuted values t at cause e so = record { part = t; is_part = itself; is_there = e; is_so = so }

pub wide_so : (values : Assignment → Cell → Value) (t : Tree) (cause : Why) → cause ≡ why.Wide → IsSo values cause t
wide_so values t cause e = subst (λ c. IsSo values c t) (sym e) tt

pub break_so : (values : Assignment → Cell → Value) (t : Tree) (cause : Why) → cause ≡ why.Break → PartBends values t → IsSo values cause t
break_so values t cause e b = subst (λ c. IsSo values c t) (sym e) b

pub in_parts : (values : Assignment → Cell → Value) (t u : Tree) → ((p : Tree) → IsPart p t → IsPart p u) → (at : Span) (cause : Why) → IsRefuted values t at cause → IsRefuted values u at cause
in_parts values t u lift at cause r = record { part = r.part; is_part = lift r.part r.is_part; is_there = r.is_there; is_so = r.is_so }

pub in_arguments : (values : Assignment → Cell → Value) (s : Span) (f : Func) (ts : Trees) (at : Span) (cause : Why) → AmongRefuted values ts at cause → IsRefuted values (tree.Call s f ts) at cause
in_arguments values s f ts at cause r = record { part = r.part; is_part = in_call s f ts r.is_among; is_there = r.is_there; is_so = r.is_so }

abbrev HasSome : Trees → Type 0
HasSome none = ⊥
HasSome (more t ts) = ⊤

has_some : (p : Tree) (ts : Trees) → IsAmong p ts → HasSome ts
has_some p _ (first x ts h) = tt
has_some p _ (later x ts h) = tt

pub only_among : (p t : Tree) → IsAmong p (more t none) → IsPart p t
only_among p t (first x ts h) = h
only_among p t (later x ts h) = absurd (has_some p none h)

module _ (forms : Cell → Option Abs) (values : Assignment → Cell → Value) (agree : (x : Assignment) → Agree x forms (values x)) where
  -- ---- operators in front and behind
  module _ (s : Span) (f : AbsArg → Trial AbsArg) (g : Arg → Calculation Arg) (row : (a : AbsArg) → IsOutcomeOf (λ x. exact (g (arg_at x a))) (a ∷ []) (exact (f a)))
      (t u : Tree) (lift : (p : Tree) → IsPart p t → IsPart p u) (span : tree.span_of u ≡ s) (value : (x : Assignment) → evaluated (values x) u ≡ followed_by (evaluated (values x) t) g)
      (bends : SomeBends (λ x. elements_of (exact (evaluated (values x) u))) → PartBends values u) where
    turned_value : (a : AbsArg) → IsOf forms values agree t a → (x : Assignment) → exact (g (arg_at x a)) ≡ exact (evaluated (values x) u)
    turned_value a k x = sym (ap exact (value x) ∙ exact-followed_by (evaluated (values x) t) g ∙ ap (λ v. exact (g v)) (k.1 x))

    turned_own : (a : AbsArg) → IsOf forms values agree t a → (at : Span) (cause : Why) → Own s (part_of forms t ∷ []) (f a) Gives at cause → IsRefuted values u at cause
    turned_own a k at cause (too_wide e c) = whole_refuted values u at cause (span ∙ e) (wide_so values u cause c)
    turned_own a k at cause (behind b) = absurd (gives_never b.value at cause b.goes)
    turned_own a k at cause (breaks d e c) =
        whole_refuted values u at cause (span ∙ e)
        (break_so values u cause c (bends (some_same _ _ (λ x. ap elements_of (turned_value a k x)) (subst (IsOutcomeOf (λ x. exact (g (arg_at x a))) (a ∷ [])) d (row a)))))
    turned_own a k at cause (undecided i d e c) =
        let r = argument_varies forms values agree s (more t none) (a ∷ []) (k, tt) i (subst (IsOutcomeOf (λ x. exact (g (arg_at x a))) (a ∷ [])) d (row a)) at e cause c in
        record { part = r.part; is_part = lift r.part (only_among r.part t r.is_among); is_there = r.is_there; is_so = r.is_so }

    pub turned_refuted : PartIsRefuted forms values agree t → (at : Span) (cause : Why) → on_part (part_of forms t) (λ a. outcome_by s (part_of forms t ∷ []) (f a)) ≡ Refused at cause → IsRefuted values u at cause
    turned_refuted h at cause e = by (part_first forms values agree t h (λ a. outcome_by s (part_of forms t ∷ []) (f a)) at cause e)
      where
        by : IsRefuted values t at cause ⊎ Behind (IsOf forms values agree t) (λ a. outcome_by s (part_of forms t ∷ []) (f a)) at cause → IsRefuted values u at cause
        by (inl r) = in_parts values t u lift at cause r
        by (inr b) = turned_own b.value b.is at cause (tried_own s (part_of forms t ∷ []) (f b.value) Gives at cause b.goes)

  -- ---- operators between two parts
  module _ (s : Span) (o : Op) (t u : Tree) where
    abbrev both : Tree
    both = tree.Infix s o t u

    abbrev joined : AbsArg → AbsArg → Outcome
    joined a b = outcome_by s (part_of forms t ∷ part_of forms u ∷ []) (infix_form o a b)

    joined_value : (a b : AbsArg) → IsOf forms values agree t a → IsOf forms values agree u b → (x : Assignment) → exact (infix_of o (arg_at x a) (arg_at x b)) ≡ exact (evaluated (values x) both)
    joined_value a b k l x =
        sym (exact-followed_by (evaluated (values x) t) _ ∙ exact-followed_by (evaluated (values x) u) (infix_of o (exact (evaluated (values x) t))) ∙ ap₂ (λ v w. exact (infix_of o v w)) (k.1 x) (l.1 x))

    in_pair : (at : Span) (cause : Why) → AmongRefuted values (more t (more u none)) at cause → IsRefuted values both at cause
    in_pair at cause r = record { part = r.part; is_part = by r.part r.is_among; is_there = r.is_there; is_so = r.is_so }
      where
        by : (p : Tree) → IsAmong p (more t (more u none)) → IsPart p both
        by p (first x ts h) = in_left s o t u h
        by p (later x ts h) = in_right s o t u (only_among p u h)

    joined_own : (a b : AbsArg) → IsOf forms values agree t a → IsOf forms values agree u b → (at : Span) (cause : Why)
        → Own s (part_of forms t ∷ part_of forms u ∷ []) (infix_form o a b) Gives at cause → IsRefuted values both at cause
    joined_own a b k l at cause (too_wide e c) = whole_refuted values both at cause e (wide_so values both cause c)
    joined_own a b k l at cause (behind v) = absurd (gives_never v.value at cause v.goes)
    joined_own a b k l at cause (breaks d e c) =
        whole_refuted values both at cause e
        (break_so values both cause c
        (some_same _ _ (λ x. ap elements_of (joined_value a b k l x)) (subst (IsOutcomeOf (λ x. exact (infix_of o (arg_at x a) (arg_at x b))) (a ∷ b ∷ [])) d (infix_is_right o a b))))
    joined_own a b k l at cause (undecided i d e c) =
        in_pair at cause
        (argument_varies forms values agree s (more t (more u none)) (a ∷ b ∷ []) (k, (l, tt)) i
        (subst (IsOutcomeOf (λ x. exact (infix_of o (arg_at x a) (arg_at x b))) (a ∷ b ∷ [])) d (infix_is_right o a b)) at e cause c)

    second_refuted : (a : AbsArg) → IsOf forms values agree t a → (at : Span) (cause : Why) → IsRefuted values u at cause ⊎ Behind (IsOf forms values agree u) (joined a) at cause → IsRefuted values both at cause
    second_refuted a k at cause (inl r) = in_parts values u both (λ p h. in_right s o t u h) at cause r
    second_refuted a k at cause (inr b) =
        joined_own a b.value k b.is at cause (tried_own s (part_of forms t ∷ part_of forms u ∷ []) (infix_form o a b.value) Gives at cause b.goes)

    pub infix_refuted : PartIsRefuted forms values agree t → PartIsRefuted forms values agree u → (at : Span) (cause : Why)
        → on_part (part_of forms t) (λ a. on_part (part_of forms u) (λ b. joined a b)) ≡ Refused at cause → IsRefuted values both at cause
    infix_refuted h k at cause e = by (part_first forms values agree t h (λ a. on_part (part_of forms u) (λ b. joined a b)) at cause e)
      where
        by : IsRefuted values t at cause ⊎ Behind (IsOf forms values agree t) (λ a. on_part (part_of forms u) (λ b. joined a b)) at cause → IsRefuted values both at cause
        by (inl r) = in_parts values t both (λ p h. in_left s o t u h) at cause r
        by (inr b) = second_refuted b.value b.is at cause (part_first forms values agree u k (joined b.value) at cause b.goes)

  -- ---- functions of all their arguments
  called_value : (f : Func) (ts : Trees) (args : List AbsArg) → AreOf forms values agree ts args → (x : Assignment)
      → called_at f args x ≡ exact (followed_by (for_each (λ c. c) (all_evaluated (values x) ts)) (called f))
  called_value f ts args k x =
      sym (exact-followed_by (for_each (λ c. c) (all_evaluated (values x) ts)) (called f) ∙ ap (λ vs. exact (called f vs)) (each_exact (all_evaluated (values x) ts) ∙ all_are forms values agree x ts args k))

  module _ (s : Span) (f : Func) (ts : Trees) (B : List AbsArg → Type 0) (right : (args : List AbsArg) → AreOf forms values agree ts args → IsOutcome (called_at f args) args (B args) (exact (form_called f args)))
      (bends : (args : List AbsArg) → AreOf forms values agree ts args → B args → PartBends values (tree.Call s f ts)) where
    called_own : (args : List AbsArg) → AreOf forms values agree ts args → (at : Span) (cause : Why) → Own s (parts_of forms ts) (form_called f args) Gives at cause → IsRefuted values (tree.Call s f ts) at cause
    called_own args k at cause (too_wide e c) = whole_refuted values (tree.Call s f ts) at cause e (wide_so values (tree.Call s f ts) cause c)
    called_own args k at cause (behind v) = absurd (gives_never v.value at cause v.goes)
    called_own args k at cause (breaks d e c) =
        whole_refuted values (tree.Call s f ts) at cause e (break_so values (tree.Call s f ts) cause c (bends args k (subst (IsOutcome (called_at f args) args (B args)) d (right args k))))
    called_own args k at cause (undecided i d e c) =
        in_arguments values s f ts at cause (argument_varies forms values agree s ts args k i (subst (IsOutcome (called_at f args) args (B args)) d (right args k)) at e cause c)

    pub called_refuted : ArePartsRefuted forms values agree ts → (at : Span) (cause : Why) → on_parts (parts_of forms ts) (λ args. outcome_by s (parts_of forms ts) (form_called f args)) ≡ Refused at cause
        → IsRefuted values (tree.Call s f ts) at cause
    called_refuted h at cause e = by (parts_first forms values agree ts h (λ args. outcome_by s (parts_of forms ts) (form_called f args)) at cause e)
      where
        by : AmongRefuted values ts at cause ⊎ Behind (AreOf forms values agree ts) (λ args. outcome_by s (parts_of forms ts) (form_called f args)) at cause → IsRefuted values (tree.Call s f ts) at cause
        by (inl r) = in_arguments values s f ts at cause r
        by (inr b) = called_own b.value b.is at cause (tried_own s (parts_of forms ts) (form_called f b.value) Gives at cause b.goes)

  -- of which the value bends
  pub plain_refuted : (s : Span) (f : Func) (ts : Trees) → CallIsRight f → ((x : Assignment) → call_of f (all_evaluated (values x) ts) ≡ followed_by (for_each (λ c. c) (all_evaluated (values x) ts)) (called f))
      → (SomeBends (λ x. elements_of (exact (evaluated (values x) (tree.Call s f ts)))) → PartBends values (tree.Call s f ts)) → ArePartsRefuted forms values agree ts → (at : Span) (cause : Why)
      → on_parts (parts_of forms ts) (λ args. outcome_by s (parts_of forms ts) (form_called f args)) ≡ Refused at cause → IsRefuted values (tree.Call s f ts) at cause
  plain_refuted s f ts right value bends h at cause e =
      called_refuted s f ts (λ args. SomeBends (λ x. elements_of (called_at f args x))) (λ args k. right args)
      (λ args k b. bends (some_same _ _ (λ x. ap elements_of (called_value f ts args k x ∙ sym (ap exact (value x)))) b)) h at cause e
