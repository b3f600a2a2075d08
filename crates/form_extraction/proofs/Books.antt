-- The form of a cell is its value under every assignment.
use Rattle.std.specs.Prelude.{◌≡◌, is_some, option_map, slice_index_or}
use Rattle.std.proofs.Common.{refl, sym, ap, ◌∙◌, subst, Bool, true, false, if◌then◌else◌, List, [], ◌∷◌, map, Option, Some, None, ℕ, zero, suc, arith, length}
use Rattle.std.specs.List.{AllByRecursion}
use Rattle.std.specs.FinMap.{keys}
use Rattle.fractions.specs.Rational.{ℚ, zero_ℚ, one_ℚ, ◌+ℚ◌, ◌*ℚ◌}
use Rattle.fractions.proofs.Laws.{ring_laws}
use Rattle.fractions.proofs.Order.{zero_lt_one, ne_of_lt}
use Rattle.calculations.specs.Calculation.{exact}
use Rattle.cell_refs.specs.declared.cell.Cell.{Cell}
use Rattle.cell_refs.specs.declared.error_kind.ErrorKind.TheVariants as kind
use Rattle.sheet_model.specs.declared.value.Value.{Value}
use Rattle.sheet_model.specs.declared.value.Value.TheVariants.{Number, Text, Logical, Empty, Error}
use Rattle.sheet_model.specs.declared.grid.Arg.{Arg}
use Rattle.recalculation.specs.Entries.{Book, Entry, Constant, Formula, Malformed, entry}
use Rattle.recalculation.specs.Walks.{is_circular, unfolded}
use Rattle.recalculation.specs.Evaluation as evaluation
use Rattle.recalculation.specs.Evaluation.{evaluated, cell_value}
use Rattle.recalculation.specs.Recalculation.{entry_value, number_or, recalculated, bounded_val, val}
use Rattle.affine_forms.specs.Forms.{Assignment}
use Rattle.form_values.specs.Entries.{open_decision}
use Rattle.form_values.specs.Meaning.{abs_at}
use Rattle.form_values.proofs.Opening.{IsAbs}
use Rattle.form_values.specs.declared.abs.Abs.{Abs}
use Rattle.form_values.specs.declared.abs.Abs.TheVariants.{Known, Affine, Test}
use Rattle.form_values.specs.declared.abs.AbsArg.{AbsArg}
use Rattle.form_values.specs.declared.abs.AbsArg.TheVariants.{One, Area}
use Rattle.form_extraction.specs.declared.forms.Outcome.{Outcome}
use Rattle.form_extraction.specs.declared.forms.Outcome.TheVariants.{Gives, Refused, Without}
use Rattle.form_extraction.specs.Formulas.{part_of}
use Rattle.form_extraction.specs.declared.forms.CellForm.{CellForm}
use Rattle.form_extraction.specs.declared.forms.CellForm.TheVariants.{Form, Blocked, Circular}
use Rattle.form_extraction.specs.declared.forms.CellForm.TheVariants as result
use Rattle.form_extraction.specs.Places.{form_in, Decisions, overriding, left_by, filled, least_without, by_outcome, by_looks, entry_form, decision_or, form_over, bounded_form, form_of}
use Rattle.form_extraction.proofs.Worth.{IsWorth, Agree}
use Rattle.form_extraction.specs.Laws.{FormIsTheValue}
use Rattle.form_extraction.proofs.Trees.{part_true}

-- a form with the value of its cell
abbrev pub IsFormOf : Assignment → Value → Abs → Type 0
IsFormOf x v a = IsAbs a × (v ≡ abs_at x a)

module _ (x : Assignment) where
  first_of : (items : List Abs) → AllByRecursion IsAbs items → IsFormOf x (slice_index_or (map (abs_at x) items) 0 Empty) (slice_index_or items 0 (Known Empty))
  first_of [] h = (tt, refl)
  first_of (a ∷ items) h = (h.0, refl)

  left_worth : (v : Arg) (a : AbsArg) → IsWorth x v a → IsFormOf x (evaluation.left_by v) (left_by a)
  left_worth v (One a) h = (h.0.0, ap evaluation.left_by h.1)
  left_worth v (Area g) h = let r = first_of g.items h.0 in (r.0, ap evaluation.left_by h.1 ∙ r.1)

  filled_worth : (v : Value) (a : Abs) → IsFormOf x v a → IsFormOf x (evaluation.filled v) (filled a)
  filled_worth v (Known (Number y)) h = (tt, ap evaluation.filled h.1)
  filled_worth v (Known (Text y)) h = (tt, ap evaluation.filled h.1)
  filled_worth v (Known (Logical y)) h = (tt, ap evaluation.filled h.1)
  filled_worth v (Known Empty) h = (tt, ap evaluation.filled h.1)
  filled_worth v (Known (Error k)) h = (tt, ap evaluation.filled h.1)
  filled_worth v (Affine f) h = (h.0, ap evaluation.filled h.1)
  filled_worth v (Test f r) h = (h.0, ap evaluation.filled h.1)

  form_same : (v : Value) (a b : Abs) → Form a ≡ Form b → IsFormOf x v a → IsFormOf x v b
  form_same v a b e h = let s : a ≡ b = cc in subst (IsFormOf x v) s h

  -- ---- formulas
  outcome_worth : (v : Arg) (o : Outcome) (b : Abs) → ((a : AbsArg) → o ≡ Gives a → IsWorth x v a) → by_outcome o ≡ Form b → IsFormOf x (cell_value v) b
  outcome_worth v (Gives a) b h e = form_same (cell_value v) (filled (left_by a)) b e (filled_worth (evaluation.left_by v) (left_by a) (left_worth v a (h a refl)))
  outcome_worth v (Refused at why) b h e = cc
  outcome_worth v Without b h e = cc

  pub looks_worth : (v : Arg) (l : Option Cell) (o : Outcome) (b : Abs) → ((a : AbsArg) → o ≡ Gives a → IsWorth x v a) → by_looks l o ≡ Form b → IsFormOf x (cell_value v) b
  looks_worth v None o b h e = outcome_worth v o b h e
  looks_worth v (Some c) o b h e = cc

  entry_worth : (forms : Cell → Option Abs) (values : Cell → Value) → Agree x forms values → (e : Option Entry) (b : Abs) → entry_form forms e ≡ Form b → IsFormOf x (entry_value values e) b
  entry_worth forms values agree None b h = form_same Empty (Known Empty) b h (tt, refl)
  entry_worth forms values agree (Some (Constant v)) b h = form_same v (Known v) b h (tt, refl)
  entry_worth forms values agree (Some (Formula t)) b h =
      looks_worth (exact (evaluated values t)) (least_without forms (part_of forms t).looks) (part_of forms t).outcome b (λ a e. part_true x forms values agree t a e) h
  entry_worth forms values agree (Some Malformed) b h = cc

  -- ---- cells
  decision_worth : (j : ℕ) → IsFormOf x (Number (x j)) (Affine (open_decision j))
  decision_worth j = ((record { rise = (omega arith, (λ e. ne_of_lt zero_ℚ one_ℚ zero_lt_one (sym e)), tt) }, refl), ap Number (whole (x j)))
    where
      whole : (y : ℚ) → y ≡ zero_ℚ +ℚ (one_ℚ *ℚ y +ℚ zero_ℚ)
      whole y = simp ring_laws

  pub same_leaves : (decisions : Decisions) (b : Cell) → is_some (overriding decisions x b) ≡ is_some (decisions b)
  same_leaves decisions b = by_number (decisions b)
    where
      by_number : (o : Option ℕ) → is_some (option_map x o) ≡ is_some o
      by_number None = refl
      by_number (Some j) = refl

  cell_worth : (d : Option ℕ) (circular : Bool) (forms : Cell → Option Abs) (values : Cell → Value) → Agree x forms values → (e : Option Entry) (b : Abs)
      → decision_or d (if circular then Circular else entry_form forms e) ≡ Form b → IsFormOf x (number_or (option_map x d) (if circular then Error kind.Circular else entry_value values e)) b
  cell_worth (Some j) circular forms values agree e b h = form_same (Number (x j)) (Affine (open_decision j)) b h (decision_worth j)
  cell_worth None true forms values agree e b h = cc
  cell_worth None false forms values agree e b h = entry_worth forms values agree e b h

  layer_worth : (book : Book) (decisions : Decisions) (others : Cell → CellForm) (values : Cell → Value) → Agree x (λ c. form_in (others c)) values → (c : Cell) (b : Abs)
      → form_over book decisions others c ≡ Form b → IsFormOf x (recalculated book (overriding decisions x) values c) b
  layer_worth book decisions others values agree c b h =
      let leaves : (λ b. is_some (overriding decisions x b)) ≡ (λ b. is_some (decisions b)) = (λ i b. same_leaves decisions b i) in
      subst (λ (leaf : Cell → Bool). IsFormOf x (number_or (overriding decisions x c) (if is_circular book leaf c then Error kind.Circular else entry_value values (entry book c))) b) (sym leaves)
      (cell_worth (decisions c) (is_circular book (λ b. is_some (decisions b)) c) (λ c. form_in (others c)) values agree (entry book c) b h)

  of_form : (f : CellForm) (a : Abs) → form_in f ≡ Some a → f ≡ Form a
  of_form (Form b) a e = let s : b ≡ a = cc in ap Form s
  of_form (result.Refused at cause) a e = cc
  of_form (Blocked by) a e = cc
  of_form Circular a e = cc
  of_form result.Malformed a e = cc

  unfolded_worth : (book : Book) (decisions : Decisions) (n : ℕ) (c : Cell) (b : Abs) → unfolded (form_over book decisions) Circular n c ≡ Form b
      → IsFormOf x (unfolded (recalculated book (overriding decisions x)) (Error kind.Circular) n c) b
  unfolded_worth book decisions zero c b h = cc
  unfolded_worth book decisions (suc n) c b h =
      layer_worth book decisions (unfolded (form_over book decisions) Circular n) (unfolded (recalculated book (overriding decisions x)) (Error kind.Circular) n)
      record {
        sound = λ c a e. (unfolded_worth book decisions n c a (of_form _ a e)).0;
        same = λ c a e. (unfolded_worth book decisions n c a (of_form _ a e)).1;
      }
      c b h

-- the form of a cell is sound and has its value
pub form_worth : (book : Book) (decisions : Decisions) (a : Cell) (f : Abs) → form_of book decisions a ≡ Form f → (x : Assignment) → IsFormOf x (val book (overriding decisions x) a) f
unfolding form_of bounded_form val bounded_val
form_worth book decisions a f h x = unfolded_worth x book decisions (suc (length (keys book.texts))) a f h

pub form_is_the_value : FormIsTheValue
form_is_the_value book decisions a f h x = (form_worth book decisions a f h x).1
