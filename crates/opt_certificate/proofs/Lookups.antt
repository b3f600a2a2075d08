-- Elements of lists, and rows at a point.
use Rattle.std.proofs.Common.{◌≡◌, ℕ, zero, suc, ◌<◌, false, refl, sym, ap, ◌∙◌, List, [], ◌∷◌, length, get_or, Option, Some, None, arith, subst}
use Rattle.fractions.specs.Rational.{ℚ, ◌≤ℚ◌, ◌<ℚ◌, zero_ℚ}
use Rattle.fractions.specs.Vectors.{at}
use Rattle.calculations.specs.Calculation.{narrow}
use Rattle.optimality.specs.Problem.{Assignment, Relation}
use Rattle.optimality.specs.Optimal.{Stand}
use Rattle.linear_models.specs.Box.{bound_at}
use Rattle.std.specs.Prelude.{All}
use Rattle.std.proofs.lemmas.List.Elements.{All-weaker}
use Rattle.fractions.proofs.Laws.{zero-add}
use Rattle.affine_forms.specs.Forms.{AffineForm, sum_at}
use Rattle.affine_forms.specs.Assigned.{assigned}
use Rattle.linear_models.specs.Worths.{form_at}
use Rattle.linear_models.specs.Model.{Model, maximised}
use Rattle.opt_certificate.specs.Certificate.{IsWayOut}
use Rattle.opt_certificate.specs.Checks.{without_constant}
use Rattle.opt_certificate.specs.Rows.{RowStands}
use Rattle.opt_certificate.specs.Sums.{form_sum, StaysNarrow}
use Rattle.opt_certificate.proofs.Totals.{form_is}

-- within a list the default doesn't count
pub any_default : {X : Type 0} (xs : List X) (i : ℕ) (d e : X) → i < length xs → get_or xs i d ≡ get_or xs i e
any_default [] i d e h = absurd (omega arith)
any_default (x ∷ xs) zero d e h = refl
any_default (x ∷ xs) (suc i) d e h = any_default xs i d e (omega arith)

pub bound_read : (bs : List (Option ℚ)) (i : ℕ) (o : Option ℚ) (b : ℚ) → i < length bs → o ≡ get_or bs i o → o ≡ Some b → bound_at bs i ≡ Some b
bound_read bs i o b h e f = any_default bs i None o h ∙ sym e ∙ f

pub number_read : (xs : List ℚ) (i : ℕ) (x : ℚ) → i < length xs → x ≡ get_or xs i x → at xs i ≡ x
number_read xs i x h e = any_default xs i zero_ℚ x h ∙ sym e

pub row_yes : (r : Relation) (f : AffineForm) (a : Assignment) (s : ℚ) → narrow (form_sum f a) ≡ Some s → Stand r s zero_ℚ → Stand r (form_at f a) zero_ℚ × StaysNarrow (form_sum f a)
row_yes r f a s e h = (subst (λ t. Stand r t zero_ℚ) (form_is f a s e) h, (s, e))

pub row_no : (r : Relation) (f : AffineForm) (a : Assignment) (s : ℚ) → narrow (form_sum f a) ≡ Some s → ¬ (Stand r s zero_ℚ) → ¬ (Stand r (form_at f a) zero_ℚ)
row_no r f a s e n h = n (subst (λ t. Stand r t zero_ℚ) (sym (form_is f a s e)) h)

-- ---- directions
pub rises_yes : (f : AffineForm) (d : Assignment) (s : ℚ) → narrow (form_sum f d) ≡ Some s → zero_ℚ <ℚ s → (zero_ℚ <ℚ form_at f d) × StaysNarrow (form_sum f d)
rises_yes f d s e h = (subst (λ t. zero_ℚ <ℚ t) (form_is f d s e) h, (s, e))

pub rises_no : (f : AffineForm) (d : Assignment) (s : ℚ) → narrow (form_sum f d) ≡ Some s → ¬ (zero_ℚ <ℚ s) → ¬ (zero_ℚ <ℚ form_at f d)
rises_no f d s e n h = n (subst (λ t. zero_ℚ <ℚ t) (sym (form_is f d s e)) h)

-- a form without its constant
pub based_at : (f : AffineForm) (d : Assignment) → form_at (without_constant f) d ≡ sum_at (assigned d) f.terms
based_at f d = zero-add _

steps_there : (d : Assignment) (rows : List (AffineForm × Relation)) → All (RowStands false d) rows → All (λ (row : AffineForm × Relation). Stand row.1 (sum_at (assigned d) row.0.terms) zero_ℚ) rows
steps_there d rows h = All-weaker (RowStands false d) (λ (row : AffineForm × Relation). Stand row.1 (sum_at (assigned d) row.0.terms) zero_ℚ) (λ row k. subst (λ t. Stand row.1 t zero_ℚ) (based_at row.0 d) k) rows h

steps_back : (d : Assignment) (rows : List (AffineForm × Relation)) → All (λ (row : AffineForm × Relation). Stand row.1 (sum_at (assigned d) row.0.terms) zero_ℚ) rows → All (RowStands false d) rows
steps_back d rows h = All-weaker (λ (row : AffineForm × Relation). Stand row.1 (sum_at (assigned d) row.0.terms) zero_ℚ) (RowStands false d) (λ row k. subst (λ t. Stand row.1 t zero_ℚ) (sym (based_at row.0 d)) k) rows h

-- a way out, by its parts
pub way_is : (m : Model) (f : AffineForm) (d : Assignment) → f ≡ maximised m.goal m.objective → length d ≡ length m.whole
    → ((j : ℕ) (b : ℚ) → bound_at m.bounds.least j ≡ Some b → zero_ℚ ≤ℚ at d j) → ((j : ℕ) (b : ℚ) → bound_at m.bounds.greatest j ≡ Some b → at d j ≤ℚ zero_ℚ)
    → All (RowStands false d) m.rows → zero_ℚ <ℚ form_at (without_constant f) d → IsWayOut m d
way_is m f d e n low high rows up = record {
  one_each = n;
  rows = steps_there d m.rows rows;
  least = low;
  greatest = high;
  improves = subst (λ t. zero_ℚ <ℚ t) (based_at f d ∙ ap (λ (f : AffineForm). sum_at (assigned d) f.terms) e) up;
}

pub way_rows : (m : Model) (d : Assignment) → IsWayOut m d → All (RowStands false d) m.rows
way_rows m d w = steps_back d m.rows w.rows

pub way_rises : (m : Model) (f : AffineForm) (d : Assignment) → f ≡ maximised m.goal m.objective → IsWayOut m d → zero_ℚ <ℚ form_at (without_constant f) d
way_rises m f d e w = subst (λ t. zero_ℚ <ℚ t) (sym (based_at f d ∙ ap (λ (f : AffineForm). sum_at (assigned d) f.terms) e)) w.improves
