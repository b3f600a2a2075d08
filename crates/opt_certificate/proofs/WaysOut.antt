-- A way out makes the objective better than every number.
use Rattle.std.proofs.Common.{◌≡◌, ℕ, suc, ◌<◌, refl, sym, ap, ap₂, ◌∙◌, List, [], ◌∷◌, length, get_or, arith, subst, pos}
use Rattle.std.proofs.lemmas.Int.{ints}
use borrow.Author.Differences.{at_most_in}
use Rattle.std.proofs.lemmas.List.Elements.{All-from_recursion, recursion_from_All}
use Rattle.std.specs.List.{AllByRecursion}
use Rattle.fractions.specs.Rational.{ℚ, ◌+ℚ◌, ◌-ℚ◌, ◌*ℚ◌, neg_ℚ, ◌≤ℚ◌, ◌<ℚ◌, zero_ℚ}
use Rattle.fractions.specs.Whole.{whole_ℚ}
use Rattle.fractions.specs.Vectors.{at, plus, times}
use Rattle.fractions.proofs.Laws.{ring_laws, add-zero, zero-add, mul-zero, mul_assoc, mul_comm, neg-neg}
use Rattle.fractions.proofs.Common.{by_common₂, by_common₃, linear, zero_same}
use Rattle.fractions.proofs.Order.{le_antisymm, mul_nonneg, lt_irrefl, mul_pos}
use Rattle.fractions.proofs.Signs.{mul_nonpos, add_nonneg}
use Rattle.fractions.proofs.Whole.{whole-le, whole-lt, whole-zero}
use Rattle.optimality.specs.Problem.{Assignment, Relation, at_most, equal, at_least, Goal, greatest, least, reach}
use Rattle.optimality.specs.Groups.{held_at, AreDifferent}
use Rattle.optimality.specs.Optimal.{Stand, IsWhole, IsBetter, Unbounded, Beats, Permitted}
use Rattle.affine_forms.specs.Forms.{AffineForm, sum_at, negated}
use Rattle.affine_forms.specs.Assigned.{assigned}
use Rattle.linear_models.specs.Worths.{form_at}
use Rattle.linear_models.specs.Model.{Model, IsGroupOf, IsPoint, IsValid, RowHolds, maximised, objective_of, problem_of}
use Rattle.opt_certificate.specs.Certificate.{IsWayOut}
use Rattle.affine_forms.proofs.Worths.{negated_worth}
use Rattle.linear_programs.proofs.Vectors.{at-plus, at-times}
use Rattle.linear_models.proofs.Permits.{points_are_permitted}
use Rattle.opt_certificate.proofs.Multiples.{Multiple, multiple, some_multiple_above, whole_sum, whole_product, whole_number}

-- the point after a step t along d
abbrev pub stepped : Assignment → ℚ → Assignment → Assignment
stepped a t d = plus a (times t d)

pub at-stepped : (a : Assignment) (t : ℚ) (d : Assignment) (j : ℕ) → at (stepped a t d) j ≡ at a j +ℚ t *ℚ at d j
at-stepped a t d j = at-plus a (times t d) j ∙ ap (λ s. at a j +ℚ s) (at-times t d j)

length-stepped : (a : Assignment) (t : ℚ) (d : Assignment) → length d ≡ length a → length (stepped a t d) ≡ length a
length-stepped [] t [] e = refl
length-stepped [] t (y ∷ d) e = absurd (omega arith)
length-stepped (x ∷ a) t [] e = refl
length-stepped (x ∷ a) t (y ∷ d) e = ap suc (length-stepped a t d (omega arith))

grouped : (c x t y p q : ℚ) → c *ℚ (x +ℚ t *ℚ y) +ℚ (p +ℚ t *ℚ q) ≡ (c *ℚ x +ℚ p) +ℚ t *ℚ (c *ℚ y +ℚ q)
grouped c x t y p q = simp ring_laws

terms-stepped : (ts : List (ℕ × ℚ)) (a : Assignment) (t : ℚ) (d : Assignment) → sum_at (assigned (stepped a t d)) ts ≡ sum_at (assigned a) ts +ℚ t *ℚ sum_at (assigned d) ts
terms-stepped [] a t d = sym (ap (λ s. zero_ℚ +ℚ s) (mul-zero t) ∙ add-zero zero_ℚ)
terms-stepped (c ∷ ts) a t d = ap₂ (λ x y. c.1 *ℚ x +ℚ y) (at-stepped a t d c.0) (terms-stepped ts a t d) ∙ grouped c.1 (at a c.0) t (at d c.0) _ _

pub form-stepped : (f : AffineForm) (a : Assignment) (t : ℚ) (d : Assignment) → form_at f (stepped a t d) ≡ form_at f a +ℚ t *ℚ sum_at (assigned d) f.terms
form-stepped f a t d = ap (λ s. f.constant +ℚ s) (terms-stepped f.terms a t d) ∙ sym (Rattle.fractions.proofs.Laws.add_assoc _ _ _)

-- ---- signs
down_more : (x y : ℚ) → x ≤ℚ zero_ℚ → y ≤ℚ zero_ℚ → (x +ℚ y) ≤ℚ zero_ℚ
down_more = by_common₂ _ (λ p n q m d hd. simp (zero_same d hd, linear) (λ h i. omega arith))

stand_on : (r : Relation) (x t y : ℚ) → zero_ℚ ≤ℚ t → Stand r x zero_ℚ → Stand r y zero_ℚ → Stand r (x +ℚ t *ℚ y) zero_ℚ
stand_on at_most x t y p h i = down_more x (t *ℚ y) h (mul_nonpos t y p i)
stand_on equal x t y p h i = ap₂ (λ u v. u +ℚ t *ℚ v) h i ∙ ap (λ s. zero_ℚ +ℚ s) (mul-zero t) ∙ add-zero zero_ℚ
stand_on at_least x t y p h i = add_nonneg x (t *ℚ y) h (mul_nonneg t y p i)

up_more : (b x y : ℚ) → b ≤ℚ x → zero_ℚ ≤ℚ y → b ≤ℚ (x +ℚ y)
up_more = by_common₃ _ (λ p n q m r o d hd. simp (zero_same d hd, linear) (λ h i. omega arith))

no_more : (b x y : ℚ) → x ≤ℚ b → y ≤ℚ zero_ℚ → (x +ℚ y) ≤ℚ b
no_more = by_common₃ _ (λ p n q m r o d hd. simp (zero_same d hd, linear) (λ h i. omega arith))

natural_nonneg : (k : ℕ) → zero_ℚ ≤ℚ whole_ℚ (pos k)
natural_nonneg k = subst (λ t. t ≤ℚ whole_ℚ (pos k)) whole-zero ((whole-le (pos 0) (pos k)).1 (at_most_in (pos 0) (pos k) (omega (arith, ints))))

-- ---- decisions with two bounds stay where they are, so groups stay different
held_still : (m : Model) (a d : Assignment) (t : ℚ) (g : List ℕ) (i : ℕ) → IsGroupOf m g → IsWayOut m d → i < length g → held_at (stepped a t d) g i ≡ held_at a g i
held_still m a d t g i q o l =
    let low = q.least i l in
    let high = q.greatest i l in
    let z : at d (get_or g i 0) ≡ zero_ℚ = le_antisymm _ _ (o.greatest (get_or g i 0) high.0 high.1) (o.least (get_or g i 0) low.0 low.1) in
    at-stepped a t d (get_or g i 0) ∙ ap (λ s. at a (get_or g i 0) +ℚ t *ℚ s) z ∙ ap (λ s. at a (get_or g i 0) +ℚ s) (mul-zero t) ∙ add-zero _

still_different : (m : Model) (a d : Assignment) (t : ℚ) (gs : List (List ℕ)) → IsWayOut m d → AllByRecursion (IsGroupOf m) gs → AllByRecursion (AreDifferent a) gs → AllByRecursion (AreDifferent (stepped a t d)) gs
still_different m a d t [] o q h = tt
still_different m a d t (g ∷ gs) o q h = (
  record { apart = λ i k l n e. h.0.apart i k l n (sym (held_still m a d t g i q.0 o l) ∙ e ∙ held_still m a d t g k q.0 o n) },
  still_different m a d t gs o q.1 h.1,
)

-- a step of a whole multiple of a number that makes the direction whole leads to a point
pub stays_point : (m : Model) (a d : Assignment) (k n : ℕ) → ((j : ℕ) → IsWhole (whole_ℚ (pos n) *ℚ at d j)) → IsValid m → IsPoint m a → IsWayOut m d → IsPoint m (stepped a (whole_ℚ (pos k) *ℚ whole_ℚ (pos n)) d)
stays_point m a d k n w v p o =
    let t = whole_ℚ (pos k) *ℚ whole_ℚ (pos n) in
    let tn : zero_ℚ ≤ℚ t = mul_nonneg _ _ (natural_nonneg k) (natural_nonneg n) in
    record {
      one_each = length-stepped a t d (o.one_each ∙ sym p.one_each) ∙ p.one_each;
      rows = All-from_recursion _ m.rows (rows m.rows t tn (recursion_from_All _ m.rows p.rows) (recursion_from_All _ m.rows o.rows));
      whole = λ j e. subst IsWhole (sym (at-stepped a t d j ∙ ap (λ s. at a j +ℚ s) (mul_assoc _ _ _))) (whole_sum _ _ (p.whole j e) (whole_product _ _ (whole_number (pos k)) (w j)));
      bounds = record {
        least = λ j b e. subst (λ s. b ≤ℚ s) (sym (at-stepped a t d j)) (up_more b _ _ (p.bounds.least j b e) (mul_nonneg _ _ tn (o.least j b e)));
        greatest = λ j b e. subst (λ s. s ≤ℚ b) (sym (at-stepped a t d j)) (no_more b _ _ (p.bounds.greatest j b e) (mul_nonpos _ _ tn (o.greatest j b e)));
      };
      different = All-from_recursion (AreDifferent (stepped a t d)) m.groups (still_different m a d t m.groups o (recursion_from_All (IsGroupOf m) m.groups v.groups) (recursion_from_All (AreDifferent a) m.groups p.different));
    }
  where
    rows : (rs : List (AffineForm × Relation)) (t : ℚ) → zero_ℚ ≤ℚ t → AllByRecursion (RowHolds a) rs → AllByRecursion (λ (row : AffineForm × Relation). Stand row.1 (sum_at (assigned d) row.0.terms) zero_ℚ) rs → AllByRecursion (RowHolds (stepped a t d)) rs
    rows [] t q h i = tt
    rows (r ∷ rs) t q h i = (subst (λ s. Stand r.1 s zero_ℚ) (sym (form-stepped r.0 a t d)) (stand_on r.1 _ t _ q h.0 i.0), rows rs t q h.1 i.1)

-- ---- better than every number
passed : (x v w : ℚ) → x -ℚ v <ℚ w → x <ℚ v +ℚ w
passed = by_common₃ _ (λ p n q m r o d hd. simp linear (λ h. omega arith))

turned : (x y : ℚ) → neg_ℚ x <ℚ neg_ℚ y → y <ℚ x
turned = by_common₂ _ (λ p n q m d hd. simp linear (λ h. omega arith))

-- some step makes the form that is maximised greater than x
pub some_step : (f : AffineForm) (a d : Assignment) (n : ℕ) (x : ℚ) → 0 < n → zero_ℚ <ℚ sum_at (assigned d) f.terms → (k : ℕ) × (x <ℚ form_at f (stepped a (whole_ℚ (pos k) *ℚ whole_ℚ (pos n)) d))
some_step f a d n x p g =
    let np : zero_ℚ <ℚ whole_ℚ (pos n) = subst (λ t. t <ℚ whole_ℚ (pos n)) whole-zero ((whole-lt (pos 0) (pos n)).1 (omega (arith, ints))) in
    let s = some_multiple_above (x -ℚ form_at f a) (whole_ℚ (pos n) *ℚ sum_at (assigned d) f.terms) (mul_pos _ _ np g) in
    (s.0, subst (λ t. x <ℚ t) (sym (form-stepped f a _ d)) (passed x _ _ (subst (λ t. x -ℚ form_at f a <ℚ t) (sym (mul_assoc _ _ _)) s.1)))

pub way_out : (m : Model) (a d : Assignment) → IsValid m → IsPoint m a → IsWayOut m d → Unbounded (problem_of m)
way_out m a d v p o x =
    let w = multiple d in
    beats m.goal refl w
  where
    there : (w : Multiple d) (k : ℕ) → Permitted (problem_of m) (stepped a (whole_ℚ (pos k) *ℚ whole_ℚ (pos w.n)) d)
    there w k = (points_are_permitted m _).1 (stays_point m a d k w.n w.whole v p o)

    grows : (g : Goal) → m.goal ≡ g → zero_ℚ <ℚ sum_at (assigned d) (maximised g m.objective).terms
    grows g e = subst (λ (g : Goal). zero_ℚ <ℚ sum_at (assigned d) (maximised g m.objective).terms) e o.improves

    beats : (g : Goal) → m.goal ≡ g → Multiple d → Beats (problem_of m) x
    beats greatest e w =
        let s = some_step m.objective a d w.n x w.some (grows greatest e) in
        let b = stepped a (whole_ℚ (pos s.0) *ℚ whole_ℚ (pos w.n)) d in
        record { by = b; permitted = there w s.0; worth = form_at m.objective b; worth_is = ap (λ (g : Goal). objective_of g m.objective b) e; better = subst (λ (g : Goal). IsBetter g (form_at m.objective b) x) (sym e) s.1 }
    beats least e w =
        let s = some_step (negated m.objective) a d w.n (neg_ℚ x) w.some (grows least e) in
        let b = stepped a (whole_ℚ (pos s.0) *ℚ whole_ℚ (pos w.n)) d in
        record { by = b; permitted = there w s.0; worth = form_at m.objective b; worth_is = ap (λ (g : Goal). objective_of g m.objective b) e; better = subst (λ (g : Goal). IsBetter g (form_at m.objective b) x) (sym e) (turned x (form_at m.objective b) (subst (λ t. neg_ℚ x <ℚ t) (negated_worth (assigned b) m.objective) s.1)) }
    beats (reach r) e w = absurd (lt_irrefl zero_ℚ (grows (reach r) e))
