-- A way out of a box's standard program is a way out of the model.
use Rattle.std.proofs.Common.{◌≡◌, ℕ, zero, suc, ◌+◌, Bool, true, false, refl, sym, ap, ◌∙◌, subst, List, [], ◌∷◌, ◌++◌, map, length, Option, Some, None, arith, cond}
use Rattle.std.specs.Prelude.{flat_map}
use Rattle.std.specs.List.{AllByRecursion}
use Rattle.std.proofs.lemmas.List.{length-map}
use Rattle.std.proofs.lemmas.List.Elements.{All-from_recursion, recursion_from_All}
use Rattle.fractions.specs.Rational.{ℚ, ◌+ℚ◌, neg_ℚ, zero_ℚ, one_ℚ, ◌≤ℚ◌, ◌<ℚ◌, eq_ℚ}
use Rattle.fractions.specs.Vectors.{dot, at}
use Rattle.fractions.specs.Rows.{Meets}
use Rattle.fractions.proofs.Common.{by_common₂, linear, zero_same}
use Rattle.fractions.proofs.Order.{eq_iff, le_refl, lt_irrefl}
use Rattle.fractions.proofs.Tests.{le_iff}
use Rattle.fractions.proofs.Laws.{neg-zero, zero-add, one-mul, neg-mul}
use Rattle.optimality.specs.Problem.{Assignment, Relation, at_most, equal, at_least}
use Rattle.optimality.specs.Optimal.{Stand}
use Rattle.affine_forms.specs.Forms.{AffineForm, IsForm, sum_at, negated_terms}
use Rattle.affine_forms.specs.Assigned.{assigned}
use Rattle.linear_programs.specs.Program.{cell_numbers, Lowers}
use Rattle.linear_programs.specs.Program as programs
use Rattle.linear_models.specs.Worths.{form_at}
use Rattle.linear_models.specs.Box.{Box, bound_at}
use Rattle.linear_models.specs.Model.{Model, IsValid, maximised}
use Rattle.linear_models.specs.Standard.{standard, splits_of, wanted, is_split, limits, limits_of_row, limits_of_least, limits_of_greatest, limits_of_bounds, program_row}
use Rattle.linear_models.specs.Laws.{IsBoxOf}
use Rattle.linear_models.proofs.Forms.{joined, dot-spread_terms, length-joined}
use Rattle.linear_models.proofs.Rows.{AtMostZero, AreColumns, rows_are, row_limits}
use Rattle.linear_models.proofs.Regular.{all_forms, wanted_is}
use Rattle.linear_models.proofs.Columns.{signs_joined, split_at}
use Rattle.linear_models.proofs.Points.{cells_are}
use Rattle.opt_certificate.specs.Checks.{without_constant}
use Rattle.opt_certificate.specs.Certificate.{IsWayOut}
use Rattle.searches.proofs.Boxes.{StaysBounded}

-- ---- the rows as forms without their constants
forms_without : (fs : List AffineForm) → AllByRecursion IsForm fs → AllByRecursion IsForm (map without_constant fs)
forms_without [] h = tt
forms_without (f ∷ fs) h = (record { rise = h.0.rise }, forms_without fs h.1)

meets_without : (splits : List Bool) (fs : List AffineForm) (d : List ℚ) → AllByRecursion (λ r. dot r.coefficients d ≤ℚ zero_ℚ) (map (program_row splits) fs)
    → Meets (map (program_row splits) (map without_constant fs)) d
meets_without splits [] d h = tt
meets_without splits (f ∷ fs) d h = (subst (λ t. dot (program_row splits f).coefficients d ≤ℚ t) (sym neg-zero) h.0, meets_without splits fs d h.1)

both_parts : (a : Assignment) (fs gs : List AffineForm) → AtMostZero a (map without_constant (fs ++ gs)) → AtMostZero a (map without_constant fs) × AtMostZero a (map without_constant gs)
both_parts a [] gs h = (tt, h)
both_parts a (f ∷ fs) gs h = let b = both_parts a fs gs h.1 in ((h.0, b.0), b.1)

row_turned : (a : Assignment) (f : AffineForm) (r : Relation) → AtMostZero a (map without_constant (limits_of_row (f, r))) → AtMostZero a (limits_of_row (without_constant f, r))
row_turned a f at_most h = h
row_turned a f at_least h = (subst (λ c. (c +ℚ sum_at (assigned a) (negated_terms f.terms)) ≤ℚ zero_ℚ) (sym neg-zero) h.0, tt)
row_turned a f equal h = (h.0, (subst (λ c. (c +ℚ sum_at (assigned a) (negated_terms f.terms)) ≤ℚ zero_ℚ) (sym neg-zero) h.1.0, tt))

row_stands : (a : Assignment) (f : AffineForm) (r : Relation) → AtMostZero a (map without_constant (limits_of_row (f, r))) → Stand r (sum_at (assigned a) f.terms) zero_ℚ
row_stands a f r h = subst (λ t. Stand r t zero_ℚ) (zero-add _) ((row_limits a (without_constant f) r).0 (row_turned a f r h))

rows_stand : (a : Assignment) (rows : List (AffineForm × Relation)) → AtMostZero a (map without_constant (flat_map limits_of_row rows))
    → AllByRecursion (λ (row : AffineForm × Relation). Stand row.1 (sum_at (assigned a) row.0.terms) zero_ℚ) rows
rows_stand a [] h = tt
rows_stand a (r ∷ rows) h = let b = both_parts a (limits_of_row r) (flat_map limits_of_row rows) h in (row_stands a r.0 r.1 b.0, rows_stand a rows b.1)

-- ---- bounds
least_sign : (j : ℕ) (a : Assignment) → form_at record { constant = zero_ℚ; terms = (j, neg_ℚ one_ℚ) ∷ [] } a ≤ℚ zero_ℚ → zero_ℚ ≤ℚ at a j
least_sign j a h = turned (at a j) (subst (λ t. (zero_ℚ +ℚ (t +ℚ zero_ℚ)) ≤ℚ zero_ℚ) (neg-mul one_ℚ (at a j) ∙ ap neg_ℚ (one-mul (at a j))) h)
  where
    turned_by : (b x : ℚ) → (b +ℚ (neg_ℚ x +ℚ zero_ℚ)) ≤ℚ zero_ℚ → b ≤ℚ x
    turned_by = by_common₂ _ (λ p n q m d hd. simp (zero_same d hd, linear) (λ h. omega arith))

    turned : (x : ℚ) → (zero_ℚ +ℚ (neg_ℚ x +ℚ zero_ℚ)) ≤ℚ zero_ℚ → zero_ℚ ≤ℚ x
    turned x h = turned_by zero_ℚ x h

greatest_sign : (j : ℕ) (a : Assignment) → form_at record { constant = zero_ℚ; terms = (j, one_ℚ) ∷ [] } a ≤ℚ zero_ℚ → at a j ≤ℚ zero_ℚ
greatest_sign j a h = turned (at a j) (subst (λ t. (zero_ℚ +ℚ (t +ℚ zero_ℚ)) ≤ℚ zero_ℚ) (one-mul (at a j)) h)
  where
    turned : (x : ℚ) → (zero_ℚ +ℚ (x +ℚ zero_ℚ)) ≤ℚ zero_ℚ → x ≤ℚ zero_ℚ
    turned x h = subst (λ t. t ≤ℚ zero_ℚ) (zero-add _ ∙ Rattle.fractions.proofs.Laws.add-zero x) h

least_there : (j : ℕ) (l : Option ℚ) (a : Assignment) → (is_split l ≡ false → zero_ℚ ≤ℚ at a j) → AtMostZero a (map without_constant (limits_of_least j l)) → (b : ℚ) → l ≡ Some b → zero_ℚ ≤ℚ at a j
least_there j None a s h b e = cc
least_there j (Some c) a s h b e = cases (eq_ℚ c zero_ℚ) refl h
  where
    one_column : eq_ℚ c zero_ℚ ≡ true → is_split (Some c) ≡ false
    one_column q =
        let z : c ≡ zero_ℚ = (eq_iff c zero_ℚ).0 q in ap Rattle.std.proofs.Common.not ((le_iff zero_ℚ c).1 (subst (λ t. zero_ℚ ≤ℚ t) (sym z) (le_refl zero_ℚ)))

    cases : (v : Bool) → eq_ℚ c zero_ℚ ≡ v → AtMostZero a (map without_constant (cond v [] (record { constant = c; terms = (j, neg_ℚ one_ℚ) ∷ [] } ∷ []))) → zero_ℚ ≤ℚ at a j
    cases true q g = s (one_column q)
    cases false q g = least_sign j a g.0

greatest_there : (j : ℕ) (g : Option ℚ) (a : Assignment) → AtMostZero a (map without_constant (limits_of_greatest j g)) → (b : ℚ) → g ≡ Some b → at a j ≤ℚ zero_ℚ
greatest_there j None a h b e = cc
greatest_there j (Some c) a h b e = greatest_sign j a h.0

-- the signs of the bounded decisions from j on
record SignsHold (j : ℕ) (ls gs : List (Option ℚ)) (a : Assignment) : Type 0 where
  pub least : (i : ℕ) (b : ℚ) → bound_at ls i ≡ Some b → zero_ℚ ≤ℚ at a (j + i)
  pub greatest : (i : ℕ) (b : ℚ) → bound_at gs i ≡ Some b → at a (j + i) ≤ℚ zero_ℚ

next : (j i : ℕ) → suc j + i ≡ j + suc i
next j i = omega arith

here : (j : ℕ) → j ≡ j + 0
here j = omega arith

signs_there : (j : ℕ) (ls gs : List (Option ℚ)) (a : Assignment) → length gs ≡ length ls → AreColumns j ls a → AtMostZero a (map without_constant (limits_of_bounds j ls gs)) → SignsHold j ls gs a
signs_there j [] [] a e s h = record { least = λ i b q. cc; greatest = λ i b q. cc }
signs_there j [] (g ∷ gs) a e s h = absurd (omega arith)
signs_there j (l ∷ ls) [] a e s h = absurd (omega arith)
signs_there j (l ∷ ls) (g ∷ gs) a e s h =
    let first = both_parts a (limits_of_least j l) (limits_of_greatest j g ++ limits_of_bounds (suc j) ls gs) h in
    let others = both_parts a (limits_of_greatest j g) (limits_of_bounds (suc j) ls gs) first.1 in
    let more = signs_there (suc j) ls gs a (omega arith) (λ i q. subst (λ k. zero_ℚ ≤ℚ at a k) (sym (next j i)) (s (suc i) q)) others.1 in
    record { least = lows (λ q. subst (λ k. zero_ℚ ≤ℚ at a k) (sym (here j)) (s 0 q)) first.0 more; greatest = highs others.0 more }
  where
    lows : (is_split l ≡ false → zero_ℚ ≤ℚ at a j) → AtMostZero a (map without_constant (limits_of_least j l)) → SignsHold (suc j) ls gs a → (i : ℕ) (b : ℚ) → bound_at (l ∷ ls) i ≡ Some b → zero_ℚ ≤ℚ at a (j + i)
    lows s f m zero b q = subst (λ k. zero_ℚ ≤ℚ at a k) (here j) (least_there j l a s f b q)
    lows s f m (suc i) b q = subst (λ k. zero_ℚ ≤ℚ at a k) (next j i) (m.least i b q)

    highs : AtMostZero a (map without_constant (limits_of_greatest j g)) → SignsHold (suc j) ls gs a → (i : ℕ) (b : ℚ) → bound_at (g ∷ gs) i ≡ Some b → at a (j + i) ≤ℚ zero_ℚ
    highs f m zero b q = subst (λ k. at a k ≤ℚ zero_ℚ) (here j) (greatest_there j g a f b q)
    highs f m (suc i) b q = subst (λ k. at a k ≤ℚ zero_ℚ) (next j i) (m.greatest i b q)

-- ---- the way out
from_zero : (i : ℕ) → 0 + i ≡ i
from_zero i = omega arith

improves_wanted : (m : Model) (plain : Bool) (a : Assignment) → zero_ℚ <ℚ sum_at (assigned a) (wanted m plain).terms → zero_ℚ <ℚ sum_at (assigned a) (maximised m.goal m.objective).terms
improves_wanted m true a h = absurd (lt_irrefl zero_ℚ h)
improves_wanted m false a h = h

pub way_of_program : (m : Model) (box : Box) (plain : Bool) (d : List ℚ) → IsValid m → IsBoxOf m box → StaysBounded m.bounds box → programs.IsWayOut (standard m box plain) d
    → IsWayOut m (cell_numbers (standard m box plain) d)
way_of_program m box plain d v b k o = subst (IsWayOut m) (sym (cells_are m box plain d)) (of_joined (joined (splits_of box) d) refl)
  where
    of_joined : (a : Assignment) → joined (splits_of box) d ≡ a → IsWayOut m a
    of_joined a e =
        let all : AtMostZero a (map without_constant (limits m box)) =
        subst (λ x. AtMostZero x (map without_constant (limits m box))) e
        ((rows_are (splits_of box) (map without_constant (limits m box)) d (forms_without (limits m box) (all_forms m box v))).0
        (meets_without (splits_of box) (limits m box) d (recursion_from_All _ (map (program_row (splits_of box)) (limits m box)) o.rows))) in
        let parts = both_parts a (flat_map limits_of_row m.rows) (limits_of_bounds 0 box.least box.greatest) all in
        let signs = signs_there 0 box.least box.greatest a (b.greatest ∙ sym b.least) (λ i q. subst (λ k. zero_ℚ ≤ℚ at a k) (sym (from_zero i)) (subst (λ x. zero_ℚ ≤ℚ at x i) e (signs_joined (splits_of box) d o.signs i (split_at box.least i ∙ q)))) parts.1 in
        record {
          one_each = ap length (sym e) ∙ length-joined (splits_of box) d ∙ length-map box.least is_split ∙ b.least;
          rows = All-from_recursion _ m.rows (rows_stand a m.rows parts.0);
          least = λ i c q. let n = k.least i c q in subst (λ k. zero_ℚ ≤ℚ at a k) (from_zero i) (signs.least i n.0 n.1);
          greatest = λ i c q. let n = k.greatest i c q in subst (λ k. at a k ≤ℚ zero_ℚ) (from_zero i) (signs.greatest i n.0 n.1);
          improves = improves_wanted m plain a (subst (λ x. zero_ℚ <ℚ sum_at (assigned x) (wanted m plain).terms) e (subst (λ t. zero_ℚ <ℚ t) (dot-spread_terms (splits_of box) (wanted m plain).terms d (wanted_is m plain v).rise) o.improves));
        }
