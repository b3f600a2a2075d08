-- Answers of tests over sums, from the sums' own.
use Rattle.std.proofs.Common.{◌≡◌, ℕ, ◌<◌, ◌≤◌, Bool, true, false, not, refl, sym, ap, ap₂, ◌∙◌, List, [], ◌∷◌, length, Some, None, if◌then◌else◌, arith, subst, ◌⊎◌, inl, inr}
use Rattle.std.specs.Prelude.{All, IsTrue, ◌↔◌, Result, Ok, Err}
use Rattle.std.proofs.lemmas.Bool.{false≢true}
use Rattle.std.specs.Option.{option_and_then}
use Rattle.std.proofs.lemmas.List.{get_or_past}
use Rattle.std.proofs.lemmas.List.Elements.{All-head, All-tail}
use Rattle.fractions.specs.Rational.{ℚ, ◌+ℚ◌, ◌*ℚ◌, ◌≤ℚ◌, ◌<ℚ◌, zero_ℚ}
use Rattle.fractions.specs.Vectors.{at, times}
use Rattle.fractions.specs.Rows.{Row, combined, combined_bound}
use Rattle.fractions.proofs.Laws.{mul-zero, add-zero}
use Rattle.fractions.proofs.Order.{le_refl}
use Rattle.fractions.proofs.Tests.{lt_iff, le_or_lt}
use Rattle.frac128.specs.declared.fault.Wide.{Wide}
use Rattle.frac128.specs.Narrow.{is_narrow_sum, IsNarrowSum}
use Rattle.frac128.proofs.NarrowLaws.{narrow_sum_test}
use Rattle.calculations.specs.Calculation.{Calculation, done, after, sum, narrow}
use Rattle.calculations.proofs.CalculationLaws.{narrow-followed_by}
use Rattle.linear_programs.specs.Program.{Program, IsRegular}
use Rattle.linear_programs.proofs.Vectors.{at-plus, at-times}
use Rattle.opt_certificate.specs.Judged.{Judged}
use Rattle.opt_certificate.specs.Rows.{floor_of, ColumnsReach}
use Rattle.opt_certificate.specs.Sums.{column_sum, bound_sum, whole_bound, StaysNarrow}
use Rattle.opt_certificate.proofs.Totals.{column_is, bound_is}

-- the same test of an equivalent property, over the same sums
pub judged_as : {E P Q N M : Type 0} → (P → Q) → (Q → P) → (N → M) → (M → N) → (r : Result Bool E) → Judged P N r → Judged Q M r
judged_as f g h k (Ok true) j = (f j.0, h j.1)
judged_as f g h k (Ok false) j = λ q. j (g q)
judged_as f g h k (Err e) j = λ m. j (k m)

-- the answer of a test of the sums
pub judged_by : {P N Q : Type 0} → (b : Bool) → IsTrue b ↔ Q → (Q → P × N) → (¬ Q → ¬ P) → Judged {E = Wide} P N (Ok b)
judged_by true h f g = f (h.0 refl)
judged_by false h f g = g (λ q. false≢true (h.1 q))

pub judged_unless : {P N Q : Type 0} → (b : Bool) → IsTrue b ↔ Q → (¬ Q → P × N) → (Q → ¬ P) → Judged {E = Wide} P N (Ok (not b))
judged_unless true h f g = g (h.0 refl)
judged_unless false h f g = f (λ q. false≢true (h.1 q))

pub none_wide : (c : Calculation ℚ) → narrow c ≡ None → ¬ (StaysNarrow c)
none_wide c e s = never (sym e ∙ s.1)
  where
    never : None ≡ Some s.0 → ⊥
    never q = cc

not_below : (x y : ℚ) → ¬ (x <ℚ y) → y ≤ℚ x
not_below x y n = elim (le_or_lt y x) [ inl h ↦ h | inr h ↦ absurd (n h) ]

-- ---- columns
pub column_no : (j : ℕ) (ys : List ℚ) (rows : List Row) (s f : ℚ) → narrow (column_sum j ys rows) ≡ Some s → s <ℚ f → ¬ (f ≤ℚ at (combined ys rows) j)
column_no j ys rows s f e h k = (lt_iff s f).0 h (subst (λ t. f ≤ℚ t) (sym (column_is j ys rows s e)) k)

pub column_yes : (j : ℕ) (ys : List ℚ) (rows : List Row) (s f : ℚ) → narrow (column_sum j ys rows) ≡ Some s → ¬ (s <ℚ f) → (f ≤ℚ at (combined ys rows) j) × StaysNarrow (column_sum j ys rows)
column_yes j ys rows s f e n = (subst (λ t. f ≤ℚ t) (column_is j ys rows s e) (not_below s f n), (s, e))

-- past the last column a combination has nothing
combined_past : (n : ℕ) (ys : List ℚ) (rows : List Row) (j : ℕ) → All (λ r. length r.coefficients ≡ n) rows → n ≤ j → at (combined ys rows) j ≡ zero_ℚ
combined_past n [] rows j h l = refl
combined_past n (y ∷ ys) [] j h l = refl
combined_past n (y ∷ ys) (r ∷ rows) j h l =
    let e : length r.coefficients ≡ n = All-head (λ r. length r.coefficients ≡ n) r rows h in
    at-plus (times y r.coefficients) (combined ys rows) j
    ∙ ap₂ ◌+ℚ◌ (at-times y r.coefficients j ∙ ap (λ t. y *ℚ t) (get_or_past r.coefficients j zero_ℚ (omega (arith, e))) ∙ mul-zero y)
    (combined_past n ys rows j (All-tail (λ r. length r.coefficients ≡ n) r rows h) l) ∙ add-zero zero_ℚ

pub all_columns : (plain : Bool) (p : Program) (ys : List ℚ) → IsRegular p → ColumnsReach plain p ys → (j : ℕ) → floor_of plain p j ≤ℚ at (combined ys p.rows) j
all_columns plain p ys g h j = cases (halves j (length p.objective))
  where
    halves : (j n : ℕ) → (j < n) ⊎ (n ≤ j)
    halves j n = grind arith

    past : (plain : Bool) → length p.objective ≤ j → floor_of plain p j ≡ zero_ℚ
    past true l = refl
    past false l = get_or_past p.objective j zero_ℚ l

    cases : (j < length p.objective) ⊎ (length p.objective ≤ j) → floor_of plain p j ≤ℚ at (combined ys p.rows) j
    cases (inl l) = h j l
    cases (inr l) = subst (λ t. t ≤ℚ at (combined ys p.rows) j) (sym (past plain l)) (subst (λ t. zero_ℚ ≤ℚ t) (sym (combined_past (length p.objective) ys p.rows j g l)) (le_refl zero_ℚ))

-- ---- bounds
some_is : {x y : ℚ} → Some x ≡ Some y → x ≡ y
some_is e = cc

last_sum : (b k : ℚ) (t : Bool) → t ≡ is_narrow_sum b k → narrow (after (sum b k) done) ≡ (if t then Some (b +ℚ k) else None)
last_sum b k t e = ap (λ v. if v then Some (b +ℚ k) else None) (sym e)

whole_is : (ys : List ℚ) (p : Program) (b : ℚ) → narrow (bound_sum ys p.rows) ≡ Some b → narrow (whole_bound ys p) ≡ narrow (after (sum b p.constant) done)
whole_is ys p b e = narrow-followed_by (bound_sum ys p.rows) (λ b. after (sum b p.constant) done) ∙ ap (option_and_then (λ b. narrow (after (sum b p.constant) done))) e

pub whole_fits : (ys : List ℚ) (p : Program) (b s : ℚ) → narrow (bound_sum ys p.rows) ≡ Some b → s ≡ b +ℚ p.constant → IsNarrowSum b p.constant → narrow (whole_bound ys p) ≡ Some s
whole_fits ys p b s e f h =
    let t : true ≡ is_narrow_sum b p.constant = sym ((narrow_sum_test b p.constant).1 h) in
    whole_is ys p b e ∙ last_sum b p.constant true t ∙ ap Some (sym f)

pub whole_wide : (ys : List ℚ) (p : Program) (b : ℚ) → narrow (bound_sum ys p.rows) ≡ Some b → ¬ (IsNarrowSum b p.constant) → narrow (whole_bound ys p) ≡ None
whole_wide ys p b e n = whole_is ys p b e ∙ cases (is_narrow_sum b p.constant) refl
  where
    cases : (t : Bool) → t ≡ is_narrow_sum b p.constant → narrow (after (sum b p.constant) done) ≡ None
    cases true q = absurd (n ((narrow_sum_test b p.constant).0 (sym q)))
    cases false q = last_sum b p.constant false q

pub bound_wide : (ys : List ℚ) (p : Program) → narrow (bound_sum ys p.rows) ≡ None → narrow (whole_bound ys p) ≡ None
bound_wide ys p e = narrow-followed_by (bound_sum ys p.rows) (λ b. after (sum b p.constant) done) ∙ ap (option_and_then (λ b. narrow (after (sum b p.constant) done))) e

pub whole_no : (ys : List ℚ) (p : Program) (b s m : ℚ) → narrow (bound_sum ys p.rows) ≡ Some b → s ≡ b +ℚ p.constant → m <ℚ s → ¬ ((combined_bound ys p.rows +ℚ p.constant) ≤ℚ m)
whole_no ys p b s m e f h k = (lt_iff m s).0 h (subst (λ t. t ≤ℚ m) (sym (f ∙ ap (λ t. t +ℚ p.constant) (bound_is ys p.rows b e))) k)

pub whole_yes : (ys : List ℚ) (p : Program) (b s m : ℚ) → narrow (bound_sum ys p.rows) ≡ Some b → s ≡ b +ℚ p.constant → IsNarrowSum b p.constant → ¬ (m <ℚ s) → ((combined_bound ys p.rows +ℚ p.constant) ≤ℚ m) × StaysNarrow (whole_bound ys p)
whole_yes ys p b s m e f h n = (subst (λ t. t ≤ℚ m) (f ∙ ap (λ t. t +ℚ p.constant) (bound_is ys p.rows b e)) (not_below m s n), (s, whole_fits ys p b s e f h))

pub negative_yes : (ys : List ℚ) (p : Program) (b : ℚ) → narrow (bound_sum ys p.rows) ≡ Some b → b <ℚ zero_ℚ → (combined_bound ys p.rows <ℚ zero_ℚ) × StaysNarrow (bound_sum ys p.rows)
negative_yes ys p b e h = (subst (λ t. t <ℚ zero_ℚ) (bound_is ys p.rows b e) h, (b, e))

pub negative_no : (ys : List ℚ) (p : Program) (b : ℚ) → narrow (bound_sum ys p.rows) ≡ Some b → ¬ (b <ℚ zero_ℚ) → ¬ (combined_bound ys p.rows <ℚ zero_ℚ)
negative_no ys p b e n h = n (subst (λ t. t <ℚ zero_ℚ) (sym (bound_is ys p.rows b e)) h)
