-- Dictionaries that a run comes to: one more pivot, and what holds of them.
use Rattle.std.proofs.Common.{◌≡◌, ℕ, suc, refl, sym, ap, ap₂, ◌∙◌, subst, List, [], ◌∷◌, ◌++◌, length, inl, inr, arith}
use Rattle.std.specs.Prelude.{AllPairs}
use Rattle.fractions.specs.Rational.{◌<ℚ◌, zero_ℚ}
use Rattle.fractions.specs.Vectors.{at}
use Rattle.fractions.proofs.Tests.{le_or_lt}
use Rattle.fractions.proofs.Order.{lt_irrefl, lt_of_le_of_lt}
use Rattle.linear_programs.specs.Program.{Program, IsRegular}
use Rattle.dictionaries.specs.Dictionary.{Dictionary, pivoted, first_of_program, IsBasic, SameBasis}
use Rattle.dictionaries.specs.Narrow.{IsNarrowPivot}
use Rattle.dictionaries.specs.Bland.{NextPivot}
use Rattle.dictionaries.specs.Run.{IsNext, Follow, last_of, Leads, IsReached, IsOnTheWay, RunIsDetermined}
use Rattle.dictionaries.proofs.PhaseOne.{auxiliary_zero}
use Rattle.dictionaries.proofs.Runs.{one_feasible, step_on_the_way, first_on_the_way, last_on_the_way}
use Rattle.dictionaries.proofs.Determined.{next_is_determined}
use Rattle.dictionaries.proofs.Retiring.{never_retires}
use Rattle.dictionaries.proofs.Unrepeated.{never_returns}

pub leads_nowhere : (d : Dictionary) → Leads 0 d d
leads_nowhere d = record { later = []; follow = tt; count = refl; end = refl }

-- ---- one more
follow_more : (d : Dictionary) (later : List Dictionary) (e : Dictionary) → Follow d later → IsNext (last_of d later) e → Follow d (later ++ e ∷ [])
follow_more d [] e f n = (n, tt)
follow_more d (g ∷ gs) e f n = (f.0, follow_more g gs e f.1 n)

last_more : (d : Dictionary) (later : List Dictionary) (e : Dictionary) → last_of d (later ++ e ∷ []) ≡ e
last_more d [] e = refl
last_more d (g ∷ gs) e = last_more g gs e

length_more : (later : List Dictionary) (e : Dictionary) → length (later ++ e ∷ []) ≡ suc (length later)
length_more [] e = refl
length_more (g ∷ gs) e = ap suc (length_more gs e)

pub leads_further : (k : ℕ) (d e f : Dictionary) (r c : ℕ) → Leads k d e → NextPivot e r c → IsNarrowPivot e r c → f ≡ pivoted e r c → Leads (suc k) d f
leads_further k d e f r c l n m q = record {
  later = l.later ++ f ∷ [];
  follow = follow_more d l.later f l.follow (subst (λ e. IsNext e f) (sym l.end) record { row = r; column = c; is_next = n; is_narrow = m; after = q });
  count = length_more l.later f ∙ ap suc l.count;
  end = last_more d l.later f;
}

pub reached_first : (p : Program) → IsReached p (first_of_program p)
reached_first p = (0, leads_nowhere (first_of_program p))

pub reached_further : (p : Program) (e f : Dictionary) (r c : ℕ) → IsReached p e → NextPivot e r c → IsNarrowPivot e r c → f ≡ pivoted e r c → IsReached p f
reached_further p e f r c w n m q = (suc w.0, leads_further w.0 (first_of_program p) e f r c w.1 n m q)

-- ---- what holds of them
pub reached_on_the_way : (p : Program) (d : Dictionary) → IsRegular p → IsReached p d → IsOnTheWay p d
reached_on_the_way p d g w = subst (IsOnTheWay p) w.1.end (last_on_the_way p (first_of_program p) w.1.later (first_on_the_way p g) w.1.follow)

pub first_unrepeated : (p : Program) (later : List Dictionary) → IsRegular p → Follow (first_of_program p) later → AllPairs (λ d e. ¬ (SameBasis d e)) (first_of_program p ∷ later)
first_unrepeated p later g f = never_returns p (first_of_program p) later (first_on_the_way p g) f

-- while variable 0 is basic, the auxiliary objective is below 0
pub reached_below : (p : Program) (d : Dictionary) → IsRegular p → IsReached p d → IsBasic d 0 → at d.auxiliary 0 <ℚ zero_ℚ
reached_below p d g w b = elim (le_or_lt zero_ℚ (at d.auxiliary 0)) [
  | inl h ↦ absurd (never_retires p w.1.later g w.1.follow (subst (λ d. IsBasic d 0) (sym w.1.end) b)
      (subst (λ (d : Dictionary). at d.auxiliary 0 ≡ zero_ℚ) (sym w.1.end) (auxiliary_zero p d b.0 o.dictionary (one_feasible p d o b) b.1 b.2 (λ n. lt_irrefl zero_ℚ (lt_of_le_of_lt _ _ _ h n)))))
  | inr h ↦ h
]
  where
    o : IsOnTheWay p d
    o = reached_on_the_way p d g w

-- ---- one run of each length
follow_one : (p : Program) (d : Dictionary) (a b : List Dictionary) → IsOnTheWay p d → Follow d a → Follow d b → length a ≡ length b → a ≡ b
follow_one p d [] [] w f g h = refl
follow_one p d [] (y ∷ b) w f g h = absurd (omega arith)
follow_one p d (x ∷ a) [] w f g h = absurd (omega arith)
follow_one p d (x ∷ a) (y ∷ b) w f g h =
    let q = next_is_determined p d f.0.row f.0.column g.0.row g.0.column w f.0.is_next g.0.is_next in
    let e : x ≡ y = f.0.after ∙ ap₂ (pivoted d) q.0 q.1 ∙ sym g.0.after in
    ap₂ ◌∷◌ e (follow_one p x a b (step_on_the_way p d x w f.0) f.1 (subst (λ y. Follow y b) (sym e) g.1) (omega arith))

pub run_is_determined : RunIsDetermined
run_is_determined p k d e g l m =
    sym l.end ∙ ap (last_of (first_of_program p)) (follow_one p (first_of_program p) l.later m.later (first_on_the_way p g) l.follow m.follow (l.count ∙ sym m.count)) ∙ m.end
