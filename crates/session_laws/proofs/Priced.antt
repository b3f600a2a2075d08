-- With so many units the run of a model's program comes to one result.
use Rattle.std.proofs.Common.{◌≡◌, ◌<◌, ◌∙◌, ◌⊎◌, inl, inr, ℕ, refl, sym, ap, subst, arith}
use Rattle.std.specs.Prelude.{MatchResult, Result, Ok, Err, Vec, slice_index, ⊤}
use Rattle.std.specs.Global.{Global}
use Rattle.fractions.specs.Rational.{ℚ}
use Rattle.linear_programs.specs.Program.{Program}
use Rattle.linear_models.specs.Model.{Model, IsValid}
use Rattle.dictionaries.specs.Dictionary.{Dictionary, IsOnce}
use Rattle.dictionaries.specs.Bland.{NextPivot, HasEnded, IsBestEnd, IsInfeasibleEnd, IsUnboundedEnd}
use Rattle.dictionaries.specs.Bland as bland
use Rattle.dictionaries.specs.Run.{IsNext, IsOnTheWay}
use Rattle.dictionaries.proofs.Determined.{next_is_determined, not_both}
use Rattle.dictionaries.proofs.Ends.{end_is_final}
use Rattle.dictionaries.proofs.Reaching.{reached_on_the_way}
use Rattle.dictionaries.proofs.Solutions.{dictionary_once}
use Rattle.simplex.specs.Solved.{IsWidePivot}
use Rattle.model_prices.specs.Prices.{program_of, value_of_model}
use Rattle.model_prices.proofs.Prices.{is_regular}
use Rattle.sensitivity.specs.Answers.{EndsRun, IsAnswer, IsPriced, IsStop}
use Rattle.sensitivity.specs.Prices.{ArePrices}
use Rattle.sensitivity.specs.declared.answer.PriceAnswer.{PriceAnswer}
use Rattle.sensitivity.specs.declared.answer.PriceAnswer.TheVariants as found
use Rattle.sensitivity.specs.declared.row_prices.Price.{Price}
use Rattle.sensitivity.specs.declared.stop.PriceStop.{PriceStop}
use Rattle.sensitivity.specs.declared.stop.PriceStop.TheVariants as stop
use Rattle.session_laws.proofs.Runs.{IsStuck, ended_is_last, one_end, three, wide_is_last}

-- ---- results
-- memory hasn't run out
abbrev pub IsFound : Result PriceAnswer PriceStop → Type 0
IsFound (Err stop.Memory) = ⊥
IsFound _ = ⊤

-- results are equal, but that their lists have the same elements, wherever these lie in memory
abbrev pub SameResult : Result PriceAnswer PriceStop → Result PriceAnswer PriceStop → Type 0
SameResult (Ok (found.Best value prices)) (Ok (found.Best worth others)) = (value ≡ worth) × (prices.items ≡ others.items)
SameResult (Err (stop.WidePivot basis leaves enters)) (Err (stop.WidePivot given left entered)) = (basis.items ≡ given.items) × (leaves ≡ left) × (enters ≡ entered)
SameResult r s = r ≡ s

same_itself : (r : Result PriceAnswer PriceStop) → SameResult r r
same_itself (Ok (found.Best value prices)) = (refl, refl)
same_itself (Err (stop.WidePivot basis leaves enters)) = (refl, refl, refl)
same_itself r = refl

same_by : (r s t u : Result PriceAnswer PriceStop) → r ≡ t → s ≡ u → SameResult t u → SameResult r s
same_by r s t u e f h = subst (λ (x : Result PriceAnswer PriceStop). SameResult x s) (sym e) (subst (λ (x : Result PriceAnswer PriceStop). SameResult t x) (sym f) h)

both_are : (r s t : Result PriceAnswer PriceStop) → r ≡ t → s ≡ t → SameResult r s
both_are r s t e f = same_by r s t t e f (same_itself t)

module _ (m : Model) (d : Dictionary) where
  -- ---- what the last dictionary says
  -- the run has ended
  data Ended (r : Result PriceAnswer PriceStop) : Type 0 where
    best : (value : ℚ) (prices : Vec Price Global) → r ≡ Ok (found.Best value prices) → IsBestEnd d → value ≡ value_of_model m d → ArePrices m d (Ok prices.items) → Ended r
    wide_range : (place : ℕ) → r ≡ Err (stop.WideRange place) → IsBestEnd d → ArePrices m d (Err place) → Ended r
    infeasible : r ≡ Ok found.Infeasible → IsInfeasibleEnd d → Ended r
    unbounded : (c : ℕ) → r ≡ Ok found.Unbounded → IsUnboundedEnd d c → Ended r

  -- there is a next pivot, which isn't made
  data Stopped (left : ℕ) (r : Result PriceAnswer PriceStop) : Type 0 where
    wide : (basis : Vec ℕ Global) (leaves enters : ℕ) → r ≡ Err (stop.WidePivot basis leaves enters) → 0 < left → IsWidePivot d basis.items leaves enters → Stopped left r
    spent : (row column : ℕ) → r ≡ Err stop.Spent → left ≡ 0 → NextPivot d row column → Stopped left r

  data Comes (left : ℕ) (r : Result PriceAnswer PriceStop) : Type 0 where
    ended : Ended r → Comes left r
    stopped : Stopped left r → Comes left r

  comes : (left : ℕ) (r : Result PriceAnswer PriceStop) → IsFound r → MatchResult r (IsAnswer m d) (IsStop m d left) → Comes left r
  comes left (Ok (found.Best value prices)) f h = ended (best value prices refl h.0 h.1 h.2)
  comes left (Ok found.Infeasible) f h = ended (infeasible refl h)
  comes left (Ok found.Unbounded) f h = ended (unbounded h.0 refl h.1)
  comes left (Err (stop.WidePivot basis leaves enters)) f h = stopped (wide basis leaves enters refl h.0 h.1)
  comes left (Err stop.Spent) f h = stopped (spent h.1.0 h.1.1 refl h.0 h.1.2)
  comes left (Err (stop.WideRange place)) f h = ended (wide_range place refl h.0 h.1)
  comes left (Err stop.Memory) f h = absurd f

  has_ended : (r : Result PriceAnswer PriceStop) → Ended r → HasEnded d
  has_ended r (best value prices e end v p) = bland.best end
  has_ended r (wide_range place e end p) = bland.best end
  has_ended r (infeasible e end) = bland.infeasible end
  has_ended r (unbounded c e end) = bland.unbounded c end

  next_of : (left : ℕ) (r : Result PriceAnswer PriceStop) → Stopped left r → (row : ℕ) × (column : ℕ) × NextPivot d row column
  next_of left r (wide basis leaves enters e l w) = (w.row, w.column, w.is_next)
  next_of left r (spent row column e z n) = (row, column, n)

  module _ (p : Program) (w : IsOnTheWay p d) where
    once : IsOnce d
    once = dictionary_once p d w.dictionary

    -- no pivot is made there
    is_last : (left : ℕ) (r : Result PriceAnswer PriceStop) → Comes left r → 0 < left → (e : Dictionary) → IsNext d e → ⊥
    is_last left r (ended x) l e n = ended_is_last p d e w (has_ended r x) n
    is_last left r (stopped (wide basis leaves enters q k x)) l e n = wide_is_last p d e x.row x.column w x.is_next x.is_wide n
    is_last left r (stopped (spent row column q z x)) l e n = absurd (omega (arith, l, z))

    -- ---- the ends exclude each other
    not_infeasible : IsBestEnd d → IsInfeasibleEnd d → ⊥
    not_infeasible b i = not_both d once i.phase b.phase.0

    not_unbounded : (c : ℕ) → IsBestEnd d → IsUnboundedEnd d c → ⊥
    not_unbounded c b u = b.optimal c u.enters.improves

    one_place : (i j : ℕ) → ArePrices m d (Err i) → ArePrices m d (Err j) → i ≡ j
    one_place i j h k = by (three i j)
      where
        by : (i < j) ⊎ ((j < i) ⊎ (i ≡ j)) → i ≡ j
        by (inl l) = absurd (h.1 (k.2 i l))
        by (inr (inl l)) = absurd (k.1 (h.2 j l))
        by (inr (inr e)) = e

    same_ended : (r s : Result PriceAnswer PriceStop) → Ended r → Ended s → SameResult r s
    same_ended r s (best v xs e b h p) (best u ys f c k q) = same_by r s (Ok (found.Best v xs)) (Ok (found.Best u ys)) e f (h ∙ sym k, p.0 ∙ sym q.0)
    same_ended r s (best v xs e b h p) (wide_range j f c q) = absurd (q.1 (p.1 j q.0))
    same_ended r s (best v xs e b h p) (infeasible f c) = absurd (not_infeasible b c)
    same_ended r s (best v xs e b h p) (unbounded j f c) = absurd (not_unbounded j b c)
    same_ended r s (wide_range i e b p) (best u ys f c k q) = absurd (p.1 (q.1 i p.0))
    same_ended r s (wide_range i e b p) (wide_range j f c q) = both_are r s (Err (stop.WideRange j)) (e ∙ ap (λ (n : ℕ). Err (stop.WideRange n)) (one_place i j p q)) f
    same_ended r s (wide_range i e b p) (infeasible f c) = absurd (not_infeasible b c)
    same_ended r s (wide_range i e b p) (unbounded j f c) = absurd (not_unbounded j b c)
    same_ended r s (infeasible e b) (best u ys f c k q) = absurd (not_infeasible c b)
    same_ended r s (infeasible e b) (wide_range j f c q) = absurd (not_infeasible c b)
    same_ended r s (infeasible e b) (infeasible f c) = both_are r s (Ok found.Infeasible) e f
    same_ended r s (infeasible e b) (unbounded j f c) = absurd (not_both d once b.phase c.phase.0)
    same_ended r s (unbounded i e b) (best u ys f c k q) = absurd (not_unbounded i c b)
    same_ended r s (unbounded i e b) (wide_range j f c q) = absurd (not_unbounded i c b)
    same_ended r s (unbounded i e b) (infeasible f c) = absurd (not_both d once c.phase b.phase.0)
    same_ended r s (unbounded i e b) (unbounded j f c) = both_are r s (Ok found.Unbounded) e f

    same_stopped : (left : ℕ) (r s : Result PriceAnswer PriceStop) → Stopped left r → Stopped left s → SameResult r s
    same_stopped left r s (wide basis leaves enters e l x) (wide given out entered f k y) =
        let one = next_is_determined p d x.row x.column y.row y.column w x.is_next y.is_next in
        same_by r s (Err (stop.WidePivot basis leaves enters)) (Err (stop.WidePivot given out entered)) e f (
          x.basis ∙ sym y.basis,
          x.leaving ∙ (ap (slice_index d.basic) one.0 ∙ sym y.leaving),
          x.entering ∙ (ap (slice_index d.nonbasic) one.1 ∙ sym y.entering),
        )
    same_stopped left r s (wide basis leaves enters e l x) (spent row column f z y) = absurd (omega (arith, l, z))
    same_stopped left r s (spent row column e z x) (wide given out entered f k y) = absurd (omega (arith, k, z))
    same_stopped left r s (spent row column e z x) (spent i j f y n) = both_are r s (Err stop.Spent) e f

    not_stopped : (left : ℕ) (r s : Result PriceAnswer PriceStop) → Ended r → Stopped left s → ⊥
    not_stopped left r s h k = let n = next_of left s k in end_is_final p d n.0 n.1 w (has_ended r h) n.2

    same_end : (left : ℕ) (r s : Result PriceAnswer PriceStop) → Comes left r → Comes left s → SameResult r s
    same_end left r s (ended h) (ended k) = same_ended r s h k
    same_end left r s (ended h) (stopped k) = absurd (not_stopped left r s h k)
    same_end left r s (stopped h) (ended k) = absurd (not_stopped left s r k h)
    same_end left r s (stopped h) (stopped k) = same_stopped left r s h k

-- ---- all results
module _ (m : Model) (units : ℕ) (valid : IsValid m) where
  on_the_way : (left : ℕ) (r : Result PriceAnswer PriceStop) (h : EndsRun m units left r) → IsOnTheWay (program_of m) h.last
  on_the_way left r h = reached_on_the_way (program_of m) h.last (is_regular m valid) (h.pivots, h.run)

  stuck : (left : ℕ) (r : Result PriceAnswer PriceStop) → IsFound r → (h : EndsRun m units left r) → IsStuck (program_of m) units left h.last
  stuck left r f h = record {
    pivots = h.pivots;
    run = h.run;
    taken = h.taken;
    last = is_last m h.last (program_of m) (on_the_way left r h) left r (comes m h.last left r f h.end);
  }

  runs_once : (left rest : ℕ) (r s : Result PriceAnswer PriceStop) → IsFound r → IsFound s → EndsRun m units left r → EndsRun m units rest s → SameResult r s
  runs_once left rest r s f g h k =
      let one = one_end (program_of m) units left rest h.last k.last (is_regular m valid) (stuck left r f h) (stuck rest s g k) in
      let x : Comes m k.last rest r = subst (λ (e : Dictionary). Comes m e rest r) one.1 (subst (λ (n : ℕ). Comes m h.last n r) one.0 (comes m h.last left r f h.end)) in
      same_end m k.last (program_of m) (on_the_way rest s k) rest r s x (comes m k.last rest s g k.end)

pub priced_once : (m : Model) (units left rest : ℕ) (r s : Result PriceAnswer PriceStop) → IsValid m → IsFound r → IsFound s → IsPriced m units left r → IsPriced m units rest s → SameResult r s
priced_once m units left rest r s valid f g (inl h) (inl k) = both_are r s (Err stop.Spent) h.spent k.spent
priced_once m units left rest r s valid f g (inl h) (inr k) = absurd (omega (arith, h.none, k.taken))
priced_once m units left rest r s valid f g (inr h) (inl k) = absurd (omega (arith, k.none, h.taken))
priced_once m units left rest r s valid f g (inr h) (inr k) = runs_once m units valid left rest r s f g h k
