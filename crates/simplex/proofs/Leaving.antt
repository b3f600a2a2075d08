-- One row more in the choice of the row of the next pivot, and what is chosen when all rows have been gone along.
use Rattle.std.proofs.Common.{◌≡◌, ℕ, ◌+◌, ◌<◌, ◌≤◌, sym, subst, ◌∙◌, below_more, get_or, length, arith}
use Rattle.fractions.specs.Rational.{ℚ, ◌≤ℚ◌, ◌<ℚ◌}
use Rattle.fractions.proofs.Order.{le_refl, le_of_lt, ne_of_lt}
use Rattle.dictionaries.specs.Dictionary.{Dictionary}
use Rattle.dictionaries.specs.Bland.{IsCandidate, IsNarrowRatio, IsUnbounded, IsPivotRow, leaves, too_wide, ratio_of}
use Rattle.simplex.specs.Choices.{BlockedOf, LeavesOf}
use Rattle.simplex.proofs.Ratios.{neither_less}
use Rattle.simplex.specs.Leaving.{IsSought}
use Rattle.simplex.specs.declared.leave.Sought.{Sought}
use Rattle.simplex.specs.declared.leave.Sought.TheVariants.{Free, Leaves, Blocked}

-- ---- a row whose ratio is not narrow
pub blocked_first : (d : Dictionary) (c n : ℕ) → IsCandidate d c n → ¬ (IsNarrowRatio d c n) → ((k : ℕ) → k < n → IsCandidate d c k → IsNarrowRatio d c k) → BlockedOf d c (n + 1) n
blocked_first d c n h w f = record {
  candidate = h;
  wide = w;
  least = below_more (λ k. IsCandidate d c k → ¬ (IsNarrowRatio d c k) → get_or d.basic n 0 ≤ get_or d.basic k 0) n (λ k l i m. absurd (m (f k l i))) (λ i m. omega arith);
}

pub blocked_less : (d : Dictionary) (c n b : ℕ) → BlockedOf d c n b → IsCandidate d c n → ¬ (IsNarrowRatio d c n) → get_or d.basic n 0 < get_or d.basic b 0 → BlockedOf d c (n + 1) n
blocked_less d c n b o h w l = record {
  candidate = h;
  wide = w;
  least = below_more (λ k. IsCandidate d c k → ¬ (IsNarrowRatio d c k) → get_or d.basic n 0 ≤ get_or d.basic k 0) n (λ k j i m. omega (arith, l, o.least k j i m)) (λ i m. omega arith);
}

pub blocked_stays : (d : Dictionary) (c n b : ℕ) → BlockedOf d c n b → (¬ (IsNarrowRatio d c n) → get_or d.basic b 0 ≤ get_or d.basic n 0) → BlockedOf d c (n + 1) b
blocked_stays d c n b o f = record {
  candidate = o.candidate;
  wide = o.wide;
  least = below_more (λ k. IsCandidate d c k → ¬ (IsNarrowRatio d c k) → get_or d.basic b 0 ≤ get_or d.basic k 0) n o.least (λ i m. f m);
}

-- ---- a row that is no candidate
pub blocked_skips : (d : Dictionary) (c n b : ℕ) → BlockedOf d c n b → (IsCandidate d c n → ⊥) → BlockedOf d c (n + 1) b
blocked_skips d c n b o f = record {
  candidate = o.candidate;
  wide = o.wide;
  least = below_more (λ k. IsCandidate d c k → ¬ (IsNarrowRatio d c k) → get_or d.basic b 0 ≤ get_or d.basic k 0) n o.least (λ i m. absurd (f i));
}

pub leaves_skips : (d : Dictionary) (c n b : ℕ) (ratio : ℚ) → LeavesOf d c n b ratio → (IsCandidate d c n → ⊥) → LeavesOf d c (n + 1) b ratio
leaves_skips d c n b ratio o f = record {
  candidate = o.candidate;
  value = o.value;
  least = below_more (λ k. IsCandidate d c k → ratio_of d c b ≤ℚ ratio_of d c k) n o.least (λ i. absurd (f i));
  ties = below_more (λ k. IsCandidate d c k → ratio_of d c k ≡ ratio_of d c b → get_or d.basic b 0 ≤ get_or d.basic k 0) n o.ties (λ i e. absurd (f i));
}

-- ---- a row with a narrow ratio that doesn't leave
pub leaves_stays : (d : Dictionary) (c n b : ℕ) (ratio : ℚ) → LeavesOf d c n b ratio → (IsCandidate d c n → ratio_of d c b ≤ℚ ratio_of d c n)
    → (ratio_of d c n ≡ ratio_of d c b → get_or d.basic b 0 ≤ get_or d.basic n 0) → LeavesOf d c (n + 1) b ratio
leaves_stays d c n b ratio o f g = record {
  candidate = o.candidate;
  value = o.value;
  least = below_more (λ k. IsCandidate d c k → ratio_of d c b ≤ℚ ratio_of d c k) n o.least f;
  ties = below_more (λ k. IsCandidate d c k → ratio_of d c k ≡ ratio_of d c b → get_or d.basic b 0 ≤ get_or d.basic k 0) n o.ties (λ i e. g e);
}

pub leaves_below : (d : Dictionary) (c n b : ℕ) (least own : ℚ) → LeavesOf d c n b least → own ≡ ratio_of d c n → least <ℚ own → LeavesOf d c (n + 1) b least
leaves_below d c n b least own o e l =
    let m : ratio_of d c b <ℚ ratio_of d c n = rw (sym e, sym o.value) l in
    leaves_stays d c n b least o (λ i. le_of_lt _ _ m) (λ q. absurd (ne_of_lt _ _ m (sym q)))

pub leaves_even : (d : Dictionary) (c n b : ℕ) (least own : ℚ) → LeavesOf d c n b least → own ≡ ratio_of d c n → ¬ (own <ℚ least) → ¬ (least <ℚ own)
    → get_or d.basic b 0 ≤ get_or d.basic n 0 → LeavesOf d c (n + 1) b least
leaves_even d c n b least own o e f g l =
    let m : ratio_of d c n ≡ ratio_of d c b = sym e ∙ neither_less own least f g ∙ o.value in
    leaves_stays d c n b least o (λ i. subst (λ t. ratio_of d c b ≤ℚ t) (sym m) (le_refl _)) (λ q. l)

-- the ratios so far are narrow, and so is one more
pub narrow_more : (d : Dictionary) (c n : ℕ) → ((k : ℕ) → k < n → IsCandidate d c k → IsNarrowRatio d c k) → IsNarrowRatio d c n → (k : ℕ) → k < n + 1 → IsCandidate d c k → IsNarrowRatio d c k
narrow_more d c n f h = below_more (λ k. IsCandidate d c k → IsNarrowRatio d c k) n f (λ i. h)

-- ---- one more row, whatever was found before
pub sought_skips : (d : Dictionary) (c n : ℕ) (s : Sought) → IsSought d c n s → (IsCandidate d c n → ⊥) → IsSought d c (n + 1) s
sought_skips d c n Free f g = below_more (λ k. IsCandidate d c k → ⊥) n f g
sought_skips d c n (Leaves r x) o g = (below_more (λ k. IsCandidate d c k → IsNarrowRatio d c k) n o.0 (λ i. absurd (g i)), leaves_skips d c n r x o.1 g)
sought_skips d c n (Blocked r) o g = blocked_skips d c n r o g

-- ---- all rows have been gone along
pub none_bounds : (d : Dictionary) (c : ℕ) → ((k : ℕ) → k < length d.basic → IsCandidate d c k → ⊥) → IsUnbounded d c
none_bounds d c f r h = f r h.row h

pub row_leaves : (d : Dictionary) (c b : ℕ) (ratio : ℚ) → ((k : ℕ) → k < length d.basic → IsCandidate d c k → IsNarrowRatio d c k) → LeavesOf d c (length d.basic) b ratio → IsPivotRow d c b
row_leaves d c b ratio f o =
    leaves (λ k h. f k h.row h) record {
      candidate = o.candidate;
      least = λ k h. o.least k h.row h;
      ties = λ k h e. o.ties k h.row h e;
    }

pub row_is_too_wide : (d : Dictionary) (c b : ℕ) → BlockedOf d c (length d.basic) b → IsPivotRow d c b
row_is_too_wide d c b o = too_wide record { candidate = o.candidate; wide = o.wide; least = λ k h w. o.least k h.row h w }
