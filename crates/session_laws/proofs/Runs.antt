-- Where the run of a program can't go on, it has come to its last dictionary, and there is one.
use Rattle.std.proofs.Common.{◌≡◌, ◌<◌, ◌+◌, ◌⊎◌, inl, inr, ℕ, zero, suc, List, [], ◌∷◌, length, sym, ap, subst, arith}
use Rattle.linear_programs.specs.Program.{Program, IsRegular}
use Rattle.dictionaries.specs.Dictionary.{Dictionary, first_of_program}
use Rattle.dictionaries.specs.Bland.{NextPivot, HasEnded}
use Rattle.dictionaries.specs.Narrow.{IsNarrowPivot}
use Rattle.dictionaries.specs.Run.{Follow, IsNext, IsOnTheWay, Leads}
use Rattle.dictionaries.proofs.Determined.{next_is_determined}
use Rattle.dictionaries.proofs.Ends.{end_is_final}
use Rattle.dictionaries.proofs.Reaching.{leads_nowhere, run_is_determined}

-- ---- where no pivot is made
pub ended_is_last : (p : Program) (d e : Dictionary) → IsOnTheWay p d → HasEnded d → IsNext d e → ⊥
ended_is_last p d e w h n = end_is_final p d n.row n.column w h n.is_next

pub wide_is_last : (p : Program) (d e : Dictionary) (r c : ℕ) → IsOnTheWay p d → NextPivot d r c → ¬ (IsNarrowPivot d r c) → IsNext d e → ⊥
wide_is_last p d e r c w n wide m =
    let one = next_is_determined p d r c m.row m.column w n m.is_next in
    wide (subst (λ (l : ℕ). IsNarrowPivot d r l) (sym one.1) (subst (λ (l : ℕ). IsNarrowPivot d l m.column) (sym one.0) m.is_narrow))

-- ---- pivots one after the other
-- after so many pivots there is a next one
record HasNext (k : ℕ) (d : Dictionary) : Type 0 where
  here : Dictionary
  leads : Leads k d here
  after : Dictionary
  next : IsNext here after

one_before : (d e f : Dictionary) (k : ℕ) → IsNext d e → Leads k e f → Leads (suc k) d f
one_before d e f k n l = record { later = e ∷ l.later; follow = (n, l.follow); count = ap suc l.count; end = l.end }

next_after : (d : Dictionary) (k : ℕ) (later : List Dictionary) → Follow d later → k < length later → HasNext k d
next_after d k [] f l = absurd (omega (arith, l))
next_after d zero (e ∷ es) f l = record { here = d; leads = leads_nowhere d; after = e; next = f.0 }
next_after d (suc k) (e ∷ es) f l =
    let n = next_after e k es f.1 (omega (arith, l)) in
    record { here = n.here; leads = one_before d e n.here k f.0 n.leads; after = n.after; next = n.next }

-- ---- runs with so many units
-- one unit has opened the program, each further one that is taken has made a pivot, and with those that are left none is made
pub record IsStuck (p : Program) (units left : ℕ) (d : Dictionary) : Type 0 where
  pub pivots : ℕ
  pub run : Leads pivots (first_of_program p) d
  pub taken : pivots + 1 + left ≡ units
  pub last : 0 < left → (e : Dictionary) → IsNext d e → ⊥

no_more : (p : Program) (units left rest : ℕ) (d e : Dictionary) → IsRegular p → (h : IsStuck p units left d) → (k : IsStuck p units rest e) → h.pivots < k.pivots → ⊥
no_more p units left rest d e regular h k l =
    let n = next_after (first_of_program p) h.pivots k.run.later k.run.follow (omega (arith, l, k.run.count)) in
    let same : n.here ≡ d = run_is_determined p h.pivots n.here d regular n.leads h.run in
    h.last (omega (arith, l, h.taken, k.taken)) n.after (subst (λ (x : Dictionary). IsNext x n.after) same n.next)

pub three : (n k : ℕ) → (n < k) ⊎ ((k < n) ⊎ (n ≡ k))
three n k = grind arith

pub one_end : (p : Program) (units left rest : ℕ) (d e : Dictionary) → IsRegular p → IsStuck p units left d → IsStuck p units rest e → (left ≡ rest) × (d ≡ e)
one_end p units left rest d e regular h k = by (three h.pivots k.pivots)
  where
    by : (h.pivots < k.pivots) ⊎ ((k.pivots < h.pivots) ⊎ (h.pivots ≡ k.pivots)) → (left ≡ rest) × (d ≡ e)
    by (inl l) = absurd (no_more p units left rest d e regular h k l)
    by (inr (inl l)) = absurd (no_more p units rest left e d regular k h l)
    by (inr (inr q)) =
        (omega (arith, q, h.taken, k.taken), run_is_determined p k.pivots d e regular (subst (λ (n : ℕ). Leads n (first_of_program p) d) q h.run) k.run)
