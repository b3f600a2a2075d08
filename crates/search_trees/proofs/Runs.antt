-- A run that is made anew comes to its end after as many pivots.
use Rattle.std.proofs.Common.{◌≡◌, ℕ, ◌<◌, sym, ap₂, ◌∙◌, subst, List, [], ◌∷◌, length, arith, inl, inr, ◌⊎◌}
use Rattle.linear_programs.specs.Program.{Program, IsRegular}
use Rattle.dictionaries.specs.Dictionary.{Dictionary, pivoted, first_of_program}
use Rattle.dictionaries.specs.Narrow.{IsNarrowPivot}
use Rattle.dictionaries.specs.Bland as bland
use Rattle.dictionaries.specs.Bland.{NextPivot, HasEnded, IsBestEnd, IsInfeasibleEnd, IsUnboundedEnd}
use Rattle.dictionaries.specs.Run.{Follow, last_of, Leads, IsOnTheWay}
use Rattle.dictionaries.proofs.Runs.{first_on_the_way, step_on_the_way}
use Rattle.dictionaries.proofs.Reaching.{reached_on_the_way}
use Rattle.dictionaries.proofs.Determined.{next_is_determined, not_both}
use Rattle.dictionaries.proofs.Solutions.{dictionary_once}
use Rattle.dictionaries.proofs.Ends.{end_is_final}
use Rattle.search_certificates.proofs.OneTree.{one_end}
use Rattle.search_trees.specs.Solved.{RunEnds}

follow_on : (p : Program) (d : Dictionary) (a b : List Dictionary) (r c : ℕ) → IsOnTheWay p d → Follow d a → Follow d b → HasEnded (last_of d b) → NextPivot (last_of d a) r c
    → (length a < length b) × IsNarrowPivot (last_of d a) r c
follow_on p d [] [] r c w f g h n = absurd (end_is_final p d r c w h n)
follow_on p d [] (y ∷ b) r c w f g h n =
    let q = next_is_determined p d g.0.row g.0.column r c w g.0.is_next n in
    (omega arith, subst (λ c. IsNarrowPivot d r c) q.1 (subst (λ r. IsNarrowPivot d r g.0.column) q.0 g.0.is_narrow))
follow_on p d (x ∷ a) [] r c w f g h n = absurd (end_is_final p d f.0.row f.0.column w h f.0.is_next)
follow_on p d (x ∷ a) (y ∷ b) r c w f g h n =
    let q = next_is_determined p d f.0.row f.0.column g.0.row g.0.column w f.0.is_next g.0.is_next in
    let e : x ≡ y = f.0.after ∙ ap₂ (pivoted d) q.0 q.1 ∙ sym g.0.after in
    let k = follow_on p x a b r c (step_on_the_way p d x w f.0) f.1 (subst (λ y. Follow y b) (sym e) g.1) (subst (λ y. HasEnded (last_of y b)) (sym e) h) n in
    let l = k.0 in
    (omega (arith, l), k.1)

pub ended : (d : Dictionary) → IsBestEnd d ⊎ IsInfeasibleEnd d → HasEnded d
ended d (inl b) = bland.best b
ended d (inr b) = bland.infeasible b

-- a pivot that is next is one of those to come, so it is narrow
pub still_to_come : (p : Program) (k n : ℕ) (d : Dictionary) (r c : ℕ) → IsRegular p → Leads k (first_of_program p) d → RunEnds p n → NextPivot d r c → (k < n) × IsNarrowPivot d r c
still_to_come p k n d r c g l (e, m, b) x =
    let h = follow_on p (first_of_program p) l.later m.later r c (first_on_the_way p g) l.follow m.follow (subst HasEnded (sym m.end) (ended e b)) (subst (λ d. NextPivot d r c) (sym l.end) x) in
    let y = h.0 in
    let u = l.count in
    let v = m.count in
    (omega (arith, y, u, v), subst (λ d. IsNarrowPivot d r c) l.end h.1)

pub not_unbounded : (p : Program) (k n c : ℕ) (d : Dictionary) → IsRegular p → Leads k (first_of_program p) d → RunEnds p n → IsUnboundedEnd d c → ⊥
not_unbounded p k n c d g l (e, m, b) u = by_end (subst (λ d. IsBestEnd d ⊎ IsInfeasibleEnd d) (sym same) b)
  where
    same : d ≡ e
    same = one_end p d e g (k, l) (bland.unbounded c u) (n, m) (ended e b)

    by_end : IsBestEnd d ⊎ IsInfeasibleEnd d → ⊥
    by_end (inl x) = x.optimal c u.enters.improves
    by_end (inr x) = not_both d (dictionary_once p d (reached_on_the_way p d g (k, l)).dictionary) x.phase u.phase.0
