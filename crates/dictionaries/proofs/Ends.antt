-- The ends of a run: they have leaf proofs, and no next pivot.
use Rattle.std.proofs.Common.{ℕ, subst}
use Rattle.fractions.proofs.Order.{ne_of_lt}
use Rattle.dictionaries.specs.Dictionary.{Dictionary, IsOnce}
use Rattle.dictionaries.specs.Bland.{NextPivot, begins, goes_on, retires, IsBlandPivot, IsCandidate, one, two, IsInPhase, IsInfeasibleEnd, best, infeasible, unbounded}
use Rattle.dictionaries.specs.Run.{EndsProve, EndIsFinal}
use Rattle.dictionaries.proofs.Solutions.{dictionary_once}
use Rattle.dictionaries.proofs.Determined.{not_both, not_negative, one_entering}
use Rattle.dictionaries.proofs.Runs.{candidate_of}
use Rattle.dictionaries.proofs.Points.{point_is, value_is}
use Rattle.dictionaries.proofs.Leaves.{best_bounds, infeasible_contradicts}
use Rattle.dictionaries.proofs.Directions.{way_out}

pub ends_prove : EndsProve
ends_prove = record {
  best = λ p d g w b. record { is_point = point_is p d w.dictionary b.phase.1 b.phase.0; value = value_is p d w.dictionary; bounds = best_bounds p d g w.dictionary b.optimal };
  infeasible = λ p d g w b. infeasible_contradicts p d g w.dictionary b.optimal b.below;
  unbounded = λ p d c g w b. record { is_point = point_is p d w.dictionary b.phase.1 b.phase.0; is_way_out = way_out p d c w.dictionary b.phase.0 b.enters.improves b.unbounded };
}

final_two : (d : Dictionary) (r c : ℕ) → IsOnce d → IsInPhase two d → NextPivot d r c → (IsBlandPivot d d.objective r c → ⊥) → ⊥
final_two d r c o i (begins b) f = not_negative d r i.1 b.row b.negative
final_two d r c o i (goes_on one j b) f = not_both d o j i.0
final_two d r c o i (goes_on two j b) f = f b
final_two d r c o i (retires j x z b) f = not_both d o j i.0

final_one : (d : Dictionary) (r c : ℕ) → IsOnce d → IsInfeasibleEnd d → NextPivot d r c → ⊥
final_one d r c o i (begins b) = not_both d o i.phase (c, b.column, b.extra)
final_one d r c o i (goes_on one j b) = i.optimal c b.enters.improves
final_one d r c o i (goes_on two j b) = not_both d o i.phase j.0
final_one d r c o i (retires j x z b) = ne_of_lt _ _ i.below z

pub end_is_final : EndIsFinal
end_is_final p d r c w (best b) n = final_two d r c (dictionary_once p d w.dictionary) b.phase n (λ m. b.optimal c m.enters.improves)
end_is_final p d r c w (infeasible b) n = final_one d r c (dictionary_once p d w.dictionary) b n
end_is_final p d r c w (unbounded e b) n =
    final_two d r c (dictionary_once p d w.dictionary) b.phase n
    (λ m. b.unbounded r (subst (λ c. IsCandidate d c r) (one_entering d d.objective c e (dictionary_once p d w.dictionary) m.enters b.enters) (candidate_of d c r m.pivot_row)))
