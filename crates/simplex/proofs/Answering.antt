-- The answers that a last dictionary gives are true of the program.
use Rattle.std.proofs.Common.{◌≡◌, ℕ, suc, ◌+◌, sym, ap, ap₂, ◌∙◌, subst, List, length, map, arith}
use Rattle.std.specs.List.{range_with_len}
use Rattle.fractions.specs.Rational.{ℚ, neg_ℚ}
use Rattle.fractions.specs.Vectors.{at}
use Rattle.linear_programs.specs.Program.{Program, IsRegular, Bounds, IsContradictory, cell_numbers}
use Rattle.dictionaries.specs.Dictionary.{Dictionary}
use Rattle.dictionaries.specs.Reading.{basic_solution, point_of, change_along, multipliers, entry_of}
use Rattle.dictionaries.specs.Bland.{IsBestEnd, IsInfeasibleEnd, IsUnboundedEnd}
use Rattle.dictionaries.specs.Run.{IsOnTheWay, ProvesBest, ProvesUnbounded}
use Rattle.dictionaries.proofs.Ends.{ends_prove}
use Rattle.simplex.specs.Solved.{IsBest, IsInfeasibleAnswer, IsUnboundedAnswer}

pub multipliers_as : (p : Program) (columns : List ℕ) (row given : List ℚ) (n m : ℕ) (y : List ℚ)
    → y ≡ map (λ v. neg_ℚ (entry_of columns given v)) (range_with_len (n + 1) m) → given ≡ row → n ≡ length p.objective → m ≡ length p.rows → y ≡ multipliers p columns row
multipliers_as p columns row given n m y e g h k =
    let s : n + 1 ≡ suc (length p.objective) = omega arith in
    e ∙ ap (λ row. map (λ v. neg_ℚ (entry_of columns row v)) (range_with_len (n + 1) m)) g
    ∙ ap₂ (λ n m. map (λ v. neg_ℚ (entry_of columns row v)) (range_with_len n m)) s k

pub best_is : (p : Program) (d : Dictionary) (v y given : List ℚ) (value : ℚ) → IsRegular p → IsOnTheWay p d → IsBestEnd d
    → given ≡ d.objective → v ≡ cell_numbers p (point_of p (basic_solution d)) → value ≡ at d.objective 0
    → y ≡ multipliers p d.nonbasic given → IsBest p d v value y
best_is p d v y given value g w t hg hv hz hy =
    let e : ProvesBest p d = ends_prove.best p d g w t in
    let b = hy ∙ ap (multipliers p d.nonbasic) hg in
    record {
      end = t;
      the_point = hv;
      the_multipliers = b;
      is_point = (point_of p (basic_solution d), e.is_point, hv);
      the_value = e.value ∙ sym hz;
      bounds = subst (Bounds p y) (sym hz) (subst (λ y. Bounds p y (at d.objective 0)) (sym b) e.bounds);
    }

pub infeasible_is : (p : Program) (d : Dictionary) (y given : List ℚ) → IsRegular p → IsOnTheWay p d → IsInfeasibleEnd d
    → given ≡ d.auxiliary → y ≡ multipliers p d.nonbasic given → IsInfeasibleAnswer p d y
infeasible_is p d y given g w t hg hy =
    let b = hy ∙ ap (multipliers p d.nonbasic) hg in
    record { end = t; the_multipliers = b; contradictory = subst (IsContradictory p) (sym b) (ends_prove.infeasible p d g w t) }

pub unbounded_is : (p : Program) (d : Dictionary) (c : ℕ) (v way : List ℚ) → IsRegular p → IsOnTheWay p d → IsUnboundedEnd d c
    → v ≡ cell_numbers p (point_of p (basic_solution d)) → way ≡ cell_numbers p (point_of p (change_along d c)) → IsUnboundedAnswer p d v way
unbounded_is p d c v way g w t hv hw =
    let e : ProvesUnbounded p d c = ends_prove.unbounded p d c g w t in
    record { end = (c, t, hw); the_point = hv; is_point = (point_of p (basic_solution d), e.is_point, hv); is_way = (point_of p (change_along d c), e.is_way_out, hw) }
