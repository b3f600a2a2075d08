-- What a dictionary keeps of a program, through each pivot.
use Rattle.std.proofs.Common.{◌≡◌, ℕ, suc, ◌+◌, ◌<◌, refl, sym, ap, ◌∙◌, List, [], length, map, arith}
use Rattle.std.proofs.lemmas.List.{length-map, length-set, length-replicate}
use Rattle.std.proofs.lemmas.List.FromFn.{length-range_with_len}
use Rattle.std.proofs.lemmas.List.Elements.{All-map, All-set, All-weaker, All-get_or}
use Rattle.fractions.specs.Rational.{ℚ, neg_ℚ, inv_ℚ, zero_ℚ, one_ℚ}
use Rattle.fractions.specs.Vectors.{at, times, without, only}
use Rattle.linear_programs.specs.Program.{Program, IsRegular}
use Rattle.dictionaries.specs.Dictionary.{Dictionary, row_of, Solves, IsShaped, IsPlace, first_row, first_of_program, solved_row, substituted, pivoted, IsDictionaryOf}
use Rattle.linear_programs.proofs.Vectors.{length-times, length-without, length-only, length-plus}
use Rattle.dictionaries.proofs.Pivots.{pivot_keeps_solutions, pivot_keeps_value}
use Rattle.dictionaries.proofs.Places.{pivot_keeps_places}

pub length-solved_row : (row : List ℚ) (k : ℕ) → k < length row → length (solved_row row k) ≡ length row
length-solved_row row k h =
    let e = length-times (neg_ℚ (inv_ℚ (at row k))) (without row k) ∙ length-without row k in
    length-plus _ (only k (inv_ℚ (at row k))) (omega (arith, e, length-only k (inv_ℚ (at row k)))) ∙ e

pub length-substituted : (row : List ℚ) (k : ℕ) (by : List ℚ) → length by ≡ length row → length (substituted row k by) ≡ length row
length-substituted row k by e =
    length-plus (without row k) (times (at row k) by) (omega (arith, length-without row k, length-times (at row k) by)) ∙ length-without row k

pub pivot_keeps_shape : (d : Dictionary) (r c : ℕ) → IsShaped d → IsPlace d r c → IsShaped (pivoted d r c)
pivot_keeps_shape d r c s p =
    let w : length (row_of d r) ≡ length d.nonbasic + 1 = All-get_or (λ row. length row ≡ length d.nonbasic + 1) d.rows r [] (omega (arith, s.rows, p.row)) s.widths in
    let by = solved_row (row_of d r) (suc c) in
    let e : length by ≡ length d.nonbasic + 1 = length-solved_row (row_of d r) (suc c) (omega (arith, w, p.column)) ∙ w in
    let n : length (pivoted d r c).nonbasic ≡ length d.nonbasic = length-set d.nonbasic c _ in
    record {
      rows = length-set _ r _ ∙ length-map d.rows _ ∙ s.rows ∙ sym (length-set d.basic r _);
      widths = All-set (λ row. length row ≡ length (pivoted d r c).nonbasic + 1) (map (λ row. substituted row (suc c) by) d.rows) r by (omega (arith, e, n))
          (All-map (λ row. length row ≡ length (pivoted d r c).nonbasic + 1) (λ row. substituted row (suc c) by) d.rows
          (All-weaker (λ row. length row ≡ length d.nonbasic + 1) (λ row. length (substituted row (suc c) by) ≡ length (pivoted d r c).nonbasic + 1) (λ row h. length-substituted row (suc c) by (omega (arith, e, h)) ∙ h ∙ ap (λ t. t + 1) (sym n)) d.rows s.widths));
      objective = length-substituted d.objective (suc c) by (omega (arith, e, s.objective)) ∙ s.objective ∙ ap (λ t. t + 1) (sym n);
      auxiliary = length-substituted d.auxiliary (suc c) by (omega (arith, e, s.auxiliary)) ∙ s.auxiliary ∙ ap (λ t. t + 1) (sym n);
    }

pub first_shaped : (p : Program) → IsRegular p → IsShaped (first_of_program p)
first_shaped p g =
    let n : length (first_of_program p).nonbasic ≡ suc (length p.objective) = length-range_with_len 0 (suc (length p.objective)) in
    record {
      rows = length-map p.rows first_row ∙ sym (length-range_with_len _ (length p.rows));
      widths = All-map (λ row. length row ≡ length (first_of_program p).nonbasic + 1) first_row p.rows (All-weaker (λ r. length r.coefficients ≡ length p.objective) (λ r. length (first_row r) ≡ length (first_of_program p).nonbasic + 1) (λ r h. omega (arith, n, h, length-times (neg_ℚ one_ℚ) r.coefficients)) p.rows g);
      objective = omega (arith, n);
      auxiliary = omega (arith, n, length-replicate (length p.objective) zero_ℚ);
    }

pub first_is_dictionary : (p : Program) → IsRegular p → IsDictionaryOf p (first_of_program p)
first_is_dictionary p g = record {
  shaped = first_shaped p g;
  height = length-range_with_len (suc (length p.objective)) (length p.rows);
  width = omega (arith, length-range_with_len 0 (suc (length p.objective)));
  places = λ v. refl;
  solutions = λ x. (λ h. h, λ h. h);
  objective = λ x h. refl;
  auxiliary = λ x h. refl;
}

pub pivot_keeps_dictionary : (p : Program) (d : Dictionary) (r c : ℕ) → IsDictionaryOf p d → IsPlace d r c → IsDictionaryOf p (pivoted d r c)
pivot_keeps_dictionary p d r c k l =
    let back : (x : ℕ → ℚ) → Solves (pivoted d r c) x → Solves d x = λ x h. (pivot_keeps_solutions d r c x k.shaped l).1 h in
    record {
      shaped = pivot_keeps_shape d r c k.shaped l;
      height = length-set d.basic r _ ∙ k.height;
      width = length-set d.nonbasic c _ ∙ k.width;
      places = λ v. pivot_keeps_places d r c v l ∙ k.places v;
      solutions = λ x. (λ h. (pivot_keeps_solutions d r c x k.shaped l).0 ((k.solutions x).0 h), λ h. (k.solutions x).1 (back x h));
      objective = λ x h. pivot_keeps_value d r c d.objective x k.shaped l h ∙ k.objective x (back x h);
      auxiliary = λ x h. pivot_keeps_value d r c d.auxiliary x k.shaped l h ∙ k.auxiliary x (back x h);
    }
