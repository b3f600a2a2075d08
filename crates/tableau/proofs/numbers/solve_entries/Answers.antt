use Rattle.std.proofs.Common.{◌≡◌, ◌≢◌, ◌<◌, ◌∙◌, ℕ, suc, sym, subst, length, arith, get_or, set}
use Rattle.std.proofs.lemmas.List.{get_or_default}
use Rattle.fractions.specs.Rational.{ℚ, zero_ℚ}
use Rattle.tableau.specs.Entries.{pair_at}
use Rattle.tableau.proofs.Made.{put_other, put_size}
use Rattle.tableau.proofs.Putting.{IsPutSoFar, put_next}
use Rattle.tableau.proofs.Solving.{IsSolvedAt, IsNone, all_solved}
use Rattle.tableau.proofs.numbers.solve_entries.Goals as goal

pub loop-i-preserved : goal.loop-i-preserved
loop-i-preserved c =
    let kept = c.kept-kept.result.now in
    let i = c.loop-i.i in
    let h : i < length kept = omega arith in
    let each = c.kept-kept.ensures.each i h in
    let first : pair_at kept i ≡ get_or kept i c.index-kept-i.result = get_or_default kept i (0, zero_ℚ) c.index-kept-i.result h in
    let made : c.put.new.self ≡ set c.loop-i.into (suc (pair_at kept i).0) c.in_ok-solved.solved =
    subst (λ (p : ℕ × ℚ). c.put.new.self ≡ set c.loop-i.into (suc p.0) c.in_ok-solved.solved) (sym first) c.put.ensures in
    let elsewhere : 0 ≢ suc (pair_at kept i).0 = omega arith in
    record {
      size = put_size c.loop-i.into c.put.new.self (suc (pair_at kept i).0) c.in_ok-solved.solved made ∙ c.loop-i.invariant.size;
      rest = put_other c.loop-i.into c.put.new.self (suc (pair_at kept i).0) 0 c.in_ok-solved.solved made elsewhere ∙ c.loop-i.invariant.rest;
      put = put_next kept i c.loop-i.into c.put.new.self c.in_ok-solved.solved (IsSolvedAt c.args.row.now c.args.col) IsNone
          c.kept-kept.ensures.rising h (omega (arith, each.within, c.loop-i.invariant.size)) made
          (subst (λ (p : ℕ × ℚ). IsSolvedAt c.args.row.now c.args.col p.0 c.in_ok-solved.solved) (sym first) c.in_ok-solved.ensures) c.loop-i.invariant.put;
    }

pub returns-clause-made : goal.returns-clause-made
returns-clause-made c =
    let kept = c.kept-kept.result.now in
    let e : c.loop-i.i ≡ length kept = omega arith in
    all_solved c.args.row.now c.loop-i.into kept c.args.col c.kept-kept.ensures (λ z. c.requires.other_than_zero (c.requires.pivot ∙ z))
    (subst (λ n. IsPutSoFar kept n c.loop-i.into (IsSolvedAt c.args.row.now c.args.col) IsNone) e c.loop-i.invariant.put)
