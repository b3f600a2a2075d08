use Rattle.std.proofs.Common.{◌≡◌, ◌<◌, ℕ, cond, eqb, subst, length, arith, get_or}
use Rattle.std.proofs.lemmas.List.{get_or_default}
use Rattle.fractions.specs.Rational.{ℚ, zero_ℚ}
use Rattle.tableau.specs.Entries.{entry_in, pair_at}
use Rattle.tableau.proofs.Runs.{run_more}
use Rattle.tableau.proofs.entries.put_each.Goals as goal

pub loop-i-preserved : goal.loop-i-preserved
loop-i-preserved c =
    let run = c.args.run.now in
    let i = c.loop-i.i in
    let kept = c.loop-i.kept.items in
    let new = c.put_last.new.kept.items in
    let h : i < length run = c.loop-i-test.true in
    let put : (j : ℕ) → entry_in new j ≡ cond (eqb (pair_at run i).0 j) (pair_at run i).1 (entry_in kept j) =
    subst (λ (p : ℕ × ℚ). (j : ℕ) → entry_in new j ≡ cond (eqb p.0 j) (pair_at run i).1 (entry_in kept j)) (get_or_default run i c.index-run-i.result (0, zero_ℚ) h)
    (subst (λ (p : ℕ × ℚ). (j : ℕ) → entry_in new j ≡ cond (eqb (get_or run i c.index-run-i.result).0 j) p.1 (entry_in kept j)) (get_or_default run i c.index-run-i-in-loop-i.result (0, zero_ℚ) h) c.put_last.ensures.entries) in
    record {
      sparse = c.put_last.ensures.sparse;
      room = c.put_last.ensures.room;
      entries = run_more run c.args.kept.now.items kept new i c.requires.run.rising h put c.loop-i.invariant.entries;
    }
