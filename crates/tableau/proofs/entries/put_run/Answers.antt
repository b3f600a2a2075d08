use Rattle.std.proofs.Common.{◌≡◌, ◌<◌, ◌≤◌, ℕ, List, sym, subst, length, arith, get_or}
use Rattle.std.proofs.lemmas.List.{get_or_default}
use Rattle.fractions.specs.Rational.{ℚ, zero_ℚ}
use Rattle.tableau.specs.Entries.{pair_at}
use Rattle.tableau.specs.Runs.{HasRun}
use Rattle.tableau.proofs.Runs.{all_behind, joined_run}
use Rattle.tableau.proofs.entries.put_run.Goals as goal

pub returns-then-is_behind-clause-entries : goal.returns-then-is_behind-clause-entries
returns-then-is_behind-clause-entries c =
    let kept = c.args.kept.now.items in
    let run = c.args.run.now in
    subst (HasRun run (length run) kept) (sym c.append_run.ensures.items)
    (joined_run c.args.columns kept run c.requires.sparse c.requires.run
    (λ i j h l.
    let some : 0 < length run = omega (arith, l) in
    all_behind kept run c.requires.run.rising
    (λ i h. subst (λ (p : ℕ × ℚ). (pair_at kept i).0 < p.0) (get_or_default run 0 c.index-run-0.result (0, zero_ℚ) some) (subst (λ (xs : List (ℕ × ℚ)). (pair_at xs i).0 < (get_or run 0 c.index-run-0.result).0) c.deref.ensures.value (c.is_behind.ensures c.if-is_behind.true i (omega (arith, h, c.len.ensures))))) i j h l))
