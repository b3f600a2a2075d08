use Rattle.std.proofs.Common.{◌≡◌, ◌≢◌, ◌<◌, ◌∙◌, ℕ, suc, sym, ap, subst, length, arith}
use Rattle.std.proofs.lemmas.List.{get_or_default}
use Rattle.fractions.specs.Rational.{ℚ, zero_ℚ}
use Rattle.fractions.specs.Vectors.{at, without}
use Rattle.linear_programs.proofs.Vectors.{at-without_same, at-without_other}
use Rattle.tableau.specs.Entries.{pair_at}
use Rattle.tableau.proofs.Searching.{all_later}
use Rattle.tableau.proofs.Merging.{nothing_at}
use Rattle.tableau.proofs.numbers.entry_at.Goals as goal

pub returns-then-place-kept-clause-entry : goal.returns-then-place-kept-clause-entry
returns-then-place-kept-clause-entry c = λ row a l.
    nothing_at row c.args.kept.now c.args.place (suc c.args.col) c.args.j c.zero.result c.zero.ensures a l c.requires.before (λ i m h. absurd (omega (arith, c.if-place-kept.true, m, h)))

pub returns-then-column-j-clause-entry : goal.returns-then-column-j-clause-entry
returns-then-column-j-clause-entry c = λ row a l.
    let kept = c.args.kept.now in
    let h : c.args.place < length kept = omega (arith, c.if-place-kept.false, c.requires.within) in
    let other : (pair_at kept c.args.place).0 ≢ c.args.j =
    subst (λ (p : ℕ × ℚ). p.0 ≢ c.args.j) (get_or_default kept c.args.place c.index-kept-place.result (0, zero_ℚ) h) c.if-column-j.true in
    let later : c.args.j < (pair_at kept c.args.place).0 = omega (arith, other, c.requires.after c.args.place (omega arith) h) in
    nothing_at row kept c.args.place (suc c.args.col) c.args.j c.zero-then-column-j.result c.zero-then-column-j.ensures a l c.requires.before
    (all_later kept c.args.place c.args.j c.requires.rising later)

pub returns-then-j-col-clause-entry : goal.returns-then-j-col-clause-entry
returns-then-j-col-clause-entry c = λ row a l.
    c.zero-then-j-col.ensures ∙ sym (ap (λ t. at (without row (suc c.args.col)) (suc t)) c.if-j-col.true ∙ at-without_same row (suc c.args.col))

pub returns-clause-entry : goal.returns-clause-entry
returns-clause-entry c = λ row a l.
    let kept = c.args.kept.now in
    let h : c.args.place < length kept = omega (arith, c.if-place-kept.false, c.requires.within) in
    let n : suc c.args.j ≢ suc c.args.col = omega (arith, c.if-j-col.false) in
    let column : (pair_at kept c.args.place).0 ≡ c.args.j =
    subst (λ (p : ℕ × ℚ). p.0 ≡ c.args.j) (get_or_default kept c.args.place c.index-kept-place.result (0, zero_ℚ) h) c.if-column-j.false in
    ap (λ (p : ℕ × ℚ). p.1) (get_or_default kept c.args.place c.index-kept-place-2.result (0, zero_ℚ) h)
    ∙ (a.each c.args.place h).value ∙ ap (λ k. at row (suc k)) column ∙ sym (at-without_other row (suc c.args.col) (suc c.args.j) n)
