use Rattle.std.proofs.Common.{◌≡◌, ◌∙◌, ◌-ℤ◌, arith, pos, subst, suc, sym, to_z, of_z}
use Rattle.std.specs.Int.{w128}
use Rattle.std.proofs.lemmas.Int.{ints}
use Rattle.opt_certificate.proofs.Wholes.{read_back}
use Rattle.frac128.specs.Narrow.{IsNarrowWhole}
use Rattle.certificate_lines.specs.Cutting.{ReadAs}
use Rattle.certificate_lines.specs.Line.{whole_text}
use Rattle.certificate_lines.proofs.Numbers.{whole_one}
use Rattle.certificate_lines.proofs.Words.{next_narrow}
use Rattle.certificate_texts.proofs.Lines.{decision_read, difference_read}
use Rattle.certificate_texts.proofs.line.read_decision.Goals as goal
use Rattle.certificate_texts.proofs.line.read_decision.Goals.{then-decision-lt1-via-then-decision-lt1, then-decision-lt1-via-else-decision-lt1+then-decision-gt-MOST_DECISION}

pub returns-in_default : goal.returns-in_default
returns-in_default c = λ j h e. (subst (λ o. ReadAs IsNarrowWhole whole_text o c.args.text.now) c.in_default.is c.in_ok-decision.ensures) (pos (suc j)) (next_narrow j h) e

pub returns-then-decision-lt1 : goal.returns-then-decision-lt1
returns-then-decision-lt1 c = λ j h e.
    let d = subst (λ o. ReadAs IsNarrowWhole whole_text o c.args.text.now) c.in-Some.is c.in_ok-decision.ensures in
    let decision : c.in-Some.decision ≡ pos (suc j) = whole_one c.in-Some.decision (pos (suc j)) d.0 (next_narrow j h) (sym d.1 ∙ e) in
    elim c.then-decision-lt1.branch [
      | then-decision-lt1-via-then-decision-lt1 w ↦ omega (arith, ints, decision, w.if-decision-lt1.true)
      | then-decision-lt1-via-else-decision-lt1+then-decision-gt-MOST_DECISION w ↦ omega (arith, ints, decision, w.if-decision-gt-MOST_DECISION.true, h)
    ]

pub returns : goal.returns
returns c =
    let d = subst (λ o. ReadAs IsNarrowWhole whole_text o c.args.text.now) c.in-Some.is c.in_ok-decision.ensures in
    let whole : to_z w128 (of_z w128 c.in-Some.decision) ≡ c.in-Some.decision = read_back c.in-Some.decision d.0 in
    decision_read (to_z w128 (of_z w128 (to_z w128 (of_z w128 c.in-Some.decision) -ℤ pos 1))) c.in-Some.decision c.args.text.now
    (difference_read c.in-Some.decision d.0 (omega (arith, ints, whole, c.if-decision-lt1.false))) (omega (arith, ints, whole, c.if-decision-lt1.false)) (omega (arith, ints, whole, c.if-decision-gt-MOST_DECISION.false)) d.1
