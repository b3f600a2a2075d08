use Rattle.std.proofs.Common.{◌≡◌, ◌∙◌, ◌-◌, ◌-ℤ◌, ap, arith, drop, length, pos, subst, suc, sym, take, to_z, of_z}
use Rattle.std.specs.Int.{w128}
use Rattle.std.proofs.lemmas.Int.{ints}
use Rattle.opt_certificate.proofs.Wholes.{read_back}
use Rattle.frac128.specs.Narrow.{IsNarrowWhole}
use Rattle.certificate_lines.specs.Cutting.{ReadAs}
use Rattle.certificate_lines.specs.Line.{whole_text}
use Rattle.certificate_lines.proofs.Numbers.{whole_one}
use Rattle.certificate_lines.proofs.Words.{next_narrow}
use Rattle.certificate_texts.proofs.Lines.{difference_read, split_cut, split_found}
use Rattle.certificate_texts.proofs.Reading.{behind_is, behind_start, feed_is}
use Rattle.certificate_texts.proofs.line.read_split.Goals as goal
use Rattle.certificate_texts.proofs.line.read_split.Goals.{then-decision-lt1-via-then-decision-lt1, then-decision-lt1-via-else-decision-lt1+then-decision-gt-MOST_DECISION, then-decision-lt1-via-else-decision-lt1+else-decision-gt-MOST_DECISION+then-floor-gt-MOST_FLOOR}

pub returns-in_default-rest : goal.returns-in_default-rest
returns-in_default-rest c = λ a h e.
    let t = behind_start 32 c.args.text.now c.cut.result.0.now c.cut.result.1.now c.requires c.in-len1-up.len_at_least c.cut.ensures.joined in
    let s = split_cut c.args.most a c.args.text.now c.cut.result.0.now c.cut.result.1.now h e t c.cut.ensures.lacks c.cut.ensures.starts in
    omega (arith, ap length s.rest_is, c.in_default-rest.len_below)

pub returns-in_default-2 : goal.returns-in_default-2
returns-in_default-2 c = λ a h e.
    let t = behind_start 32 c.args.text.now c.cut.result.0.now c.cut.result.1.now c.requires c.in-len1-up.len_at_least c.cut.ensures.joined in
    let s = split_cut c.args.most a c.args.text.now c.cut.result.0.now c.cut.result.1.now h e t c.cut.ensures.lacks c.cut.ensures.starts in
    (subst (λ o. ReadAs IsNarrowWhole whole_text o c.cut.result.0.now) c.in_default-2.is c.in_ok-decision.ensures) (pos (suc s.decision)) (next_narrow s.decision s.split.decision) s.first_is

pub returns-in_default-3 : goal.returns-in_default-3
returns-in_default-3 c = λ a h e.
    let t = behind_start 32 c.args.text.now c.cut.result.0.now c.cut.result.1.now c.requires c.in-len1-up.len_at_least c.cut.ensures.joined in
    let s = split_cut c.args.most a c.args.text.now c.cut.result.0.now c.cut.result.1.now h e t c.cut.ensures.lacks c.cut.ensures.starts in
    (subst (λ o. ReadAs IsNarrowWhole whole_text o (take (length c.cut.result.1.now - 1) (drop 1 c.cut.result.1.now))) c.in_default-3.is c.in_ok-floor.ensures) s.floor s.split.floor
    (behind_is 32 c.cut.result.1.now (whole_text s.floor) s.rest_is)

pub returns-then-decision-lt1 : goal.returns-then-decision-lt1
returns-then-decision-lt1 c = λ a h e.
    let t = behind_start 32 c.args.text.now c.cut.result.0.now c.cut.result.1.now c.requires c.in-len1-up.len_at_least c.cut.ensures.joined in
    let s = split_cut c.args.most a c.args.text.now c.cut.result.0.now c.cut.result.1.now h e t c.cut.ensures.lacks c.cut.ensures.starts in
    let d = subst (λ o. ReadAs IsNarrowWhole whole_text o c.cut.result.0.now) c.in-Some.is c.in_ok-decision.ensures in
    let f = subst (λ o. ReadAs IsNarrowWhole whole_text o (take (length c.cut.result.1.now - 1) (drop 1 c.cut.result.1.now))) c.in-Some-2.is c.in_ok-floor.ensures in
    let decision : c.in-Some.decision ≡ pos (suc s.decision) = whole_one c.in-Some.decision (pos (suc s.decision)) d.0 (next_narrow s.decision s.split.decision) (sym d.1 ∙ s.first_is) in
    let floor : c.in-Some-2.floor ≡ s.floor = whole_one c.in-Some-2.floor s.floor f.0 s.split.floor (sym f.1 ∙ behind_is 32 c.cut.result.1.now (whole_text s.floor) s.rest_is) in
    let fold : to_z w128 (of_z w128 c.in-Some-2.floor) ≡ c.in-Some-2.floor = read_back c.in-Some-2.floor f.0 in
    elim c.then-decision-lt1.branch [
      | then-decision-lt1-via-then-decision-lt1 w ↦ omega (arith, ints, decision, w.if-decision-lt1.true)
      | then-decision-lt1-via-else-decision-lt1+then-decision-gt-MOST_DECISION w ↦ omega (arith, ints, decision, w.if-decision-gt-MOST_DECISION.true, s.split.decision)
      | then-decision-lt1-via-else-decision-lt1+else-decision-gt-MOST_DECISION+then-floor-gt-MOST_FLOOR w ↦ omega (arith, ints, floor, fold, w.if-floor-gt-MOST_FLOOR.true, s.split.above)
    ]

pub returns : goal.returns
returns c =
    let t = behind_start 32 c.args.text.now c.cut.result.0.now c.cut.result.1.now c.requires c.in-len1-up.len_at_least c.cut.ensures.joined in
    let d = subst (λ o. ReadAs IsNarrowWhole whole_text o c.cut.result.0.now) c.in-Some.is c.in_ok-decision.ensures in
    let f = subst (λ o. ReadAs IsNarrowWhole whole_text o (take (length c.cut.result.1.now - 1) (drop 1 c.cut.result.1.now))) c.in-Some-2.is c.in_ok-floor.ensures in
    let fold : to_z w128 (of_z w128 c.in-Some-2.floor) ≡ c.in-Some-2.floor = read_back c.in-Some-2.floor f.0 in
    let whole : to_z w128 (of_z w128 c.in-Some.decision) ≡ c.in-Some.decision = read_back c.in-Some.decision d.0 in
    split_found c.args.most (to_z w128 (of_z w128 (to_z w128 (of_z w128 c.in-Some.decision) -ℤ pos 1))) c.in-Some.decision c.in-Some-2.floor (to_z w128 (of_z w128 c.in-Some-2.floor))
    c.args.text.now c.cut.result.0.now c.cut.result.1.now (take (length c.cut.result.1.now - 1) (drop 1 c.cut.result.1.now))
    (difference_read c.in-Some.decision d.0 (omega (arith, ints, whole, c.if-decision-lt1.false))) fold (omega (arith, ints, whole, c.if-decision-lt1.false)) (omega (arith, ints, whole, c.if-decision-gt-MOST_DECISION.false)) f.0
    (omega (arith, ints, fold, f.0, c.if-floor-gt-MOST_FLOOR.false)) t d.1 (feed_is 32 c.cut.result.1.now c.cut.ensures.starts c.in-len1-up-rest.len_at_least) f.1
