use Rattle.std.specs.Int.{w128}
use Rattle.opt_certificate.proofs.Wholes.{read_back}
use Rattle.std.proofs.Common.{◌≡◌, ◌≢◌, ◌∙◌, ◌-◌, pos, length, take, drop, sym, ap, subst, arith, true, to_z, of_z, ◌≤ℤ◌}
use Rattle.std.proofs.lemmas.Int.{ints}
use Rattle.fractions.specs.Rational.{zero_ℚ}
use Rattle.frac128.specs.Narrow.{IsNarrow, IsNarrowWhole}
use Rattle.frac128.specs.Printed.{printed}
use Rattle.certificate_lines.specs.Cutting.{ReadAs}
use Rattle.certificate_lines.specs.Line.{whole_text}
use Rattle.certificate_lines.proofs.Numbers.{printed_one, whole_one}
use Rattle.certificate_texts.proofs.Pairs.{row_narrow, pair_cut, back_is, pair_found}
use Rattle.certificate_texts.proofs.lists.read_pair.Goals as goal
use Rattle.certificate_texts.proofs.lists.read_pair.Goals.{then-row-lt1-via-then-row-lt1, then-row-lt1-via-else-row-lt1+then-row-most}

pub returns-in_default : goal.returns-in_default
returns-in_default c = λ k y p e.
    let q = pair_cut c.args.most k y c.args.word.now c.cut.result.0.now c.cut.result.1.now c.requires p c.cut.ensures.joined c.cut.ensures.lacks c.cut.ensures.starts e in
    omega (arith, c.in_default.len_below, ap length q.back)

pub returns-in_default-2 : goal.returns-in_default-2
returns-in_default-2 c = λ k y p e.
    let q = pair_cut c.args.most k y c.args.word.now c.cut.result.0.now c.cut.result.1.now c.requires p c.cut.ensures.joined c.cut.ensures.lacks c.cut.ensures.starts e in
    (subst (λ o. ReadAs IsNarrowWhole whole_text o c.cut.result.0.now) c.in_default-2.is c.in_ok-row.ensures) (pos k) (row_narrow c.args.most k y c.requires p) q.front

pub returns-then-row-lt1 : goal.returns-then-row-lt1
returns-then-row-lt1 c = λ k y p e.
    let q = pair_cut c.args.most k y c.args.word.now c.cut.result.0.now c.cut.result.1.now c.requires p c.cut.ensures.joined c.cut.ensures.lacks c.cut.ensures.starts e in
    let r = subst (λ o. ReadAs IsNarrowWhole whole_text o c.cut.result.0.now) c.in-Some.is c.in_ok-row.ensures in
    let same : c.in-Some.row ≡ pos k = whole_one c.in-Some.row (pos k) r.0 (row_narrow c.args.most k y c.requires p) (sym r.1 ∙ q.front) in
    elim c.then-row-lt1.branch [
      | then-row-lt1-via-then-row-lt1 w ↦ omega (arith, ints, same, w.if-row-lt1.true, p.counted, p.row)
      | then-row-lt1-via-else-row-lt1+then-row-most w ↦ omega (arith, ints, same, w.if-row-most.true, p.counted, p.row, c.requires)
    ]

pub returns-in_default-3 : goal.returns-in_default-3
returns-in_default-3 c = λ k y p e.
    let q = pair_cut c.args.most k y c.args.word.now c.cut.result.0.now c.cut.result.1.now c.requires p c.cut.ensures.joined c.cut.ensures.lacks c.cut.ensures.starts e in
    (subst (λ o. ReadAs IsNarrow printed o (take (length c.cut.result.1.now - 1) (drop 1 c.cut.result.1.now))) c.in_default-3.is c.in_ok-number.ensures) y p.narrow (back_is c.cut.result.1.now y q.back)

pub returns-then-is_zero : goal.returns-then-is_zero
returns-then-is_zero c = λ k y p e.
    let q = pair_cut c.args.most k y c.args.word.now c.cut.result.0.now c.cut.result.1.now c.requires p c.cut.ensures.joined c.cut.ensures.lacks c.cut.ensures.starts e in
    let r = subst (λ o. ReadAs IsNarrow printed o (take (length c.cut.result.1.now - 1) (drop 1 c.cut.result.1.now))) c.in-Some-2.is c.in_ok-number.ensures in
    let same : c.in-Some-2.number ≡ y = printed_one c.in-Some-2.number y r.0 p.narrow (sym r.1 ∙ back_is c.cut.result.1.now y q.back) in
    p.other (sym same ∙ c.is_zero.ensures.0 c.if-is_zero.true)

pub returns : goal.returns
returns c =
    let r = subst (λ o. ReadAs IsNarrowWhole whole_text o c.cut.result.0.now) c.in-Some.is c.in_ok-row.ensures in
    let n = subst (λ o. ReadAs IsNarrow printed o (take (length c.cut.result.1.now - 1) (drop 1 c.cut.result.1.now))) c.in-Some-2.is c.in_ok-number.ensures in
    let fold : to_z w128 (of_z w128 c.in-Some.row) ≡ c.in-Some.row = read_back c.in-Some.row r.0 in
    let low : pos 1 ≤ℤ c.in-Some.row = omega (arith, ints) in
    let high : c.in-Some.row ≤ℤ pos c.args.most = omega (arith, ints) in
    let other : c.in-Some-2.number ≢ zero_ℚ = λ e. let t : c.is_zero.result ≡ true = c.is_zero.ensures.1 e in absurd (cc (t, c.if-is_zero.false)) in
    pair_found c.args.most (to_z w128 (of_z w128 c.in-Some.row)) c.in-Some.row c.in-Some-2.number c.args.word.now c.cut.result.0.now c.cut.result.1.now fold low high n.0 other c.cut.ensures.joined r.1 c.cut.ensures.starts c.in-len1-up.len_at_least n.1
