use Rattle.std.proofs.Common.{◌-◌, ◌<◌, ◌^◌, ℕ, ap, arith, drop, length, subst, take}
use Rattle.certificate_lines.specs.Cutting.{ReadAs}
use Rattle.certificate_texts.specs.Lines.{decision_text}
use Rattle.certificate_texts.proofs.Lines.{clash_cut, is_clash}
use Rattle.certificate_texts.proofs.Reading.{behind_is, behind_start, feed_is}
use Rattle.certificate_texts.proofs.line.read_clash.Goals as goal

pub returns-in_default-rest : goal.returns-in_default-rest
returns-in_default-rest c = λ a h e.
    let t = behind_start 32 c.args.text.now c.cut.result.0.now c.cut.result.1.now c.requires c.in-len1-up.len_at_least c.cut.ensures.joined in
    let s = clash_cut c.args.most a c.args.text.now c.cut.result.0.now c.cut.result.1.now h e t c.cut.ensures.lacks c.cut.ensures.starts in
    omega (arith, ap length s.rest_is, c.in_default-rest.len_below)

pub returns-in_default-2 : goal.returns-in_default-2
returns-in_default-2 c = λ a h e.
    let t = behind_start 32 c.args.text.now c.cut.result.0.now c.cut.result.1.now c.requires c.in-len1-up.len_at_least c.cut.ensures.joined in
    let s = clash_cut c.args.most a c.args.text.now c.cut.result.0.now c.cut.result.1.now h e t c.cut.ensures.lacks c.cut.ensures.starts in
    (subst (λ o. ReadAs (λ (j : ℕ). j < 2 ^ 16) decision_text o c.cut.result.0.now) c.in_default-2.is c.in_ok-one.ensures) s.one s.pair.one s.first_is

pub returns-in_default-3 : goal.returns-in_default-3
returns-in_default-3 c = λ a h e.
    let t = behind_start 32 c.args.text.now c.cut.result.0.now c.cut.result.1.now c.requires c.in-len1-up.len_at_least c.cut.ensures.joined in
    let s = clash_cut c.args.most a c.args.text.now c.cut.result.0.now c.cut.result.1.now h e t c.cut.ensures.lacks c.cut.ensures.starts in
    (subst (λ o. ReadAs (λ (j : ℕ). j < 2 ^ 16) decision_text o (take (length c.cut.result.1.now - 1) (drop 1 c.cut.result.1.now))) c.in_default-3.is c.in_ok-other.ensures) s.other s.pair.other
    (behind_is 32 c.cut.result.1.now (decision_text s.other) s.rest_is)

pub returns : goal.returns
returns c =
    let t = behind_start 32 c.args.text.now c.cut.result.0.now c.cut.result.1.now c.requires c.in-len1-up.len_at_least c.cut.ensures.joined in
    let one = subst (λ o. ReadAs (λ (j : ℕ). j < 2 ^ 16) decision_text o c.cut.result.0.now) c.in-Some.is c.in_ok-one.ensures in
    let other = subst (λ o. ReadAs (λ (j : ℕ). j < 2 ^ 16) decision_text o (take (length c.cut.result.1.now - 1) (drop 1 c.cut.result.1.now))) c.in-Some-2.is c.in_ok-other.ensures in
    is_clash c.args.most c.in-Some.one c.in-Some-2.other c.args.text.now c.cut.result.0.now c.cut.result.1.now (take (length c.cut.result.1.now - 1) (drop 1 c.cut.result.1.now))
    one.0 other.0 t (feed_is 32 c.cut.result.1.now c.cut.ensures.starts c.in-len1-up-rest.len_at_least) one.1 other.1
