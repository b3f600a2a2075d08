use Rattle.std.proofs.Common.{◌≡◌, ◌∙◌, ◌+◌, ◌-◌, ◌++◌, ◌∷◌, ap, arith, length, subst, suc, sym}
use Rattle.certificate_lines.specs.Line.{pair_text}
use Rattle.certificate_texts.specs.Lists.{IsPair, PairOf}
use Rattle.certificate_texts.proofs.PairLists.{pair_front, same_row}
use Rattle.certificate_texts.proofs.Reading.{behind_start}
use Rattle.certificate_texts.proofs.lists.next_pair.Goals as goal

pub returns-in_default-2 : goal.returns-in_default-2
returns-in_default-2 c = λ more r e.
    let t = behind_start 32 c.args.text.now c.cut.result.0.now c.cut.result.1.now c.requires.starts c.in-len1-up.len_at_least c.cut.ensures.joined in
    let f = pair_front c.args.most c.args.numbers.now.items more c.args.text.now c.cut.result.0.now c.cut.result.1.now c.requires.most t c.cut.ensures.lacks c.cut.ensures.starts r e in
    (subst (λ o. PairOf c.args.most o c.cut.result.0.now) c.in_default-2.is c.in_ok-pair.ensures) (suc (length c.args.numbers.now.items) + f.zeros) f.number f.pair f.word_is

pub returns-then-row-len : goal.returns-then-row-len
returns-then-row-len c = λ more r e.
    let t = behind_start 32 c.args.text.now c.cut.result.0.now c.cut.result.1.now c.requires.starts c.in-len1-up.len_at_least c.cut.ensures.joined in
    let f = pair_front c.args.most c.args.numbers.now.items more c.args.text.now c.cut.result.0.now c.cut.result.1.now c.requires.most t c.cut.ensures.lacks c.cut.ensures.starts r e in
    let p = subst (λ o. PairOf c.args.most o c.cut.result.0.now) c.in-Some.is c.in_ok-pair.ensures in
    let q = same_row c.args.most c.in-Some.pair.0 (suc (length c.args.numbers.now.items) + f.zeros) c.in-Some.pair.1 f.number c.requires.most p.0 f.pair (sym p.1 ∙ f.word_is) in
    omega (arith, q.0, c.if-row-len.true, c.len.ensures, c.args.numbers.now.ok.0)

pub returns : goal.returns
returns c =
    let t = behind_start 32 c.args.text.now c.cut.result.0.now c.cut.result.1.now c.requires.starts c.in-len1-up.len_at_least c.cut.ensures.joined in
    let p = subst (λ o. PairOf c.args.most o c.cut.result.0.now) c.in-Some.is c.in_ok-pair.ensures in
    let row : suc (length c.args.numbers.now.items) + (c.in-Some.pair.0 - suc (length c.args.numbers.now.items)) ≡ c.in-Some.pair.0 = omega (arith, c.if-row-len.false, c.len.ensures, c.args.numbers.now.ok.0) in
    record {
      zeros = c.in-Some.pair.0 - suc (length c.args.numbers.now.items);
      number = c.in-Some.pair.1;
      pair = subst (λ k. IsPair c.args.most k c.in-Some.pair.1) (sym row) p.0;
      added = c.in_ok-put_at.ensures;
      joined = t ∙ ap (λ w. 32 ∷ (w ++ c.cut.result.1.now)) (p.1 ∙ ap (λ k. pair_text k c.in-Some.pair.1) (sym row));
      starts = c.cut.ensures.starts;
    }
