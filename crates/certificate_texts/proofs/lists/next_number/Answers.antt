use Rattle.std.proofs.Common.{◌≡◌, ◌∙◌, ap, subst, rules, get_or, map, ◌∷◌, ◌++◌}
use Rattle.frac128.specs.Narrow.{IsNarrow}
use Rattle.frac128.specs.Printed.{printed}
use Rattle.certificate_lines.specs.Cutting.{ReadAs}
use Rattle.certificate_texts.proofs.Reading.{behind_space, number_cut}
use Rattle.certificate_texts.proofs.lists.next_number.Goals as goal

pub returns-in_default-2 : goal.returns-in_default-2
returns-in_default-2 c = λ x xs h k e.
    let first : get_or c.args.text.now 0 0 ≡ 32 = search rules in
    let t = behind_space c.args.text.now c.cut.result.0.now c.cut.result.1.now c.in-32.len_at_least first c.cut.ensures.joined in
    let q = number_cut c.args.text.now c.cut.result.0.now c.cut.result.1.now x (map printed xs) t c.cut.ensures.lacks c.cut.ensures.starts h e in
    (subst (λ o. ReadAs IsNarrow printed o c.cut.result.0.now) c.in_default-2.is c.in_ok-number.ensures) x h q.front

pub returns : goal.returns
returns c =
    let first : get_or c.args.text.now 0 0 ≡ 32 = search rules in
    let t = behind_space c.args.text.now c.cut.result.0.now c.cut.result.1.now c.in-32.len_at_least first c.cut.ensures.joined in
    let r = subst (λ o. ReadAs IsNarrow printed o c.cut.result.0.now) c.in-Some.is c.in_ok-number.ensures in
    record {
      number = c.in-Some.number;
      narrow = r.0;
      added = c.in_ok-push.ensures.items;
      joined = t ∙ ap (λ w. 32 ∷ (w ++ c.cut.result.1.now)) r.1;
      starts = c.cut.ensures.starts;
    }
