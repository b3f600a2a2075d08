use Rattle.std.proofs.Common.{◌∙◌, ◌++◌, sym, ap, subst, take}
use Rattle.std.proofs.lemmas.List.{take-append-drop}
use Rattle.certificate_lines.specs.Cutting.{Starts}
use Rattle.certificate_texts.proofs.Reading.{rest-is, lacks_take, starts_drop}
use Rattle.certificate_texts.proofs.cutting.cut.Goals as goal

pub returns-clause-joined : goal.returns-clause-joined
returns-clause-joined c =
    sym (take-append-drop c.place_of-place.result c.args.text.now)
    ∙ ap (λ r. take c.place_of-place.result c.args.text.now ++ r) (sym (rest-is c.place_of-place.result c.args.text.now))

pub returns-clause-lacks : goal.returns-clause-lacks
returns-clause-lacks c = lacks_take c.args.mark c.args.text.now c.place_of-place.result c.place_of-place.ensures.within c.place_of-place.ensures.before

pub returns-clause-starts : goal.returns-clause-starts
returns-clause-starts c =
    subst (Starts c.args.mark) (sym (rest-is c.place_of-place.result c.args.text.now))
    (starts_drop c.args.mark c.args.text.now c.place_of-place.result c.place_of-place.ensures.found)
