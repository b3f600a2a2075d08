use Rattle.std.proofs.Common.{option_map, refl, subst}
use Rattle.certificate_lines.specs.Cutting.{ReadAs}
use Rattle.certificate_lines.specs.Line.{line_text}
use Rattle.certificate_texts.specs.Lines.{IsLight, line_of}
use Rattle.certificate_texts.proofs.Progress.{text_none, text_taken}
use Rattle.certificate_texts.proofs.read.add_line.Goals as goal

pub returns-in_default : goal.returns-in_default
returns-in_default c =
    text_none c.args.draft.now c.args.draft.now c.args.text.now 99999 refl
    (subst (λ o. ReadAs (IsLight 99999) line_text (option_map line_of o) c.args.text.now) c.in_default.is c.in_ok-line.ensures)

pub returns : goal.returns
returns c =
    let r = subst (λ o. ReadAs (IsLight 99999) line_text (option_map line_of o) c.args.text.now) c.in-Some.is c.in_ok-line.ensures in
    text_taken c.args.draft.now c.take.new.self c.args.text.now (line_of c.in-Some.line) 99999 c.in_ok-taken.taken r c.in_ok-taken.ensures
