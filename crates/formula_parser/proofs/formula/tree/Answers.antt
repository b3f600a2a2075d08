use Rattle.std.proofs.Common.{subst, sym}
use Rattle.formula_grammar.specs.Depth.{most_open}
use Rattle.formula_parser.specs.Given.{Fails, formulas}
use Rattle.formula_parser.specs.Settings.{seen}
use Rattle.formula_parser.proofs.MarkReading.{mark_read}
use Rattle.formula_parser.proofs.Settled.{settled}
use Rattle.formula_parser.proofs.TreeAnswers.{more_behind, nil_of, no_mark, not_nil, not_read, read_whole, shallow}
use Rattle.formula_parser.proofs.formula.tree.Goals as goal

pub returns-in_default-clause-answer : goal.returns-in_default-clause-answer
returns-in_default-clause-answer c =
    no_mark (seen c.args.setting.now) c.args.symbols.now (shallow (most_open 0 c.args.symbols.now) c.if-is_too_deep.ensures.1) (sym c.in_default.ensures.behind)

pub returns-in-Ok-default-empty-clause-answer : goal.returns-in-Ok-default-empty-clause-answer
returns-in-Ok-default-empty-clause-answer c =
    let S = seen c.args.setting.now in
    let mark = sym c.in-Some.ensures.behind in
    settled S c.args.symbols.now c.in-Some.behind.now c.in-Ok-default-empty.part (shallow (most_open 0 c.args.symbols.now) c.if-is_too_deep.ensures.1)
    (mark_read S c.args.symbols.now c.in-Some.behind.now mark)
    (read_whole S c.in-Some.behind.now c.in-Ok-default-empty.part c.in-Ok-default-empty.field-0-1.now c.in-Ok-default-empty.ensures.gives (nil_of c.in-Ok-default-empty.field-0-1.now c.in-Ok-default-empty.len_below))
    c.settle.result c.settle.ensures.settles

pub returns-in-Ok-clause-answer : goal.returns-in-Ok-clause-answer
returns-in-Ok-clause-answer c =
    let S = seen c.args.setting.now in
    more_behind S c.args.symbols.now c.in-Some.behind.now c.in-Ok.field-0.0 c.in-Ok.field-0.1.now (shallow (most_open 0 c.args.symbols.now) c.if-is_too_deep.ensures.1)
    (sym c.in-Some.ensures.behind) c.in-Ok.ensures.gives (not_nil c.in-Ok.field-0.1.now c.in-Ok.len_at_least)

pub returns-in-Err-Syntax-clause-answer : goal.returns-in-Err-Syntax-clause-answer
returns-in-Err-Syntax-clause-answer c =
    not_read (seen c.args.setting.now) c.args.symbols.now c.in-Some.behind.now (shallow (most_open 0 c.args.symbols.now) c.if-is_too_deep.ensures.1)
    (sym c.in-Some.ensures.behind)
    (subst (λ stop. Fails stop (formulas (seen c.args.setting.now) 65 c.in-Some.behind.now)) c.in-Err-Syntax.field-0-is c.in-Err-Syntax.ensures.gives)
