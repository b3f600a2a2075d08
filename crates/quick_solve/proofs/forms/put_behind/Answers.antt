use Rattle.std.proofs.Common.{◌∙◌, subst, sym}
use Rattle.frac128.specs.Narrow.{IsNarrow}
use Rattle.quick_solve.proofs.TermByTerm.{none_is_some, one_more, some_is}
use Rattle.quick_solve.proofs.forms.put_behind.Goals as goal

pub unreachable-requires : goal.unreachable-requires
unreachable-requires c =
    none_is_some (sym (rw c.in-Err-Wide.field-0-is at c.in-Err-Wide.ensures.answer)
    ∙ one_more c.args.form.now c.args.term.0 c.args.term.1 c.requires (subst IsNarrow c.base.ensures c.num-base.ensures.narrow) c.num-coefficient.ensures.narrow _ c.decision.ensures)

pub returns-in-Ok : goal.returns-in-Ok
returns-in-Ok c =
    some_is (sym c.in-Ok.ensures.answer
    ∙ one_more c.args.form.now c.args.term.0 c.args.term.1 c.requires (subst IsNarrow c.base.ensures c.num-base.ensures.narrow) c.num-coefficient.ensures.narrow _ c.decision.ensures)
