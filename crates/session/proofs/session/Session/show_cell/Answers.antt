use Rattle.std.specs.Prelude.{IfOk}
use Rattle.std.proofs.Common.{subst, sym}
use Rattle.commands.specs.Lines.{CanBeSaid}
use Rattle.workbook.specs.Listed.{TextsAreListed}
use Rattle.session.proofs.Wide.{wide_is_listed}
use Rattle.session.proofs.session.Session.show_cell.Goals as goal
use Rattle.session.proofs.session.Session.show_cell.Goals.{in-Is, in-Wide}

pub returns-clause-said : goal.returns-clause-said
returns-clause-said c = elim c.match-branch-2.branch [
  | in-Is w ↦ subst (λ r. IfOk r (CanBeSaid c.args.self.now.state.book.sheets)) (sym w.result-is) tt
  | in-Wide w ↦
      let shown = rw w.in-Wide.is at c.in_ok-value.ensures.shown in
      subst (λ r. IfOk r (CanBeSaid c.args.self.now.state.book.sheets)) (sym w.result-is)
      (rw (← c.self.view_is) (wide_is_listed c.self.inside.book.book w.in-Wide.wide (subst TextsAreListed c.workbook.ensures c.texts_are_listed.ensures) shown.wide))
]
