use Rattle.std.proofs.Common.{subst}
use Rattle.workbook.specs.Kinds.{book_of}
use Rattle.kept_tables.specs.Settled.{AreRight}
use Rattle.sheet_linear_model.specs.FromKeptForms.{all_forms}
use Rattle.commands.specs.Commands.{spoken}
use Rattle.session.specs.States.{Session}
use Rattle.session.proofs.Keeping.{keeps}
use Rattle.session.proofs.Said.{if_ok_map}
use Rattle.session.proofs.Apart.{all_stay}
use Rattle.session.proofs.Counting.{all_count}
use Rattle.session.proofs.session.Session.apply.Goals as goal

pub returns-clause-others : goal.returns-clause-others
returns-clause-others g c = all_stay _ c.args.self.now.state c.follow-answer.new.self.state (spoken c.args.command.now) c.follow-answer.result c.follow-answer.ensures.step

pub returns-clause-counts : goal.returns-clause-counts
returns-clause-counts g c = all_count _ c.args.self.now.state c.follow-answer.new.self.state (spoken c.args.command.now) c.follow-answer.result c.follow-answer.ensures.step

pub returns-clause-keeps : goal.returns-clause-keeps
returns-clause-keeps g c =
    let right = subst (λ (s : Session). AreRight (book_of s.state.book) (all_forms s.tables)) c.self.view_is c.forms_are_right.ensures in
    if_ok_map c.follow-answer.result _ _ (λ a h. keeps c.args.self.now c.follow-answer.new.self (spoken c.args.command.now) a right h) c.follow-answer.ensures.follows

pub returns-clause-right : goal.returns-clause-right
returns-clause-right g c = subst (λ (s : Session). AreRight (book_of s.state.book) (all_forms s.tables)) c.self-2.view_is c.forms_are_right-2.ensures
