use Rattle.std.proofs.Common.{◌≡◌, ◌∙◌, List, Ok, ap, refl, subst, sym, ℕ}
use Rattle.commands.specs.Lines.{CanBeSaid}
use Rattle.commands.specs.Locating.{cell_named}
use Rattle.session.specs.States.{Session}
use Rattle.session.proofs.Editing.{named_other, other_set}
use Rattle.session.proofs.Said.{named_said}
use Rattle.session.proofs.Stopping.{put_stopped}
use Rattle.session.proofs.session.Session.set.Goals as goal

pub returns-in-Err-clause-said : goal.returns-in-Err-clause-said
returns-in-Err-clause-said c =
    let named = c.in-Err.ensures.named in
    rw (← c.self.view_is) (subst (λ (sheets : List (List ℕ)). CanBeSaid sheets c.in-Err.answer) c.sheets.ensures (named_said c.sheets.result.now c.args.address.now c.in-Err.answer named))

pub returns-in-Ok-clause-memory : goal.returns-in-Ok-clause-memory
returns-in-Ok-clause-memory c =
    let s = c.args.self.now.state in
    let sheets = c.sheets.ensures ∙ ap (λ (x : Session). x.state.book.sheets) c.self.view_is in
    let named : cell_named s.book.sheets c.args.address.now ≡ Ok c.in-Ok.cell = ap (λ (l : List (List ℕ)). cell_named l c.args.address.now) (sym sheets) ∙ sym c.in-Ok.ensures.named in
    put_stopped s c.put.new.self.state c.args.address.now c.args.text.now c.in-Ok.cell c.put.result named c.put.ensures.allowed c.put.ensures.some c.put.ensures.memory

pub returns-in-Err-clause-follows : goal.returns-in-Err-clause-follows
returns-in-Err-clause-follows c =
    other_set c.args.self.now c.args.self.now refl refl c.args.address.now c.args.text.now c.in-Err.answer (named_other c.sheets.result.now c.args.address.now c.in-Err.answer c.in-Err.ensures.named)
