use Rattle.std.proofs.Common.{List, ℕ, subst}
use Rattle.commands.specs.Lines.{CanBeSaid}
use Rattle.session.proofs.Said.{named_said}
use Rattle.session.proofs.session.Session.show.Goals as goal

pub returns-in-Err-clause-said : goal.returns-in-Err-clause-said
returns-in-Err-clause-said c =
    let named = c.in-Err.ensures.named in
    rw (← c.self.view_is) (subst (λ (sheets : List (List ℕ)). CanBeSaid sheets c.in-Err.answer) c.sheets.ensures (named_said c.sheets.result.now c.args.address.now c.in-Err.answer named))
