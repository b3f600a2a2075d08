-- What is answered where a sheet's certificate is asked for.
use Rattle.std.specs.Prelude.{◌≡◌, ℕ}
use Rattle.node_pick.specs.Rules.{Rule}
use Rattle.commands.specs.declared.answer.Answer.{Answer}
use Rattle.kept_book.specs.FromSheetSolving.{whole_task}
use Rattle.sheet_linear_model.specs.Prepared.{Prepared}
use Rattle.sheet_certificates.specs.Certified.{AnswersCertificate}
use Rattle.session.specs.Solves.{WithModel}
use Rattle.session.specs.States.{SessionState}

-- a search as that of a solve, which may spend all units of the session's budget, is certified; nothing has changed
abbrev pub TellsCertificate : Rule → SessionState → Prepared → Answer → SessionState → Type 0
TellsCertificate rule before p a after = AnswersCertificate (whole_task rule before.budget) before.book p.statement p.model a × (after ≡ before)

-- or the sheet has no model
abbrev pub CertifiesSheet : Rule → SessionState → ℕ → Answer → SessionState → Type 0
CertifiesSheet rule before = WithModel (TellsCertificate rule before) before
