-- What is true of the certificates of sheets.
use Rattle.std.specs.Prelude.{◌<◌, ◌≤◌, ℕ, length}
use Rattle.linear_models.specs.Model.{IsValid, Model}
use Rattle.node_pick.specs.Rules.{Rule}
use Rattle.opt_certificate.specs.Claims.{claim_of}
use Rattle.certificate_lines.specs.Cert.{cert_weight}
use Rattle.certificate_lines.specs.Cert as lines
use Rattle.certificate_lines.specs.Heads.{most_weight}
use Rattle.certificate_lines.specs.Laws.{IsReadBack}
use Rattle.certificate_texts.specs.Fits.{HasText}
use Rattle.certificate_texts.specs.declared.cert.Cert.{Cert}
use Rattle.workbook.specs.State.{State}
use Rattle.solver_names.specs.Statement.{Statement}
use Rattle.commands.specs.Printing.{ReadsBack}
use Rattle.commands.specs.declared.answer.Answer.TheVariants as answer
use Rattle.sheet_solving.specs.Searches.{Task, whole_task}
use Rattle.sheet_certificates.specs.Certified.{IsSheetCertificate}

-- as it is printed, with its tree
abbrev pub printed_of : {task : Task} {book : State} {s : Statement} {m : Model} (c : Cert) → IsSheetCertificate task book s m c → lines.Cert
printed_of c h = record { tree = h.has_tree.tree; claim = claim_of c.claim; value = c.value }

-- it has a text of its own, which is light enough to be read: what is written of it reads back
pub record IsReadable (c : lines.Cert) : Type 0 where
  pub text : HasText c
  pub light : cert_weight c ≤ most_weight

-- so is the certificate of each search of a model that has a decision
abbrev pub CertificatesAreReadable : Type 0
CertificatesAreReadable =
    (rule : Rule) (budget : ℕ) (book : State) (s : Statement) (m : Model) (c : Cert) → IsValid m → 0 < length m.whole → (h : IsSheetCertificate (whole_task rule budget) book s m c) → IsReadable (printed_of c h)

-- and where what is printed of it reads back if it is readable, it is read as this certificate, and as no other
abbrev pub CertificatesReadBack : Type 0
CertificatesReadBack =
    (rule : Rule) (budget : ℕ) (book : State) (s : Statement) (m : Model) (c : Cert) → IsValid m → 0 < length m.whole → (h : IsSheetCertificate (whole_task rule budget) book s m c) → ReadsBack (answer.Cert c) → IsReadBack (printed_of c h)
