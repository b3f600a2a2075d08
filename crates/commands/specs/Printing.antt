-- What is printed of a certificate is its text, from which it is read.
use Rattle.std.specs.Prelude.{◌≡◌, ◌≤◌, ℕ, List, Option}
use Rattle.opt_certificate.specs.Certificate.{Tree}
use Rattle.opt_certificate.specs.Claims.{claim_of}
use Rattle.opt_certificate.specs.Nodes.{IsListed}
use Rattle.certificate_lines.specs.Cert.{cert_text, cert_weight}
use Rattle.certificate_lines.specs.Cert as lines
use Rattle.certificate_lines.specs.Heads.{most_weight}
use Rattle.certificate_lines.specs.Laws.{IsReadBack}
use Rattle.certificate_texts.specs.Fits.{HasText}
use Rattle.certificate_texts.specs.declared.cert.Cert.{Cert}
use Rattle.commands.specs.declared.answer.Answer.{Answer}
use Rattle.commands.specs.declared.answer.Answer.TheVariants as answer
use Rattle.commands.specs.Lines.{answer_text}

-- the text of the tree, the claim and the value, on whatever sheets
abbrev pub CertificatesArePrinted : Type 0
CertificatesArePrinted =
    (sheets : List (List ℕ)) (c : Cert) (tree : Option Tree) → IsListed c.tree tree
    → answer_text sheets (answer.Cert c) ≡ cert_text (record { tree = tree; claim = claim_of c.claim; value = c.value })

-- it is this certificate, as one tree or none, a claim and a value
pub record IsOf (made : Cert) (c : lines.Cert) : Type 0 where
  pub tree : IsListed made.tree c.tree
  pub claim : c.claim ≡ claim_of made.claim
  pub value : c.value ≡ made.value

-- where it has a text of its own that is light enough, its text is read as this certificate, and as no other
abbrev pub IsReadWhere : Cert → Type 0
IsReadWhere made = (c : lines.Cert) → IsOf made c → HasText c → cert_weight c ≤ most_weight → IsReadBack c

abbrev pub ReadsBack : Answer → Type 0
ReadsBack (answer.Cert made) = IsReadWhere made
ReadsBack a = Unit {0}
