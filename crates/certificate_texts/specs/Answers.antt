-- What reading a text answers.
use Rattle.std.specs.Prelude.{◌≡◌, ◌≤◌, ◌^◌, ℕ, List, [], length, Option, Some, None, Result, Ok, Err}
use Rattle.std.specs.List.{AllByRecursion}
use Rattle.fractions.specs.Rational.{ℚ}
use Rattle.opt_certificate.specs.Nodes.{IsListed}
use Rattle.opt_certificate.specs.Claims.{claim_of}
use Rattle.certificate_lines.specs.Line.{IsLine}
use Rattle.certificate_lines.specs.Cert.{Cert, IsCert, cert_lines}
use Rattle.certificate_lines.specs.Heads.{IsReadAs, StopsAt}
use Rattle.certificate_lines.specs.Machine.{at_claim, at_end, run}
use Rattle.certificate_lines.specs.Reading.{ReadTo, IsStuck}
use Rattle.certificate_texts.specs.Drafts.{lines_of, state_of}
use Rattle.certificate_texts.specs.declared.cert.Cert.{Cert as Made}
use Rattle.certificate_texts.specs.declared.cert.CertFault.{CertFault}
use Rattle.certificate_texts.specs.declared.cert.CertFault.TheVariants as faults
use Rattle.certificate_texts.specs.declared.draft.Draft.{Draft}
use Rattle.certificate_texts.specs.declared.draft.Kind.{Kind}
use Rattle.certificate_texts.specs.declared.draft.Kind.TheVariants as kinds

-- what is made is the certificate: its tree, its claim and its value
pub record IsTheCert (made : Made) (c : Cert) : Type 0 where
  pub tree : IsListed made.tree c.tree
  pub claim : claim_of made.claim ≡ c.claim
  pub value : made.value ≡ c.value

-- the certificate that the text is; the line at which it stops; or memory ran out
abbrev pub AnswerOf : List ℕ → Result Made CertFault → Type 0
AnswerOf text (Ok made) = (c : Cert) × (IsTheCert made c × IsReadAs text c)
AnswerOf text (Err (faults.Line n)) = StopsAt text n
AnswerOf text (Err faults.Memory) = Unit {0}

-- ---- on the way. No public clause cites what follows
-- nothing is read
pub record IsBlank (d : Draft) : Type 0 where
  pub state : state_of d.state ≡ at_claim
  pub nodes : d.nodes.items ≡ []
  pub weight : d.weight ≡ 0

-- all lines are read, or the text stops
abbrev pub LinesRead : List ℕ → Result Unit CertFault → Draft → Type 0
LinesRead text (Ok u) d = ReadTo text (lines_of d) at_end [] × (state_of d.state ≡ at_end)
LinesRead text (Err (faults.Line n)) d = IsStuck text n
LinesRead text (Err faults.Memory) d = Unit {0}

-- the lines of a certificate are read, and of a tree whose places fit
pub record IsWhole (d : Draft) : Type 0 where
  pub lines : AllByRecursion IsLine (lines_of d)
  pub read : run (lines_of d) (Some at_claim) ≡ Some at_end
  pub state : state_of d.state ≡ at_end
  pub size : length d.nodes.items ≤ 2 ^ 32

-- a value is told of an optimal point alone
abbrev pub value_in : Kind → Option ℚ → Option ℚ
value_in kinds.Optimal v = v
value_in kinds.Infeasible v = None
value_in kinds.Unbounded v = None

-- the certificate of what is read
pub record CertIsOf (d : Draft) (made : Made) : Type 0 where
  pub cert : Cert
  pub is : IsCert cert
  pub lines : lines_of d ≡ cert_lines cert
  pub made_is : IsTheCert made cert
