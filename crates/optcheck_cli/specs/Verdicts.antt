-- What is found of a certificate for the first sheet of a workbook. A yes means that the claim is true of the sheet: of the problem that
-- its names state, by recalculation.
use Rattle.std.specs.Prelude.{◌≡◌, ◌⊎◌, ℕ, length, Option, Ok, ⊤}
use Rattle.fractions.specs.Rational.{ℚ}
use Rattle.optimality.specs.Problem.{Problem}
use Rattle.optimality.specs.Optimal.{Infeasible, Optimal, Unbounded, objective_at}
use Rattle.opt_certificate.specs.Certificate.{Certifies, Claim, infeasible, optimal, unbounded}
use Rattle.opt_certificate.specs.Checks.{IsNarrowCheck, IsWideAt}
use Rattle.certificate_lines.specs.Cert.{Cert}
use Rattle.workbook.specs.State.{State}
use Rattle.solver_names.specs.Stated.{statement_in}
use Rattle.solver_names.specs.Statement.{Statement}
use Rattle.sheet_problems.specs.SheetProblem.{problem_in}
use Rattle.sheet_linear_model.specs.Answers.{HasNoModel}
use Rattle.sheet_linear_model.specs.Prepared.{IsPrepared, Prepared}
use Rattle.optcheck_cli.specs.declared.verdict.Verdict.{Verdict}
use Rattle.optcheck_cli.specs.declared.verdict.Verdict.TheVariants as verdict

-- ---- the sheet
-- what is claimed is true of a problem
abbrev pub IsTrueOf : Problem → Claim → Type 0
IsTrueOf p (optimal point) = Optimal p point
IsTrueOf p infeasible = Infeasible p
IsTrueOf p (unbounded point direction) = Unbounded p

-- the value that is told with an optimal point is the objective's there, and none is told where there is no objective
abbrev pub HasValue : Problem → Claim → Option ℚ → Type 0
HasValue p (optimal point) value = value ≡ objective_at p point
HasValue p infeasible value = ⊤
HasValue p (unbounded point direction) value = ⊤

-- what is claimed is true of what the names of the first sheet state, and so is the value
pub record HoldsOnSheet (book : State) (cert : Cert) : Type 0 where
  pub statement : Statement
  pub stated : statement_in book 0 ≡ Ok statement
  pub is_true : IsTrueOf (problem_in book statement) cert.claim
  pub value : HasValue (problem_in book statement) cert.claim cert.value

-- ---- the check
-- each list of the claim has so many numbers
abbrev pub HasNumbers : ℕ → Claim → Type 0
HasNumbers count (optimal point) = length point ≡ count
HasNumbers count infeasible = ⊤
HasNumbers count (unbounded point direction) = (length point ≡ count) × (length direction ≡ count)

-- the claim has a number for each decision cell, the tree certifies it over narrow sums, and the value is the objective's
pub record Passes (book : State) (p : Prepared) (cert : Cert) : Type 0 where
  pub numbers : HasNumbers (length p.statement.decisions) cert.claim
  pub certified : Certifies p.model cert.tree cert.claim
  pub narrow : IsNarrowCheck p.model cert.tree cert.claim
  pub value : HasValue (problem_in book p.statement) cert.claim cert.value

-- one of the three parts doesn't hold: the numbers, the certificate, or the value
abbrev pub Fails : State → Prepared → Cert → Type 0
Fails book p cert =
    ¬ (HasNumbers (length p.statement.decisions) cert.claim)
    ⊎ (¬ (Certifies p.model cert.tree cert.claim) ⊎ ¬ (HasValue (problem_in book p.statement) cert.claim cert.value))

-- the first sheet has a linear model, of which this is so
abbrev pub OfModel : State → (Prepared → Type 0) → Type 0
OfModel book IsSo = (p : Prepared) × IsPrepared book 0 p × IsSo p

-- ---- the verdict
-- yes: the check passes, and what is claimed is true of the sheet; no: it fails; too wide: a sum at this node isn't narrow; refused: this
-- is the first cause why the sheet has no linear model
abbrev pub IsVerdict : State → Cert → Verdict → Type 0
IsVerdict book cert verdict.Yes = HoldsOnSheet book cert × OfModel book (λ p. Passes book p cert)
IsVerdict book cert verdict.No = OfModel book (λ p. Fails book p cert)
IsVerdict book cert (verdict.Wide node) = OfModel book (λ p. IsWideAt p.model cert.tree cert.claim node)
IsVerdict book cert (verdict.Refused answer) = HasNoModel book 0 answer
