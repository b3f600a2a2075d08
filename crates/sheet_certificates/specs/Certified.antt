-- What is answered where a sheet's certificate is asked for.
use Rattle.std.specs.Prelude.{◌≡◌, ◌≢◌, ◌<◌, ℕ, Bool, false, Option, Some, None, Result, Ok}
use Rattle.fractions.specs.Rational.{ℚ}
use Rattle.optimality.specs.Optimal.{Infeasible, Optimal, Unbounded, objective_at}
use Rattle.linear_models.specs.Model.{Model}
use Rattle.opt_certificate.specs.Certificate.{Claim, Tree, infeasible, optimal, unbounded}
use Rattle.opt_certificate.specs.Checks.{Checked}
use Rattle.opt_certificate.specs.Claims.{claim_of}
use Rattle.opt_certificate.specs.Nodes.{IsListed}
use Rattle.opt_certificate.specs.declared.checking.CheckStop.{CheckStop}
use Rattle.certificate_texts.specs.declared.cert.Cert.{Cert}
use Rattle.searches.specs.Answers as answers
use Rattle.searches.specs.Trails as trails
use Rattle.search_certificates.specs.Trees.{IsTreeOf, claim_of_answer}
use Rattle.search_certificates.specs.Weights.{weight_of}
use Rattle.search_trees.specs.Trees.{IsLight, most_weight}
use Rattle.workbook.specs.State.{State}
use Rattle.solver_names.specs.Statement.{Statement}
use Rattle.commands.specs.FromSheetProblems.{problem_in}
use Rattle.commands.specs.declared.answer.Answer.{Answer}
use Rattle.commands.specs.declared.answer.Answer.TheVariants as answer
use Rattle.sheet_solving.specs.Searches.{EndsWith, Searched, Task}
use Rattle.sheet_solving.specs.Solving.{Solves}

-- the claim is true of recalculation: an optimal assignment with the objective's number, where there is an objective; that none is permitted; or that
-- there is no best value
abbrev pub IsTrueOf : State → Statement → Claim → Option ℚ → Type 0
IsTrueOf book s (optimal numbers) value = Optimal (problem_in book s) numbers × (objective_at (problem_in book s) numbers ≡ value)
IsTrueOf book s infeasible value = Infeasible (problem_in book s) × (value ≡ None)
IsTrueOf book s (unbounded point direction) value = Unbounded (problem_in book s) × (value ≡ None)

-- a certificate has the tree of a search that stands there, and claims this answer; the tree isn't too heavy, and no check of it says no
pub record HasTreeOf (m : Model) (s : trails.State) (a : answers.Answer) (c : Cert) : Type 0 where
  pub tree : Option Tree
  pub is_tree : IsTreeOf m s a tree
  pub listed : IsListed c.tree tree
  pub light : IsLight m tree
  pub claim : claim_of c.claim ≡ claim_of_answer a
  pub accepted : (r : Result Bool CheckStop) → Checked m tree (claim_of c.claim) r → r ≢ Ok false

-- it is that of a search of the sheet's model that has ended, and what it claims is true of the sheet
pub record IsSheetCertificate (task : Task) (book : State) (s : Statement) (m : Model) (c : Cert) : Type 0 where
  pub search : Searched task m
  pub answer : answers.Answer
  pub ends : EndsWith m search.state answer
  pub has_tree : HasTreeOf m search.state answer c
  pub is_true : IsTrueOf book s (claim_of c.claim) c.value

-- a search of the sheet's model has ended, and its tree weighs so much, which is too much
pub record IsTooHeavy (task : Task) (m : Model) (weight : ℕ) : Type 0 where
  pub search : Searched task m
  pub answer : answers.Answer
  pub ends : EndsWith m search.state answer
  pub tree : Tree
  pub is_tree : IsTreeOf m search.state answer (Some tree)
  pub weight_is : weight ≡ weight_of m m.bounds tree
  pub heavy : most_weight < weight

-- or the search stops as that of a solve does
abbrev pub AnswersCertificate : Task → State → Statement → Model → Answer → Type 0
AnswersCertificate task book s m (answer.Cert c) = IsSheetCertificate task book s m c
AnswersCertificate task book s m (answer.CertLimit weight) = IsTooHeavy task m weight
AnswersCertificate task book s m (answer.WidePivot path basis leaves enters) = Solves task book s m (answer.WidePivot path basis leaves enters) book
AnswersCertificate task book s m (answer.Budget n) = Solves task book s m (answer.Budget n) book
AnswersCertificate task book s m _ = ⊥
