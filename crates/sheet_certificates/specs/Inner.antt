-- What inner contracts cite: a search that has ended, and what is shown of it.
use Rattle.std.specs.Prelude.{◌≡◌, ◌<◌, Option, Some, None}
use Rattle.fractions.specs.Rational.{ℚ}
use Rattle.opt_certificate.specs.Certificate.{Tree}
use Rattle.opt_certificate.specs.declared.checking.Claim.{Claim}
use Rattle.opt_certificate.specs.declared.checking.Claim.TheVariants as claims
use Rattle.searches.specs.Answers as answers
use Rattle.search_certificates.specs.Trees.{IsTreeOf}
use Rattle.search_certificates.specs.Weights.{weight_of}
use Rattle.search_trees.specs.Trees.{most_weight}
use Rattle.branch_bound.specs.Searches.{Held}
use Rattle.branch_bound.specs.declared.progress.Progress.{Progress}
use Rattle.branch_bound.specs.declared.progress.Progress.TheVariants as progress
use Rattle.solver_names.specs.Statement.{Statement}
use Rattle.commands.specs.declared.answer.Answer.{Answer}
use Rattle.commands.specs.declared.answer.Answer.TheVariants as answer
use Rattle.sheet_solving.specs.Inner.{told_of}
use Rattle.sheet_certificates.specs.Certified.{HasTreeOf}

-- what an end claims, and an optimum's number
abbrev pub IsClaimed : Statement → Progress → Claim → Option ℚ → Type 0
IsClaimed s (progress.Optimal point value) claim told = (claim ≡ claims.Optimal point) × (told ≡ told_of s value)
IsClaimed s progress.Infeasible claim told = (claim ≡ claims.Infeasible) × (told ≡ None)
IsClaimed s (progress.Unbounded point direction) claim told = (claim ≡ claims.Unbounded point direction) × (told ≡ None)
IsClaimed s progress.More claim told = ⊥

-- the answer of a search that ends so
abbrev pub answer_of : Progress → Option answers.Answer
answer_of (progress.Optimal point value) = Some (answers.optimal point.items value)
answer_of progress.Infeasible = Some answers.infeasible
answer_of (progress.Unbounded point direction) = Some (answers.unbounded point.items direction.items)
answer_of progress.More = None

-- the certificate of a search that has ended so, or how much its tree weighs
abbrev pub Shows : Statement → Held → Progress → Answer → Type 0
Shows s held end (answer.Cert c) =
    (a : answers.Answer) × (answer_of end ≡ Some a) × HasTreeOf held.model held.state a c × IsClaimed s end c.claim c.value
Shows s held end (answer.CertLimit weight) =
    (a : answers.Answer) × (answer_of end ≡ Some a)
    × ((t : Tree) × IsTreeOf held.model held.state a (Some t) × (weight ≡ weight_of held.model held.model.bounds t) × (most_weight < weight))
Shows s held end _ = ⊥
