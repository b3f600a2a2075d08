-- The claims of the code, as those of certificates.
use Rattle.std.specs.Prelude.{◌≡◌, ℕ, length}
use Rattle.opt_certificate.specs.Certificate.{Claim, optimal, infeasible, unbounded}
use Rattle.opt_certificate.specs.declared.checking.Claim.{Claim as Claimed}
use Rattle.opt_certificate.specs.declared.checking.Claim.TheVariants as claims

-- the claim, with its lists of numbers
abbrev pub claim_of : Claimed → Claim
claim_of (claims.Optimal a) = optimal a.items
claim_of claims.Infeasible = infeasible
claim_of (claims.Unbounded a d) = unbounded a.items d.items

-- its lists have one number for each decision
abbrev pub IsOfSize : ℕ → Claimed → Type 0
IsOfSize n (claims.Optimal a) = length a.items ≡ n
IsOfSize n claims.Infeasible = Unit {0}
IsOfSize n (claims.Unbounded a d) = (length a.items ≡ n) × (length d.items ≡ n)
