use Rattle.std.proofs.Common.{sym, subst}
use Rattle.opt_certificate.specs.Claims.{claim_of}
use Rattle.opt_certificate.specs.declared.checking.Claim.{Claim}
use Rattle.optcheck_cli.proofs.Printed.{SaysOf, at_point}
use Rattle.optcheck_cli.proofs.say.yes_line.Goals as goal

pub returns-in-Optimal : goal.returns-in-Optimal
returns-in-Optimal c =
    subst (λ (k : Claim). SaysOf (claim_of k) c.args.value c.optimal_line.result) (sym c.in-Optimal.is)
    (at_point c.optimal_line.result c.args.value c.in-Optimal.field-0.items c.optimal_line.ensures)
