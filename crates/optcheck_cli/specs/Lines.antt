-- The line that a run prints, and the status that goes with it.
use Rattle.std.specs.Prelude.{ℕ, List, ◌++◌, Option, Some, None, codes, decimal}
use Rattle.fractions.specs.Rational.{ℚ}
use Rattle.frac128.specs.Printed.{printed}
use Rattle.opt_certificate.specs.Certificate.{Claim, infeasible, optimal, unbounded}
use Rattle.certificate_lines.specs.Cert.{Cert}
use Rattle.commands.specs.Lines.{answer_text}
use Rattle.run_inputs.specs.Stops.{stop_line}
use Rattle.run_inputs.specs.declared.stop.Stop.TheVariants as stop
use Rattle.optcheck_cli.specs.Words.{Asked}
use Rattle.optcheck_cli.specs.declared.halt.Halt.{Halt}
use Rattle.optcheck_cli.specs.declared.halt.Halt.TheVariants as halt
use Rattle.optcheck_cli.specs.declared.status.CheckStatus.{CheckStatus}
use Rattle.optcheck_cli.specs.declared.status.CheckStatus.TheVariants as status
use Rattle.optcheck_cli.specs.declared.verdict.Verdict.{Verdict}
use Rattle.optcheck_cli.specs.declared.verdict.Verdict.TheVariants as verdict

abbrev pub usage_line : List ℕ
usage_line = codes "usage: optcheck --names FILE --cert FILE FILE...\n"

-- ---- before the check
-- why it isn't made: a cause of the files of the workbook, or one of the certificate's file
abbrev pub halt_line : Asked → Halt → List ℕ
halt_line asked (halt.Files cause) = stop_line asked.named cause
halt_line asked halt.Missing = codes "bad-input " ++ (asked.certificate ++ codes " missing\n")
halt_line asked (halt.NotUtf8 place) = codes "bad-input " ++ (asked.certificate ++ (codes " not-utf8 " ++ (decimal place ++ codes "\n")))
halt_line asked (halt.Line line) = codes "bad-input " ++ (asked.certificate ++ (codes " cert " ++ (decimal line ++ codes "\n")))

abbrev pub status_of : Halt → CheckStatus
status_of (halt.Files (stop.TooMuch kind)) = status.Limit
status_of (halt.Files (stop.BadInput of why)) = status.BadInput
status_of halt.Missing = status.BadInput
status_of (halt.NotUtf8 place) = status.BadInput
status_of (halt.Line line) = status.BadInput

-- ---- the verdict
-- `yes` and what the certificate's first line says behind `cert`
abbrev pub yes_line : Claim → Option ℚ → List ℕ
yes_line (optimal point) None = codes "yes optimal\n"
yes_line (optimal point) (Some value) = codes "yes optimal " ++ (printed value ++ codes "\n")
yes_line infeasible value = codes "yes infeasible\n"
yes_line (unbounded point direction) value = codes "yes unbounded\n"

-- the verdict, where the sheets have these names
abbrev pub verdict_line : List (List ℕ) → Cert → Verdict → List ℕ
verdict_line sheets cert verdict.Yes = yes_line cert.claim cert.value
verdict_line sheets cert verdict.No = codes "no\n"
verdict_line sheets cert (verdict.Wide node) = codes "wide " ++ (decimal node ++ codes "\n")
verdict_line sheets cert (verdict.Refused answer) = answer_text sheets answer

abbrev pub status_by : Verdict → CheckStatus
status_by verdict.Yes = status.Yes
status_by verdict.No = status.No
status_by (verdict.Wide node) = status.No
status_by (verdict.Refused answer) = status.No
