use Rattle.certificate_lines.proofs.TwoCases.{stops_in_two_cases}
use Rattle.certificate_lines.proofs.stops_in_two_cases.Goals as goal

pub returns : goal.returns
returns c = stops_in_two_cases
