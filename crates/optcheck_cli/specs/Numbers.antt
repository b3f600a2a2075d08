-- The number with which the program ends.
use Rattle.std.specs.Prelude.{ℕ}
use Rattle.optcheck_cli.specs.declared.status.CheckStatus.{CheckStatus}
use Rattle.optcheck_cli.specs.declared.status.CheckStatus.TheVariants as status

abbrev pub number_of : CheckStatus → ℕ
number_of status.Yes = 0
number_of status.No = 1
number_of status.Usage = 2
number_of status.ReadFault = 3
number_of status.WriteFault = 4
number_of status.Memory = 5
number_of status.Limit = 6
number_of status.BadInput = 7
