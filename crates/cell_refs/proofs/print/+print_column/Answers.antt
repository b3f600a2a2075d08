use Rattle.std.proofs.Common.{string_bytes, rules}
use Rattle.cell_refs.proofs.Columns.{appended}
use Rattle.cell_refs.proofs.print.+print_column.Goals as goal

pub returns : goal.returns
returns t c =
    appended c.print_letter-2.result c.args.col (string_bytes c.args.to.now) (string_bytes c.print_column.new.to) (string_bytes c.print_letter-2.new.to) (search rules) c.in_ok-print_column.ensures c.print_letter-2.ensures
