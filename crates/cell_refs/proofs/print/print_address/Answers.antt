use Rattle.cell_refs.proofs.Addresses.{reads_back}
use Rattle.cell_refs.proofs.Columns.{numbered}
use Rattle.cell_refs.proofs.print.print_address.Goals as goal

pub returns-in_err-append_address-clause-column : goal.returns-in_err-append_address-clause-column
returns-in_err-append_address-clause-column c = numbered c.args.col

pub returns-in_err-append_address-clause-reads_back : goal.returns-in_err-append_address-clause-reads_back
returns-in_err-append_address-clause-reads_back c = reads_back c.args.row c.args.col

pub returns-in_err-push_str-clause-column : goal.returns-in_err-push_str-clause-column
returns-in_err-push_str-clause-column c = numbered c.args.col

pub returns-in_err-push_str-clause-reads_back : goal.returns-in_err-push_str-clause-reads_back
returns-in_err-push_str-clause-reads_back c = reads_back c.args.row c.args.col

pub returns-clause-column : goal.returns-clause-column
returns-clause-column c = numbered c.args.col

pub returns-clause-reads_back : goal.returns-clause-reads_back
returns-clause-reads_back c = reads_back c.args.row c.args.col
