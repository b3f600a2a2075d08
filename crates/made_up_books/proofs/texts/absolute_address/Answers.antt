use Rattle.std.proofs.Common.{length, ap, arith}
use Rattle.std.specs.Prelude.{string_bytes}
use Rattle.made_up_books.specs.MadeUp.{absolute_address_text}
use Rattle.made_up_books.proofs.Short.{short_absolute, short_joined}
use Rattle.made_up_books.proofs.texts.absolute_address.Goals as goal

pub returns-clause-short : goal.returns-clause-short
returns-clause-short c =
    let here = short_absolute c.args.row c.args.col c.ranges.row.fits c.requires in
    let none = ap length c.new-text.ensures.bytes in
    short_joined 100 (string_bytes c.print_absolute.new.to) (string_bytes c.new-text.result) (absolute_address_text c.args.row c.args.col) c.in_ok-print_absolute.ensures (omega arith)
