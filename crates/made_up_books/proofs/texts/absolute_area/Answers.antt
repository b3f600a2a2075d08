use Rattle.std.proofs.Common.{arith}
use Rattle.std.specs.Prelude.{codes, string_bytes}
use Rattle.made_up_books.specs.MadeUp.{absolute_address_text}
use Rattle.made_up_books.proofs.Short.{short_absolute, short_joined, short_same}
use Rattle.made_up_books.proofs.texts.absolute_area.Goals as goal

pub returns-clause-short : goal.returns-clause-short
returns-clause-short c =
    let first = short_absolute c.args.top c.args.left c.ranges.top.fits c.requires.left in
    let last = short_absolute c.args.bottom c.args.right c.ranges.bottom.fits c.requires.right in
    let one = short_same 8 (string_bytes c.in_ok-text.text) (absolute_address_text c.args.top c.args.left) c.in_ok-text.ensures.text first in
    let two = short_joined 9 (string_bytes c.push_str.new.self) (string_bytes c.in_ok-text.text) (codes ":") c.in_ok-push_str.ensures.bytes (omega arith) in
    short_joined 100 (string_bytes c.print_absolute.new.to) (string_bytes c.push_str.new.self) (absolute_address_text c.args.bottom c.args.right) c.in_ok-print_absolute.ensures (omega arith)
