use Rattle.std.proofs.Common.{arith}
use Rattle.std.specs.Prelude.{codes, string_bytes}
use Rattle.cell_refs.specs.Address.{address_text}
use Rattle.made_up_books.proofs.Short.{short_address, short_joined, short_same}
use Rattle.made_up_books.proofs.texts.area.Goals as goal

pub returns-clause-short : goal.returns-clause-short
returns-clause-short c =
    let first = short_address c.args.top c.args.left c.ranges.top.fits c.requires.left in
    let last = short_address c.args.bottom c.args.right c.ranges.bottom.fits c.requires.right in
    let one = short_same 6 (string_bytes c.in_ok-text.text) (address_text c.args.top c.args.left) c.in_ok-text.ensures first in
    let two = short_joined 7 (string_bytes c.push_str.new.self) (string_bytes c.in_ok-text.text) (codes ":") c.in_ok-push_str.ensures.bytes (omega arith) in
    short_joined 100 (string_bytes c.print_address.new.to) (string_bytes c.push_str.new.self) (address_text c.args.bottom c.args.right) c.in_ok-print_address.ensures.ok (omega arith)
