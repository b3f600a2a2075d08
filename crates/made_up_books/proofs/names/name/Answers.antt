use Rattle.std.proofs.Common.{arith}
use Rattle.made_up_books.specs.Putting.{with_named}
use Rattle.made_up_books.proofs.NoFault.{no_name_fault}
use Rattle.made_up_books.proofs.names.name.Goals.{in-Err-Memory, in-Ok}
use Rattle.made_up_books.proofs.names.name.Goals as goal

pub returns : goal.returns
unfolding with_named
returns c = elim c.match-name.branch [ in-Ok w ↦ rw w.result-is w.in-Ok.ensures.1 | in-Err-Memory w ↦ rw w.result-is tt ]

pub unreachable-requires : goal.unreachable-requires
unreachable-requires c =
    let none = no_name_fault c.args.book.now c.args.name.now c.args.text.now c.requires.good c.requires.short_name c.requires.short c.requires.room in
    let said = c.in-Err.ensures in
    grind (arith, none, said)
