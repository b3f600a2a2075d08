use Rattle.std.proofs.Common.{[]}
use Rattle.kept_book.proofs.Stays.{once_set}
use Rattle.kept_book.proofs.TextLaws.{no_formula}
use Rattle.kept_book.proofs.kept_book.KeptBook.clear.Goals as goal

pub follow-requires : goal.follow-requires
follow-requires c = (c.self.inside.book, c.self.invariant, once_set c.self.inside.book c.clear.new.self c.args.cell [] c.clear.ensures)

pub unreachable-requires : goal.unreachable-requires
unreachable-requires c = no_formula c.self.inside.book c.clear.new.self c.args.cell c.clear.ensures c.in-Err.ensures.some

pub returns-clause-marked : goal.returns-clause-marked
returns-clause-marked c = rw (← c.self.view_is) (c.in-Ok.ensures.followed c.self.inside.book)
