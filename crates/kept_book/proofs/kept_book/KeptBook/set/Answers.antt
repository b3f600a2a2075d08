use Rattle.kept_book.proofs.Stays.{once_set}
use Rattle.kept_book.proofs.TextLaws.{wants_text}
use Rattle.kept_book.proofs.kept_book.KeptBook.set.Goals as goal

pub follow-requires : goal.follow-requires
follow-requires c = (c.self.inside.book, c.self.invariant, once_set c.self.inside.book c.set.new.self c.args.cell c.args.text.now c.in_ok-set.ensures.1)

pub returns : goal.returns
returns c =
    rw (← c.self.view_is)
    (c.in_ok-set.ensures, c.follow.ensures.followed c.self.inside.book, wants_text c.follow.result c.self.inside.book c.set.new.self c.args.cell c.args.text.now c.in_ok-set.ensures.1 c.follow.ensures.some)
