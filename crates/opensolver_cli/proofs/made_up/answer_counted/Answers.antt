use Rattle.opensolver_cli.proofs.MadeUpLaws.{opened_so}
use Rattle.opensolver_cli.proofs.made_up.answer_counted.Goals as goal

pub answer_over-requires : goal.answer_over-requires
answer_over-requires g c = record { opened = opened_so c.args.size c.in_ok-book.book c.in_ok-session.session c.in_ok-book.ensures c.in_ok-session.ensures }
