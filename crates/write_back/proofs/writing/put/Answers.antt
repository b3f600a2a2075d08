use Rattle.std.proofs.Common.{map, string_bytes, ap, ◌∙◌}
use Rattle.write_back.proofs.Written.{puts, recalculated, sides}
use Rattle.write_back.proofs.writing.put.Goals as goal

pub returns-clause-puts : goal.returns-clause-puts
returns-clause-puts c =
    let texts = map string_bytes c.as_slice.result.now in
    puts c.args.book.now c.set_all.new.self c.args.adj.now c.args.numbers.now texts c.set_all.result (ap (map string_bytes) c.as_slice.ensures.value ∙ c.in-Ok.ensures.texts) c.set_all.ensures

pub returns-clause-recalculated : goal.returns-clause-recalculated
returns-clause-recalculated c =
    recalculated c.args.book.now c.set_all.new.self c.args.adj.now c.args.numbers.now c.requires.each c.requires.distinct c.in-Ok.ensures.narrow c.set_all.result (returns-clause-puts c)

pub returns-clause-sides : goal.returns-clause-sides
returns-clause-sides c =
    sides c.args.book.now c.set_all.new.self c.args.adj.now c.args.numbers.now c.requires.each c.requires.distinct c.in-Ok.ensures.narrow c.set_all.result (returns-clause-puts c)
