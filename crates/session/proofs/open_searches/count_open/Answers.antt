use Rattle.std.proofs.Common.{rules, tests}
use Rattle.std.specs.Prelude.{is_some}
use Rattle.std.proofs.lemmas.Iterator.{YieldsList-from_slice}
use Rattle.std.proofs.lemmas.Iterator.Consumers.{YieldsList-from_filter, count_from_yields_List}
use Rattle.session.proofs.open_searches.count_open.Goals as goal

pub returns : goal.returns
returns c = count_from_yields_List c.filter.result _ c.count.ensures.ran (YieldsList-from_filter _ is_some (YieldsList-from_slice c.args.searches.now (cc)) c.filter.ensures.closure (λ x b q k. search (rules, tests)))
