use Rattle.std.specs.Prelude.{Ok, Err}
use Rattle.sheet_linear_model.specs.Answers.{prepared_of}
use Rattle.sheet_prices.specs.Answers.{ComesTo}
use Rattle.sheet_prices.proofs.Numbers.{prices_fit, stop_fits}
use Rattle.sheet_prices.proofs.Told.{all_priced, all_said, all_true, all_true_stops, for_units}
use Rattle.sheet_prices.proofs.pricing.price_continuous.Goals as goal

pub tell-requires-clause-fits : goal.tell-requires-clause-fits
tell-requires-clause-fits c = prices_fit c.requires.prepared.0 c.requires.prepared.1 (prepared_of c.args.of.now) c.requires.prepared.2 c.in-Ok.found c.in-Ok.ensures.truth

pub tell_stop-requires-clause-fits : goal.tell_stop-requires-clause-fits
tell_stop-requires-clause-fits c =
    stop_fits c.requires.prepared.0 c.requires.prepared.1 (prepared_of c.args.of.now) c.requires.prepared.2 c.requires.aim c.args.units _ c.in-Err.stop c.in-Err.ensures.answer

pub returns-in-Ok-clause-prices : goal.returns-in-Ok-clause-prices
returns-in-Ok-clause-prices c =
    let p = prepared_of c.args.of.now in
    let comes : ComesTo p c.args.units (Ok c.in-Ok.found) = record { aim = c.requires.aim; continuous = c.requires.continuous; left = _; priced = c.in-Ok.ensures.answer } in
    all_priced p c.args.units (Ok c.in-Ok.found) c.tell.result comes (for_units p c.args.units c.in-Ok.found c.tell.result c.tell.ensures)

pub returns-in-Ok-clause-truth : goal.returns-in-Ok-clause-truth
returns-in-Ok-clause-truth c =
    let p = prepared_of c.args.of.now in
    all_true p c.args.units c.in-Ok.found c.tell.result c.requires.aim c.in-Ok.ensures.truth (for_units p c.args.units c.in-Ok.found c.tell.result c.tell.ensures)

pub returns-in-Ok-clause-said : goal.returns-in-Ok-clause-said
returns-in-Ok-clause-said c =
    let p = prepared_of c.args.of.now in
    all_said p c.args.units (Ok c.in-Ok.found) c.tell.result (for_units p c.args.units c.in-Ok.found c.tell.result c.tell.ensures)

pub returns-in-Err-clause-prices : goal.returns-in-Err-clause-prices
returns-in-Err-clause-prices c =
    let p = prepared_of c.args.of.now in
    let comes : ComesTo p c.args.units (Err c.in-Err.stop) = record { aim = c.requires.aim; continuous = c.requires.continuous; left = _; priced = c.in-Err.ensures.answer } in
    all_priced p c.args.units (Err c.in-Err.stop) c.tell_stop.result comes c.tell_stop.ensures

pub returns-in-Err-clause-truth : goal.returns-in-Err-clause-truth
returns-in-Err-clause-truth c = all_true_stops (prepared_of c.args.of.now) c.args.units c.in-Err.stop c.tell_stop.result c.tell_stop.ensures

pub returns-in-Err-clause-said : goal.returns-in-Err-clause-said
returns-in-Err-clause-said c = all_said (prepared_of c.args.of.now) c.args.units (Err c.in-Err.stop) c.tell_stop.result c.tell_stop.ensures
