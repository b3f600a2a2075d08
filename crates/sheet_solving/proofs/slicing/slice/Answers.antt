use Rattle.std.proofs.Common.{Ok, Err}
use Rattle.solver_names.specs.Answers.{statement_of}
use Rattle.sheet_solving.specs.Inner.{opened_of}
use Rattle.sheet_solving.proofs.Budgets.{all_stops_left, all_told_left, few_seen, left_seen}
use Rattle.sheet_solving.proofs.Ends.{all_listed, all_stops, all_told, further, further_at_stop, seen}
use Rattle.sheet_solving.proofs.slicing.slice.Goals as goal

pub returns-in-Ok-clause-slices : goal.returns-in-Ok-clause-slices
returns-in-Ok-clause-slices g c =
    all_told _ c.args.book.now c.tell-told.new.book _ _ (opened_of c.spend.new.search) c.in-Ok.end c.units.result c.tell-told.result c.requires.model c.requires.whole c.units.ensures.value
    (seen _ c.args.allowed.units c.args.allowed.budget (opened_of c.search.inside.search) c.args.search.now (opened_of c.spend.new.search) (Ok c.in-Ok.end) c.search.view_is c.in-Ok.ensures.runs)
    c.tell-told.ensures.tells

pub returns-in-Ok-clause-further : goal.returns-in-Ok-clause-further
returns-in-Ok-clause-further g c =
    further _ _ (opened_of c.spend.new.search) c.in-Ok.end
    (seen _ c.args.allowed.units c.args.allowed.budget (opened_of c.search.inside.search) c.args.search.now (opened_of c.spend.new.search) (Ok c.in-Ok.end) c.search.view_is c.in-Ok.ensures.runs)

pub returns-in-Err-clause-slices : goal.returns-in-Err-clause-slices
returns-in-Err-clause-slices g c =
    all_stops _ c.args.book.now _ _ (opened_of c.spend.new.search) c.in-Err.stop c.tell_stop.result
    (seen _ c.args.allowed.units c.args.allowed.budget (opened_of c.search.inside.search) c.args.search.now (opened_of c.spend.new.search) (Err c.in-Err.stop) c.search.view_is c.in-Err.ensures.runs)
    c.tell_stop.ensures

pub returns-in-Err-clause-said : goal.returns-in-Err-clause-said
returns-in-Err-clause-said g c =
    let p = c.requires.prepared in
    all_listed _ c.args.book.now p.0 p.1 _ c.args.search.now.model (opened_of c.spend.new.search) c.in-Err.stop c.tell_stop.result p.2 p.3 p.4 c.requires.whole
    (seen ((goal.Picker-dyn g (c.args.pick.now.vtable, c.args.pick.now.value)).rule c.args.pick.now.value) c.args.allowed.units c.args.allowed.budget (opened_of c.search.inside.search) c.args.search.now
    (opened_of c.spend.new.search) (Err c.in-Err.stop) c.search.view_is c.in-Err.ensures.runs)
    c.tell_stop.ensures

pub returns-in-Err-clause-further : goal.returns-in-Err-clause-further
returns-in-Err-clause-further g c =
    further_at_stop _ _ (opened_of c.spend.new.search) c.in-Err.stop
    (seen _ c.args.allowed.units c.args.allowed.budget (opened_of c.search.inside.search) c.args.search.now (opened_of c.spend.new.search) (Err c.in-Err.stop) c.search.view_is c.in-Err.ensures.runs)

pub returns-in-Ok-clause-enough : goal.returns-in-Ok-clause-enough
returns-in-Ok-clause-enough g c b l =
    all_told_left c.args.book.now c.tell-told.new.book (statement_of c.args.statement.now) c.in-Ok.end c.units.result c.tell-told.result c.tell-told.ensures.tells

pub returns-in-Err-clause-enough : goal.returns-in-Err-clause-enough
returns-in-Err-clause-enough g c b l =
    all_stops_left _ c.in-Err.stop c.tell_stop.result
    (left_seen (opened_of c.search.inside.search) c.args.search.now c.args.allowed.budget c.in-Err.stop c.search.view_is c.in-Err.ensures.enough b l)
    c.tell_stop.ensures

pub returns-in-Ok-clause-few : goal.returns-in-Ok-clause-few
returns-in-Ok-clause-few g c = few_seen (opened_of c.search.inside.search) c.args.search.now _ c.search.view_is c.in-Ok.ensures.few

pub returns-in-Err-clause-few : goal.returns-in-Err-clause-few
returns-in-Err-clause-few g c = few_seen (opened_of c.search.inside.search) c.args.search.now _ c.search.view_is c.in-Err.ensures.few
