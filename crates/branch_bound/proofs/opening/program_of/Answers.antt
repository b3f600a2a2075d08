use Rattle.std.proofs.Common.{◌∙◌, sym, subst}
use Rattle.std.specs.Option.{option_map}
use Rattle.linear_models.specs.Box.{Box}
use Rattle.linear_models.specs.Laws.{IsBoxOf}
use Rattle.branch_bound.specs.States.{path_of, waiting_of, way_of}
use Rattle.branch_bound.proofs.Programs.{part_box, columns_of, plain_where, program_is}
use Rattle.branch_bound.proofs.opening.program_of.Goals as goal

pub standard-requires : goal.standard-requires
standard-requires c =
    let m = c.args.model.now in
    let ps = path_of c.args.frontier.now.paths.paths c.args.info.now.number in
    record { fits = subst (λ (x : Box). IsBoxOf m x) (sym c.requires) (part_box m ps c.whole-whole.ensures.valid) }

pub returns-clause-program : goal.returns-clause-program
returns-clause-program c =
    let way = c.args.frontier.now.way in
    program_is c.args.model.now c.args.within.now (waiting_of c.args.frontier.now.paths.paths c.args.info.now) (option_map way_of way) c.is_some.result c.standard.result
    c.requires (c.is_some.ensures ∙ plain_where way) c.standard.ensures.program

pub returns-clause-columns : goal.returns-clause-columns
returns-clause-columns c =
    let m = c.args.model.now in
    let ps = path_of c.args.frontier.now.paths.paths c.args.info.now.number in
    columns_of m c.args.within.now _ c.standard.result (subst (λ (x : Box). IsBoxOf m x) (sym c.requires) (part_box m ps c.whole-whole.ensures.valid)) c.standard.ensures.program
