use Rattle.std.proofs.Common.{rules}
use Rattle.sheet_model.specs.Operators.{infix_value}
use Rattle.sheet_model.specs.declared.grid.Arg.TheVariants.{One}
use Rattle.sheet_model.proofs.InfixAnswers.{InfixAnswer, infix-answer}
use Rattle.sheet_model.proofs.Spreading.{turned_answers}
use Rattle.sheet_model.proofs.operators.infix.Goals as goal

-- two single values
of_ones : (c : goal.After-as_one) → InfixAnswer c.args.op c.args.a.now c.args.b.now c.as_one.result
of_ones c =
    infix-answer c.args.op c.args.a.now c.args.b.now _ _ c.as_one.result c.in-One-One.ensures c.in-One-One.ensures'
    (rw c.as_one.ensures (turned_answers One (infix_value c.args.op c.in-One-One.first.now c.in-One-One.second.now) c.infix_value.result c.infix_value.ensures))

pub returns-in-One-One-clause-exact : goal.returns-in-One-One-clause-exact
returns-in-One-One-clause-exact c = (of_ones c).exact

pub returns-in-One-One-clause-narrow : goal.returns-in-One-One-clause-narrow
returns-in-One-One-clause-narrow c = (of_ones c).narrow

-- a single value beside a grid
of_one_and_area : (c : goal.After-on_grid) → InfixAnswer c.args.op c.args.a.now c.args.b.now c.on_grid.result
of_one_and_area c =
    infix-answer c.args.op c.args.a.now c.args.b.now _ _ c.on_grid.result c.in-One-Area.ensures c.in-One-Area.ensures'
    (c.on_grid.ensures (infix_value c.args.op c.in-One-Area.first.now) (λ x r called. search rules))

pub returns-in-One-Area-clause-exact : goal.returns-in-One-Area-clause-exact
returns-in-One-Area-clause-exact c = (of_one_and_area c).exact

pub returns-in-One-Area-clause-narrow : goal.returns-in-One-Area-clause-narrow
returns-in-One-Area-clause-narrow c = (of_one_and_area c).narrow

-- a grid beside a single value
of_area_and_one : (c : goal.After-on_grid-in-Area-One) → InfixAnswer c.args.op c.args.a.now c.args.b.now c.on_grid-in-Area-One.result
of_area_and_one c =
    infix-answer c.args.op c.args.a.now c.args.b.now _ _ c.on_grid-in-Area-One.result c.in-Area-One.ensures c.in-Area-One.ensures'
    (c.on_grid-in-Area-One.ensures (λ x. infix_value c.args.op x c.in-Area-One.second.now) (λ x r called. search rules))

pub returns-in-Area-One-clause-exact : goal.returns-in-Area-One-clause-exact
returns-in-Area-One-clause-exact c = (of_area_and_one c).exact

pub returns-in-Area-One-clause-narrow : goal.returns-in-Area-One-clause-narrow
returns-in-Area-One-clause-narrow c = (of_area_and_one c).narrow

pub returns-in-Area-Area-clause-exact : goal.returns-in-Area-Area-clause-exact
returns-in-Area-Area-clause-exact c =
    (infix-answer c.args.op c.args.a.now c.args.b.now _ _ c.on_grids.result c.in-Area-Area.ensures c.in-Area-Area.ensures' c.on_grids.ensures).exact
