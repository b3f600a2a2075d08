-- An array between its braces.
use Rattle.std.proofs.Common.{refl, sym}
use Rattle.std.specs.Option.{option_map}
use Rattle.std.proofs.lemmas.Result.{err_from_is_err_and}
use Rattle.formula_grammar.specs.LeafReading.{is_close_brace}
use Rattle.formula_parser.specs.Settings.{seen}
use Rattle.formula_parser.proofs.Arrays.{array_fails, array_few, array_forward, array_front, array_gives, array_open, array_rectangular, array_within}
use Rattle.formula_parser.proofs.Order.{others_are, sign_first}
use Rattle.formula_parser.proofs.array.array.Goals as goal

pub returns-in_err-rows-clause-gives : goal.returns-in_err-rows-clause-gives
returns-in_err-rows-clause-gives c =
    let p = err_from_is_err_and c.from_residual.result c.from_residual.ensures.1 in
    rw (p.1, p.2) (array_fails (seen c.args.setting.now) c.in_err-rows.field-0.0 c.args.first c.args.symbols.now c.in_err-rows.ensures.gives)

pub returns-in_default-clause-gives : goal.returns-in_default-clause-gives
returns-in_default-clause-gives c =
    array_open (seen c.args.setting.now) c.args.first c.args.symbols.now c.in_ok-rows.rows.count c.in_ok-rows.rows.columns (option_map (λ v. v.items) c.in_ok-rows.rows.exprs) c.in_ok-rows.rest.now c.in_ok-rows.ensures.gives (sym c.in_default.ensures)

pub between-requires-clause-forward : goal.between-requires-clause-forward
between-requires-clause-forward c =
    array_forward (seen c.args.setting.now) c.args.first c.args.symbols.now c.in_ok-rows.rows.count c.in_ok-rows.rows.columns (option_map (λ v. v.items) c.in_ok-rows.rows.exprs) c.in_ok-rows.rest.now c.in_ok-rows.ensures.gives
    c.requires.first c.requires.symbols c.requires.order c.in-Some.last c.in-Some.after.now (sym c.in-Some.ensures)

pub between-requires-clause-few : goal.between-requires-clause-few
between-requires-clause-few c =
    array_few (seen c.args.setting.now) c.args.first c.args.symbols.now c.in_ok-rows.rows.count c.in_ok-rows.rows.columns (option_map (λ v. v.items) c.in_ok-rows.rows.exprs) c.in_ok-rows.rest.now c.in_ok-rows.ensures.gives
    c.requires.first c.requires.symbols c.requires.order c.in-Some.last c.in-Some.after.now (sym c.in-Some.ensures)

pub between-requires-clause-rectangular : goal.between-requires-clause-rectangular
between-requires-clause-rectangular c =
    array_rectangular (seen c.args.setting.now) c.args.first c.args.symbols.now c.in_ok-rows.rows.count c.in_ok-rows.rows.columns (option_map (λ v. v.items) c.in_ok-rows.rows.exprs) c.in_ok-rows.rest.now c.in_ok-rows.ensures.gives
    c.requires.first c.requires.symbols c.requires.order c.in-Some.last c.in-Some.after.now (sym c.in-Some.ensures)
    (λ v. v.items) c.in_ok-rows.rows.exprs refl

pub between-requires-clause-within : goal.between-requires-clause-within
between-requires-clause-within c =
    array_within (seen c.args.setting.now) c.args.first c.args.symbols.now c.in_ok-rows.rows.count c.in_ok-rows.rows.columns (option_map (λ v. v.items) c.in_ok-rows.rows.exprs) c.in_ok-rows.rest.now c.in_ok-rows.ensures.gives
    c.requires.first c.requires.symbols c.requires.order c.in-Some.last c.in-Some.after.now (sym c.in-Some.ensures)
    (λ v. v.items) c.in_ok-rows.rows.exprs refl

pub returns-clause-gives : goal.returns-clause-gives
returns-clause-gives c =
    array_gives (seen c.args.setting.now) c.args.first c.args.symbols.now c.in_ok-rows.rows.count c.in_ok-rows.rows.columns (option_map (λ v. v.items) c.in_ok-rows.rows.exprs) c.in_ok-rows.rest.now c.in_ok-rows.ensures.gives
    c.requires.first c.requires.symbols c.requires.order c.in-Some.last c.in-Some.after.now (sym c.in-Some.ensures)
    (λ v. v.items) c.in_ok-rows.rows.exprs refl c.between.result c.between.ensures.branch c.between.ensures.place

pub returns-clause-placed : goal.returns-clause-placed
returns-clause-placed c =
    array_front (seen c.args.setting.now) c.args.first c.args.symbols.now c.in_ok-rows.rows.count c.in_ok-rows.rows.columns (option_map (λ v. v.items) c.in_ok-rows.rows.exprs) c.in_ok-rows.rest.now c.in_ok-rows.ensures.gives
    c.requires.first c.requires.symbols c.requires.order c.in-Some.last c.in-Some.after.now (sym c.in-Some.ensures)
    (λ v. v.items) c.in_ok-rows.rows.exprs c.between.result c.between.ensures.branch c.between.ensures.place

pub returns-clause-rest : goal.returns-clause-rest
returns-clause-rest c =
    others_are c.args.setting.now.text.now c.in-Some.last c.in-Some.after.now c.in_ok-rows.rest.now (sign_first is_close_brace c.in_ok-rows.rest.now c.in-Some.last c.in-Some.after.now (sym c.in-Some.ensures)) c.in_ok-rows.ensures.rest
