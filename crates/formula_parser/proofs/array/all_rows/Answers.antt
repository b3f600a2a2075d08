-- One row after the other.
use Rattle.std.proofs.Common.{sym, arith}
use Rattle.std.specs.Option.{option_map}
use Rattle.std.proofs.lemmas.Result.{err_from_is_err_and}
use Rattle.formula_grammar.specs.LeafReading.{is_bar}
use Rattle.formula_parser.specs.Settings.{seen}
use Rattle.formula_parser.proofs.Order.{others_are}
use Rattle.formula_parser.proofs.Turning.{mark_first, rows_begin, rows_differ, rows_done, rows_fails, rows_go, rows_less}
use Rattle.formula_parser.proofs.array.all_rows.Goals as goal

pub loop-behind-init : goal.loop-behind-init
loop-behind-init c = record {
  far = rows_begin (seen c.args.setting.now) c.args.symbols.now c.in_ok-first.first.count (option_map (λ v. v.items) c.in_ok-first.first.exprs) c.in_ok-first.rest.now c.in_ok-first.ensures.gives;
  symbols = c.in_ok-first.ensures.rest;
}

pub row-requires-in-Some : goal.row-requires-in-Some
row-requires-in-Some c =
    let first = mark_first is_bar c.loop-behind.rest.now c.in-Some.behind.now (sym c.in-Some.ensures) in
    others_are c.args.setting.now.text.now first.0 c.in-Some.behind.now c.loop-behind.rest.now first.1 c.loop-behind.invariant.symbols

pub returns-in_err-next-clause-gives : goal.returns-in_err-next-clause-gives
returns-in_err-next-clause-gives c =
    let p = err_from_is_err_and c.from_residual-in_err-next.result c.from_residual-in_err-next.ensures.1 in
    rw (p.1, p.2) (rows_fails (seen c.args.setting.now) c.args.symbols.now c.loop-behind.rows.count c.loop-behind.rows.columns (option_map (λ v. v.items) c.loop-behind.rows.exprs) c.loop-behind.rest.now c.in-Some.behind.now
    c.loop-behind.invariant.far (sym c.in-Some.ensures) c.in_err-next.field-0.0 c.in_err-next.ensures.gives)

pub returns-in_err-rows-clause-gives : goal.returns-in_err-rows-clause-gives
returns-in_err-rows-clause-gives c =
    let p = err_from_is_err_and c.from_residual-in_err-rows.result c.from_residual-in_err-rows.ensures.1 in
    rw (p.1, p.2) (rows_differ (seen c.args.setting.now) c.args.symbols.now c.loop-behind.rows.count c.loop-behind.rows.columns (option_map (λ v. v.items) c.loop-behind.rows.exprs) c.loop-behind.rest.now c.in-Some.behind.now
    c.loop-behind.invariant.far (sym c.in-Some.ensures) c.in_ok-next.next.count (option_map (λ v. v.items) c.in_ok-next.next.exprs) c.in_ok-next.others.now c.in_ok-next.ensures.gives c.in_err-rows.field-0.0 c.in_err-rows.ensures)

pub loop-behind-smaller : goal.loop-behind-smaller
loop-behind-smaller c =
    let less = rows_less (seen c.args.setting.now) c.args.symbols.now c.loop-behind.rows.count c.loop-behind.rows.columns (option_map (λ v. v.items) c.loop-behind.rows.exprs) c.loop-behind.rest.now c.in-Some.behind.now
    c.loop-behind.invariant.far (sym c.in-Some.ensures) c.in_ok-next.next.count (option_map (λ v. v.items) c.in_ok-next.next.exprs) c.in_ok-next.others.now c.in_ok-next.ensures.gives in
    omega arith

pub loop-behind-preserved : goal.loop-behind-preserved
loop-behind-preserved c = record {
  far =
      rows_go (seen c.args.setting.now) c.args.symbols.now c.loop-behind.rows.count c.loop-behind.rows.columns (option_map (λ v. v.items) c.loop-behind.rows.exprs) c.loop-behind.rest.now c.in-Some.behind.now
      c.loop-behind.invariant.far (sym c.in-Some.ensures) c.in_ok-next.next.count (option_map (λ v. v.items) c.in_ok-next.next.exprs) c.in_ok-next.others.now c.in_ok-next.ensures.gives
      c.in_ok-rows.rows.count c.in_ok-rows.rows.columns (option_map (λ v. v.items) c.in_ok-rows.rows.exprs) c.in_ok-rows.ensures;
  symbols = c.in_ok-next.ensures.rest;
}

pub returns-clause-gives : goal.returns-clause-gives
returns-clause-gives c =
    rows_done (seen c.args.setting.now) c.args.symbols.now c.loop-behind.rows.count c.loop-behind.rows.columns (option_map (λ v. v.items) c.loop-behind.rows.exprs) c.loop-behind.rest.now c.loop-behind.invariant.far (sym c.in_default.ensures)
