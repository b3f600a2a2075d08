-- One item after the other.
use Rattle.std.proofs.Common.{sym, arith}
use Rattle.std.specs.Option.{option_map}
use Rattle.std.proofs.lemmas.Result.{err_from_is_err_and}
use Rattle.formula_grammar.specs.LeafReading.{is_semicolon}
use Rattle.formula_parser.specs.Settings.{seen}
use Rattle.formula_parser.proofs.Order.{others_are}
use Rattle.formula_parser.proofs.Turning.{mark_first, row_begins, row_done, row_fails, row_fails_first, row_goes, row_less}
use Rattle.formula_parser.proofs.array.row.Goals as goal

pub returns-in_err-first-clause-gives : goal.returns-in_err-first-clause-gives
returns-in_err-first-clause-gives c =
    let p = err_from_is_err_and c.from_residual.result c.from_residual.ensures.1 in
    rw (p.1, p.2) (row_fails_first (seen c.args.setting.now) c.in_err-first.field-0.0 c.args.symbols.now c.in_err-first.ensures.gives)

pub loop-behind-init : goal.loop-behind-init
loop-behind-init c = record {
  far =
      row_begins (seen c.args.setting.now) c.args.symbols.now c.in_ok-first.first c.in_ok-items.items.count (option_map (λ v. v.items) c.in_ok-items.items.exprs) c.in_ok-first.rest.now c.in_ok-first.ensures.gives
      c.in_ok-items.ensures.count c.in_ok-items.ensures.exprs;
  symbols = c.in_ok-first.ensures.rest;
}

pub item-requires-in-Some : goal.item-requires-in-Some
item-requires-in-Some c =
    let first = mark_first is_semicolon c.loop-behind.rest.now c.in-Some.behind.now (sym c.in-Some.ensures) in
    others_are c.args.setting.now.text.now first.0 c.in-Some.behind.now c.loop-behind.rest.now first.1 c.loop-behind.invariant.symbols

pub returns-in_err-next-clause-gives : goal.returns-in_err-next-clause-gives
returns-in_err-next-clause-gives c =
    let p = err_from_is_err_and c.from_residual-in_err-next.result c.from_residual-in_err-next.ensures.1 in
    rw (p.1, p.2) (row_fails (seen c.args.setting.now) c.args.symbols.now c.loop-behind.items.count (option_map (λ v. v.items) c.loop-behind.items.exprs) c.loop-behind.rest.now c.in-Some.behind.now
    c.loop-behind.invariant.far (sym c.in-Some.ensures) c.in_err-next.field-0.0 c.in_err-next.ensures.gives)

pub loop-behind-smaller : goal.loop-behind-smaller
loop-behind-smaller c =
    let less = row_less (seen c.args.setting.now) c.args.symbols.now c.loop-behind.items.count (option_map (λ v. v.items) c.loop-behind.items.exprs) c.loop-behind.rest.now c.in-Some.behind.now
    c.loop-behind.invariant.far (sym c.in-Some.ensures) c.in_ok-next.next c.in_ok-next.others.now c.in_ok-next.ensures.gives in
    omega arith

pub loop-behind-preserved : goal.loop-behind-preserved
loop-behind-preserved c = record {
  far =
      row_goes (seen c.args.setting.now) c.args.symbols.now c.loop-behind.items.count (option_map (λ v. v.items) c.loop-behind.items.exprs) c.loop-behind.rest.now c.in-Some.behind.now
      c.loop-behind.invariant.far (sym c.in-Some.ensures) c.in_ok-next.next c.in_ok-next.others.now c.in_ok-items-2.items.count (option_map (λ v. v.items) c.in_ok-items-2.items.exprs) c.in_ok-next.ensures.gives
      c.in_ok-items-2.ensures.count c.in_ok-items-2.ensures.exprs;
  symbols = c.in_ok-next.ensures.rest;
}

pub returns-clause-gives : goal.returns-clause-gives
returns-clause-gives c =
    row_done (seen c.args.setting.now) c.args.symbols.now c.loop-behind.items.count (option_map (λ v. v.items) c.loop-behind.items.exprs) c.loop-behind.rest.now c.loop-behind.invariant.far (sym c.in_default.ensures)
