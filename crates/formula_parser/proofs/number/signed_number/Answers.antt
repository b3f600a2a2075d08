-- A number behind its sign.
use Rattle.std.proofs.Common.{◌-◌, length, take, drop}
use Rattle.std.proofs.lemmas.Result.{err_from_is_err_and}
use Rattle.formula_grammar.specs.declared.symbol.Sign.TheVariants as sign
use Rattle.formula_grammar.specs.declared.symbol.Symbol.{Symbol}
use Rattle.formula_parser.specs.Settings.{seen}
use Rattle.formula_parser.proofs.Order.{tail_are}
use Rattle.formula_parser.proofs.ItemsRead.{first_others, signed_fails, signed_found}
use Rattle.formula_parser.proofs.number.signed_number.Goals as goal

-- any symbol
none : Symbol
none = record { sign = sign.Number; span = record { start = 0; end = 0 } }

pub returns-in_err-expr-in-Number-clause-gives : goal.returns-in_err-expr-in-Number-clause-gives
returns-in_err-expr-in-Number-clause-gives c =
    let p = err_from_is_err_and c.from_residual.result c.from_residual.ensures.1 in
    rw (p.1, p.2) (signed_fails (seen c.args.setting.now) c.args.sign _ c.args.symbols.now (take (length c.args.symbols.now - 1) (drop 1 c.args.symbols.now)) (first_others c.args.symbols.now _ c.in-len1-up.len_at_least) c.in-Number.is
    c.is_negative.result c.is_negative.ensures c.from_to-at.result c.from_to-at.ensures c.in_err-expr-in-Number.field-0.0 c.in_err-expr-in-Number.ensures)

pub returns-in_ok-expr-in-Number-clause-gives : goal.returns-in_ok-expr-in-Number-clause-gives
returns-in_ok-expr-in-Number-clause-gives c =
    signed_found (seen c.args.setting.now) c.args.sign _ c.args.symbols.now (take (length c.args.symbols.now - 1) (drop 1 c.args.symbols.now)) (first_others c.args.symbols.now _ c.in-len1-up.len_at_least) c.in-Number.is
    c.is_negative.result c.is_negative.ensures c.from_to-at.result c.from_to-at.ensures c.in_ok-expr-in-Number.expr c.in_ok-expr-in-Number.ensures

pub returns-in_ok-expr-in-Number-clause-rest : goal.returns-in_ok-expr-in-Number-clause-rest
returns-in_ok-expr-in-Number-clause-rest c = tail_are c.args.setting.now.text.now c.args.symbols.now none c.in-len1-up.len_at_least c.requires.symbols
