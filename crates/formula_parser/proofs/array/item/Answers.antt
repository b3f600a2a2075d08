-- An item.
use Rattle.std.proofs.Common.{◌-◌, length, take, drop, ap, ◌∙◌}
use Rattle.formula_grammar.specs.declared.symbol.Sign.TheVariants as sign
use Rattle.formula_grammar.specs.declared.symbol.Symbol.{Symbol}
use Rattle.formula_parser.specs.Settings.{seen}
use Rattle.formula_parser.proofs.Order.{tail_are}
use Rattle.formula_parser.proofs.ItemsRead.{before, constant_is, first_others, number_is, whole_before}
use Rattle.formula_parser.proofs.array.item.Goals as goal

-- any symbol
none : Symbol
none = record { sign = sign.Number; span = record { start = 0; end = 0 } }

pub signed_number-requires-clause-symbols : goal.signed_number-requires-clause-symbols
signed_number-requires-clause-symbols c = tail_are c.args.setting.now.text.now c.args.symbols.now none c.in-len1-up.len_at_least c.requires

pub signed_number-requires-in-Minus-clause-symbols : goal.signed_number-requires-in-Minus-clause-symbols
signed_number-requires-in-Minus-clause-symbols c = tail_are c.args.setting.now.text.now c.args.symbols.now none c.in-len1-up.len_at_least c.requires

pub returns-in_ok-expr-in-Number-clause-gives : goal.returns-in_ok-expr-in-Number-clause-gives
returns-in_ok-expr-in-Number-clause-gives c =
    number_is (seen c.args.setting.now) _ c.args.symbols.now (take (length c.args.symbols.now - 1) (drop 1 c.args.symbols.now)) (first_others c.args.symbols.now _ c.in-len1-up.len_at_least) c.in-Number.is
    ∙ ap (before (take (length c.args.symbols.now - 1) (drop 1 c.args.symbols.now))) c.in_ok-expr-in-Number.ensures

pub returns-in_ok-expr-in-Number-clause-rest : goal.returns-in_ok-expr-in-Number-clause-rest
returns-in_ok-expr-in-Number-clause-rest c = tail_are c.args.setting.now.text.now c.args.symbols.now none c.in-len1-up.len_at_least c.requires

pub returns-in_ok-expr-in_default : goal.returns-in_ok-expr-in_default
returns-in_ok-expr-in_default c = record {
  gives =
      constant_is (seen c.args.setting.now) _ c.args.symbols.now (take (length c.args.symbols.now - 1) (drop 1 c.args.symbols.now)) (first_others c.args.symbols.now _ c.in-len1-up.len_at_least)
      c.in_default.not-Number c.in_default.not-Plus c.in_default.not-Minus
      ∙ ap (whole_before (take (length c.args.symbols.now - 1) (drop 1 c.args.symbols.now))) c.in_ok-expr-in_default.ensures;
  rest = tail_are c.args.setting.now.text.now c.args.symbols.now none c.in-len1-up.len_at_least c.requires;
}
