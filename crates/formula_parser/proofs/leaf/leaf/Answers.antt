-- A leaf by its first symbol.
use Rattle.std.proofs.Common.{◌-◌, length, take, drop, ap, sym, subst, ◌∙◌, arith}
use Rattle.std.proofs.lemmas.Result.{err_from_is_err_and}
use Rattle.formula_grammar.specs.declared.symbol.Sign.TheVariants as sign
use Rattle.formula_grammar.specs.declared.symbol.Symbol.{Symbol}
use Rattle.formula_parser.specs.Given.{Fails}
use Rattle.formula_parser.specs.Settings.{seen}
use Rattle.formula_parser.proofs.ItemsRead.{first_others}
use Rattle.formula_parser.proofs.LeafParts.{leaf_array, leaf_empty, leaf_quoted, leaf_single, leaf_square, leaf_word, same_gives, single_before, single_fails, single_front}
use Rattle.formula_parser.proofs.Order.{head_is, tail_are}
use Rattle.formula_parser.proofs.leaf.leaf.Goals as goal

-- any symbol
none : Symbol
none = record { sign = sign.Number; span = record { start = 0; end = 0 } }

pub array-requires-clause-symbols : goal.array-requires-clause-symbols
array-requires-clause-symbols c =
    tail_are c.args.setting.now.text.now c.args.symbols.now none c.in-len1-up.len_at_least c.requires

pub returns-in_err-part-in_default-clause-gives : goal.returns-in_err-part-in_default-clause-gives
returns-in_err-part-in_default-clause-gives c =
    let p = err_from_is_err_and c.from_residual.result c.from_residual.ensures.1 in
    rw (p.1, p.2) (subst (Fails c.in_err-part-in_default.field-0.0) (sym (leaf_single (seen c.args.setting.now) _ c.args.symbols.now (take (length c.args.symbols.now - 1) (drop 1 c.args.symbols.now)) (first_others c.args.symbols.now _ c.in-len1-up.len_at_least) c.in_default.not-OpenBrace c.in_default.not-Quoted c.in_default.not-OpenSquare c.in_default.not-Word)) (single_fails c.in_err-part-in_default.field-0.0 (take (length c.args.symbols.now - 1) (drop 1 c.args.symbols.now)) _ c.in_err-part-in_default.ensures))

pub returns-in-empty-clause-gives : goal.returns-in-empty-clause-gives
returns-in-empty-clause-gives c =
    leaf_empty (seen c.args.setting.now) c.args.symbols.now (omega arith)

pub returns-in-OpenBrace-clause-gives : goal.returns-in-OpenBrace-clause-gives
returns-in-OpenBrace-clause-gives c =
    same_gives _ _ _ _ (sym (leaf_array (seen c.args.setting.now) _ c.args.symbols.now (take (length c.args.symbols.now - 1) (drop 1 c.args.symbols.now)) (first_others c.args.symbols.now _ c.in-len1-up.len_at_least) c.in-OpenBrace.is)) c.array.ensures.gives

pub returns-in-Quoted-clause-gives : goal.returns-in-Quoted-clause-gives
returns-in-Quoted-clause-gives c =
    same_gives _ _ _ _ (sym (leaf_quoted (seen c.args.setting.now) _ c.args.symbols.now (take (length c.args.symbols.now - 1) (drop 1 c.args.symbols.now)) (first_others c.args.symbols.now _ c.in-len1-up.len_at_least) c.in-Quoted.is)) c.joined_references.ensures.gives

pub returns-in-OpenSquare-clause-gives : goal.returns-in-OpenSquare-clause-gives
returns-in-OpenSquare-clause-gives c =
    same_gives _ _ _ _ (sym (leaf_square (seen c.args.setting.now) _ c.args.symbols.now (take (length c.args.symbols.now - 1) (drop 1 c.args.symbols.now)) (first_others c.args.symbols.now _ c.in-len1-up.len_at_least) c.in-OpenSquare.is)) c.joined_references-in-OpenSquare.ensures.gives

pub returns-in-Word-clause-gives : goal.returns-in-Word-clause-gives
returns-in-Word-clause-gives c =
    same_gives _ _ _ _ (sym (leaf_word (seen c.args.setting.now) _ c.args.symbols.now (take (length c.args.symbols.now - 1) (drop 1 c.args.symbols.now)) (first_others c.args.symbols.now _ c.in-len1-up.len_at_least) c.in-Word.is)) c.word_leaf.ensures.gives

pub returns-in_ok-part-in_default : goal.returns-in_ok-part-in_default
returns-in_ok-part-in_default c = record {
  gives = leaf_single (seen c.args.setting.now) _ c.args.symbols.now (take (length c.args.symbols.now - 1) (drop 1 c.args.symbols.now)) (first_others c.args.symbols.now _ c.in-len1-up.len_at_least) c.in_default.not-OpenBrace c.in_default.not-Quoted c.in_default.not-OpenSquare c.in_default.not-Word ∙ ap (single_before (take (length c.args.symbols.now - 1) (drop 1 c.args.symbols.now))) c.in_ok-part-in_default.ensures;
  placed =
      single_front (seen c.args.setting.now) _ c.args.symbols.now (take (length c.args.symbols.now - 1) (drop 1 c.args.symbols.now)) (first_others c.args.symbols.now _ c.in-len1-up.len_at_least) (head_is c.args.setting.now.text.now c.args.symbols.now _ c.in-len1-up.len_at_least c.requires) c.in_ok-part-in_default.part c.in_ok-part-in_default.ensures;
  rest = tail_are c.args.setting.now.text.now c.args.symbols.now none c.in-len1-up.len_at_least c.requires;
}
