use Rattle.std.proofs.Common.{ap, subst, sym, ◌∙◌}
use Rattle.formula_lexer.specs.Tokens.{LexAnswers}
use Rattle.std.specs.Prelude.{Err}
use Rattle.formula_grammar.specs.Symbols.{Setting, symbols_of}
use Rattle.formula_parser.specs.Answers.{SymbolAnswers}
use Rattle.formula_parser.specs.declared.fault.ParseFault.TheVariants as fault
use Rattle.formula_parser.specs.Placed.{AreSymbols}
use Rattle.formula_parser.proofs.Characters.{pieces}
use Rattle.formula_parser.proofs.TextAnswers.{no_tokens, text_answers}
use Rattle.formula_parser.proofs.TextTrees.{answered}
use Rattle.formula_parser.proofs.formula.parse.Goals as goal

pub returns-in-Err-At-clause-answer : goal.returns-in-Err-At-clause-answer
returns-in-Err-At-clause-answer c =
    no_tokens (record { text = c.args.text.now; home = c.args.home.0; sheets = c.args.sheets.now }) c.in-Err-At.field-0-0
    (subst (λ f. LexAnswers c.args.text.now (Err f)) c.in-Err-At.field-0-is c.in-Err-At.ensures) (λ ts. c.one_list.ensures.none c.args.text.now c.in-Err-At.field-0-0 ts)

pub tree-requires : goal.tree-requires
tree-requires c =
    let same = c.deref-2.ensures.value ∙ c.in-Ok-symbols_of.ensures ∙ ap (λ t. symbols_of t c.deref.result.now) c.as_bytes.ensures.value ∙ ap (symbols_of c.args.text.now) c.deref.ensures.value in
    let p = pieces c.args.text.now c.in-Ok.cut.items c.utf8.text c.in-Ok.ensures in
    subst (AreSymbols c.args.text.now) (sym same) (p.all, p.order)

pub returns-clause-answer : goal.returns-clause-answer
returns-clause-answer c =
    let S : Setting = record { text = c.args.text.now; home = c.args.home.0; sheets = c.args.sheets.now } in
    let same = c.deref-2.ensures.value ∙ c.in-Ok-symbols_of.ensures ∙ ap (λ t. symbols_of t c.deref.result.now) c.as_bytes.ensures.value ∙ ap (symbols_of c.args.text.now) c.deref.ensures.value in
    text_answers S c.in-Ok.cut.items c.in-Ok.ensures (λ a b. c.one_list.ensures.one c.args.text.now a b) c.tree.result (subst (λ ss. SymbolAnswers S ss c.tree.result) same c.tree.ensures.answer)

pub returns-in-Err-At-clause-tree : goal.returns-in-Err-At-clause-tree
returns-in-Err-At-clause-tree c =
    let S : Setting = record { text = c.args.text.now; home = c.args.home.0; sheets = c.args.sheets.now } in
    answered S (c.no_text_spells_two_trees.ensures S) (Err fault.Syntax)
    (no_tokens S c.in-Err-At.field-0-0 (subst (λ f. LexAnswers c.args.text.now (Err f)) c.in-Err-At.field-0-is c.in-Err-At.ensures) (λ ts. c.one_list.ensures.none c.args.text.now c.in-Err-At.field-0-0 ts))

pub returns-clause-tree : goal.returns-clause-tree
returns-clause-tree c =
    let S : Setting = record { text = c.args.text.now; home = c.args.home.0; sheets = c.args.sheets.now } in
    let same = c.deref-2.ensures.value ∙ c.in-Ok-symbols_of.ensures ∙ ap (λ t. symbols_of t c.deref.result.now) c.as_bytes.ensures.value ∙ ap (symbols_of c.args.text.now) c.deref.ensures.value in
    answered S (c.no_text_spells_two_trees.ensures S) c.tree.result
    (text_answers S c.in-Ok.cut.items c.in-Ok.ensures (λ a b. c.one_list.ensures.one c.args.text.now a b) c.tree.result (subst (λ ss. SymbolAnswers S ss c.tree.result) same c.tree.ensures.answer))
