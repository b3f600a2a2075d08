use Rattle.std.proofs.Common.{◌≡◌, ap, subst, sym, ◌∙◌}
use Rattle.std.specs.Prelude.{Err, IfOk}
use Rattle.std.specs.Option.{option_and_then}
use Rattle.formula_lexer.specs.Tokens.{LexAnswers}
use Rattle.formula_grammar.specs.LeafReading.{reference_at}
use Rattle.formula_grammar.specs.Symbols.{Setting, symbols_of}
use Rattle.formula_parser.specs.Leaves.{area_of}
use Rattle.formula_parser.specs.Placed.{AreSymbols}
use Rattle.formula_parser.specs.TextTrees.{to_the_end}
use Rattle.formula_parser.proofs.Characters.{pieces}
use Rattle.formula_parser.proofs.TextTrees.{area_cut, stuck_area}
use Rattle.formula_parser.proofs.name.parse_reference.Goals as goal

pub returns-in-Err-At-clause-area : goal.returns-in-Err-At-clause-area
returns-in-Err-At-clause-area c =
    stuck_area (record { text = c.args.text.now; home = c.args.home.0; sheets = c.args.sheets.now }) c.in-Err-At.field-0-0
    (subst (λ f. LexAnswers c.args.text.now (Err f)) c.in-Err-At.field-0-is c.in-Err-At.ensures)

pub whole_reference-requires : goal.whole_reference-requires
whole_reference-requires c =
    let same = c.deref-2.ensures.value ∙ c.in-Ok-symbols_of.ensures ∙ ap (λ t. symbols_of t c.deref.result.now) c.as_bytes.ensures.value ∙ ap (symbols_of c.args.text.now) c.deref.ensures.value in
    let p = pieces c.args.text.now c.in-Ok.cut.items c.utf8.text c.in-Ok.ensures in
    subst (AreSymbols c.args.text.now) (sym same) (p.all, p.order)

pub returns-clause-area : goal.returns-clause-area
returns-clause-area c =
    let S : Setting = record { text = c.args.text.now; home = c.args.home.0; sheets = c.args.sheets.now } in
    let same = c.deref-2.ensures.value ∙ c.in-Ok-symbols_of.ensures ∙ ap (λ t. symbols_of t c.deref.result.now) c.as_bytes.ensures.value ∙ ap (symbols_of c.args.text.now) c.deref.ensures.value in
    subst (λ x. IfOk c.whole_reference.result (λ area. area ≡ x)) (area_cut S c.in-Ok.cut.items c.in-Ok.ensures)
    (subst (λ ss. IfOk c.whole_reference.result (λ area. area ≡ option_and_then area_of (to_the_end (reference_at S ss)))) same c.whole_reference.ensures.area)
