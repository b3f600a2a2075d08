use Rattle.std.proofs.Common.{◌∙◌, ◌++◌, string_bytes, ap, sym}
use Rattle.std.specs.Str.Iter.{chars_rest}
use Rattle.formula_grammar.specs.Words.{inside}
use Rattle.formula_parser.proofs.Quotes.{closes, first_quote, inside_from, stays_inside}
use Rattle.formula_parser.proofs.words.inside.Goals as goal

pub returns-then-is_behind_quote : goal.returns-then-is_behind_quote
returns-then-is_behind_quote c =
    closes c.args.quote c.in-Some.c (string_bytes c.loop-c.content) (chars_rest c.loop-c.c-iterator) (chars_rest c.next.new.self) (inside c.args.quote c.args.text.now) c.requires c.if-c-quote.true c.in-Some.ensures.steps.0
    (ap (λ b. string_bytes c.loop-c.content ++ inside_from b c.args.quote (chars_rest c.loop-c.c-iterator)) (sym c.if-is_behind_quote.true) ∙ c.loop-c.invariant)

pub loop-c-preserved-in-Continue-1 : goal.loop-c-preserved-in-Continue-1
loop-c-preserved-in-Continue-1 c =
    ap (λ b. string_bytes c.push.new.self ++ inside_from b c.args.quote (chars_rest c.next.new.self)) c.if-is_behind_quote.false
    ∙ stays_inside c.args.quote c.in-Some.c (string_bytes c.loop-c.content) (string_bytes c.push.new.self) (chars_rest c.loop-c.c-iterator) (chars_rest c.next.new.self) (inside c.args.quote c.args.text.now) c.requires c.if-c-quote.true
    c.in-Some.ensures.steps.0 c.in_ok-push.ensures.bytes
    (ap (λ b. string_bytes c.loop-c.content ++ inside_from b c.args.quote (chars_rest c.loop-c.c-iterator)) (sym c.if-is_behind_quote.false) ∙ c.loop-c.invariant)

pub loop-c-preserved : goal.loop-c-preserved
loop-c-preserved c =
    first_quote c.args.quote c.in-Some.c (string_bytes c.loop-c.content) (chars_rest c.loop-c.c-iterator) (chars_rest c.next.new.self) (inside c.args.quote c.args.text.now) c.requires c.if-c-quote.false c.in-Some.ensures.steps.0
    (ap (λ b. string_bytes c.loop-c.content ++ inside_from b c.args.quote (chars_rest c.loop-c.c-iterator)) (sym c.if-is_behind_quote-2.false) ∙ c.loop-c.invariant)
