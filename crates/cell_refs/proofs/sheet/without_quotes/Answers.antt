use Rattle.std.proofs.Common.{◌∙◌, string_bytes, ap, sym}
use Rattle.std.specs.Str.Iter.{chars_rest}
use Rattle.cell_refs.specs.Sheets.{unquoted}
use Rattle.cell_refs.proofs.Quoted.{goes_on, joined, left_of, second_quote, stays}
use Rattle.cell_refs.proofs.sheet.without_quotes.Goals as goal

pub returns-then-is_behind_quote : goal.returns-then-is_behind_quote
returns-then-is_behind_quote c =
    goes_on c.in-Some.c (string_bytes c.loop-c.name) (chars_rest c.loop-c.c-iterator) (chars_rest c.next.new.self) (unquoted c.args.text.now) c.if-c-ne39.true c.in-Some.ensures.steps.0
    (ap (λ b. joined (string_bytes c.loop-c.name) (left_of b (chars_rest c.loop-c.c-iterator))) (sym c.if-is_behind_quote.true) ∙ c.loop-c.invariant)

pub loop-c-preserved-in-Continue-1 : goal.loop-c-preserved-in-Continue-1
loop-c-preserved-in-Continue-1 c =
    ap (λ b. joined (string_bytes c.push.new.self) (left_of b (chars_rest c.next.new.self))) c.if-is_behind_quote.false
    ∙ stays c.in-Some.c (string_bytes c.loop-c.name) (string_bytes c.push.new.self) (chars_rest c.loop-c.c-iterator) (chars_rest c.next.new.self) (unquoted c.args.text.now) c.if-c-ne39.true
    c.in-Some.ensures.steps.0 c.in_ok-push.ensures.bytes
    (ap (λ b. joined (string_bytes c.loop-c.name) (left_of b (chars_rest c.loop-c.c-iterator))) (sym c.if-is_behind_quote.false) ∙ c.loop-c.invariant)

pub loop-c-preserved-then-is_behind_quote-2 : goal.loop-c-preserved-then-is_behind_quote-2
loop-c-preserved-then-is_behind_quote-2 c =
    second_quote c.in-Some.c (string_bytes c.loop-c.name) (string_bytes c.push-then-is_behind_quote-2.new.self) (chars_rest c.loop-c.c-iterator) (chars_rest c.next.new.self) (unquoted c.args.text.now)
    c.if-c-ne39.false c.in-Some.ensures.steps.0 c.in_ok-push-2.ensures.bytes
    (ap (λ b. joined (string_bytes c.loop-c.name) (left_of b (chars_rest c.loop-c.c-iterator))) (sym c.if-is_behind_quote-2.true) ∙ c.loop-c.invariant)
