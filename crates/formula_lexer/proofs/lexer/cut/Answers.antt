use Rattle.std.proofs.Common.{◌++◌, ◌∷◌, [], sym, ap, ◌∙◌, length-drop, arith}
use Rattle.formula_lexer.proofs.Cuts.{whole_rest, blank_completes, blank_passes, token_completes, token_passes, stuck, done}
use Rattle.formula_lexer.proofs.lexer.cut.Goals as goal

pub loop-at-preserved-then-is_blank : goal.loop-at-preserved-then-is_blank
loop-at-preserved-then-is_blank c =
    let i = c.loop-at.invariant in (
      omega arith,
      blank_completes c.args.text.now c.loop-at.tokens.items c.loop-at.at i.1 i.2 c.loop-at-test.true (sym c.if-is_blank.ensures),
      blank_passes c.args.text.now c.loop-at.tokens.items c.loop-at.at i.1 i.2 c.loop-at-test.true (sym c.if-is_blank.ensures),
    )

pub returns-in_default-front : goal.returns-in_default-front
returns-in_default-front c =
    let i = c.loop-at.invariant in
    stuck c.args.text.now c.loop-at.tokens.items c.loop-at.at i.1 i.2 c.loop-at-test.true (sym c.if-is_blank.ensures) (rw whole_rest at c.in_default-front.ensures.front)

pub loop-at-preserved : goal.loop-at-preserved
loop-at-preserved c =
    let i = c.loop-at.invariant in
    let f = rw whole_rest at c.in-Some.ensures.front in (
      omega (arith, rw whole_rest at c.in-Some.ensures.within.1, length-drop c.loop-at.at c.args.text.now),
      token_completes c.args.text.now c.loop-at.tokens.items c.loop-at.at i.1 i.2 c.in-Some.kind c.in-Some.len c.loop-at-test.true (sym c.if-is_blank.ensures) f c.push.new.self.items (c.in_ok-push.ensures.items ∙ ap (λ t. c.loop-at.tokens.items ++ t ∷ []) c.token.ensures),
      token_passes c.args.text.now c.loop-at.tokens.items c.loop-at.at i.1 i.2 c.in-Some.kind c.in-Some.len c.loop-at-test.true (sym c.if-is_blank.ensures) f,
    )

pub returns : goal.returns
returns c = let i = c.loop-at.invariant in done c.args.text.now c.loop-at.tokens.items c.loop-at.at i.1 i.2 c.loop-at-test.false
