-- Each loop reads a part and its place, one after the other.
use Rattle.std.proofs.Common.{◌≡◌, [], ◌∷◌, ◌++◌, drop, sym, ap, subst, ◌∙◌, arith}
use Rattle.std.proofs.lemmas.Result.{err_from_is_err_and}
use Rattle.formula_grammar.specs.declared.symbol.Sign.TheVariants as sign
use Rattle.formula_grammar.specs.declared.symbol.Symbol.{Symbol}
use Rattle.formula_grammar.specs.Parts.{is_percent, is_separator}
use Rattle.formula_grammar.specs.Reading.{level_at, signed_at, args_at}
use Rattle.formula_parser.specs.Built.{built}
use Rattle.formula_parser.specs.Given.{formulas, primaries, hundredths}
use Rattle.formula_parser.specs.Placed.{AreBefore}
use Rattle.formula_parser.specs.Settings.{seen}
use Rattle.formula_parser.specs.declared.branch.Part.{Part}
use Rattle.formula_parser.proofs.Building.{built_shows as shows}
use Rattle.formula_parser.proofs.Order.{behind_close, call_forward, call_front, call_within, closed_front, closed_order, enclosed_front, first_behind, first_is, head_behind, head_is, joined_front, joined_order, more_before, operator_first, others_are, prefix_front, prefix_order, sign_first, drops_are, tail_are, tail_order, word_front}
use Rattle.formula_parser.proofs.Steps.{level_fails_first, level_begins, climb_fails, climb_less, climb_goes, climb_done, level_some, looser_here, looser_nowhere, hundredths_fails, hundredths_begins, percent_goes, percent_done, args_fails_first, args_begins, args_done, args_fails, args_less, args_goes, signed_step, signed_front, whole_rest, signed_fails, primary_none, parens_gives}
use Rattle.formula_parser.proofs.reading.+reading.Goals as goal

-- any symbol
none : Symbol
none = record { sign = sign.Number; span = record { start = 0; end = 0 } }

pub args-returns-in_err-first-clause-gives : goal.args-returns-in_err-first-clause-gives
args-returns-in_err-first-clause-gives t c =
    let p = err_from_is_err_and c.from_residual.result c.from_residual.ensures.1 in
    rw (p.1, p.2) (args_fails_first (built (seen c.args.setting.now)) (formulas (seen c.args.setting.now) c.args.depth) c.in_err-first.field-0.0 c.args.before c.args.symbols.now c.in_err-first.ensures.gives)

pub args-loop-separator-init : goal.args-loop-separator-init
args-loop-separator-init t c =
    let one : c.push.new.self.items ≡ c.in_ok-first.first ∷ [] = c.in_ok-push.ensures.items ∙ ap (λ v. v ++ c.in_ok-first.first ∷ []) c.new-args.ensures.items in record {
      so_far = args_begins (built (seen c.args.setting.now)) (formulas (seen c.args.setting.now) c.args.depth) c.args.before c.args.symbols.now c.in_ok-first.first c.in_ok-first.rest.now c.push.new.self.items c.in_ok-first.ensures.gives one;
      front = subst (λ v. AreBefore c.args.before v c.in_ok-first.rest.now) (sym one) c.in_ok-first.ensures.placed;
      symbols = c.in_ok-first.ensures.rest;
    }

pub args-arg-requires-in-Some : goal.args-arg-requires-in-Some
args-arg-requires-in-Some t c =
    let is = sign_first is_separator c.loop-separator.rest.now c.in-Some.separator c.in-Some.after.now (sym c.in-Some.ensures) in (
      omega arith,
      (
        others_are c.args.setting.now.text.now c.in-Some.separator c.in-Some.after.now c.loop-separator.rest.now is c.loop-separator.invariant.symbols,
        (first_behind c.in-Some.separator c.in-Some.after.now c.loop-separator.rest.now c.loop-separator.invariant.front.last is c.loop-separator.invariant.front.ends).1,
      ),
    )

pub args-returns-in_err-next-clause-gives : goal.args-returns-in_err-next-clause-gives
args-returns-in_err-next-clause-gives t c =
    let p = err_from_is_err_and c.from_residual-in_err-next.result c.from_residual-in_err-next.ensures.1 in
    rw (p.1, p.2) (args_fails (seen c.args.setting.now) (built (seen c.args.setting.now)) (shows (seen c.args.setting.now)) c.args.depth c.loop-separator.args.items c.loop-separator.rest.now c.in-Some.separator c.in-Some.after.now (sym c.in-Some.ensures) c.in_err-next.field-0.0
    (args_at (built (seen c.args.setting.now)) (formulas (seen c.args.setting.now) c.args.depth) c.args.before c.args.symbols.now) c.in_err-next.ensures.gives c.loop-separator.invariant.so_far)

pub args-loop-separator-smaller : goal.args-loop-separator-smaller
args-loop-separator-smaller t c =
    args_less (seen c.args.setting.now) (built (seen c.args.setting.now)) (shows (seen c.args.setting.now)) c.args.depth c.loop-separator.args.items c.loop-separator.rest.now c.in-Some.separator c.in-Some.after.now (sym c.in-Some.ensures) c.in_ok-next.next c.in_ok-next.others.now c.in_ok-next.ensures.gives

pub args-loop-separator-preserved : goal.args-loop-separator-preserved
args-loop-separator-preserved t c = record {
  so_far =
      args_goes (seen c.args.setting.now) (built (seen c.args.setting.now)) (shows (seen c.args.setting.now)) c.args.depth c.loop-separator.args.items c.loop-separator.rest.now c.in-Some.separator c.in-Some.after.now (sym c.in-Some.ensures) c.in_ok-next.next c.push-in-Some.new.self.items c.in_ok-next.others.now
      (args_at (built (seen c.args.setting.now)) (formulas (seen c.args.setting.now) c.args.depth) c.args.before c.args.symbols.now) c.in_ok-next.ensures.gives c.in_ok-push-2.ensures.items c.loop-separator.invariant.so_far;
  front =
      more_before c.args.setting.now.text.now c.args.before c.loop-separator.args.items c.push-in-Some.new.self.items c.loop-separator.rest.now c.in-Some.separator c.in-Some.after.now c.in_ok-next.next c.in_ok-next.others.now
      c.loop-separator.invariant.symbols c.loop-separator.invariant.front (sign_first is_separator c.loop-separator.rest.now c.in-Some.separator c.in-Some.after.now (sym c.in-Some.ensures)) c.in_ok-next.ensures.placed c.in_ok-push-2.ensures.items;
  symbols = c.in_ok-next.ensures.rest;
}

pub args-returns-clause-gives : goal.args-returns-clause-gives
args-returns-clause-gives t c =
    args_done (built (seen c.args.setting.now)) (formulas (seen c.args.setting.now) c.args.depth) c.loop-separator.args.items c.loop-separator.rest.now (args_at (built (seen c.args.setting.now)) (formulas (seen c.args.setting.now) c.args.depth) c.args.before c.args.symbols.now)
    (sym c.in_default.ensures) c.loop-separator.invariant.so_far

pub call-call_of_name-requires-clause-forward : goal.call-call_of_name-requires-clause-forward
call-call_of_name-requires-clause-forward t c =
    call_forward c.args.setting.now.text.now c.args.name c.requires.name c.args.before c.requires.before c.in_ok-args.args.items c.in_ok-args.rest.now c.in_ok-args.ensures.placed c.in_ok-args.ensures.rest
    c.in_ok-last.last c.in_ok-last.after.now (behind_close c.in_ok-args.rest.now c.in_ok-last.last c.in_ok-last.after.now c.in_ok-last.ensures)

pub call-call_of_name-requires-clause-within : goal.call-call_of_name-requires-clause-within
call-call_of_name-requires-clause-within t c =
    call_within c.args.setting.now.text.now c.args.name c.requires.name c.args.before c.requires.before c.in_ok-args.args.items c.in_ok-args.rest.now c.in_ok-args.ensures.placed c.in_ok-args.ensures.rest
    c.in_ok-last.last c.in_ok-last.after.now (behind_close c.in_ok-args.rest.now c.in_ok-last.last c.in_ok-last.after.now c.in_ok-last.ensures)

pub call-returns-clause-placed : goal.call-returns-clause-placed
call-returns-clause-placed t c =
    call_front c.args.setting.now.text.now c.args.name c.requires.name c.args.before c.requires.before c.in_ok-args.args.items c.in_ok-args.rest.now c.in_ok-args.ensures.placed c.in_ok-args.ensures.rest
    c.in_ok-last.last c.in_ok-last.after.now (behind_close c.in_ok-args.rest.now c.in_ok-last.last c.in_ok-last.after.now c.in_ok-last.ensures)
    c.args.symbols.now c.in_ok-part.part c.in_ok-part.ensures.placed (ap (λ (p : Part). p.place) c.in_ok-part.ensures.made)

pub call-returns-clause-rest : goal.call-returns-clause-rest
call-returns-clause-rest t c =
    others_are c.args.setting.now.text.now c.in_ok-last.last c.in_ok-last.after.now c.in_ok-args.rest.now (behind_close c.in_ok-args.rest.now c.in_ok-last.last c.in_ok-last.after.now c.in_ok-last.ensures) c.in_ok-args.ensures.rest

pub level-returns-in_err-left-clause-gives : goal.level-returns-in_err-left-clause-gives
level-returns-in_err-left-clause-gives t c =
    let p = err_from_is_err_and c.from_residual.result c.from_residual.ensures.1 in
    rw (p.1, p.2) (level_fails_first (built (seen c.args.setting.now)) (hundredths (seen c.args.setting.now) c.args.depth) c.in_err-left.field-0.0 c.args.at c.args.symbols.now c.in_err-left.ensures.gives)

pub level-loop-op-init : goal.level-loop-op-init
level-loop-op-init t c = record {
  so_far = level_begins (built (seen c.args.setting.now)) (hundredths (seen c.args.setting.now) c.args.depth) c.args.at c.args.symbols.now c.in_ok-left.left c.in_ok-left.rest.now c.in_ok-left.ensures.gives;
  front = c.in_ok-left.ensures.placed;
  symbols = c.in_ok-left.ensures.rest;
}

pub level-returns-then-at-binds-clause-gives : goal.level-returns-then-at-binds-clause-gives
level-returns-then-at-binds-clause-gives t c =
    climb_done (built (seen c.args.setting.now)) (hundredths (seen c.args.setting.now) c.args.depth) c.loop-op.left c.loop-op.rest.now c.args.at (level_at (built (seen c.args.setting.now)) (hundredths (seen c.args.setting.now) c.args.depth) c.args.at c.args.symbols.now)
    (looser_here c.args.at c.loop-op.rest.now c.in-Some.op c.in-Some.after.now (sym c.in-Some.ensures) (omega arith)) c.loop-op.invariant.so_far

pub level-level-requires : goal.level-level-requires
level-level-requires t c =
    let first = operator_first c.loop-op.rest.now c.in-Some.op c.in-Some.after.now (sym c.in-Some.ensures) in
    let some = level_some c.in-Some.op in
    (omega arith, others_are c.args.setting.now.text.now first.0 c.in-Some.after.now c.loop-op.rest.now first.1 c.loop-op.invariant.symbols)

pub level-returns-in_err-right-clause-gives : goal.level-returns-in_err-right-clause-gives
level-returns-in_err-right-clause-gives t c =
    let p = err_from_is_err_and c.from_residual-in_err-right.result c.from_residual-in_err-right.ensures.1 in
    rw (p.1, p.2) (climb_fails (seen c.args.setting.now) (built (seen c.args.setting.now)) (shows (seen c.args.setting.now)) c.args.depth c.args.at c.level_of-binds.result c.loop-op.left c.loop-op.rest.now c.in-Some.op c.in-Some.after.now (sym c.in-Some.ensures) c.level_of-binds.ensures (omega arith) c.in_err-right.field-0.0
    (level_at (built (seen c.args.setting.now)) (hundredths (seen c.args.setting.now) c.args.depth) c.args.at c.args.symbols.now) c.in_err-right.ensures.gives c.loop-op.invariant.so_far)

pub level-infix-requires-clause-order : goal.level-infix-requires-clause-order
level-infix-requires-clause-order t c =
    let first = operator_first c.loop-op.rest.now c.in-Some.op c.in-Some.after.now (sym c.in-Some.ensures) in
    joined_order c.args.setting.now.text.now c.args.symbols.now c.loop-op.left c.loop-op.rest.now c.loop-op.invariant.front c.loop-op.invariant.symbols first.0 c.in-Some.after.now first.1 c.in_ok-right.right c.in_ok-right.others.now c.in_ok-right.ensures.placed c.requires.1

pub level-loop-op-smaller : goal.level-loop-op-smaller
level-loop-op-smaller t c =
    climb_less (seen c.args.setting.now) (built (seen c.args.setting.now)) (shows (seen c.args.setting.now)) c.args.depth c.args.at c.level_of-binds.result c.loop-op.left c.loop-op.rest.now c.in-Some.op c.in-Some.after.now (sym c.in-Some.ensures) c.level_of-binds.ensures (omega arith) c.in_ok-right.right c.in_ok-right.others.now c.in_ok-right.ensures.gives

pub level-loop-op-preserved : goal.level-loop-op-preserved
level-loop-op-preserved t c =
    let first = operator_first c.loop-op.rest.now c.in-Some.op c.in-Some.after.now (sym c.in-Some.ensures) in
    let made = c.in_ok-left-2.ensures.made (seen c.args.setting.now) in record {
      so_far =
          climb_goes (seen c.args.setting.now) (built (seen c.args.setting.now)) (shows (seen c.args.setting.now)) c.args.depth c.args.at c.level_of-binds.result c.loop-op.left c.loop-op.rest.now c.in-Some.op c.in-Some.after.now (sym c.in-Some.ensures) c.level_of-binds.ensures (omega arith) c.in_ok-right.right c.in_ok-left-2.left c.in_ok-right.others.now
          (level_at (built (seen c.args.setting.now)) (hundredths (seen c.args.setting.now) c.args.depth) c.args.at c.args.symbols.now) c.in_ok-right.ensures.gives c.in_ok-right.ensures.looser made c.loop-op.invariant.so_far;
      front =
          joined_front c.args.setting.now.text.now c.args.symbols.now c.loop-op.left c.loop-op.rest.now c.loop-op.invariant.front c.loop-op.invariant.symbols first.0 c.in-Some.after.now first.1 c.in_ok-right.right c.in_ok-right.others.now c.in_ok-right.ensures.placed c.requires.1
          c.in_ok-left-2.left c.in_ok-left-2.ensures.placed (ap (λ (p : Part). p.place) made);
      symbols = c.in_ok-right.ensures.rest;
    }

pub level-returns-clause-gives : goal.level-returns-clause-gives
level-returns-clause-gives t c =
    climb_done (built (seen c.args.setting.now)) (hundredths (seen c.args.setting.now) c.args.depth) c.loop-op.left c.loop-op.rest.now c.args.at (level_at (built (seen c.args.setting.now)) (hundredths (seen c.args.setting.now) c.args.depth) c.args.at c.args.symbols.now)
    (looser_nowhere c.args.at c.loop-op.rest.now (sym c.in_default.ensures)) c.loop-op.invariant.so_far

pub parens-in_parentheses-requires-clause-behind : goal.parens-in_parentheses-requires-clause-behind
parens-in_parentheses-requires-clause-behind t c =
    closed_order c.args.setting.now.text.now c.args.symbols.now c.in_ok-part.part c.in_ok-part.rest.now c.in_ok-part.ensures.placed c.in_ok-part.ensures.rest
    c.in_ok-last.last c.in_ok-last.after.now (behind_close c.in_ok-part.rest.now c.in_ok-last.last c.in_ok-last.after.now c.in_ok-last.ensures) c.requires.symbols.1

pub parens-returns-clause-gives : goal.parens-returns-clause-gives
parens-returns-clause-gives t c =
    parens_gives (built (seen c.args.setting.now)) (formulas (seen c.args.setting.now) c.args.depth) c.args.first c.args.symbols.now c.in_ok-part.part c.in_parentheses.result c.in_ok-part.rest.now c.in_ok-last.last c.in_ok-last.after.now
    c.in_ok-part.ensures.gives c.in_ok-last.ensures (c.in_parentheses.ensures.made (seen c.args.setting.now))

pub parens-returns-clause-placed : goal.parens-returns-clause-placed
parens-returns-clause-placed t c =
    enclosed_front c.args.setting.now.text.now c.args.symbols.now c.in_ok-part.part c.in_ok-part.rest.now c.in_ok-part.ensures.placed c.in_ok-part.ensures.rest c.args.first c.requires.first c.requires.order
    c.in_ok-last.last c.in_ok-last.after.now (behind_close c.in_ok-part.rest.now c.in_ok-last.last c.in_ok-last.after.now c.in_ok-last.ensures)
    c.in_parentheses.result c.in_parentheses.ensures.placed (ap (λ (p : Part). p.place) (c.in_parentheses.ensures.made (seen c.args.setting.now)))

pub parens-returns-clause-rest : goal.parens-returns-clause-rest
parens-returns-clause-rest t c =
    others_are c.args.setting.now.text.now c.in_ok-last.last c.in_ok-last.after.now c.in_ok-part.rest.now (behind_close c.in_ok-part.rest.now c.in_ok-last.last c.in_ok-last.after.now c.in_ok-last.ensures) c.in_ok-part.ensures.rest

pub percents-returns-in_err-part-clause-gives : goal.percents-returns-in_err-part-clause-gives
percents-returns-in_err-part-clause-gives t c =
    let p = err_from_is_err_and c.from_residual.result c.from_residual.ensures.1 in
    rw (p.1, p.2) (hundredths_fails (built (seen c.args.setting.now)) (primaries (seen c.args.setting.now) c.args.depth) c.in_err-part.field-0.0 c.args.symbols.now c.in_err-part.ensures.gives)

pub percents-loop-sign-init : goal.percents-loop-sign-init
percents-loop-sign-init t c = record {
  so_far = hundredths_begins (built (seen c.args.setting.now)) (primaries (seen c.args.setting.now) c.args.depth) c.args.symbols.now c.in_ok-part.part c.in_ok-part.rest.now c.in_ok-part.ensures.gives;
  front = c.in_ok-part.ensures.placed;
  symbols = c.in_ok-part.ensures.rest;
}

pub percents-loop-sign-preserved : goal.percents-loop-sign-preserved
percents-loop-sign-preserved t c =
    let is = sign_first is_percent c.loop-sign.rest.now c.in-Some.sign c.in-Some.after.now (sym c.in-Some.ensures) in
    let made = c.in_ok-part-2.ensures.made (seen c.args.setting.now) in record {
      so_far =
          percent_goes (seen c.args.setting.now) (built (seen c.args.setting.now)) (shows (seen c.args.setting.now)) c.loop-sign.part c.in_ok-part-2.part c.loop-sign.rest.now c.in-Some.sign c.in-Some.after.now (hundredths (seen c.args.setting.now) c.args.depth c.args.symbols.now)
          (sym c.in-Some.ensures) made c.loop-sign.invariant.so_far;
      front =
          closed_front c.args.setting.now.text.now c.args.symbols.now c.loop-sign.part c.loop-sign.rest.now c.loop-sign.invariant.front c.loop-sign.invariant.symbols c.in-Some.sign c.in-Some.after.now is
          c.in_ok-part-2.part c.in_ok-part-2.ensures.placed (ap (λ (p : Part). p.place) made);
      symbols = others_are c.args.setting.now.text.now c.in-Some.sign c.in-Some.after.now c.loop-sign.rest.now is c.loop-sign.invariant.symbols;
    }

pub percents-returns-clause-gives : goal.percents-returns-clause-gives
percents-returns-clause-gives t c =
    percent_done (built (seen c.args.setting.now)) c.loop-sign.part c.loop-sign.rest.now (hundredths (seen c.args.setting.now) c.args.depth c.args.symbols.now) (sym c.in_default.ensures) c.loop-sign.invariant.so_far

pub primary-parens-requires : goal.primary-parens-requires
primary-parens-requires t c = (
  omega arith,
  (
    head_is c.args.setting.now.text.now c.args.symbols.now _ c.in-len1-up.len_at_least c.requires,
    (
      tail_are c.args.setting.now.text.now c.args.symbols.now none c.in-len1-up.len_at_least c.requires,
      tail_order c.args.setting.now.text.now c.args.symbols.now _ c.in-len1-up.len_at_least c.requires,
    ),
  ),
)

pub call_or_leaf-call-requires : goal.call_or_leaf-call-requires
call_or_leaf-call-requires t c =
    let are = others_are c.args.setting.now.text.now c.args.word c.args.rest.now c.args.symbols.now c.requires.parts c.requires.symbols in
    let order = first_behind c.args.word c.args.rest.now c.args.symbols.now 0 c.requires.parts c.requires.symbols.1 in (
      omega arith,
      (
        first_is c.args.setting.now.text.now c.args.word c.args.rest.now c.args.symbols.now c.requires.parts c.requires.symbols,
        (
          tail_are c.args.setting.now.text.now c.args.rest.now none c.in-len1-up.len_at_least are,
          (
            head_behind c.args.setting.now.text.now c.args.rest.now _ c.in-len1-up.len_at_least are c.args.word.span.end order.1,
            tail_order c.args.setting.now.text.now c.args.rest.now _ c.in-len1-up.len_at_least are,
          ),
        ),
      ),
    )

pub call_or_leaf-returns-in-Open-clause-placed : goal.call_or_leaf-returns-in-Open-clause-placed
call_or_leaf-returns-in-Open-clause-placed t c =
    word_front (λ x. x.0) (λ x. x.1.now) c.args.setting.now.text.now c.args.word c.args.rest.now c.args.symbols.now none c.requires.parts c.requires.symbols c.in-len1-up.len_at_least c.call.result c.call.ensures.placed

pub signs_and_primary-primary-requires : goal.signs_and_primary-primary-requires
signs_and_primary-primary-requires t c = (omega arith, rw whole_rest (drops_are c.args.setting.now.text.now c.prefix_count-left.result c.args.symbols.now c.requires))

pub signs_and_primary-returns-in_err-part-clause-gives : goal.signs_and_primary-returns-in_err-part-clause-gives
signs_and_primary-returns-in_err-part-clause-gives t c =
    let p = err_from_is_err_and c.from_residual.result c.from_residual.ensures.1 in
    rw (p.1, p.2) (signed_fails (built (seen c.args.setting.now)) (primaries (seen c.args.setting.now) c.args.depth) c.in_err-part.field-0.0 c.args.symbols.now c.prefix_count-left.result c.prefix_count-left.ensures.count (rw whole_rest at c.in_err-part.ensures.gives))

pub signs_and_primary-loop-left-init : goal.signs_and_primary-loop-left-init
signs_and_primary-loop-left-init t c =
    let front = signed_front (built (seen c.args.setting.now)) (primaries (seen c.args.setting.now) c.args.depth) (primary_none (seen c.args.setting.now) (built (seen c.args.setting.now)) (formulas (seen c.args.setting.now) c.args.depth)) c.args.symbols.now in record {
      signs = omega arith;
      within = c.prefix_count-left.ensures.within;
      so_far =
          ap (λ n. signed_at (built (seen c.args.setting.now)) (primaries (seen c.args.setting.now) c.args.depth) (drop n c.args.symbols.now)) c.prefix_count-left.ensures.count ∙ front
          ∙ ap (λ n. primaries (seen c.args.setting.now) c.args.depth (drop n c.args.symbols.now)) (sym c.prefix_count-left.ensures.count)
          ∙ rw whole_rest at c.in_ok-part.ensures.gives;
      front = rw whole_rest at c.in_ok-part.ensures.placed;
    }

pub signs_and_primary-with_sign-requires-clause-order : goal.signs_and_primary-with_sign-requires-clause-order
signs_and_primary-with_sign-requires-clause-order t c =
    prefix_order (seen c.args.setting.now) c.args.symbols.now c.loop-left.left _ c.loop-left-test.true c.loop-left.invariant.within c.requires c.loop-left.part c.in_ok-part.rest.now c.loop-left.invariant.front

pub signs_and_primary-loop-left-preserved : goal.signs_and_primary-loop-left-preserved
signs_and_primary-loop-left-preserved t c =
    let made = c.in_ok-part-2.ensures.made (seen c.args.setting.now) in record {
      signs = omega arith;
      within = omega arith;
      so_far = signed_step (built (seen c.args.setting.now)) (primaries (seen c.args.setting.now) c.args.depth) c.args.symbols.now c.loop-left.left _ c.loop-left.part c.in_ok-part-2.part c.in_ok-part.rest.now c.loop-left-test.true c.loop-left.invariant.signs c.loop-left.invariant.so_far made;
      front =
          prefix_front (seen c.args.setting.now) c.args.symbols.now c.loop-left.left _ c.loop-left-test.true c.loop-left.invariant.within c.requires c.loop-left.part c.in_ok-part.rest.now c.loop-left.invariant.front
          c.in_ok-part-2.part c.in_ok-part-2.ensures.placed made;
    }
