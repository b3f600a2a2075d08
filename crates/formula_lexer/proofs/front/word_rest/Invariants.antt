use Rattle.std.proofs.Common.{◌≡◌, ◌+◌, drop}
use Rattle.formula_lexer.specs.Front.{word_rest}
use Rattle.formula_lexer.proofs.front.word_rest.Given as goal

-- all so far goes on
abbrev pub invariant-loop-at : goal.invariant-loop-at
invariant-loop-at l = word_rest l.bytes ≡ l.at + word_rest (drop l.at l.bytes)
