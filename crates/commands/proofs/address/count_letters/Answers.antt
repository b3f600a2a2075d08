use Rattle.std.proofs.Common.{length, sym, arith, rules}
use Rattle.std.specs.Char.{is_ascii_alphabetic}
use Rattle.std.proofs.lemmas.List.Sums.{prefix_len_is}
use Rattle.commands.proofs.address.count_letters.Goals as goal

pub returns-then-not-is_ascii_alphabetic-clause-count : goal.returns-then-not-is_ascii_alphabetic-clause-count
returns-then-not-is_ascii_alphabetic-clause-count c =
    sym (prefix_len_is is_ascii_alphabetic c.args.text.now c.loop-i.i 0 (search rules) c.loop-i.invariant (λ _. search rules))

pub returns-clause-count : goal.returns-clause-count
returns-clause-count c =
    sym (prefix_len_is is_ascii_alphabetic c.args.text.now (length c.args.text.now) 0 (omega arith) (λ k lt. c.loop-i.invariant k (search rules)) (λ lt. absurd (omega (arith, lt))))
