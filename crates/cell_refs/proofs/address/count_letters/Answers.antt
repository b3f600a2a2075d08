use Rattle.std.proofs.Common.{length, sym, arith, rules}
use Rattle.std.specs.Char.{is_ascii_alphabetic}
use Rattle.std.proofs.lemmas.List.Sums.{prefix_len_is}
use Rattle.cell_refs.proofs.address.count_letters.Goals as goal

pub returns-then-not-is_ascii_alphabetic : goal.returns-then-not-is_ascii_alphabetic
returns-then-not-is_ascii_alphabetic c =
    sym (prefix_len_is is_ascii_alphabetic c.args.text.now c.loop-i.i 0 (search rules) c.loop-i.invariant (λ _. search rules))

pub returns : goal.returns
returns c =
    sym (prefix_len_is is_ascii_alphabetic c.args.text.now (length c.args.text.now) 0 (omega arith) (λ k lt. c.loop-i.invariant k (search rules)) (λ lt. absurd (omega (arith, lt))))
