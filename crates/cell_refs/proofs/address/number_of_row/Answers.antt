use Rattle.std.proofs.Common.{◌≡◌, ◌<◌, length, get_or, rules, true, false, take}
use Rattle.std.specs.Char.{digit_value, is_ascii_digit}
use Rattle.std.specs.Str.Parse.{digits_value}
use Rattle.std.proofs.lemmas.Int.Digits.{digits_more, digits_value_more}
use Rattle.cell_refs.proofs.Digits.{capped, digit_at, digit_none, digit_small, digit_worth}
use Rattle.cell_refs.proofs.address.number_of_row.Goals as goal

pub returns-then-not-is_ascii_digit-clause-none : goal.returns-then-not-is_ascii_digit-clause-none
returns-then-not-is_ascii_digit-clause-none c = λ all.
    let lt : c.loop-digit.digit-index < length c.args.digits.now = search rules in
    let bad : is_ascii_digit (get_or c.args.digits.now c.loop-digit.digit-index 0) ≡ false = search rules in
    digit_none (get_or c.args.digits.now c.loop-digit.digit-index 0) bad (digit_at c.args.digits.now c.loop-digit.digit-index all lt)

pub loop-digit-preserved : goal.loop-digit-preserved
loop-digit-preserved c =
    let i = c.loop-digit.digit-index in
    let lt : i < length c.args.digits.now = search rules in
    let good : is_ascii_digit (get_or c.args.digits.now i 0) ≡ true = search rules in
    let more = digits_value_more 10 c.args.digits.now i lt in
    let worth = digit_worth (get_or c.args.digits.now i 0) good in
    let cap = capped (digits_value 10 (take i c.args.digits.now)) (digit_value (get_or c.args.digits.now i 0)) 4097 in
    record {
      digits = digits_more 10 c.args.digits.now i lt c.loop-digit.invariant.digits (digit_small (get_or c.args.digits.now i 0) good);
      number = rw (more, ← cap, worth, ← c.from.ensures, ← c.loop-digit.invariant.number) c.min-number.ensures;
    }
