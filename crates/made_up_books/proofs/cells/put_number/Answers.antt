use Rattle.std.proofs.Common.{◌≡◌, ◌≢◌, ◌<◌, [], ℕ, length, sym, ap, ◌∙◌, arith}
use Rattle.std.specs.Prelude.{decimal}
use Rattle.made_up_books.proofs.cells.put_number.Goals as goal
use Rattle.std.proofs.Common.{◌^◌}
use Rattle.std.proofs.lemmas.Fmt.{decimal_nonempty}

some_digits : (n : ℕ) → n < 2 ^ 64 → decimal n ≢ []
some_digits n h e = let long = decimal_nonempty n h in let none = ap length e in absurd (omega arith)

pub put-requires-clause-some : goal.put-requires-clause-some
put-requires-clause-some c = λ e.
    let none : decimal c.args.value ≡ [] = sym c.in_ok-number.ensures.digits ∙ (sym c.deref.ensures ∙ e) in
    some_digits c.args.value (omega arith) none
