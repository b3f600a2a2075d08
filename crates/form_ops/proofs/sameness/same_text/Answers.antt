use Rattle.std.proofs.Common.{refl, sym, ℕ}
use Rattle.std.specs.Prelude.{◌==◌}
use Rattle.form_table.specs.Choosing.{same_text}
use Rattle.form_ops.proofs.Pairwise.{IsPairwise, other_length}
use Rattle.form_ops.proofs.sameness.same_text.Goals as goal

by_bytes : IsPairwise (λ (b c : ℕ). b == c) same_text
by_bytes = record { at_end = refl; first_longer = λ x xs. refl; second_longer = λ y ys. refl; item = λ x y xs ys. refl }

pub returns-then-s-t : goal.returns-then-s-t
returns-then-s-t c = sym (other_length (λ (b c : ℕ). b == c) same_text by_bytes c.args.s.now c.args.t.now c.if-s-t.true)
