use Rattle.std.proofs.Common.{refl, sym}
use Rattle.form_table.specs.Choosing.{same_abs, same_items}
use Rattle.form_ops.proofs.Pairwise.{IsPairwise, other_length}
use Rattle.form_ops.proofs.sameness.same_items.Goals as goal

by_items : IsPairwise same_abs same_items
by_items = record { at_end = refl; first_longer = λ x xs. refl; second_longer = λ y ys. refl; item = λ x y xs ys. refl }

pub returns-then-first-second : goal.returns-then-first-second
returns-then-first-second c = sym (other_length same_abs same_items by_items c.args.first.now c.args.second.now c.if-first-second.true)
