use Rattle.std.proofs.Common.{refl}
use Rattle.std.specs.Fmt.{digits}
use Rattle.made_up_books.proofs.examples.first_names.Goals as goal

pub returns : goal.returns
unfolding digits
returns c = record { of_one = refl; of_two = refl }
