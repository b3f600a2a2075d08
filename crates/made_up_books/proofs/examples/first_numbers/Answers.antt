use Rattle.std.proofs.Common.{refl}
use Rattle.made_up_books.proofs.examples.first_numbers.Goals as goal

pub returns : goal.returns
returns c = record { drawn = refl; cost_of_one = refl; demand_of_one = refl; costs_of_two = refl; demands_of_two = refl }
