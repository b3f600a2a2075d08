use Rattle.std.proofs.Common.{refl}
use Rattle.text_laws.proofs.limits_are.Goals as goal

pub returns : goal.returns
returns c =
    record { rows = refl; columns = refl; sheets = refl; bytes_of_a_text = refl; cells_with_a_text = refl; formulas = refl; names = refl; bytes_of_a_file = refl; listed_decisions = refl }
