use Rattle.std.proofs.Common.{◌∙◌, ap, sym}
use Rattle.std.specs.Prelude.{option_map}
use denote.Ref.{Bor}
use Rattle.std.proofs.Common.{List, ℕ, Option}
use Rattle.formula_parser.proofs.Letters.{tested}
use Rattle.workbook.specs.Uses.{is_wanted}
use Rattle.workbook.proofs.uses.is_wanted.Goals as goal

pub returns-in-Some : goal.returns-in-Some
returns-in-Some c =
    tested c.args.name.now c.in-Some.wanted.now c.eq_ignore_ascii_case.result c.eq_ignore_ascii_case.ensures.test
    ∙ ap (λ (o : Option (Bor (List ℕ))). is_wanted (option_map (λ w. w.now) o) c.args.name.now) (sym c.in-Some.is)
