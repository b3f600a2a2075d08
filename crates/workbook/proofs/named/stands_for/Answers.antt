use Rattle.std.proofs.Common.{◌∙◌, ℕ, List, ap, sym}
use Rattle.std.specs.Prelude.{option_map}
use denote.Ref.{Bor}
use Rattle.workbook.specs.Known.{names_in}
use Rattle.workbook.proofs.NameLaws.{short_for}
use Rattle.workbook.proofs.named.stands_for.Goals as goal

pub meaning_of-requires-clause-length : goal.meaning_of-requires-clause-length
meaning_of-requires-clause-length c =
    short_for (names_in c.args.scope.now) c.args.scope.now.home.0 c.args.name.now c.in-Some.text.now c.requires.short
    (ap (option_map (λ (t : Bor (List ℕ)). t.now)) (sym c.in-Some.is) ∙ c.in_ok-text.ensures)
