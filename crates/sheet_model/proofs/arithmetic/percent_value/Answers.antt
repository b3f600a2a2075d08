use Rattle.std.proofs.Common.{◌≡◌, sym, ◌∙◌, pos}
use Rattle.fractions.proofs.Whole.{whole-zero, whole_injective}
use Rattle.sheet_model.proofs.Calculated.{quotient-told}
use Rattle.sheet_model.proofs.arithmetic.percent_value.Goals as goal

pub div-requires : goal.div-requires
div-requires c h = let same : pos 100 ≡ pos 0 = whole_injective (pos 100) (pos 0) (sym c.from_whole.ensures ∙ h ∙ sym whole-zero) in cc

pub returns-in-Ok : goal.returns-in-Ok
returns-in-Ok c = rw (← c.in-Ok.ensures, c.number.ensures, ← c.from_whole.ensures) (quotient-told c.in-Ok.x c.from_whole.result c.div.result c.div.ensures)
