use Rattle.std.proofs.Common.{sym, ◌∙◌, refl}
use Rattle.sheet_model.proofs.NumberTests.{is_zero-told, is_negative-told}
use Rattle.form_areas.proofs.lookups.kind_of.Goals as goal

pub returns-then-is_zero : goal.returns-then-is_zero
returns-then-is_zero c = rw (sym (is_zero-told c.is_zero.result _ c.is_zero.ensures) ∙ c.if-is_zero.true) refl

pub returns-else-is_negative : goal.returns-else-is_negative
returns-else-is_negative c =
    rw (sym (is_zero-told c.is_zero.result _ c.is_zero.ensures) ∙ c.if-is_zero.false, sym (is_negative-told c.is_negative.result _ c.is_negative.ensures) ∙ c.if-is_negative.false) refl
