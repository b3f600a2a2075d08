use Rattle.std.proofs.Common.{arith}
use Rattle.affine_forms.proofs.Rising.{one_is_some}
use Rattle.affine_forms.proofs.form.Form.decision.Goals as goal

pub invariant_of-result : goal.invariant_of-result
invariant_of-result c = rw c.one-2.ensures record { rise = (omega arith, one_is_some _ c.one.ensures, tt) }
