use Rattle.affine_forms.proofs.NarrowForms as laws
use Rattle.affine_forms.proofs.laws.narrow_laws.Goals as goal

pub returns : goal.returns
returns c = laws.narrow_laws
