use Rattle.affine_forms.proofs.FormLaws as laws
use Rattle.affine_forms.proofs.laws.multiple_laws.Goals as goal

pub returns : goal.returns
returns c = laws.multiple_laws
