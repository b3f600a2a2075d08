use Rattle.affine_forms.proofs.FormLaws as laws
use Rattle.affine_forms.proofs.laws.worth_laws.Goals as goal

pub returns : goal.returns
returns c = laws.worth_laws
