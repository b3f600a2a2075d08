use Rattle.affine_forms.proofs.FormLaws as laws
use Rattle.affine_forms.proofs.laws.movement_laws.Goals as goal

pub returns : goal.returns
returns c = laws.movement_laws
