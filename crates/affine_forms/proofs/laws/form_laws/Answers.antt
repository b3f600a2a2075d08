use Rattle.affine_forms.proofs.FormLaws as laws
use Rattle.affine_forms.proofs.laws.form_laws.Goals as goal

pub returns : goal.returns
returns c = laws.form_laws
