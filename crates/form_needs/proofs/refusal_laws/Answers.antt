use Rattle.form_needs.proofs.Numbers.{forms_where_none_is_refused}
use Rattle.form_needs.proofs.One.{one_refusal}
use Rattle.form_needs.proofs.refusal_laws.Goals as goal

pub returns-clause-one : goal.returns-clause-one
returns-clause-one c = one_refusal

pub returns-clause-forms : goal.returns-clause-forms
returns-clause-forms c = forms_where_none_is_refused
