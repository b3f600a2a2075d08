use Rattle.form_extraction.proofs.Cells.{side_is_the_value, side_of_circle, side_of_no_circle, side_refusal}
use Rattle.form_extraction.proofs.side_laws.Goals as goal

pub returns : goal.returns
returns c = record {
  value = λ book decisions t f h x. side_is_the_value book decisions t f h x;
  refusals = λ book decisions t at cause h. side_refusal book decisions t at cause h;
  circle = side_of_circle;
  no_circle = side_of_no_circle;
}
