use Rattle.form_values.proofs.Opening.{some_open, entry_open}
use Rattle.form_values.proofs.abs.Abs.entry.Goals as goal

pub invariant_of-result : goal.invariant_of-result
invariant_of-result c =
    record {
      has_a_term = some_open c.args.form c.terms.result.now c.is_empty.result c.terms.ensures.terms c.is_empty.ensures c.if-is_empty.false c.terms.ensures.form;
    }

pub returns-else-is_empty : goal.returns-else-is_empty
returns-else-is_empty c = entry_open c.args.form _
