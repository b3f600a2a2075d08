use Rattle.std.proofs.Common.{◌∙◌, ap, sym, subst, length, refl}
use Rattle.std.specs.Prelude.{zip}
use Rattle.sheet_model.specs.Answers.{Answers}
use Rattle.sheet_model.proofs.Spreading.{same_size}
use Rattle.sheet_funcs.proofs.Meeting.{numbers_where}
use Rattle.sheet_funcs.proofs.Summing.{same_lengths, sum_met}
use Rattle.sheet_funcs.proofs.criteria.sum_by.Goals as goal

pub total_met-requires : goal.total_met-requires
total_met-requires c =
    ap length c.full_elements.ensures.items
    ∙ same_lengths c.args.tested.now c.args.others.now c.full_elements.ensures.full c.full_elements-2.ensures.full
    (sym c.rows_of.ensures ∙ c.if-rows_of.false ∙ c.rows_of-2.ensures) (sym c.columns_of.ensures ∙ c.if-columns_of.false ∙ c.columns_of-else-rows_of.ensures)
    ∙ sym (ap length c.full_elements-2.ensures.items)

pub returns-clause-answer : goal.returns-clause-answer
returns-clause-answer c =
    let numbers = numbers_where c.read-criterion.result (zip c.full_elements.result.now c.full_elements-2.result.now) in
    subst (λ k. Answers k c.sum_answer.result)
    (sum_met c.args.tested.now c.args.criterion.now c.args.others.now c.in-Ok.criterion.now c.read-criterion.result c.full_elements.result.now c.full_elements-2.result.now numbers
    c.in-Ok.ensures c.read-criterion.ensures
    (same_size _ _ _ _ (sym c.rows_of.ensures ∙ c.if-rows_of.false ∙ c.rows_of-2.ensures) (sym c.columns_of.ensures ∙ c.if-columns_of.false ∙ c.columns_of-else-rows_of.ensures))
    c.full_elements.ensures.items c.full_elements-2.ensures.items refl)
    (c.sum_answer.ensures.answer numbers c.total_met.ensures)
