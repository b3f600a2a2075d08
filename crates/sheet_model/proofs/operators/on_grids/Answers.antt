use Rattle.std.proofs.Common.{sym, ◌∙◌, Ok}
use Rattle.sheet_model.specs.Operators.{infix_value, with_items}
use Rattle.sheet_model.specs.declared.value.Value.{Value}
use Rattle.sheet_model.proofs.Spreading.{same_pairs, same_size, let_through, spread_stopped, spread_answered}
use Rattle.sheet_model.proofs.operators.on_grids.Goals as goal

pub returns-in_err-items : goal.returns-in_err-items
returns-in_err-items c =
    let f = λ (p : Value × Value). infix_value c.args.op p.0 p.1 in
    let_through _ _ _ _ (same_size _ _ _ _ (sym c.rows.ensures.count ∙ c.if-rows.false ∙ c.rows-2.ensures.count) (sym c.cols.ensures.count ∙ c.if-cols.false ∙ c.cols-else-rows.ensures.count))
    (spread_stopped f (with_items c.args.first.now) _ _ _ _ (same_pairs _ _ _ _ c.items.ensures.items c.items-2.ensures.items) c.from_residual.ensures.1 c.in_err-items.ensures.narrow)

pub returns : goal.returns
returns c =
    let f = λ (p : Value × Value). infix_value c.args.op p.0 p.1 in
    rw c.with_items.ensures
    (let_through _ _ _ (Ok _) (same_size _ _ _ _ (sym c.rows.ensures.count ∙ c.if-rows.false ∙ c.rows-2.ensures.count) (sym c.cols.ensures.count ∙ c.if-cols.false ∙ c.cols-else-rows.ensures.count))
    (spread_answered f (with_items c.args.first.now) _ _ _ (same_pairs _ _ _ _ c.items.ensures.items c.items-2.ensures.items) c.in_ok-items.ensures.narrow))
