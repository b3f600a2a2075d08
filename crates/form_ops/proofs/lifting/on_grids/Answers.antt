use Rattle.std.proofs.Common.{sym, ◌∙◌, Ok}
use Rattle.form_values.specs.declared.abs.Abs.{Abs}
use Rattle.form_table.specs.Operators.{infix_abs, with_items}
use Rattle.sheet_model.proofs.Spreading.{same_pairs, same_size}
use Rattle.form_ops.proofs.Trying.{let_through, spread_refused, spread_given}
use Rattle.form_ops.proofs.lifting.on_grids.Goals as goal

pub returns-in_err-items : goal.returns-in_err-items
returns-in_err-items c =
    let f = λ (p : Abs × Abs). infix_abs c.args.op p.0 p.1 in
    let_through _ _ _ _ (same_size _ _ _ _ (sym c.rows.ensures.count ∙ c.if-rows.false ∙ c.rows-2.ensures.count) (sym c.cols.ensures.count ∙ c.if-cols.false ∙ c.cols-else-rows.ensures.count))
    (spread_refused f (with_items c.args.first.now) _ _ _ _ (same_pairs _ _ _ _ c.items.ensures.items c.items-2.ensures.items) c.from_residual.ensures.1 c.in_err-items.ensures.narrow)

pub returns : goal.returns
returns c =
    let f = λ (p : Abs × Abs). infix_abs c.args.op p.0 p.1 in
    rw c.with_items.ensures
    (let_through _ _ _ (Ok _) (same_size _ _ _ _ (sym c.rows.ensures.count ∙ c.if-rows.false ∙ c.rows-2.ensures.count) (sym c.cols.ensures.count ∙ c.if-cols.false ∙ c.cols-else-rows.ensures.count))
    (spread_given f (with_items c.args.first.now) _ _ _ (same_pairs _ _ _ _ c.items.ensures.items c.items-2.ensures.items) c.in_ok-items.ensures.narrow))
