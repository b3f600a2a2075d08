use Rattle.std.proofs.Common.{◌∷◌, ◌++◌, ◌≡◌, ◌<◌, ◌∙◌, [], cond, ap, arith, get_or, length, refl, ℕ}
use Rattle.std.specs.Prelude.{◌==◌}
use Rattle.recalc.specs.Places.{in_rows}
use Rattle.recalc.proofs.Grown.{default_unseen, grown, on_ok, sheet_put}
use Rattle.recalc.proofs.places.Places.put.Goals as goal

pub loop-init : goal.loop-init
loop-init c = (omega (arith, c.len-counter.ensures), λ n. refl)

pub loop-preserved : goal.loop-preserved
loop-preserved c = (
  omega (arith, c.loop.invariant.0, c.in_ok-push.ensures.len),
  λ n. ap (λ l. get_or l n []) (c.in_ok-push.ensures.items ∙ ap (λ x. c.loop.self-inside.sheets.items ++ x ∷ []) c.new.ensures) ∙ grown c.loop.self-inside.sheets.items n [] ∙ c.loop.invariant.1 n,
)

pub index_mut-requires : goal.index_mut-requires
index_mut-requires c = omega (arith, c.loop.invariant.0, c.loop-test.false)

pub returns : goal.returns
returns c =
    let less : c.args.cell.sheet.0 < length c.loop.self-inside.sheets.items = (omega (arith, c.loop.invariant.0, c.loop-test.false, c.loop.self-inside.sheets.ok.0)) in
    let same : (n : ℕ) → get_or c.loop.self-inside.sheets.items n [] ≡ get_or c.args.self.now n [] = (λ n. c.loop.invariant.1 n ∙ ap (λ l. get_or l n []) c.self.view_is) in
    let there = c.index_mut.ensures.value ∙ default_unseen c.loop.self-inside.sheets.items c.args.cell.sheet.0 c.index_mut.result.now [] less ∙ same c.args.cell.sheet.0 in
    on_ok c.put.result c.put.ensures (λ own. sheet_put c.loop.self-inside.sheets.items c.args.self.now c.args.cell c.args.place c.put.new.self less same (λ r n. own r n ∙ ap (λ k. cond (r == c.args.cell.row) (cond (n == c.args.cell.col) c.args.place (in_rows k r n)) (in_rows k r n)) there))
