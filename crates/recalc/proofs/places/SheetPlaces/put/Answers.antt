use Rattle.std.proofs.Common.{◌∷◌, ◌++◌, ◌≡◌, ◌<◌, ◌∙◌, [], cond, ap, arith, get_or, length, refl, ℕ}
use Rattle.std.specs.Prelude.{◌==◌}
use Rattle.recalc.proofs.Grown.{default_unseen, grown, on_ok, row_put}
use Rattle.recalc.proofs.places.SheetPlaces.put.Goals as goal

pub loop-init : goal.loop-init
loop-init c = (omega (arith, c.len-counter.ensures), λ n. refl)

pub loop-preserved : goal.loop-preserved
loop-preserved c = (
  omega (arith, c.loop.invariant.0, c.in_ok-push.ensures.len),
  λ n. ap (λ l. get_or l n []) (c.in_ok-push.ensures.items ∙ ap (λ x. c.loop.self-inside.rows.items ++ x ∷ []) c.new.ensures) ∙ grown c.loop.self-inside.rows.items n [] ∙ c.loop.invariant.1 n,
)

pub index_mut-requires : goal.index_mut-requires
index_mut-requires c = omega (arith, c.loop.invariant.0, c.loop-test.false)

pub returns : goal.returns
returns c =
    let less : c.args.row < length c.loop.self-inside.rows.items = (omega (arith, c.loop.invariant.0, c.loop-test.false, c.loop.self-inside.rows.ok.0)) in
    let same : (n : ℕ) → get_or c.loop.self-inside.rows.items n [] ≡ get_or c.args.self.now n [] = (λ n. c.loop.invariant.1 n ∙ ap (λ l. get_or l n []) c.self.view_is) in
    let there = c.index_mut.ensures.value ∙ default_unseen c.loop.self-inside.rows.items c.args.row c.index_mut.result.now [] less ∙ same c.args.row in
    on_ok c.put.result c.put.ensures (λ own. row_put c.loop.self-inside.rows.items c.args.self.now c.args.row c.args.col c.args.place c.put.new.self less same (λ n. own n ∙ ap (λ k. cond (n == c.args.col) c.args.place (get_or k n 0)) there))
