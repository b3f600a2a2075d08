use Rattle.std.proofs.Common.{[], ◌∷◌, ◌++◌, subst, sym}
use Rattle.needed_cells.specs.Finding.{AreAdded}
use Rattle.needed_cells.proofs.Adding.{one_new}
use Rattle.needed_cells.proofs.found.add.Goals as goal

pub returns : goal.returns
returns c =
    subst (λ xs. AreAdded (c.args.cell ∷ []) c.args.found.now c.args.pending.now.items c.add.new.self xs) (sym c.in_ok-push.ensures.items)
    (subst (λ s. AreAdded (c.args.cell ∷ []) c.args.found.now c.args.pending.now.items s (c.args.pending.now.items ++ c.args.cell ∷ [])) (sym c.in_ok-add.ensures.ok)
    (one_new c.args.cell c.args.found.now c.args.pending.now.items (sym c.if-has.ensures)))
