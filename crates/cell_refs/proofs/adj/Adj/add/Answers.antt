use Rattle.std.proofs.Common.{◌≡◌, ◌∙◌, ap, ◌++◌, ◌∷◌, [], false}
use Rattle.std.specs.Prelude.{if◌then◌else◌}
use Rattle.std.specs.List.{list_any}
use Rattle.indexmap.specs.IndexSet.{insert_key}
use Rattle.cell_refs.specs.Cells.{is_same_cell}
use Rattle.cell_refs.proofs.Positions.{none_passes}
use Rattle.cell_refs.proofs.adj.Adj.add.Goals as goal

pub returns-clause-ok : goal.returns-clause-ok
returns-clause-ok c =
    let before = c.args.self.now in
    let isnt : list_any (is_same_cell c.args.cell) before ≡ false = none_passes (is_same_cell c.args.cell) before c.requires.new in
    c.in_ok-insert.ensures.keys ∙ ap (λ ks. insert_key is_same_cell ks c.args.cell) c.self.view_is ∙ ap (λ b. if b then before else before ++ c.args.cell ∷ []) isnt
