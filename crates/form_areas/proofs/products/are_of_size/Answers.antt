use Rattle.std.proofs.Common.{rules, sym, ◌∙◌}
use Rattle.std.proofs.lemmas.Iterator.{YieldsList-from_slice}
use Rattle.std.proofs.lemmas.Iterator.Search.{all_from_yields_List}
use Rattle.std.proofs.lemmas.List.Folds.{list_all-map}
use Rattle.form_table.specs.Products.{is_of_size}
use Rattle.form_table.specs.Wanted.{grid_of}
use Rattle.form_areas.proofs.products.are_of_size.Goals as goal

pub returns : goal.returns
returns c =
    let first = grid_of c.args.first.now in
    all_from_yields_List (λ other. is_of_size first (grid_of other)) _ _ c.all.result c.all.ensures.ran (YieldsList-from_slice c.args.others.now c.iter.ensures.rest) (λ x b q called. search rules)
    ∙ sym (list_all-map (is_of_size first) grid_of c.args.others.now)
