use Rattle.std.proofs.Common.{rules, string_bytes, sym, ◌∙◌}
use Rattle.std.proofs.lemmas.Iterator.{YieldsList-from_slice}
use Rattle.std.proofs.lemmas.Iterator.Search.{all_from_yields_List}
use Rattle.std.proofs.lemmas.List.Folds.{list_all-map}
use Rattle.command_line.specs.Words.{is_sheet}
use Rattle.optcheck_cli.proofs.reading.are_sheets.Goals as goal

pub returns : goal.returns
returns c =
    all_from_yields_List (λ w. is_sheet (string_bytes w)) _ _ c.all.result c.all.ensures.ran (YieldsList-from_slice c.args.words.now c.iter.ensures.rest) (λ x b q called. search rules)
    ∙ sym (list_all-map is_sheet string_bytes c.args.words.now)
