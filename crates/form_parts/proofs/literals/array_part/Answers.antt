use Rattle.std.proofs.Common.{ap, ◌∙◌, length}
use Rattle.formula_ast.specs.Tree.{trees}
use Rattle.form_parts.proofs.Arrays.{literals-count}
use Rattle.form_parts.proofs.literals.array_part.Goals as goal

pub unreachable-requires : goal.unreachable-requires
unreachable-requires c =
    absurd (c.in-None.ensures.none
    (record {
      some_rows = c.requires.some_rows;
      some_columns = c.requires.some_columns;
      size = ap length c.in_ok-values.ensures ∙ literals-count (trees c.args.items.now) ∙ c.requires.size;
    }))
