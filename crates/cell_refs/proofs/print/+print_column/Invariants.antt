use Rattle.cell_refs.proofs.print.+print_column.Given as goal

-- fewer letters are left
abbrev pub decreases-print_column : goal.decreases-print_column
decreases-print_column l = l.col
