use Rattle.std.proofs.Common.{◌≡◌, ◌≤◌, ◌+◌, ◌++◌, drop, length, map}
use Rattle.solver_names.specs.Answers.{row_of}
use Rattle.solver_names.specs.Stated.{numbered}
use Rattle.solver_names.proofs.rows.rows_of.Given as goal

-- with those that are left the rows are all
abbrev pub invariant-loop-rel : goal.invariant-loop-rel
invariant-loop-rel l = record {
  all : map row_of l.numbered.items ++ numbered (l.k + 1) (drop l.rel-index l.rel-items) ≡ numbered 1 l.rel-items;
  at : l.k ≡ l.rel-index;
  few : length l.rel-items ≤ 256;
}
