use Rattle.std.proofs.Common.{drop, map}
use Rattle.dep_table.specs.Formulas.{pair_of}
use Rattle.dep_table.proofs.OpenLaws.{HasCome}
use Rattle.dep_table.proofs.open.formulas_of.Given as goal

abbrev pub invariant-loop-found : goal.invariant-loop-found
invariant-loop-found l = HasCome l.book (drop l.found-index l.found-items) (map pair_of l.formulas.items)
