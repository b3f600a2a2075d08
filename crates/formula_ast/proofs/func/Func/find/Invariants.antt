-- The functions that are left find what all of them do.
use Rattle.std.proofs.Common.{◌≡◌, drop}
use Rattle.formula_ast.proofs.Names.{named, small}
use Rattle.formula_ast.proofs.func.Func.find.Given as goal

abbrev pub invariant-loop-func : goal.invariant-loop-func
invariant-loop-func l = named (small l.name) (drop l.func-index l.func-items) ≡ named (small l.name) l.initial.func-items
