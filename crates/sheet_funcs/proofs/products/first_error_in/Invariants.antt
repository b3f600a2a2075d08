use Rattle.std.proofs.Common.{◌≡◌, drop, map}
use Rattle.sheet_funcs.specs.Arguments.{first_error, grid_of}
use Rattle.sheet_funcs.specs.Products.{all_elements}
use Rattle.sheet_funcs.proofs.products.first_error_in.Given as goal

-- no error so far
abbrev pub invariant-loop-arg : goal.invariant-loop-arg
invariant-loop-arg l = first_error (all_elements (map grid_of l.args)) ≡ first_error (all_elements (map grid_of (drop l.arg-index l.args)))
