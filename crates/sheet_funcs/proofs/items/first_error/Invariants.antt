use Rattle.std.proofs.Common.{◌≡◌, drop}
use Rattle.sheet_funcs.specs.Arguments.{first_error}
use Rattle.sheet_funcs.proofs.items.first_error.Given as goal

-- no error so far
abbrev pub invariant-loop-item : goal.invariant-loop-item
invariant-loop-item l = first_error l.items ≡ first_error (drop l.item-index l.items)
