use Rattle.std.proofs.Common.{◌≡◌, map, take}
use Rattle.std.specs.Prelude.{zip}
use Rattle.sheet_prices.specs.Prices.{line_of}
use Rattle.sheet_prices.proofs.telling.lines_of.Given as goal

abbrev pub invariant-loop-place : goal.invariant-loop-place
invariant-loop-place l = l.lines.items ≡ map line_of (zip (take l.place l.numbers) (take l.place l.prices))
