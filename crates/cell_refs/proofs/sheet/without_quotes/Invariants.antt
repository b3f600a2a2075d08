use Rattle.std.proofs.Common.{◌≡◌, string_bytes}
use Rattle.std.specs.Str.Iter.{chars_rest}
use Rattle.cell_refs.specs.Sheets.{unquoted}
use Rattle.cell_refs.proofs.Quoted.{joined, left_of}
use Rattle.cell_refs.proofs.sheet.without_quotes.Given as goal

-- with what is left of the text the name is whole
abbrev pub invariant-loop-c : goal.invariant-loop-c
invariant-loop-c l = joined (string_bytes l.name) (left_of l.is_behind_quote (chars_rest l.c-iterator)) ≡ unquoted l.fn.text
