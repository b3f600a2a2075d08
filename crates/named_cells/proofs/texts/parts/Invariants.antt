use Rattle.std.proofs.Common.{◌≡◌, false, map, string_bytes}
use Rattle.std.specs.Str.Iter.{chars_rest}
use Rattle.solver_names.specs.Texts.{parts_from}
use Rattle.solver_names.proofs.PartLists.{glued}
use Rattle.named_cells.proofs.texts.parts.Given as goal

-- with what is left of the text the parts are all
abbrev pub invariant-loop-c : goal.invariant-loop-c
invariant-loop-c l = glued (map string_bytes l.parts.items) (string_bytes l.part) (parts_from l.is_quoted (chars_rest l.c-iterator)) ≡ parts_from false l.fn.text
