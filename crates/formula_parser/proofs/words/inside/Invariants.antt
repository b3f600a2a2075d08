use Rattle.std.proofs.Common.{◌≡◌, ◌++◌, string_bytes}
use Rattle.std.specs.Str.Iter.{chars_rest}
use Rattle.formula_grammar.specs.Words.{inside}
use Rattle.formula_parser.proofs.Quotes.{inside_from}
use Rattle.formula_parser.proofs.words.inside.Given as goal

-- the characters so far are appended, and what is left gives the others
abbrev pub invariant-loop-c : goal.invariant-loop-c
invariant-loop-c l = string_bytes l.content ++ inside_from l.is_behind_quote l.quote (chars_rest l.c-iterator) ≡ inside l.quote l.fn.text
