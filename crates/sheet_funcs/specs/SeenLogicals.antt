-- Which logicals are among some.
use Rattle.std.specs.Prelude.{Bool, ◌||◌, not, List, Result}
use Rattle.std.specs.List.{list_any}
use Rattle.std.specs.Result.{result_map_both}
use Rattle.cell_refs.specs.declared.error_kind.ErrorKind.{ErrorKind}
use Rattle.sheet_funcs.specs.declared.logic.Seen.{Seen}

abbrev pub seen_of : List Bool → Seen
seen_of bs = record { some_true = list_any (λ b. b) bs; some_false = list_any not bs }

-- what is among two lists together
abbrev pub joined : Seen → Seen → Seen
joined s t = record { some_true = s.some_true || t.some_true; some_false = s.some_false || t.some_false }

-- the same of logicals or an error
abbrev pub seen_or_error : Result (List Bool) ErrorKind → Result Seen ErrorKind
seen_or_error r = result_map_both seen_of (λ k. k) r
