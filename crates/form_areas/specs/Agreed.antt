-- The error on which the places agree at which a search may have ended so far.
use Rattle.std.specs.Prelude.{Bool, false, Option, Some, None}
use Rattle.cell_refs.specs.declared.error_kind.ErrorKind.{ErrorKind}
use Rattle.form_table.specs.CertainRecords.{same_error}

-- whether the search certainly ends at an element
abbrev pub is_end : Option Bool → Bool
is_end (Some b) = b
is_end None = false

-- with one more, where there is any
abbrev pub joined : Option (Option ErrorKind) → Option ErrorKind → Option ErrorKind
joined None e = e
joined (Some f) e = same_error f e

-- behind an element it is joined with what is found there, where it isn't known whether the search ends there
abbrev pub agreed_behind : Option Bool → Option (Option ErrorKind) → Option ErrorKind → Option (Option ErrorKind)
agreed_behind (Some b) agreed there = agreed
agreed_behind None agreed there = Some (joined agreed there)
