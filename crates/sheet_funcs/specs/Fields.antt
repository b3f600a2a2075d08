-- A record and a field, or the error in their place.
use Rattle.std.specs.Prelude.{ℕ, ◌<◌, Result, Ok, Err}
use Rattle.cell_refs.specs.declared.error_kind.ErrorKind.{ErrorKind}
use Rattle.sheet_funcs.specs.declared.pick.Pick.{Pick}
use Rattle.sheet_funcs.specs.declared.pick.Pick.TheVariants.{Part, Fault}

-- the part that is one field
abbrev pub one_field : Result (ℕ × ℕ) ErrorKind → Pick
one_field (Ok p) = Part p.0 p.1 p.0 p.1
one_field (Err k) = Fault k

-- they are some of so many
abbrev pub AreWithin : ℕ → ℕ → ℕ × ℕ → Type 0
AreWithin keys fields p = (p.0 < keys) × (p.1 < fields)
