-- The kinds of search that a lookup may be, what it finds, and what the first keys say of it.
use Rattle.std.specs.Prelude.{ℕ, Bool, false, if◌then◌else◌, List, [], ◌∷◌, Option, Some, None}
use Rattle.std.specs.Ordering.{is_eq, is_gt, is_lt}
use Rattle.std.specs.declared.cmp.Ordering.{Ordering}
use Rattle.sheet_model.specs.Comparison.{value_cmp}
use Rattle.sheet_model.specs.declared.value.Value.{Value}
use Rattle.sheet_model.specs.declared.grid.Arg.{Arg}
use Rattle.sheet_funcs.specs.Arguments.{grid_of, value_of}
use Rattle.sheet_funcs.specs.Lookups.{found, is_key}
use Rattle.sheet_funcs.specs.declared.lookups.MatchKind.{MatchKind}
use Rattle.sheet_funcs.specs.declared.lookups.MatchKind.TheVariants.{Equal, Rising, Falling}

-- one that is known, or either
abbrev pub kinds_asked : Option MatchKind → List MatchKind
kinds_asked (Some kind) = kind ∷ []
kinds_asked None = Equal ∷ Rising ∷ []

-- where a key is found among keys
abbrev pub found_in : MatchKind → Arg → Arg → Option ℕ
found_in kind key keys = found kind (value_of key) (grid_of keys).items

-- what a value says of whether the key is never found, by its order beside the key, where none was found before: nothing where the
-- search goes on
abbrev pub never_at : MatchKind → Ordering → Option Bool
never_at Equal order = if is_eq order then Some false else None
never_at Rising order = Some (is_gt order)
never_at Falling order = Some (is_lt order)

abbrev pub never_by : MatchKind → Value → Value → Option Bool
never_by kind key v = if is_key v then never_at kind (value_cmp v key) else None
