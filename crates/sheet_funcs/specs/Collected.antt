-- Lists behind others.
use Rattle.std.specs.Prelude.{List, ◌++◌, Result}
use Rattle.std.specs.Result.{result_map_both}
use Rattle.cell_refs.specs.declared.error_kind.ErrorKind.{ErrorKind}

-- more behind what is there, or the first error
abbrev pub behind : {A : Type 0} → List A → Result (List A) ErrorKind → Result (List A) ErrorKind
behind front r = result_map_both (λ xs. front ++ xs) (λ k. k) r
