-- What inner contracts cite.
use Rattle.std.specs.Prelude.{ℕ, List, [], ◌∷◌, ◌++◌}

-- texts in a row, each behind a comma
abbrev pub preceded : List (List ℕ) → List ℕ
preceded [] = []
preceded (t ∷ texts) = 44 ∷ (t ++ preceded texts)
