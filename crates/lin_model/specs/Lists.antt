-- Vectors of numbers of decisions, as lists.
use Rattle.std.specs.Prelude.{ℕ, List, map, Vec}
use Rattle.std.specs.Global.{Global}

-- the list that each vector holds
abbrev pub lists_of : List (Vec ℕ Global) → List (List ℕ)
lists_of vectors = map (λ (v : Vec ℕ Global). v.items) vectors
