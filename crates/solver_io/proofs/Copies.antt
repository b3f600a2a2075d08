-- The bytes of pieces that are kept, with one more.
use Rattle.std.proofs.Common.{◌≡◌, ◌∙◌, ◌++◌, ◌∷◌, ℕ, List, [], sym, ap, append_assoc, append-nil}
use Rattle.std.specs.Prelude.{Vec, map}
use Rattle.std.specs.Global.{Global}
use Rattle.std.specs.List.{concat}

abbrev pub bytes_of : List (Vec ℕ Global) → List ℕ
bytes_of pieces = concat (map (λ piece. piece.items) pieces)

one_more : (pieces : List (Vec ℕ Global)) (piece : Vec ℕ Global) → bytes_of pieces ++ piece.items ≡ bytes_of (pieces ++ piece ∷ [])
one_more [] piece = sym (append-nil piece.items)
one_more (p ∷ pieces) piece = append_assoc p.items (bytes_of pieces) piece.items ∙ ap (λ l. p.items ++ l) (one_more pieces piece)

-- a copy of what was appended is one more piece
pub copied : (pieces more : List (Vec ℕ Global)) (copy : Vec ℕ Global) (old new piece : List ℕ) → old ≡ bytes_of pieces → copy.items ≡ piece → more ≡ pieces ++ copy ∷ []
    → new ≡ old ++ piece → new ≡ bytes_of more
copied pieces more copy old new piece kept is pushed appended =
    rw (appended, kept, ← is, pushed) (one_more pieces copy)
