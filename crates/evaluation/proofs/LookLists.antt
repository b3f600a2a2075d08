-- Lists put together part by part.
use Rattle.std.proofs.Common.{◌≡◌, ℕ, ◌+◌, ◌<◌, List, [], ◌∷◌, ◌++◌, length, get_or, take, sym, ap, ◌∙◌, append_assoc, append-nil}
use Rattle.std.specs.Prelude.{flat_map}
use Rattle.std.proofs.lemmas.List.{take_more}
use Rattle.std.proofs.lemmas.List.Concat.{flat_map-append}

-- one part more behind the others
pub part_more : {A X : Type 0} (f : X → List A) (front now new : List A) (xs : List X) (i : ℕ) (x : X) → i < length xs → x ≡ get_or xs i x → now ≡ front ++ flat_map f (take i xs) → new ≡ now ++ f x
    → new ≡ front ++ flat_map f (take (i + 1) xs)
part_more f front now new xs i x h e all more =
    more ∙ ap (λ ys. ys ++ f x) all ∙ append_assoc front (flat_map f (take i xs)) (f x)
    ∙ ap (λ ys. front ++ ys)
    (ap (λ ys. flat_map f (take i xs) ++ ys) (sym (append-nil (f x))) ∙ sym (flat_map-append f (take i xs) (x ∷ []))
    ∙ ap (flat_map f) (ap (λ y. take i xs ++ y ∷ []) e ∙ sym (take_more xs i x h)))
