-- Right sides, one after the other.
use Rattle.std.proofs.Common.{◌≡◌, ◌<◌, ◌+◌, ℕ, suc, List, [], ◌∷◌, ◌++◌, flat_map, get_or, length, take, sym, ap, ◌∙◌, arith, append-nil}
use Rattle.std.proofs.Math.Seq.{take-suc}
use Rattle.std.proofs.lemmas.Grind.{flat_map-append}

pub part_more : {X A : Type 0} (f : X → List A) (xs : List X) (i : ℕ) (x : X) (old new : List A) → i < length xs → x ≡ get_or xs i x → old ≡ flat_map f (take i xs) → new ≡ old ++ f x
    → new ≡ flat_map f (take (i + 1) xs)
part_more f xs i x old new below is so_far put =
    let q : suc i ≡ i + 1 = omega arith in
    put ∙ ap (λ l. l ++ f x) so_far ∙ ap (λ l. flat_map f (take i xs) ++ l) (sym (append-nil (f x))) ∙ sym (flat_map-append f (take i xs) (x ∷ []))
    ∙ ap (λ y. flat_map f (take i xs ++ y ∷ [])) is ∙ ap (flat_map f) (sym (take-suc xs i x below) ∙ ap (λ n. take n xs) q)
