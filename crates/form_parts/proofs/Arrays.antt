-- The items of arrays.
use Rattle.std.proofs.Common.{◌≡◌, ◌∙◌, ◌+◌, ◌<◌, ℕ, suc, List, [], ◌∷◌, ◌++◌, length, take, get_or, refl, sym, ap}
use Rattle.std.proofs.lemmas.List.{take_more}
use Rattle.formula_ast.specs.Sound.{count}
use Rattle.formula_ast.specs.Tree.{Tree, Trees, none, more, trees}
use Rattle.recalculation.specs.Evaluation.{literal, literals}
use Rattle.sheet_model.specs.declared.value.Value.{Value}

literals-push : (xs : List Tree) (x : Tree) → literals (trees (xs ++ x ∷ [])) ≡ literals (trees xs) ++ literal x ∷ []
literals-push [] x = refl
literals-push (y ∷ xs) x = ap (λ vs. literal y ∷ vs) (literals-push xs x)

-- the items up to a place, and the one at it
literals-more : (xs : List Tree) (i : ℕ) (x : Tree) → i < length xs → x ≡ get_or xs i x → literals (trees (take (i + 1) xs)) ≡ literals (trees (take i xs)) ++ literal x ∷ []
literals-more xs i x h e = ap (λ ys. literals (trees ys)) (take_more xs i x h) ∙ literals-push (take i xs) (get_or xs i x) ∙ ap (λ y. literals (trees (take i xs)) ++ literal y ∷ []) (sym e)

-- one value more
pub literals_go : (xs : List Tree) (i : ℕ) (x : Tree) (so_far now : List Value) (v : Value) → i < length xs → x ≡ get_or xs i x
    → so_far ≡ literals (trees (take i xs)) → v ≡ literal x → now ≡ so_far ++ v ∷ [] → now ≡ literals (trees (take (i + 1) xs))
literals_go xs i x so_far now v h e before here after = after ∙ (λ j. (before j) ++ (here j) ∷ []) ∙ sym (literals-more xs i x h e)

-- an array has as many values as items
pub literals-count : (ts : Trees) → length (literals ts) ≡ count ts
literals-count none = refl
literals-count (more t ts) = ap suc (literals-count ts)
