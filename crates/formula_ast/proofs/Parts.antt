-- The parts of a list: how many they are, and what they say when one more of them has been visited.
use Rattle.std.proofs.Common.{◌≡◌, ◌≤◌, ◌<◌, ℕ, suc, zero, ◌+◌, List, [], ◌∷◌, ◌++◌, length, take, get_or, refl, sym, ap, ◌∙◌, append_assoc, append-nil, arith}
use Rattle.std.proofs.lemmas.List.{take_more}
use Rattle.cell_refs.specs.Areas.{Area}
use Rattle.formula_ast.specs.Measures.{references_of, all_references_of, listed}
use Rattle.formula_ast.specs.Size.{node_count, all_count}
use Rattle.formula_ast.specs.Sound.{count}
use Rattle.formula_ast.specs.Tree.{Tree, Listed, trees}
use Rattle.std.specs.Prelude.{map}

-- a list of trees has as many trees as items
pub count-trees : (xs : List Tree) → count (trees xs) ≡ length xs
count-trees [] = refl
count-trees (x ∷ xs) = ap suc (count-trees xs)

-- a tree of a list has no more parts than the whole list
pub node_count-le : (xs : List Tree) (i : ℕ) (x : Tree) → i < length xs → x ≡ get_or xs i x → node_count x ≤ all_count (trees xs)
node_count-le [] i x h e = absurd (omega arith)
node_count-le (y ∷ ys) zero x h e = omega (arith, ap node_count e)
node_count-le (y ∷ ys) (suc i) x h e = omega (arith, node_count-le ys i x (omega arith) e)

-- the areas of a list with one tree more at its end
all_references-push : (xs : List Tree) (x : Tree) → all_references_of (trees (xs ++ x ∷ [])) ≡ all_references_of (trees xs) ++ references_of x
all_references-push [] x = append-nil (references_of x)
all_references-push (y ∷ ys) x =
    ap (λ rest. references_of y ++ rest) (all_references-push ys x)
    ∙ sym (append_assoc (references_of y) (all_references_of (trees ys)) (references_of x))

-- the areas of the trees up to an index, and of the one at it
pub all_references-more : (xs : List Tree) (i : ℕ) (x : Tree) → i < length xs → x ≡ get_or xs i x
    → all_references_of (trees (take (i + 1) xs)) ≡ all_references_of (trees (take i xs)) ++ references_of x
all_references-more xs i x h e =
    ap (λ ys. all_references_of (trees ys)) (take_more xs i x h)
    ∙ all_references-push (take i xs) (get_or xs i x)
    ∙ ap (λ y. all_references_of (trees (take i xs)) ++ references_of y) (sym e)

-- areas of listed sheets alone
pub listed-map : (areas : List Area) → listed (map Listed areas) ≡ areas
listed-map [] = refl
listed-map (a ∷ areas) = ap (λ rest. a ∷ rest) (listed-map areas)

-- areas that are added behind others
pub one_more : (old whole here : List Area) {before now more : List Area} → now ≡ before ++ here → before ≡ old ++ whole → more ≡ whole ++ here → now ≡ old ++ more
one_more old whole here e e' e'' = e ∙ ap (λ areas. areas ++ here) e' ∙ append_assoc old whole here ∙ sym (ap (λ areas. old ++ areas) e'')
