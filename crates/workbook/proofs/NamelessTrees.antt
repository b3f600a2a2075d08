-- Trees in which neither a name nor a call of a function that there isn't stands.
use Rattle.std.proofs.Common.{◌≡◌, ◌<◌, ℕ, ◌+◌, Bool, true, false, List, get_or, length, take, Option, Some, refl, sym, ap, ◌∙◌}
use Rattle.std.specs.Prelude.{◌&&◌, ◌||◌, option_map}
use Rattle.std.specs.Option.{option_and_then}
use Rattle.std.proofs.lemmas.List.{take_more}
use Rattle.std.proofs.lemmas.List.Recursion.{and_fails_at, and_push}
use Rattle.formula_ast.specs.Tree.{Tree, Trees, none, more, trees}
use Rattle.formula_ast.specs.Tree as tree
use Rattle.workbook.specs.Kinds.{Meant, all_with_names, with_names}
use Rattle.workbook.specs.Uses.{any_use, name_nothing, names_nothing, some_use}

both : (a b : Bool) → (a && b) ≡ true → (a ≡ true) × (b ≡ true)
both true b e = (refl, e)
both false b e = absurd cc

-- such a tree is what it is with what names stand for in their places
module _ (look : List ℕ → Option Meant) where
  mutual
    pub nameless_stays : (t : Tree) → names_nothing t ≡ true → with_names look t ≡ Some t
    nameless_stays (tree.Number at x) h = refl
    nameless_stays (tree.WideNumber at x) h = refl
    nameless_stays (tree.Text at t) h = refl
    nameless_stays (tree.Logical at b) h = refl
    nameless_stays (tree.Fault at k) h = refl
    nameless_stays (tree.Missing at) h = refl
    nameless_stays (tree.Array at rows columns items) h = refl
    nameless_stays (tree.Reference at areas) h = refl
    nameless_stays (tree.Name at name) h = absurd cc
    nameless_stays (tree.Unknown at name args) h = absurd cc
    nameless_stays (tree.Call at func args) h = ap (option_map (tree.Call at func)) (all_stay args h)
    nameless_stays (tree.Plus at x) h = ap (option_map (tree.Plus at)) (nameless_stays x h)
    nameless_stays (tree.Minus at x) h = ap (option_map (tree.Minus at)) (nameless_stays x h)
    nameless_stays (tree.Percent at x) h = ap (option_map (tree.Percent at)) (nameless_stays x h)
    nameless_stays (tree.Infix at op x y) h =
        let b = both (names_nothing x) (names_nothing y) h in
        ap (option_and_then (λ a. option_map (tree.Infix at op a) (with_names look y))) (nameless_stays x b.0)
        ∙ ap (option_map (tree.Infix at op x)) (nameless_stays y b.1)

    all_stay : (ts : Trees) → name_nothing ts ≡ true → all_with_names look ts ≡ Some ts
    all_stay none h = refl
    all_stay (more t ts) h =
        let b = both (names_nothing t) (name_nothing ts) h in
        ap (option_and_then (λ a. option_map (more a) (all_with_names look ts))) (nameless_stays t b.0) ∙ ap (option_map (more t)) (all_stay ts b.1)

-- it uses no name
module _ (test : List ℕ → Bool) where
  neither : (a b : Bool) → a ≡ false → b ≡ false → (a || b) ≡ false
  neither a b e d = ap (λ c. c || b) e ∙ d

  mutual
    pub nameless_unused : (t : Tree) → names_nothing t ≡ true → some_use test t ≡ false
    nameless_unused (tree.Number at x) h = refl
    nameless_unused (tree.WideNumber at x) h = refl
    nameless_unused (tree.Text at t) h = refl
    nameless_unused (tree.Logical at b) h = refl
    nameless_unused (tree.Fault at k) h = refl
    nameless_unused (tree.Missing at) h = refl
    nameless_unused (tree.Array at rows columns items) h = refl
    nameless_unused (tree.Reference at areas) h = refl
    nameless_unused (tree.Name at name) h = absurd cc
    nameless_unused (tree.Unknown at name args) h = refl
    nameless_unused (tree.Call at func args) h = all_unused args h
    nameless_unused (tree.Plus at x) h = nameless_unused x h
    nameless_unused (tree.Minus at x) h = nameless_unused x h
    nameless_unused (tree.Percent at x) h = nameless_unused x h
    nameless_unused (tree.Infix at op x y) h =
        let b = both (names_nothing x) (names_nothing y) h in neither (some_use test x) (some_use test y) (nameless_unused x b.0) (nameless_unused y b.1)

    all_unused : (ts : Trees) → name_nothing ts ≡ true → any_use test ts ≡ false
    all_unused none h = refl
    all_unused (more t ts) h =
        let b = both (names_nothing t) (name_nothing ts) h in neither (some_use test t) (any_use test ts) (nameless_unused t b.0) (all_unused ts b.1)

-- ---- lists
-- one more such tree
pub nameless-more : (ts : List Tree) (i : ℕ) (t : Tree) → i < length ts → t ≡ get_or ts i t → name_nothing (trees (take i ts)) ≡ true → true ≡ names_nothing t
    → name_nothing (trees (take (i + 1) ts)) ≡ true
nameless-more ts i t h at before here =
    ap (λ l. name_nothing (trees l)) (take_more ts i t h)
    ∙ and_push (λ l. name_nothing (trees l)) names_nothing refl (λ u us. refl) (take i ts) (get_or ts i t)
    ∙ ap (λ b. b && names_nothing (get_or ts i t)) before
    ∙ ap names_nothing (sym at)
    ∙ sym here

-- another tree
pub named-here : (ts : List Tree) (i : ℕ) (t : Tree) → i < length ts → t ≡ get_or ts i t → false ≡ names_nothing t → false ≡ name_nothing (trees ts)
named-here ts i t h at here = sym (and_fails_at (λ l. name_nothing (trees l)) names_nothing refl (λ u us. refl) ts i t h (ap names_nothing (sym at) ∙ sym here))
