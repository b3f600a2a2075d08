-- The parts of expressions.
use Rattle.std.proofs.Common.{◌≡◌, ◌<◌, ◌+◌, ℕ, suc, List, [], ◌∷◌, ◌++◌, length, take, get_or, refl, sym, ap, ◌∙◌, Option, arith}
use Rattle.std.proofs.lemmas.List.{length-take-le, take_more}
use Rattle.cell_refs.specs.declared.cell.Cell.{Cell}
use Rattle.cell_refs.specs.declared.span.Span.{Span}
use Rattle.formula_ast.proofs.Parts.{count-trees}
use Rattle.formula_ast.specs.Sound.{count}
use Rattle.formula_ast.specs.Tree.{Tree, Trees, none, more, trees}
use Rattle.formula_ast.specs.View.{tree_of}
use Rattle.formula_ast.specs.declared.expr.Node.{Node}
use Rattle.recalculation.specs.Evaluation.{literal, literals}
use Rattle.recalculation.specs.Looks.{Argument}
use Rattle.recalculation.specs.Looking.{arguments}
use Rattle.sheet_model.specs.declared.value.Value.{Value}
use Rattle.sheet_model.specs.declared.grid.Arg.{Arg}
use Rattle.evaluation.specs.Parts.{part_of}
use Rattle.evaluation.specs.Tables.{unread_at, is_place, read_at}
use Rattle.evaluation.proofs.Unread.{unread_push}

-- ---- arrays
literals-push : (xs : List Tree) (x : Tree) → literals (trees (xs ++ x ∷ [])) ≡ literals (trees xs) ++ literal x ∷ []
literals-push [] x = refl
literals-push (y ∷ xs) x = ap (λ vs. literal y ∷ vs) (literals-push xs x)

-- the items up to a place, and the one at it
literals-more : (xs : List Tree) (i : ℕ) (x : Tree) → i < length xs → x ≡ get_or xs i x → literals (trees (take (i + 1) xs)) ≡ literals (trees (take i xs)) ++ literal x ∷ []
literals-more xs i x h e = ap (λ ys. literals (trees ys)) (take_more xs i x h) ∙ literals-push (take i xs) (get_or xs i x) ∙ ap (λ y. literals (trees (take i xs)) ++ literal y ∷ []) (sym e)

-- one value more
pub literals_go : (xs : List Tree) (i : ℕ) (x : Tree) (so_far now : List Value) (v : Value) → i < length xs → x ≡ get_or xs i x
    → so_far ≡ literals (trees (take i xs)) → v ≡ literal x → now ≡ so_far ++ v ∷ [] → now ≡ literals (trees (take (i + 1) xs))
literals_go xs i x so_far now v h e before here after = after ∙ (λ j. (before j) ++ (here j) ∷ []) ∙ sym (literals-more xs i x h e)

-- an array has as many values as items
pub literals-count : (ts : Trees) → length (literals ts) ≡ count ts
literals-count none = refl
literals-count (more t ts) = ap suc (literals-count ts)

-- ---- arguments
module _ (known : Cell → Option Value) where
  arguments-push : (xs : List Tree) (x : Tree) → arguments known (trees (xs ++ x ∷ [])) ≡ arguments known (trees xs) ++ part_of known x ∷ []
  arguments-push [] x = refl
  arguments-push (y ∷ xs) x = ap (λ args. part_of known y ∷ args) (arguments-push xs x)

  -- the arguments up to a place, and the one at it
  arguments-more : (xs : List Tree) (i : ℕ) (x : Tree) → i < length xs → x ≡ get_or xs i x
      → arguments known (trees (take (i + 1) xs)) ≡ arguments known (trees (take i xs)) ++ part_of known x ∷ []
  arguments-more xs i x h e = ap (λ ys. arguments known (trees ys)) (take_more xs i x h) ∙ arguments-push (take i xs) (get_or xs i x) ∙ ap (λ y. arguments known (trees (take i xs)) ++ part_of known y ∷ []) (sym e)

  -- one argument more
  pub arguments_go : (xs : List Tree) (i : ℕ) (x : Tree) (so_far now : List (Argument Arg)) (a : Argument Arg) → i < length xs → x ≡ get_or xs i x
      → so_far ≡ arguments known (trees (take i xs)) → a ≡ part_of known x → now ≡ so_far ++ a ∷ [] → now ≡ arguments known (trees (take (i + 1) xs))
  arguments_go xs i x so_far now a h e before here after = after ∙ (λ j. (before j) ++ (here j) ∷ []) ∙ sym (arguments-more xs i x h e)

  -- as many as there are trees
  pub arguments-count : (ts : Trees) → length (arguments known ts) ≡ count ts
  arguments-count none = refl
  arguments-count (more t ts) = ap suc (arguments-count ts)

  -- the part of an expression is that of its node
  pub of_node : (e : Tree) (s : Span) (n m : Node) → tree_of s n ≡ e → n ≡ m → part_of known e ≡ part_of known (tree_of s m)
  of_node e s n m view is = ap (part_of known) (sym view) ∙ ap (λ node. part_of known (tree_of s node)) is

  -- one argument more, of which that at a place is left unread
  pub unread_go : (place : Option ℕ) (xs : List Tree) (i : ℕ) (x : Tree) (so_far now : List (Argument Arg)) (a : Argument Arg) → i < length xs → x ≡ get_or xs i x
      → so_far ≡ unread_at place (arguments known (trees (take i xs))) → a ≡ read_at (is_place place i) (part_of known x) → now ≡ so_far ++ a ∷ []
      → now ≡ unread_at place (arguments known (trees (take (i + 1) xs)))
  unread_go place xs i x so_far now a h e before here after =
      let before_it : length (arguments known (trees (take i xs))) ≡ i = arguments-count (trees (take i xs)) ∙ count-trees (take i xs) ∙ length-take-le i xs (omega (arith, h)) in
      after ∙ (λ j. (before j) ++ (here j) ∷ [])
      ∙ ap (λ n. unread_at place (arguments known (trees (take i xs))) ++ read_at (is_place place n) (part_of known x) ∷ []) (sym before_it)
      ∙ sym (ap (unread_at place) (arguments-more xs i x h e) ∙ unread_push place (arguments known (trees (take i xs))) (part_of known x))
