-- The parts of expressions.
use Rattle.std.proofs.Common.{◌≡◌, ◌<◌, ◌+◌, ℕ, suc, List, [], ◌∷◌, ◌++◌, length, take, get_or, refl, sym, ap, ◌∙◌, Option, arith}
use Rattle.std.proofs.lemmas.List.{length-take-le, take_more}
use Rattle.cell_refs.specs.declared.cell.Cell.{Cell}
use Rattle.cell_refs.specs.declared.span.Span.{Span}
use Rattle.formula_ast.proofs.Parts.{count-trees}
use Rattle.formula_ast.specs.Sound.{count}
use Rattle.formula_ast.specs.Tree.{Tree, Trees, none, more, trees}
use Rattle.formula_ast.specs.View.{tree_of}
use Rattle.formula_ast.specs.declared.expr.Node.{Node}
use Rattle.form_values.specs.declared.abs.Abs.{Abs}
use Rattle.form_extraction.specs.Parts.{Part}
use Rattle.form_extraction.specs.Formulas.{part_of, parts_of}
use Rattle.extract.specs.Unread.{unread_at, is_place, read_at}
use Rattle.extract.proofs.Unread.{unread_push}

module _ (forms : Cell → Option Abs) where
  parts-push : (xs : List Tree) (x : Tree) → parts_of forms (trees (xs ++ x ∷ [])) ≡ parts_of forms (trees xs) ++ part_of forms x ∷ []
  parts-push [] x = refl
  parts-push (y ∷ xs) x = ap (λ ps. part_of forms y ∷ ps) (parts-push xs x)

  -- the parts up to a place, and the one at it
  parts-more : (xs : List Tree) (i : ℕ) (x : Tree) → i < length xs → x ≡ get_or xs i x
      → parts_of forms (trees (take (i + 1) xs)) ≡ parts_of forms (trees (take i xs)) ++ part_of forms x ∷ []
  parts-more xs i x h e = ap (λ ys. parts_of forms (trees ys)) (take_more xs i x h) ∙ parts-push (take i xs) (get_or xs i x) ∙ ap (λ y. parts_of forms (trees (take i xs)) ++ part_of forms y ∷ []) (sym e)

  -- as many as there are trees
  pub parts-count : (ts : Trees) → length (parts_of forms ts) ≡ count ts
  parts-count none = refl
  parts-count (more t ts) = ap suc (parts-count ts)

  -- the part of an expression is that of its node
  pub of_node : (e : Tree) (s : Span) (n m : Node) → tree_of s n ≡ e → n ≡ m → part_of forms e ≡ part_of forms (tree_of s m)
  of_node e s n m view is = ap (part_of forms) (sym view) ∙ ap (λ node. part_of forms (tree_of s node)) is

  -- one argument more, of which that at a place is left unread
  pub unread_go : (place : Option ℕ) (xs : List Tree) (i : ℕ) (x : Tree) (so_far now : List Part) (p : Part) → i < length xs → x ≡ get_or xs i x
      → so_far ≡ unread_at place (parts_of forms (trees (take i xs))) → p ≡ read_at (is_place place i) (part_of forms x) → now ≡ so_far ++ p ∷ []
      → now ≡ unread_at place (parts_of forms (trees (take (i + 1) xs)))
  unread_go place xs i x so_far now p h e before here after =
      let before_it : length (parts_of forms (trees (take i xs))) ≡ i = parts-count (trees (take i xs)) ∙ count-trees (take i xs) ∙ length-take-le i xs (omega (arith, h)) in
      after ∙ (λ j. (before j) ++ (here j) ∷ [])
      ∙ ap (λ n. unread_at place (parts_of forms (trees (take i xs))) ++ read_at (is_place place n) (part_of forms x) ∷ []) (sym before_it)
      ∙ sym (ap (unread_at place) (parts-more xs i x h e) ∙ unread_push place (parts_of forms (trees (take i xs))) (part_of forms x))
