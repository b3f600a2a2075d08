-- Trees with each span one byte before are sound.
use Rattle.std.proofs.Common.{◌≡◌, ℕ, suc, List, [], ◌∷◌, map, refl, sym, ap, ◌∙◌, arith, subst}
use Rattle.cell_refs.specs.declared.span.Span.{Span}
use Rattle.formula_ast.specs.Functions.{Takes}
use Rattle.formula_ast.specs.Sound.{AreItems, AreSoundWithin, IsForward, IsItem, IsRectangular, IsSound, IsWithin, count}
use Rattle.formula_ast.specs.Tree.{Tree, Trees, none, more, span_of, trees}
use Rattle.formula_ast.specs.Tree as tree
use Rattle.solver_names.specs.Sides.{all_placed, one_less, placed}

forward : (s : Span) → IsForward s → IsForward (one_less s)
forward s h = omega (arith, h)

closer : (a b : Span) → IsWithin a b → IsWithin (one_less a) (one_less b)
closer a b h = record { start = omega (arith, h.start); end = omega (arith, h.end) }

span_is : (t : Tree) → span_of (placed t) ≡ one_less (span_of t)
span_is (tree.Number s x) = refl
span_is (tree.WideNumber s x) = refl
span_is (tree.Text s t) = refl
span_is (tree.Logical s b) = refl
span_is (tree.Fault s k) = refl
span_is (tree.Missing s) = refl
span_is (tree.Array s rows columns items) = refl
span_is (tree.Reference s areas) = refl
span_is (tree.Name s name) = refl
span_is (tree.Unknown s name args) = refl
span_is (tree.Call s f args) = refl
span_is (tree.Plus s x) = refl
span_is (tree.Minus s x) = refl
span_is (tree.Percent s x) = refl
span_is (tree.Infix s o x y) = refl

inside : (t : Tree) (s : Span) → IsWithin (span_of t) s → IsWithin (span_of (placed t)) (one_less s)
inside t s h = subst (λ a. IsWithin a (one_less s)) (sym (span_is t)) (closer (span_of t) s h)

count_is : (ts : Trees) → count (all_placed ts) ≡ count ts
count_is none = refl
count_is (more t ts) = ap suc (count_is ts)

item : (t : Tree) → IsItem t → IsItem (placed t)
item (tree.Number s x) h = tt
item (tree.Text s t) h = tt
item (tree.Logical s b) h = tt
item (tree.WideNumber s x) h = absurd h
item (tree.Fault s k) h = absurd h
item (tree.Missing s) h = absurd h
item (tree.Array s rows columns items) h = absurd h
item (tree.Reference s areas) h = absurd h
item (tree.Name s name) h = absurd h
item (tree.Unknown s name args) h = absurd h
item (tree.Call s f args) h = absurd h
item (tree.Plus s x) h = absurd h
item (tree.Minus s x) h = absurd h
item (tree.Percent s x) h = absurd h
item (tree.Infix s o x y) h = absurd h

items_are : (ts : Trees) → AreItems ts → AreItems (all_placed ts)
items_are none h = tt
items_are (more t ts) h = (item t h.0, items_are ts h.1)

rectangle : (rows columns : ℕ) (ts : Trees) → IsRectangular rows columns ts → IsRectangular rows columns (all_placed ts)
rectangle rows columns ts h = record { some_rows = h.some_rows; some_columns = h.some_columns; size = count_is ts ∙ h.size; literals = items_are ts h.literals }

mutual
  pub placed_sound : (t : Tree) → IsSound t → IsSound (placed t)
  placed_sound (tree.Number s x) h = forward s h
  placed_sound (tree.WideNumber s x) h = absurd h
  placed_sound (tree.Text s t) h = forward s h
  placed_sound (tree.Logical s b) h = forward s h
  placed_sound (tree.Fault s k) h = forward s h
  placed_sound (tree.Missing s) h = forward s h
  placed_sound (tree.Array s rows columns items) h = (forward s h.0, rectangle rows columns items h.1, all_sound s items h.2)
  placed_sound (tree.Reference s areas) h = (forward s h.0, h.1, h.2)
  placed_sound (tree.Name s name) h = forward s h
  placed_sound (tree.Unknown s name args) h = (forward s h.0, all_sound s args h.1)
  placed_sound (tree.Call s f args) h = (forward s h.0, subst (Takes f) (sym (count_is args)) h.1, all_sound s args h.2)
  placed_sound (tree.Plus s x) h = (forward s h.0, (inside x s h.1.0, placed_sound x h.1.1))
  placed_sound (tree.Minus s x) h = (forward s h.0, (inside x s h.1.0, placed_sound x h.1.1))
  placed_sound (tree.Percent s x) h = (forward s h.0, (inside x s h.1.0, placed_sound x h.1.1))
  placed_sound (tree.Infix s o x y) h = (forward s h.0, (inside x s h.1.0, placed_sound x h.1.1), (inside y s h.2.0, placed_sound y h.2.1))

  all_sound : (s : Span) (ts : Trees) → AreSoundWithin s ts → AreSoundWithin (one_less s) (all_placed ts)
  all_sound s none h = tt
  all_sound s (more t ts) h = (inside t s h.0, placed_sound t h.1, all_sound s ts h.2)

-- ---- lists of them
pub all_is : (ts : List Tree) → trees (map placed ts) ≡ all_placed (trees ts)
all_is [] = refl
all_is (t ∷ ts) = ap (more (placed t)) (all_is ts)
