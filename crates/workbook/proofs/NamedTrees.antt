-- Trees with what their names stand for keep their places, and lists of them their lengths.
use Rattle.std.proofs.Common.{◌≡◌, ◌<◌, ℕ, zero, suc, ◌+◌, List, [], ◌∷◌, ◌++◌, length, take, get_or, Option, Some, None, refl, sym, ap, ◌∙◌, arith}
use Rattle.std.specs.Prelude.{option_map, unwrap_or}
use Rattle.std.specs.Option.{option_and_then}
use Rattle.std.proofs.lemmas.List.{take_more}
use Rattle.cell_refs.specs.declared.span.Span.{Span}
use Rattle.formula_ast.specs.Sound.{AreSoundWithin, IsSound, IsWithin, count}
use Rattle.formula_ast.specs.Tree.{Tree, Trees, none, more, span_of, trees}
use Rattle.formula_ast.specs.Tree as tree
use Rattle.workbook.specs.Kinds.{Meant, Amount, Cells, all_with_names, put_at, with_names}

-- ---- places
mapped : {A : Type 0} (f : A → Tree) (at : Span) → ((a : A) → span_of (f a) ≡ at) → (o : Option A) (u : Tree) → option_map f o ≡ Some u → span_of u ≡ at
mapped f at is None u e = absurd cc
mapped f at is (Some a) u e = ap (λ o. span_of (unwrap_or o u)) (sym e) ∙ is a

joined : {A B : Type 0} (f : A → B → Tree) (at : Span) → ((a : A) (b : B) → span_of (f a b) ≡ at) → (o : Option A) (p : Option B) (u : Tree)
    → option_and_then (λ a. option_map (f a) p) o ≡ Some u → span_of u ≡ at
joined f at is None p u e = absurd cc
joined f at is (Some a) p u e = mapped (f a) at (is a) p u e

placed : (at : Span) (m : Meant) → span_of (put_at at m) ≡ at
placed at (Amount x) = refl
placed at (Cells area) = refl

same : (t u : Tree) → Some t ≡ Some u → span_of u ≡ span_of t
same t u e = ap (λ o. span_of (unwrap_or o u)) (sym e)

module _ (look : List ℕ → Option Meant) where
  -- a tree with what its names stand for is where it was
  pub span_stays : (t u : Tree) → with_names look t ≡ Some u → span_of u ≡ span_of t
  span_stays (tree.Number at x) u e = same _ u e
  span_stays (tree.WideNumber at x) u e = same _ u e
  span_stays (tree.Text at t) u e = same _ u e
  span_stays (tree.Logical at b) u e = same _ u e
  span_stays (tree.Fault at k) u e = same _ u e
  span_stays (tree.Missing at) u e = same _ u e
  span_stays (tree.Array at rows columns items) u e = same _ u e
  span_stays (tree.Reference at areas) u e = same _ u e
  span_stays (tree.Name at name) u e = mapped (put_at at) at (placed at) (look name) u e
  span_stays (tree.Unknown at name args) u e = absurd cc
  span_stays (tree.Call at func args) u e = mapped (tree.Call at func) at (λ a. refl) (all_with_names look args) u e
  span_stays (tree.Plus at x) u e = mapped (tree.Plus at) at (λ a. refl) (with_names look x) u e
  span_stays (tree.Minus at x) u e = mapped (tree.Minus at) at (λ a. refl) (with_names look x) u e
  span_stays (tree.Percent at x) u e = mapped (tree.Percent at) at (λ a. refl) (with_names look x) u e
  span_stays (tree.Infix at op x y) u e = joined (tree.Infix at op) at (λ a b. refl) (with_names look x) (with_names look y) u e

  -- ---- lists
  counted : (n : ℕ) (o : Option Tree) (p : Option Trees) (us : Trees) → ((vs : Trees) → p ≡ Some vs → count vs ≡ n)
      → option_and_then (λ a. option_map (more a) p) o ≡ Some us → count us ≡ suc n
  counted n None p us ih e = absurd cc
  counted n (Some a) None us ih e = absurd cc
  counted n (Some a) (Some vs) us ih e = ap (λ o. count (unwrap_or o us)) (sym e) ∙ ap suc (ih vs refl)

  pub count_stays : (ts us : Trees) → all_with_names look ts ≡ Some us → count us ≡ count ts
  count_stays none us e = ap (λ o. count (unwrap_or o us)) (sym e)
  count_stays (more t ts) us e = counted (count ts) (with_names look t) (all_with_names look ts) us (count_stays ts) e

  -- one more tree at the end
  abbrev with_last : Trees → Tree → Trees
  with_last none u = more u none
  with_last (more t ts) u = more t (with_last ts u)

  trees-last : (ts : List Tree) (u : Tree) → trees (ts ++ u ∷ []) ≡ with_last (trees ts) u
  trees-last [] u = refl
  trees-last (t ∷ ts) u = ap (more t) (trees-last ts u)

  abbrev both_last : Option Tree → Option Trees → Option Trees
  both_last w o = option_and_then (λ ws. option_map (with_last ws) w) o

  swapped : (a : Tree) (o : Option Trees) (w : Option Tree) → option_map (more a) (both_last w o) ≡ both_last w (option_map (more a) o)
  swapped a None w = refl
  swapped a (Some ws) None = refl
  swapped a (Some ws) (Some u) = refl

  behind : (z : Option Tree) (o : Option Trees) (w : Option Tree)
      → option_and_then (λ a. option_map (more a) (both_last w o)) z ≡ both_last w (option_and_then (λ a. option_map (more a) o) z)
  behind None o w = refl
  behind (Some a) o w = swapped a o w

  first_last : (w : Option Tree) → option_and_then (λ a. option_map (more a) (Some none)) w ≡ both_last w (Some none)
  first_last None = refl
  first_last (Some u) = refl

  all-last : (ts : List Tree) (t : Tree) → all_with_names look (trees (ts ++ t ∷ [])) ≡ both_last (with_names look t) (all_with_names look (trees ts))
  all-last [] t = first_last (with_names look t)
  all-last (z ∷ ts) t =
      ap (λ o. option_and_then (λ a. option_map (more a) o) (with_names look z)) (all-last ts t)
      ∙ behind (with_names look z) (all_with_names look (trees ts)) (with_names look t)

  -- the trees up to an index, and the one at it
  pub all-more : (ts : List Tree) (i : ℕ) (t u : Tree) (us vs : List Tree) → i < length ts → t ≡ get_or ts i t → all_with_names look (trees (take i ts)) ≡ Some (trees us)
      → Some u ≡ with_names look t → vs ≡ us ++ u ∷ [] → all_with_names look (trees (take (i + 1) ts)) ≡ Some (trees vs)
  all-more ts i t u us vs h at so_far is pushed =
      ap (λ l. all_with_names look (trees l)) (take_more ts i t h)
      ∙ all-last (take i ts) (get_or ts i t)
      ∙ ap (λ x. both_last (with_names look x) (all_with_names look (trees (take i ts)))) (sym at)
      ∙ ap (λ o. both_last o (all_with_names look (trees (take i ts)))) (sym is)
      ∙ ap (both_last (Some u)) so_far
      ∙ ap Some (sym (trees-last us u))
      ∙ ap (λ l. Some (trees l)) (sym pushed)

  no_others : (w : Option Tree) → None ≡ option_and_then (λ a. option_map (more a) None) w
  no_others None = refl
  no_others (Some a) = refl

  -- one that stands for nothing
  pub all-none : (ts : List Tree) (i : ℕ) (t : Tree) → i < length ts → t ≡ get_or ts i t → None ≡ with_names look t → None ≡ all_with_names look (trees ts)
  all-none [] i t h at e = absurd (omega arith)
  all-none (x ∷ ts) zero t h at e = ap (option_and_then (λ a. option_map (more a) (all_with_names look (trees ts)))) (e ∙ ap (with_names look) at)
  all-none (x ∷ ts) (suc i) t h at e =
      no_others (with_names look x)
      ∙ ap (λ o. option_and_then (λ a. option_map (more a) o) (with_names look x)) (all-none ts i t (omega arith) at e)

-- ---- soundness
pub sound-last : (span : Span) (ts : List Tree) (t : Tree) → AreSoundWithin span (trees ts) → IsWithin (span_of t) span → IsSound t → AreSoundWithin span (trees (ts ++ t ∷ []))
sound-last span [] t h within sound = (within, sound, tt)
sound-last span (x ∷ ts) t h within sound = (h.0, h.1, sound-last span ts t h.2 within sound)

pub within-at : (span : Span) (ts : List Tree) (i : ℕ) (t : Tree) → AreSoundWithin span (trees ts) → i < length ts → t ≡ get_or ts i t → IsWithin (span_of t) span
within-at span [] i t h lt at = absurd (omega arith)
within-at span (x ∷ ts) zero t h lt at = rw at h.0
within-at span (x ∷ ts) (suc i) t h lt at = within-at span ts i t h.2 (omega arith) at
