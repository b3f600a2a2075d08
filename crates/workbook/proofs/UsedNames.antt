-- What names stand for, and the trees that use them.
use Rattle.std.proofs.Common.{◌≡◌, ◌≢◌, ◌<◌, ◌⊎◌, inl, inr, ℕ, zero, suc, ◌+◌, Bool, true, false, List, [], ◌∷◌, ◌++◌, length, take, get_or, Option, Some, None, refl, sym, ap, ◌∙◌, arith}
use Rattle.std.specs.Prelude.{◌||◌, option_map}
use Rattle.std.specs.Option.{option_and_then}
use Rattle.std.proofs.lemmas.List.{take_more}
use Rattle.cell_refs.specs.declared.span.Span.{Span}
use Rattle.formula_ast.specs.Tree.{Tree, Trees, none, more, trees, Listed}
use Rattle.formula_ast.specs.Tree as tree
use Rattle.workbook.specs.Kinds.{Meant, Amount, Cells, all_with_names, put_at, with_names}
use Rattle.workbook.specs.Uses.{any_use, some_use}

neither : (a b : Bool) → (a || b) ≡ false → (a ≡ false) × (b ≡ false)
neither true b e = absurd cc
neither false b e = (refl, e)

no_more : (b : Bool) → b ≡ (b || false)
no_more true = refl
no_more false = refl

grouped : (a b c : Bool) → (a || (b || c)) ≡ ((a || b) || c)
grouped true b c = refl
grouped false b c = refl

-- ---- parts in their order
module _ (test : List ℕ → Bool) where
  alone : (b : Bool) → (b || false) ≡ b
  alone true = refl
  alone false = refl

  any-last : (ts : List Tree) (t : Tree) → any_use test (trees (ts ++ t ∷ [])) ≡ (any_use test (trees ts) || some_use test t)
  any-last [] t = alone (some_use test t)
  any-last (x ∷ ts) t = ap (λ b. some_use test x || b) (any-last ts t) ∙ grouped (some_use test x) (any_use test (trees ts)) (some_use test t)

  -- one more part
  pub any-next : (ts : List Tree) (i : ℕ) (t : Tree) → i < length ts → t ≡ get_or ts i t
      → any_use test (trees (take (i + 1) ts)) ≡ (any_use test (trees (take i ts)) || some_use test t)
  any-next ts i t h at =
      ap (λ l. any_use test (trees l)) (take_more ts i t h) ∙ any-last (take i ts) (get_or ts i t)
      ∙ ap (λ u. any_use test (trees (take i ts)) || some_use test u) (sym at)

  -- one that uses none
  pub any-more : (ts : List Tree) (i : ℕ) (t : Tree) → i < length ts → t ≡ get_or ts i t → any_use test (trees (take i ts)) ≡ false → false ≡ some_use test t
      → any_use test (trees (take (i + 1) ts)) ≡ false
  any-more ts i t h at before here = any-next ts i t h at ∙ ap (λ b. b || some_use test t) before ∙ sym here

  or_true : (b : Bool) → true ≡ (b || true)
  or_true true = refl
  or_true false = refl

  -- a part that uses one
  pub any-here : (ts : List Tree) (i : ℕ) (t : Tree) → i < length ts → t ≡ get_or ts i t → true ≡ some_use test t → true ≡ any_use test (trees ts)
  any-here [] i t h at here = absurd (omega arith)
  any-here (x ∷ ts) zero t h at here = ap (λ b. b || any_use test (trees ts)) (here ∙ ap (some_use test) at)
  any-here (x ∷ ts) (suc i) t h at here = or_true (some_use test x) ∙ ap (λ b. some_use test x || b) (any-here ts i t (omega arith) at here)

-- ---- names that stand for the same
module _ (look other : List ℕ → Option Meant) (test : List ℕ → Bool) (same : (name : List ℕ) → test name ≡ false → look name ≡ other name) where
  mutual
    -- a tree that uses none of the names that stand for something else
    pub agree : (t : Tree) → some_use test t ≡ false → with_names look t ≡ with_names other t
    agree (tree.Number at x) h = refl
    agree (tree.WideNumber at x) h = refl
    agree (tree.Text at t) h = refl
    agree (tree.Logical at b) h = refl
    agree (tree.Fault at k) h = refl
    agree (tree.Missing at) h = refl
    agree (tree.Array at rows columns items) h = refl
    agree (tree.Reference at areas) h = refl
    agree (tree.Name at name) h = ap (option_map (put_at at)) (same name h)
    agree (tree.Unknown at name args) h = refl
    agree (tree.Call at func args) h = ap (option_map (tree.Call at func)) (all_agree args h)
    agree (tree.Plus at x) h = ap (option_map (tree.Plus at)) (agree x h)
    agree (tree.Minus at x) h = ap (option_map (tree.Minus at)) (agree x h)
    agree (tree.Percent at x) h = ap (option_map (tree.Percent at)) (agree x h)
    agree (tree.Infix at op x y) h =
        let n = neither (some_use test x) (some_use test y) h in
        ap (λ o. option_and_then (λ a. option_map (tree.Infix at op a) (with_names look y)) o) (agree x n.0)
        ∙ ap (λ o. option_and_then (λ a. option_map (tree.Infix at op a) o) (with_names other x)) (agree y n.1)

    all_agree : (ts : Trees) → any_use test ts ≡ false → all_with_names look ts ≡ all_with_names other ts
    all_agree none h = refl
    all_agree (more t ts) h =
        let n = neither (some_use test t) (any_use test ts) h in
        ap (λ o. option_and_then (λ a. option_map (more a) (all_with_names look ts)) o) (agree t n.0)
        ∙ ap (λ o. option_and_then (λ a. option_map (more a) o) (with_names other t)) (all_agree ts n.1)

-- ---- names that stand for something else
put_once : (at : Span) (m n : Meant) → put_at at m ≡ put_at at n → m ≡ n
put_once at (Amount x) (Amount y) e = let k : x ≡ y = cc in ap Amount k
put_once at (Amount x) (Cells b) e = absurd cc
put_once at (Cells a) (Amount y) e = absurd cc
put_once at (Cells a) (Cells b) e = let k : a ≡ b = cc in ap Cells k

put_none : (at : Span) (o p : Option Meant) → option_map (put_at at) o ≡ option_map (put_at at) p → o ≢ p → option_map (put_at at) o ≡ None
put_none at None p e ne = refl
put_none at (Some m) None e ne = absurd cc
put_none at (Some m) (Some n) e ne = absurd (ne (ap Some (put_once at m n (let k : put_at at m ≡ put_at at n = cc in k))))

-- a part is none where it is none once it is another
module _ {A B : Type 0} (f : A → B) (inner : (a b : A) → f a ≡ f b → a ≡ b) where
  around : (o p : Option A) → (o ≡ p → o ≡ None) → option_map f o ≡ option_map f p → option_map f o ≡ None
  around None p ih e = refl
  around (Some a) None ih e = absurd cc
  around (Some a) (Some b) ih e =
      let k : f a ≡ f b = cc in
      let n : Some a ≡ None = ih (ap Some (inner a b k)) in
      absurd cc

module _ {A B C : Type 0} (f : A → B → C) (left : (a c : A) (b d : B) → f a b ≡ f c d → a ≡ c) (right : (a c : A) (b d : B) → f a b ≡ f c d → b ≡ d) where
  abbrev both : Option A → Option B → Option C
  both o p = option_and_then (λ a. option_map (f a) p) o

  none_after : (o : Option A) → both o None ≡ None
  none_after None = refl
  none_after (Some a) = refl

  -- of two parts one is none once they are others
  beside : (o u : Option A) (p v : Option B) → ((o ≡ u → o ≡ None) ⊎ (p ≡ v → p ≡ None)) → both o p ≡ both u v → both o p ≡ None
  beside None u p v ih e = refl
  beside (Some a) u None v ih e = refl
  beside (Some a) None (Some b) v ih e = absurd cc
  beside (Some a) (Some c) (Some b) None ih e = absurd cc
  beside (Some a) (Some c) (Some b) (Some d) ih e =
      let k : f a b ≡ f c d = cc in
      elim ih [
        | inl h ↦ absurd (let n : Some a ≡ None = h (ap Some (left a c b d k)) in cc)
        | inr h ↦ absurd (let n : Some b ≡ None = h (ap Some (right a c b d k)) in cc)
      ]

either : (a b : Bool) → (a || b) ≡ true → (a ≡ true) ⊎ (b ≡ true)
either true b e = inl refl
either false b e = inr e

module _ (look other : List ℕ → Option Meant) (test : List ℕ → Bool) (differ : (name : List ℕ) → test name ≡ true → look name ≢ other name) where
  mutual
    -- a tree that uses a name that stands for something else is another, or none
    pub apart : (t : Tree) → some_use test t ≡ true → with_names look t ≡ with_names other t → with_names look t ≡ None
    apart (tree.Number at x) h e = absurd cc
    apart (tree.WideNumber at x) h e = absurd cc
    apart (tree.Text at t) h e = absurd cc
    apart (tree.Logical at b) h e = absurd cc
    apart (tree.Fault at k) h e = absurd cc
    apart (tree.Missing at) h e = absurd cc
    apart (tree.Array at rows columns items) h e = absurd cc
    apart (tree.Reference at areas) h e = absurd cc
    apart (tree.Name at name) h e = put_none at (look name) (other name) e (differ name h)
    apart (tree.Unknown at name args) h e = refl
    apart (tree.Call at func args) h e = around (tree.Call at func) (λ a b k. cc) (all_with_names look args) (all_with_names other args) (all_apart args h) e
    apart (tree.Plus at x) h e = around (tree.Plus at) (λ a b k. cc) (with_names look x) (with_names other x) (apart x h) e
    apart (tree.Minus at x) h e = around (tree.Minus at) (λ a b k. cc) (with_names look x) (with_names other x) (apart x h) e
    apart (tree.Percent at x) h e = around (tree.Percent at) (λ a b k. cc) (with_names look x) (with_names other x) (apart x h) e
    apart (tree.Infix at op x y) h e =
        beside (tree.Infix at op) (λ a c b d k. cc) (λ a c b d k. cc) (with_names look x) (with_names other x) (with_names look y) (with_names other y)
        (elim (either (some_use test x) (some_use test y) h) [ inl p ↦ inl (apart x p) | inr p ↦ inr (apart y p) ]) e

    all_apart : (ts : Trees) → any_use test ts ≡ true → all_with_names look ts ≡ all_with_names other ts → all_with_names look ts ≡ None
    all_apart none h e = absurd cc
    all_apart (more t ts) h e =
        beside more (λ a c b d k. cc) (λ a c b d k. cc) (with_names look t) (with_names other t) (all_with_names look ts) (all_with_names other ts)
        (elim (either (some_use test t) (any_use test ts) h) [ inl p ↦ inl (apart t p) | inr p ↦ inr (all_apart ts p) ]) e
