-- The last root of a list of numbers.
use Rattle.std.proofs.Common.{◌≡◌, ℕ, zero, suc, ◌+◌, ◌<◌, ◌≤◌, ◌⊎◌, inl, inr, refl, sym, ap, ◌∙◌, List, [], ◌∷◌, ◌++◌, length, map, take, get_or, arith}
use Rattle.std.specs.Prelude.{Some, slice_get}
use Rattle.std.proofs.lemmas.List.{take_more, map-append}
use Rattle.node_pick.specs.declared.info.NodeInfo.{NodeInfo}
use Rattle.searches.specs.Trees.{Part}
use Rattle.branch_bound.specs.declared.frontier.Frontier.{Frontier}
use Rattle.branch_bound.specs.declared.frontier.Visit.{Visit}
use Rattle.branch_bound.specs.States.{path_of}
use Rattle.search_trees.specs.Roots.{IsLaterRoot, HasNumber, IsLastOf}

-- no root among the numbers is greater; it is one of these, or 0
pub record IsLastIn (ps : List (List Part)) (ns : List ℕ) (r : ℕ) : Type 0 where
  pub last : (i n : ℕ) → slice_get ns i ≡ Some n → path_of ps n ≡ [] → n ≤ r
  pub one : (r ≡ 0) ⊎ ((i : ℕ) × (slice_get ns i ≡ Some r) × (path_of ps r ≡ []))

some_is : (n k : ℕ) → Some n ≡ Some k → n ≡ k
some_is n k e = cc

before_or_last : (ns : List ℕ) (x i n : ℕ) → slice_get (ns ++ x ∷ []) i ≡ Some n → (slice_get ns i ≡ Some n) ⊎ (x ≡ n)
before_or_last [] x zero n e = inr (some_is x n e)
before_or_last [] x (suc i) n e = absurd cc
before_or_last (k ∷ ns) x zero n e = inl e
before_or_last (k ∷ ns) x (suc i) n e = before_or_last ns x i n e

get_before : (ns : List ℕ) (x i n : ℕ) → slice_get ns i ≡ Some n → slice_get (ns ++ x ∷ []) i ≡ Some n
get_before [] x i n e = absurd cc
get_before (k ∷ ns) x zero n e = e
get_before (k ∷ ns) x (suc i) n e = get_before ns x i n e

get_last : (ns : List ℕ) (x : ℕ) → slice_get (ns ++ x ∷ []) (length ns) ≡ Some x
get_last [] x = refl
get_last (k ∷ ns) x = get_last ns x

pub none_in : (ps : List (List Part)) → IsLastIn ps [] 0
none_in ps = record { last = λ i n e p. absurd cc; one = inl refl }

pub later_in : (ps : List (List Part)) (ns : List ℕ) (x r s : ℕ) → IsLastIn ps ns r → IsLaterRoot ps r x s → IsLastIn ps (ns ++ x ∷ []) s
later_in ps ns x r s h l = record {
  last = λ i n e p. elim (before_or_last ns x i n e) [
    | inl q ↦ (let a = h.last i n q p in let b = l.least in omega (arith, a, b))
    | inr q ↦ (let b = l.root (ap (path_of ps) q ∙ p) in omega (arith, b, q))
  ];
  one = elim l.one [
    | inl q ↦ was q h.one
    | inr q ↦ inr (length ns, get_last ns x ∙ ap Some (sym q.0), ap (path_of ps) q.0 ∙ q.1)
  ];
}
  where
    was : s ≡ r → (r ≡ 0) ⊎ ((i : ℕ) × (slice_get ns i ≡ Some r) × (path_of ps r ≡ [])) → (s ≡ 0) ⊎ ((i : ℕ) × (slice_get (ns ++ x ∷ []) i ≡ Some s) × (path_of ps s ≡ []))
    was q (inl z) = inl (q ∙ z)
    was q (inr (i, e, p)) = inr (i, get_before ns x i s (e ∙ ap Some (sym q)), ap (path_of ps) q ∙ p)

-- ---- of a frontier
abbrev pub number_of_visit : Visit → ℕ
number_of_visit v = v.number

abbrev pub number_of_info : NodeInfo → ℕ
number_of_info i = i.number

pub numbers_more : {X : Type 0} (f : X → ℕ) (xs : List X) (k : ℕ) (x : X) → k < length xs → x ≡ get_or xs k x → map f (take (k + 1) xs) ≡ map f (take k xs) ++ f x ∷ []
numbers_more f xs k x l e = ap (map f) (take_more xs k x l) ∙ map-append f (take k xs) (get_or xs k x ∷ []) ∙ ap (λ y. map f (take k xs) ++ f y ∷ []) (sym e)

mapped : {X : Type 0} (f : X → ℕ) (xs : List X) (i : ℕ) (x : X) → slice_get xs i ≡ Some x → slice_get (map f xs) i ≡ Some (f x)
mapped f [] i x e = absurd cc
mapped f (y ∷ xs) zero x e = ap Some (ap f (one y x e))
  where
    one : {X : Type 0} (y x : X) → Some y ≡ Some x → y ≡ x
    one y x e = cc
mapped f (y ∷ xs) (suc i) x e = mapped f xs i x e

of_mapped : {X : Type 0} (f : X → ℕ) (xs : List X) (i n : ℕ) → slice_get (map f xs) i ≡ Some n → (x : X) × (slice_get xs i ≡ Some x) × (f x ≡ n)
of_mapped f [] i n e = absurd cc
of_mapped f (y ∷ xs) zero n e = (y, refl, some_is (f y) n e)
of_mapped f (y ∷ xs) (suc i) n e = of_mapped f xs i n e

place_left : (ns ks : List ℕ) (i n : ℕ) → slice_get ns i ≡ Some n → slice_get (ns ++ ks) i ≡ Some n
place_left [] ks i n e = absurd cc
place_left (k ∷ ns) ks zero n e = e
place_left (k ∷ ns) ks (suc i) n e = place_left ns ks i n e

place_right : (ns ks : List ℕ) (i n : ℕ) → slice_get ks i ≡ Some n → slice_get (ns ++ ks) (length ns + i) ≡ Some n
place_right [] ks i n e = ap (slice_get ks) (zero_more i) ∙ e
  where
    zero_more : (i : ℕ) → 0 + i ≡ i
    zero_more i = omega arith
place_right (k ∷ ns) ks i n e = ap (slice_get (k ∷ (ns ++ ks))) (one_more (length ns) i) ∙ place_right ns ks i n e
  where
    one_more : (a b : ℕ) → suc a + b ≡ suc (a + b)
    one_more a b = omega arith

either_place : (ns ks : List ℕ) (i n : ℕ) → slice_get (ns ++ ks) i ≡ Some n → ((j : ℕ) × (slice_get ns j ≡ Some n)) ⊎ ((j : ℕ) × (slice_get ks j ≡ Some n))
either_place [] ks i n e = inr (i, e)
either_place (k ∷ ns) ks zero n e = inl (0, e)
either_place (k ∷ ns) ks (suc i) n e = elim (either_place ns ks i n e) [ inl h ↦ inl (suc h.0, h.1) | inr h ↦ inr h ]

pub last_of : (f : Frontier) (r : ℕ) → IsLastIn f.paths.paths (map number_of_visit f.opened.items ++ map number_of_info f.waiting.items) r → IsLastOf f r
last_of f r h = record {
  last = λ n k p. by_number n k p;
  one = elim h.one [ inl e ↦ inl e | inr k ↦ inr (has (either_place (map number_of_visit f.opened.items) (map number_of_info f.waiting.items) k.0 r k.1), k.2) ];
}
  where
    has : ((j : ℕ) × (slice_get (map number_of_visit f.opened.items) j ≡ Some r)) ⊎ ((j : ℕ) × (slice_get (map number_of_info f.waiting.items) j ≡ Some r)) → HasNumber f r
    has (inl (j, q)) = let x = of_mapped number_of_visit f.opened.items j r q in inl (j, x.0, x.1, x.2)
    has (inr (j, q)) = let x = of_mapped number_of_info f.waiting.items j r q in inr (j, x.0, x.1, x.2)

    by_number : (n : ℕ) → HasNumber f n → path_of f.paths.paths n ≡ [] → n ≤ r
    by_number n (inl (i, v, e, q)) p =
        h.last i n (place_left (map number_of_visit f.opened.items) (map number_of_info f.waiting.items) i n (mapped number_of_visit f.opened.items i v e ∙ ap Some q)) p
    by_number n (inr (i, x, e, q)) p =
        h.last (length (map number_of_visit f.opened.items) + i) n
        (place_right (map number_of_visit f.opened.items) (map number_of_info f.waiting.items) i n (mapped number_of_info f.waiting.items i x e ∙ ap Some q)) p
