-- Paths of nodes that are held by their parents.
use Rattle.std.proofs.Common.{◌≡◌, ℕ, suc, zero, ◌+◌, ◌<◌, refl, sym, ap, ◌∙◌, List, [], ◌∷◌, ◌++◌, length, get_or, reverse, arith, append_assoc, length-append, ◌⊎◌, inl, inr, subst, pos}
use Rattle.std.specs.Prelude.{Option, Some, None, slice_get, MatchOption}
use Rattle.std.proofs.Math.Seq.{get_or-append_seam}
use Rattle.std.proofs.lemmas.List.{get_or_append_left, reverse-append}
use Rattle.searches.specs.Trees.{Part}
use Rattle.search_paths.specs.declared.origin.Origin.{Origin}
use Rattle.search_paths.specs.declared.origin.Side.TheVariants.{Root}
use Rattle.search_paths.specs.Tables.{Table, path_by, path_from, grown, IsPlaced, AreBefore}
use Rattle.search_paths.specs.Origins.{held_part}

pub grown-push : (ps : List (List Part)) (os : List Origin) (o : Origin) → grown ps (os ++ o ∷ []) ≡ grown ps os ++ path_from (grown ps os) o ∷ []
grown-push ps [] o = refl
grown-push ps (q ∷ os) o = grown-push (ps ++ path_from ps q ∷ []) os o

pub grown-length : (ps : List (List Part)) (os : List Origin) → length (grown ps os) ≡ length ps + length os
grown-length ps [] = omega arith
grown-length ps (o ∷ os) = let e = length-append ps (path_from ps o ∷ []) in let h = grown-length (ps ++ path_from ps o ∷ []) os in omega (arith, e, h)

-- the paths that were there stay
kept : (ps : List (List Part)) (os : List Origin) (k : ℕ) → k < length ps → get_or (grown ps os) k [] ≡ get_or ps k []
kept ps [] k l = refl
kept ps (o ∷ os) k l =
    let e = length-append ps (path_from ps o ∷ []) in
    kept (ps ++ path_from ps o ∷ []) os k (omega (arith, e, l)) ∙ get_or_append_left ps (path_from ps o ∷ []) [] k l

-- a node has the path from its parent's
same_by : (ps os : List (List Part)) (p : ℕ) (h : Option Part) → ((part : Part) → h ≡ Some part → get_or os p [] ≡ get_or ps p []) → path_by ps p h ≡ path_by os p h
same_by ps os p None f = refl
same_by ps os p (Some part) f = ap (λ t. t ++ part ∷ []) (sym (f part refl))

node_from : (ps : List (List Part)) (os : List Origin) (k : ℕ) (r : Origin) → ((i : ℕ) (o : Origin) → slice_get os i ≡ Some o → IsPlaced (length ps + i) o)
    → slice_get os k ≡ Some r → get_or (grown ps os) (length ps + k) [] ≡ path_from (grown ps os) r
node_from ps [] k r h e = absurd cc
node_from ps (q ∷ os) zero r h e = first
  where
    w : length (ps ++ path_from ps q ∷ []) ≡ length ps + 1
    w = length-append ps (path_from ps q ∷ [])

    same : path_from ps q ≡ path_from (grown (ps ++ path_from ps q ∷ []) os) q
    same = same_by ps (grown (ps ++ path_from ps q ∷ []) os) q.parent (held_part q)
        (λ part z.
        let y = (h 0 q refl).after part z in
        let l : q.parent < length ps = omega (arith, y) in
        kept (ps ++ path_from ps q ∷ []) os q.parent (omega (arith, w, l)) ∙ get_or_append_left ps (path_from ps q ∷ []) [] q.parent l)

    some_is : (q r : Origin) → Some q ≡ Some r → q ≡ r
    some_is q r e = cc

    first : get_or (grown (ps ++ path_from ps q ∷ []) os) (length ps + 0) [] ≡ path_from (grown (ps ++ path_from ps q ∷ []) os) r
    first =
        let n : length ps + 0 ≡ length ps = omega arith in
        ap (λ k. get_or (grown (ps ++ path_from ps q ∷ []) os) k []) n
        ∙ kept (ps ++ path_from ps q ∷ []) os (length ps) (omega (arith, w))
        ∙ get_or-append_seam ps (path_from ps q) [] []
        ∙ same
        ∙ ap (path_from (grown (ps ++ path_from ps q ∷ []) os)) (some_is q r e)
node_from ps (q ∷ os) (suc k) r h e =
    let w : length (ps ++ path_from ps q ∷ []) ≡ length ps + 1 = length-append ps (path_from ps q ∷ []) in
    let n : length ps + suc k ≡ length (ps ++ path_from ps q ∷ []) + k = omega (arith, w) in
    ap (λ j. get_or (grown (ps ++ path_from ps q ∷ []) os) j []) n
    ∙ node_from (ps ++ path_from ps q ∷ []) os k r
    (λ i o z.
    let m : length ps + suc i ≡ length (ps ++ path_from ps q ∷ []) + i = omega (arith, w) in subst (λ (j : ℕ). IsPlaced j o) m (h (suc i) o z))
    e

pub node_path : (os : List Origin) (k : ℕ) (r : Origin) → AreBefore os → slice_get os k ≡ Some r → get_or (grown [] os) k [] ≡ path_from (grown [] os) r
node_path os k r b e =
    let n : k ≡ 0 + k = omega arith in
    ap (λ j. get_or (grown [] os) j []) n ∙ node_from [] os k r (λ i o z. let m : i ≡ 0 + i = omega arith in subst (λ (j : ℕ). IsPlaced j o) m (b i o z)) e

-- ---- one node more
place : {X : Type 0} → (xs : List X) (x : X) (i : ℕ) (y : X) → slice_get (xs ++ x ∷ []) i ≡ Some y → (slice_get xs i ≡ Some y) ⊎ ((i ≡ length xs) × (x ≡ y))
place [] x zero y e = inr (refl, cc)
place [] x (suc i) y e = absurd cc
place (z ∷ xs) x zero y e = inl e
place (z ∷ xs) x (suc i) y e = elim (place xs x i y e) [ inl h ↦ inl h | inr h ↦ inr (ap suc h.0, h.1) ]

pub before_push : (os : List Origin) (x : Origin) → AreBefore os → IsPlaced (length os) x → AreBefore (os ++ x ∷ [])
before_push os x b n i o e = elim (place os x i o e) [
  | inl h ↦ b i o h
  | inr h ↦ subst (λ (y : Origin). IsPlaced i y) h.1 (subst (λ (j : ℕ). IsPlaced j x) (sym h.0) n)
]

-- ---- the way to the root, the last part first
pub further : (whole rest : List Part) (part : Part) (made : List Part) → whole ≡ (rest ++ part ∷ []) ++ reverse made → whole ≡ rest ++ reverse (made ++ part ∷ [])
further whole rest part made e = e ∙ append_assoc rest (part ∷ []) (reverse made) ∙ ap (λ t. rest ++ t) (sym (reverse-append made (part ∷ [])))

-- ---- tables
abbrev pub table : List (List Part) → ℕ → Table
table p r = record { paths = p; room = r }

pub table_is : (p q : List (List Part)) (r s : ℕ) → p ≡ q → r ≡ s → table p r ≡ table q s
table_is p q r s e h = ap (λ t. table t r) e ∙ ap (table q) h

-- ---- a root as it is held
abbrev pub a_root : Origin
a_root = record { parent = 0; decision = 0; side = Root; floor = pos 0 }

-- ---- the last part of a path
pub last_part_is : (os : List Origin) (k : ℕ) (o : Origin) (p : Option Part) → AreBefore os → slice_get os k ≡ Some o → p ≡ held_part o
    → MatchOption p (get_or (grown [] os) k [] ≡ []) (λ part. (before : List Part) × (get_or (grown [] os) k [] ≡ before ++ part ∷ []))
last_part_is os k o None b e q = node_path os k o b e ∙ ap (path_by (grown [] os) o.parent) (sym q)
last_part_is os k o (Some part) b e q = (get_or (grown [] os) o.parent [], node_path os k o b e ∙ ap (path_by (grown [] os) o.parent) (sym q))
