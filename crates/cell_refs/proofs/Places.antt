-- The first place of a name.
use Rattle.std.proofs.Common.{◌≡◌, ◌∙◌, ◌<◌, ℕ, zero, suc, List, [], ◌∷◌, Bool, true, false, Option, Some, None, refl, sym, ap, map, arith, if◌then◌else◌}
use Rattle.std.specs.Prelude.{IfSome, IfNone, ◌&&◌, ◌==◌, option_map}
use Rattle.std.specs.Char.{to_ascii_lowercase}
use Rattle.std.proofs.lemmas.Bool.{eqb-true, eq-eqb}
use Rattle.cell_refs.specs.Names.{IsNamed, IsSameName, place_in, same_letters}

-- the test of two names
pub same : (a b : List ℕ) → IsSameName a b → same_letters a b ≡ true
same [] [] h = refl
same [] (b ∷ bs) h = cc h
same (a ∷ xs) [] h = cc h
same (a ∷ xs) (b ∷ bs) h =
    let head : to_ascii_lowercase a ≡ to_ascii_lowercase b = cc h in
    let tail : map to_ascii_lowercase xs ≡ map to_ascii_lowercase bs = cc h in
    rw (eq-eqb _ _ head) (same xs bs tail)

both : (b c : Bool) → (b && c) ≡ true → (b ≡ true) × (c ≡ true)
both true c h = (refl, h)
both false c h = cc h

pub other : (a b : List ℕ) → same_letters a b ≡ true → IsSameName a b
other [] [] h = refl
other [] (b ∷ bs) h = cc h
other (a ∷ xs) [] h = cc h
other (a ∷ xs) (b ∷ bs) h =
    let k = both (to_ascii_lowercase a == to_ascii_lowercase b) (same_letters xs bs) h in
    let head : to_ascii_lowercase a ≡ to_ascii_lowercase b = eqb-true _ _ k.0 in
    let tail : map to_ascii_lowercase xs ≡ map to_ascii_lowercase bs = other xs bs k.1 in
    rw (head, tail) refl

later : (own : List ℕ) (names : List (List ℕ)) (name : List ℕ) (k : ℕ) → IsNamed names name k → IsNamed (own ∷ names) name (suc k)
later own names name k h = record { own = h.own; there = h.there; same = h.same }

at_front : (own : List ℕ) (names : List (List ℕ)) (name : List ℕ) → IsSameName own name → IsNamed (own ∷ names) name 0
at_front own names name h = record { own = own; there = refl; same = h }

behind : (b : Bool) (o : Option ℕ) → b ≡ false → (if b then Some 0 else option_map suc o) ≡ option_map suc o
behind true o e = cc e
behind false o e = refl

tested : (own name : List ℕ) → (IsSameName own name → ⊥) → same_letters own name ≡ false
tested own name not_same = by (same_letters own name) refl
  where
    by : (b : Bool) → same_letters own name ≡ b → same_letters own name ≡ false
    by true e = absurd (not_same (other own name e))
    by false e = e

-- none has it
pub missing : (names : List (List ℕ)) (name : List ℕ) → ((k : ℕ) → IsNamed names name k → ⊥) → place_in names name ≡ None
missing [] name none = refl
missing (own ∷ names) name none =
    behind (same_letters own name) (place_in names name) (tested own name (λ e. none 0 (at_front own names name e)))
    ∙ ap (option_map suc) (missing names name (λ k h. none (suc k) (later own names name k h)))

-- the first that has it
found : (names : List (List ℕ)) (name : List ℕ) (place : ℕ) → IsNamed names name place → ((k : ℕ) → k < place → IsNamed names name k → ⊥) → place_in names name ≡ Some place
found [] name place h first = cc h.there
found (own ∷ names) name zero h first = let e : own ≡ h.own = cc h.there in rw (same own name (rw e h.same)) refl
found (own ∷ names) name (suc place) h first =
    behind (same_letters own name) (place_in names name) (tested own name (λ e. first 0 (omega arith) (at_front own names name e)))
    ∙ ap (option_map suc) (found names name place (record { own = h.own; there = h.there; same = h.same })
    (λ k lt n. first (suc k) (omega (arith, lt)) (later own names name k n)))

-- so an answer that tells the first place is that place
pub told : (names : List (List ℕ)) (name : List ℕ) (r : Option ℕ) → IfSome r (λ p. IsNamed names name p) → IfSome r (λ p. (k : ℕ) → k < p → IsNamed names name k → ⊥)
    → IfNone r ((k : ℕ) → IsNamed names name k → ⊥) → r ≡ place_in names name
told names name None some first none = sym (missing names name none)
told names name (Some p) some first none = sym (found names name p some first)
