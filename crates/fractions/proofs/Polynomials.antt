-- Polynomials with whole coefficients: expressions, and their normal form.
use Rattle.std.proofs.Common.{ℕ, zero, suc, List, [], ◌∷◌, ℤ, pos, negsuc, ◌+ℤ◌, ◌*ℤ◌, Bool, true, false, ◌&&◌, eqb, ltb}

infixl 65 ◌⊕◌
infixl 70 ◌⊗◌
-- an expression of unknowns, which are counted, and whole numbers
pub data Expression : Type 0 where
  unknown : ℕ → Expression
  number : ℤ → Expression
  ◌⊕◌ ◌⊗◌ : Expression → Expression → Expression
  negated : Expression → Expression

-- terms in order, each a coefficient and the unknowns of a product
pub data Polynomial : Type 0 where
  none : Polynomial
  term : ℤ → List ℕ → Polynomial → Polynomial

abbrev pub same_unknowns : List ℕ → List ℕ → Bool
same_unknowns [] [] = true
same_unknowns [] (j ∷ n) = false
same_unknowns (i ∷ m) [] = false
same_unknowns (i ∷ m) (j ∷ n) = eqb i j && same_unknowns m n

-- the order of products
abbrev pub before : List ℕ → List ℕ → Bool
before [] n = true
before (i ∷ m) [] = false
before (i ∷ m) (j ∷ n) = elim (eqb i j) [ true ↦ before m n | false ↦ ltb i j ]

-- a term first, and nothing where its coefficient is 0
abbrev pub term_or_none : ℤ → List ℕ → Polynomial → Polynomial
term_or_none (pos zero) m p = p
term_or_none (pos (suc c)) m p = term (pos (suc c)) m p
term_or_none (negsuc c) m p = term (negsuc c) m p

-- a term put where it belongs
abbrev pub add_term : ℤ → List ℕ → Polynomial → Polynomial
add_term c m none = term_or_none c m none
add_term c m (term d n p) =
    elim (same_unknowns m n) [ true ↦ term_or_none (c +ℤ d) m p | false ↦ elim (before m n) [ true ↦ term_or_none c m (term d n p) | false ↦ term d n (add_term c m p) ] ]

abbrev pub sum_of : Polynomial → Polynomial → Polynomial
sum_of none q = q
sum_of (term c m p) q = add_term c m (sum_of p q)

-- an unknown put where it belongs
abbrev pub insert : ℕ → List ℕ → List ℕ
insert i [] = i ∷ []
insert i (j ∷ m) = elim (ltb j i) [ true ↦ j ∷ insert i m | false ↦ i ∷ j ∷ m ]

-- the unknowns of two products
abbrev pub joined : List ℕ → List ℕ → List ℕ
joined [] n = n
joined (i ∷ m) n = insert i (joined m n)

-- each term times one term
abbrev pub times_term : ℤ → List ℕ → Polynomial → Polynomial
times_term c m none = none
times_term c m (term d n q) = add_term (c *ℤ d) (joined m n) (times_term c m q)

abbrev pub product_by : Polynomial → Polynomial → Polynomial
product_by none q = none
product_by (term c m p) q = sum_of (times_term c m q) (product_by p q)

-- the normal form of an expression
abbrev pub normal : Expression → Polynomial
normal (unknown i) = term (pos 1) (i ∷ []) none
normal (number z) = term_or_none z [] none
normal (a ⊕ b) = sum_of (normal a) (normal b)
normal (a ⊗ b) = product_by (normal a) (normal b)
normal (negated a) = times_term (negsuc 0) [] (normal a)
