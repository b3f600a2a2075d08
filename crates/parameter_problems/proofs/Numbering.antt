-- The numbers of cells in two lists, one behind the other.
use Rattle.std.proofs.Common.{◌≡◌, ℕ, suc, ◌+◌, ◌-◌, ◌<◌, Bool, true, false, cond, if◌then◌else◌, nat_lt, List, [], ◌∷◌, ◌++◌, length, Option, Some, None, refl, sym, ap, ◌∙◌, arith}
use Rattle.std.specs.Prelude.{not, option_map, position}
use Rattle.std.specs.List.{prefix_len}
use Rattle.std.proofs.lemmas.Bool.Decides.{nat_tests}
use Rattle.fractions.specs.Rational.{ℚ}
use Rattle.cell_refs.specs.Cells.{is_same_cell}
use Rattle.cell_refs.specs.declared.cell.Cell.{Cell}
use Rattle.affine_forms.specs.Forms.{Assignment}
use Rattle.form_extraction.specs.Places.{numbered_in, overriding}
use Rattle.sheet_problems.proofs.Numbers.{number_below}
use Rattle.parameter_laws.specs.Putting.{joined}

-- ---- the place of the first item that passes
abbrev placed : ℕ → ℕ → Bool → Option ℕ
placed n k t = cond (nat_lt (cond (not t) (1 + k) 0) n) (Some (cond (not t) (1 + k) 0)) None

pub position_first : {A : Type 0} (p : A → Bool) (x : A) (xs : List A) → p x ≡ true → position p (x ∷ xs) ≡ Some 0
position_first p x xs e = ap (placed (length (x ∷ xs)) (prefix_len (λ y. not (p y)) xs)) e ∙ ap (λ t. cond t (Some 0) None) (some (length xs))
  where
    some : (n : ℕ) → nat_lt 0 (suc n) ≡ true
    some n = grind (arith, nat_tests)

pub position_next : {A : Type 0} (p : A → Bool) (x : A) (xs : List A) → p x ≡ false → position p (x ∷ xs) ≡ option_map suc (position p xs)
position_next p x xs e = ap (placed (length (x ∷ xs)) (prefix_len (λ y. not (p y)) xs)) e ∙ shift (prefix_len (λ y. not (p y)) xs) (length xs)
  where
    above : (q n : ℕ) (t : Bool) → nat_lt q n ≡ t → nat_lt (1 + q) (suc n) ≡ t
    above q n true e = grind (arith, nat_tests)
    above q n false e = grind (arith, nat_tests)

    by : (q n : ℕ) (t : Bool) → nat_lt q n ≡ t → cond (nat_lt (1 + q) (suc n)) (Some (1 + q)) None ≡ option_map suc (cond t (Some q) None)
    by q n true e = ap (λ t. cond t (Some (1 + q)) None) (above q n true e) ∙ ap Some (omega arith)
    by q n false e = ap (λ t. cond t (Some (1 + q)) None) (above q n false e)

    shift : (q n : ℕ) → cond (nat_lt (1 + q) (suc n)) (Some (1 + q)) None ≡ option_map suc (cond (nat_lt q n) (Some q) None)
    shift q n = by q n (nat_lt q n) refl

position_none : {A : Type 0} (p : A → Bool) → position p [] ≡ None
position_none p = ap (λ t. cond t (Some 0) None) none
  where
    none : nat_lt 0 0 ≡ false
    none = refl

-- the first number, or else the second, moved behind n others
abbrev pub first_or : ℕ → Option ℕ → Option ℕ → Option ℕ
first_or n (Some j) o = Some j
first_or n None o = option_map (λ k. n + k) o

moved : (n : ℕ) (o q : Option ℕ) → option_map suc (first_or n o q) ≡ first_or (suc n) (option_map suc o) q
moved n (Some j) q = refl
moved n None None = refl
moved n None (Some k) = ap Some (omega arith)

not_moved : (o : Option ℕ) → o ≡ first_or 0 None o
not_moved None = refl
not_moved (Some k) = ap Some (omega arith)

pub position_both : {A : Type 0} (p : A → Bool) (xs ys : List A) → position p (xs ++ ys) ≡ first_or (length xs) (position p xs) (position p ys)
position_both p [] ys = not_moved (position p ys) ∙ ap (λ o. first_or 0 o (position p ys)) (sym (position_none p))
position_both p (x ∷ xs) ys = by (p x) refl (position_both p xs ys)
  where
    by : (t : Bool) → p x ≡ t → position p (xs ++ ys) ≡ first_or (length xs) (position p xs) (position p ys)
        → position p (x ∷ (xs ++ ys)) ≡ first_or (suc (length xs)) (position p (x ∷ xs)) (position p ys)
    by true e rest = position_first p x (xs ++ ys) e ∙ ap (λ o. first_or (suc (length xs)) o (position p ys)) (sym (position_first p x xs e))
    by false e rest =
        position_next p x (xs ++ ys) e ∙ ap (option_map suc) rest ∙ moved (length xs) (position p xs) (position p ys)
        ∙ ap (λ o. first_or (suc (length xs)) o (position p ys)) (sym (position_next p x xs e))

-- ---- numbers in the place of cells
-- the number of a decision, or else the value of a parameter
abbrev pub given : Assignment → Assignment → Option ℕ → Option ℕ → Option ℚ
given x y (Some j) o = Some (x j)
given x y None o = option_map y o

module _ (decisions parameters : List Cell) (x y : Assignment) where
  decided : (j : ℕ) → j < length decisions → joined (length decisions) x y j ≡ x j
  decided j h = ap (λ b. if b then x j else y (j - length decisions)) (below j (length decisions) h)
    where
      below : (j n : ℕ) → j < n → nat_lt j n ≡ true
      below j n h = grind (arith, nat_tests)

  held : (k : ℕ) → joined (length decisions) x y (length decisions + k) ≡ y k
  held k = ap (λ b. if b then x (length decisions + k) else y ((length decisions + k) - length decisions)) (behind (length decisions) k) ∙ ap y (back (length decisions) k)
    where
      behind : (n k : ℕ) → nat_lt (n + k) n ≡ false
      behind n k = grind (arith, nat_tests)

      back : (n k : ℕ) → (n + k) - n ≡ k
      back n k = omega arith

  pub over_both : (c : Cell) → overriding (numbered_in (decisions ++ parameters)) (joined (length decisions) x y) c ≡ given x y (numbered_in decisions c) (numbered_in parameters c)
  over_both c =
      ap (option_map (joined (length decisions) x y)) (position_both (is_same_cell c) decisions parameters)
      ∙ by (numbered_in decisions c) (numbered_in parameters c) (λ j e. number_below decisions c j e)
    where
      by : (o q : Option ℕ) → ((j : ℕ) → o ≡ Some j → j < length decisions) → option_map (joined (length decisions) x y) (first_or (length decisions) o q) ≡ given x y o q
      by (Some j) q h = ap Some (decided j (h j refl))
      by None None h = refl
      by None (Some k) h = ap Some (held k)
