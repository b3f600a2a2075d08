-- The rows and the variables of a first dictionary.
use Rattle.std.proofs.Common.{◌≡◌, ◌≢◌, ℕ, zero, suc, ◌+◌, ◌<◌, refl, sym, ap, ap₂, ◌∙◌, List, [], ◌∷◌, set, length, replicate, arith}
use Rattle.std.specs.List.{range_with_len}
use Rattle.std.proofs.lemmas.List.{ext_get_or, length-set, get_or-set_other, get_or-set_same}
use Rattle.fractions.specs.Rational.{ℚ, ◌*ℚ◌, neg_ℚ, zero_ℚ, one_ℚ}
use Rattle.fractions.specs.Vectors.{at}
use Rattle.fractions.specs.Rows.{Row}
use Rattle.fractions.proofs.Quote.{quotes, by_ring}
use Rattle.linear_programs.specs.Program.{Program}
use Rattle.linear_programs.proofs.Vectors.{at-times, length-times}
use Rattle.dictionaries.specs.Dictionary.{Dictionary, first_of_program, first_row}

pub at-zeros : (n j : ℕ) → at (replicate n zero_ℚ) j ≡ zero_ℚ
at-zeros zero j = refl
at-zeros (suc n) zero = refl
at-zeros (suc n) (suc j) = at-zeros n j

-- a number put into a row is there, and the others stay
pub put_here : (row new : List ℚ) (k : ℕ) (x : ℚ) → new ≡ set row k x → k < length row → at new k ≡ x
put_here row new k x e h = ap (λ t. at t k) e ∙ get_or-set_same row k x zero_ℚ h

pub put_other : (row new : List ℚ) (k j : ℕ) (x : ℚ) → new ≡ set row k x → j ≢ k → at new j ≡ at row j
put_other row new k j x e n = ap (λ t. at t j) e ∙ get_or-set_other row k j x zero_ℚ n

pub put_size : (row new : List ℚ) (k : ℕ) (x : ℚ) → new ≡ set row k x → length new ≡ length row
put_size row new k x e = ap length e ∙ length-set row k x

minus-one : (x : ℚ) → neg_ℚ x ≡ neg_ℚ one_ℚ *ℚ x
minus-one x = by_ring (x ∷ []) (search quotes depth 20) (search quotes depth 20) refl

-- the row of a slack, number by number
pub slack_by_numbers : (r : Row) (made : List ℚ) → length made ≡ length r.coefficients + 2 → at made 0 ≡ r.bound → at made 1 ≡ one_ℚ
    → ((q : ℕ) → q < length r.coefficients → at made (suc (suc q)) ≡ neg_ℚ (at r.coefficients q)) → made ≡ first_row r
slack_by_numbers r made e b o f =
    ext_get_or zero_ℚ made (first_row r) (let n = length-times (neg_ℚ one_ℚ) r.coefficients in omega arith) (λ i l. there i l)
  where
    there : (i : ℕ) → i < length made → at made i ≡ at (first_row r) i
    there zero l = b
    there (suc zero) l = o
    there (suc (suc q)) l = f q (omega arith) ∙ minus-one (at r.coefficients q) ∙ sym (at-times (neg_ℚ one_ℚ) r.coefficients q)

-- the objective's row, number by number
pub objective_by_numbers : (constant : ℚ) (numbers made : List ℚ) → length made ≡ length numbers + 2 → at made 0 ≡ constant → at made 1 ≡ zero_ℚ
    → ((q : ℕ) → q < length numbers → at made (suc (suc q)) ≡ at numbers q) → made ≡ constant ∷ zero_ℚ ∷ numbers
objective_by_numbers constant numbers made e b o f = ext_get_or zero_ℚ made (constant ∷ zero_ℚ ∷ numbers) (omega arith) (λ i l. there i l)
  where
    there : (i : ℕ) → i < length made → at made i ≡ at (constant ∷ zero_ℚ ∷ numbers) i
    there zero l = b
    there (suc zero) l = o
    there (suc (suc q)) l = f q (omega arith)

-- the row of zeros with a number at its first column
pub auxiliary_is : (n m : ℕ) (x : ℚ) → m ≡ suc n → set (replicate (suc m) zero_ℚ) 1 x ≡ zero_ℚ ∷ x ∷ replicate n zero_ℚ
auxiliary_is n m x e = ap (λ k. set (replicate (suc k) zero_ℚ) 1 x) e

pub parts_are : (p : Program) (d : Dictionary) → d.basic ≡ (first_of_program p).basic → d.nonbasic ≡ (first_of_program p).nonbasic → d.rows ≡ (first_of_program p).rows
    → d.objective ≡ (first_of_program p).objective → d.auxiliary ≡ (first_of_program p).auxiliary → d ≡ first_of_program p
parts_are p d a b c e f = λ i. record { basic = a i; nonbasic = b i; rows = c i; objective = e i; auxiliary = f i }

pub same_range : (v : List ℕ) (a n b m : ℕ) → v ≡ range_with_len a n → a ≡ b → n ≡ m → v ≡ range_with_len b m
same_range v a n b m e f g = e ∙ ap₂ range_with_len f g
