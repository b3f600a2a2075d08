-- Lists that are read with a default behind their end.
use Rattle.std.proofs.Common.{◌≡◌, ◌<◌, ℕ, zero, suc, Bool, true, false, cond, List, [], ◌∷◌, ◌++◌, get_or, length, refl, sym, ap, ◌∙◌, arith}
use Rattle.std.specs.Prelude.{◌==◌, ◌&&◌, OnOk, slice_set}
use Rattle.std.specs.declared.result.Result.{Result}
use Rattle.std.specs.declared.result.Result.TheVariants.{Ok, Err}
use Rattle.std.specs.BTreeMap.{is_at}
use Rattle.std.specs.Cmp.{eq_by_cmp_equiv}
use Rattle.std.specs.Ordering.{is_eq}
use Rattle.std.specs.declared.cmp.Ordering.{Ordering}
use Rattle.std.specs.declared.cmp.Ordering.TheVariants.{Less, Equal, Greater}
use Rattle.std.proofs.lemmas.Bool.{and_parts, eqb-true}
use Rattle.cell_refs.specs.declared.cell.Cell.{Cell}
use Rattle.cell_refs.specs.Cells.{cell_cmp}
use Rattle.cell_refs.proofs.Order.{cells_total, exact_cells}
use Rattle.recalc.specs.Places.{in_rows, place_in}
use Rattle.std.proofs.lemmas.Bool.Decides.{nat_tests}
use Rattle.std.proofs.lemmas.List.{get_or-set_same, get_or-set_other}

-- one more default at the end is not seen
pub grown : {A : Type 0} (xs : List A) (i : ℕ) (d : A) → get_or (xs ++ d ∷ []) i d ≡ get_or xs i d
grown [] zero d = refl
grown [] (suc i) d = refl
grown (x ∷ xs) zero d = refl
grown (x ∷ xs) (suc i) d = grown xs i d

-- an element is put at a place
pub put_at : {A : Type 0} (xs : List A) (n i : ℕ) (a d : A) → n < length xs → get_or (slice_set xs n a) i d ≡ cond (i == n) a (get_or xs i d)
put_at xs n i a d less = by (i == n) refl
  where
    by : (b : Bool) → (i == n) ≡ b → get_or (slice_set xs n a) i d ≡ cond b a (get_or xs i d)
    by true is = ap (λ k. get_or (slice_set xs n a) k d) (eqb-true i n is) ∙ get_or-set_same xs n a d less
    by false is = get_or-set_other xs n i a d (λ e. absurd (grind (arith, nat_tests, e, is)))

-- the default is not seen within a list
pub default_unseen : {A : Type 0} (xs : List A) (n : ℕ) (d e : A) → n < length xs → get_or xs n d ≡ get_or xs n e
default_unseen [] n d e less = absurd (omega (arith, less))
default_unseen (x ∷ xs) zero d e less = refl
default_unseen (x ∷ xs) (suc n) d e less = default_unseen xs n d e (omega (arith, less))

-- a row is put at a place
pub row_put : (rows before : List (List ℕ)) (n col place : ℕ) (row : List ℕ) → n < length rows → ((r : ℕ) → get_or rows r [] ≡ get_or before r [])
    → ((c : ℕ) → get_or row c 0 ≡ cond (c == col) place (get_or (get_or before n []) c 0)) → (r c : ℕ)
    → in_rows (slice_set rows n row) r c ≡ cond (r == n) (cond (c == col) place (in_rows before r c)) (in_rows before r c)
row_put rows before n col place row less same own r c = ap (λ (l : List ℕ). get_or l c 0) (put_at rows n r row [] less) ∙ by (r == n) refl
  where
    by : (b : Bool) → (r == n) ≡ b → get_or (cond b row (get_or rows r [])) c 0 ≡ cond b (cond (c == col) place (in_rows before r c)) (in_rows before r c)
    by true is = own c ∙ ap (λ k. cond (c == col) place (in_rows before k c)) (sym (eqb-true r n is))
    by false is = ap (λ (l : List ℕ). get_or l c 0) (same r)

equal_of : (r : Ordering) → is_eq r ≡ true → r ≡ Equal
equal_of Less e = absurd cc
equal_of Equal e = refl
equal_of Greater e = absurd cc

-- the same cell, part by part
abbrev same_parts : Cell → Cell → Bool
same_parts a q = (q.sheet.0 == a.sheet.0) && ((q.row == a.row) && (q.col == a.col))

itself : (n : ℕ) → (n == n) ≡ true
itself n = grind (arith, nat_tests)

is_itself : (a : Cell) → is_eq (cell_cmp a a) ≡ true
is_itself a = (eq_by_cmp_equiv cells_total).refl a

parts_of_itself : (a : Cell) → same_parts a a ≡ true
parts_of_itself a = (λ i. itself a.sheet.0 i && (itself a.row i && itself a.col i))

by_parts : (a q : Cell) → same_parts a q ≡ true → q ≡ a
by_parts a q h =
    let p = and_parts (q.sheet.0 == a.sheet.0) ((q.row == a.row) && (q.col == a.col)) h in
    let r = and_parts (q.row == a.row) (q.col == a.col) p.1 in
    λ i. record { sheet = record { 0 = eqb-true q.sheet.0 a.sheet.0 p.0 i }; row = eqb-true q.row a.row r.0 i; col = eqb-true q.col a.col r.1 i }

pub parts_are : (a q : Cell) → is_at (cell_cmp a) q ≡ same_parts a q
parts_are a q = by (is_at (cell_cmp a) q) (same_parts a q) refl refl
  where
    by : (x y : Bool) → is_at (cell_cmp a) q ≡ x → same_parts a q ≡ y → x ≡ y
    by true true e h = refl
    by false false e h = refl
    by true false e h = sym (parts_of_itself a) ∙ ap (same_parts a) (exact_cells a q (equal_of (cell_cmp a q) e)) ∙ h
    by false true e h = sym e ∙ ap (λ c. is_eq (cell_cmp a c)) (by_parts a q h) ∙ is_itself a

-- a sheet is put at a place
pub sheet_put : (sheets before : List (List (List ℕ))) (a : Cell) (place : ℕ) (rows : List (List ℕ)) → a.sheet.0 < length sheets
    → ((n : ℕ) → get_or sheets n [] ≡ get_or before n [])
    → ((r c : ℕ) → in_rows rows r c ≡ cond (r == a.row) (cond (c == a.col) place (in_rows (get_or before a.sheet.0 []) r c)) (in_rows (get_or before a.sheet.0 []) r c))
    → (q : Cell) → place_in (slice_set sheets a.sheet.0 rows) q ≡ cond (is_at (cell_cmp a) q) place (place_in before q)
sheet_put sheets before a place rows less same own q =
    ap (λ (l : List (List ℕ)). in_rows l q.row q.col) (put_at sheets a.sheet.0 q.sheet.0 rows [] less)
    ∙ by (q.sheet.0 == a.sheet.0) refl ∙ ap (λ b. cond b place (place_in before q)) (sym (parts_are a q))
  where
    two : (x y : Bool) (m n : ℕ) → cond x (cond y m n) n ≡ cond (x && y) m n
    two true y m n = refl
    two false y m n = refl

    by : (b : Bool) → (q.sheet.0 == a.sheet.0) ≡ b → in_rows (cond b rows (get_or sheets q.sheet.0 [])) q.row q.col ≡ cond (b && ((q.row == a.row) && (q.col == a.col))) place (place_in before q)
    by true is =
        own q.row q.col ∙ ap (λ n. cond (q.row == a.row) (cond (q.col == a.col) place (in_rows (get_or before n []) q.row q.col)) (in_rows (get_or before n []) q.row q.col)) (sym (eqb-true q.sheet.0 a.sheet.0 is))
        ∙ two (q.row == a.row) (q.col == a.col) place (place_in before q)
    by false is = ap (λ (l : List (List ℕ)). in_rows l q.row q.col) (same q.sheet.0)

-- what follows where a call has succeeded
pub on_ok : {A E : Type 0} {P Q : Type 0} (r : Result A E) → OnOk r P → (P → Q) → OnOk r Q
on_ok (Ok x) h f = f h
on_ok (Err e) h f = tt
