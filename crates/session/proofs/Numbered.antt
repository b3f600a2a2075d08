-- Cells to be decided by their numbers.
use Rattle.std.specs.Prelude.{◌||◌, ◌-◌, Contains, cond, is_some, length, nat_lt}
use Rattle.std.specs.List.{list_any, position_or_len}
use Rattle.std.proofs.Common.{◌+◌, ◌≡◌, ◌∙◌, ℕ, zero, suc, Bool, true, false, List, [], ◌∷◌, Some, None, ap, arith, refl, sym}
use Rattle.cell_refs.specs.Cells.{is_same_cell}
use Rattle.cell_refs.specs.declared.cell.Cell.{Cell}
use Rattle.cell_refs.proofs.SameCells.{same_itself}
use Rattle.sheet_linear_model.specs.FromFormExtraction.{numbered_in}
use Rattle.std.proofs.lemmas.Bool.Decides.{nat_tests}
use Rattle.std.specs.Prelude.{not}

-- ---- the first place of a cell
zero_below : (n : ℕ) → true ≡ nat_lt 0 (suc n)
zero_below n = grind (arith, nat_tests)

both_later : (m n : ℕ) → nat_lt m n ≡ nat_lt (1 + m) (suc n)
both_later m n = grind (arith, nat_tests)

first_or : (w : Bool) (m n : ℕ) (r : Bool) → r ≡ nat_lt m n → (w || r) ≡ nat_lt (cond (not w) (1 + m) 0) (suc n)
first_or true m n r e = zero_below n
first_or false m n r e = e ∙ both_later m n

position_below : (test : Cell → Bool) (adj : List Cell) → list_any test adj ≡ nat_lt (position_or_len test adj) (length adj)
position_below test [] = refl
position_below test (a ∷ adj) = first_or (test a) (position_or_len test adj) (length adj) (list_any test adj) (position_below test adj)

-- a cell of a list has a number in it
any_of : (test : Cell → Bool) (cells : List Cell) (c : Cell) → Contains cells c → test c ≡ true → list_any test cells ≡ true
any_of test [] c h e = absurd (omega (arith, h.1))
any_of test (x ∷ cells) c (zero, i, q) e = here (test x) (list_any test cells) (ap test q ∙ e)
  where
    here : (a b : Bool) → a ≡ true → (a || b) ≡ true
    here true b h = refl
    here false b h = absurd cc
any_of test (x ∷ cells) c (suc k, i, q) e = there (test x) (list_any test cells) (any_of test cells c (k, omega (arith, i), q) e)
  where
    there : (a b : Bool) → b ≡ true → (a || b) ≡ true
    there true b h = refl
    there false b h = h

some_where : (b : Bool) (n : ℕ) → b ≡ is_some (cond b (Some n) None)
some_where true n = refl
some_where false n = refl

pub numbered : (cells : List Cell) (c : Cell) → Contains cells c → is_some (numbered_in cells c) ≡ true
numbered cells c h =
    sym (some_where (nat_lt (position_or_len (is_same_cell c) cells) (length cells)) (position_or_len (is_same_cell c) cells))
    ∙ sym (position_below (is_same_cell c) cells) ∙ any_of (is_same_cell c) cells c h (same_itself c)
