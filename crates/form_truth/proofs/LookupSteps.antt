-- What VLOOKUP gives, by its place and by the row that is found.
use Rattle.std.specs.Prelude.{◌+◌, ◌-◌, nat_le, int_le, ℤ, pos, negsuc}
use Rattle.std.proofs.Common.{◌≡◌, refl, ap, ◌∙◌, Bool, true, false, if◌then◌else◌, Option, Some, None, Result, Ok, Err, ℕ, zero, suc, add-one, arith}
use Rattle.std.proofs.lemmas.Bool.Decides.{nat_tests}
use Rattle.calculations.specs.Calculation.{exact}
use Rattle.cell_refs.specs.declared.error_kind.ErrorKind.{ErrorKind}
use Rattle.cell_refs.specs.declared.error_kind.ErrorKind.TheVariants as kind
use Rattle.sheet_model.specs.Grids.{Rectangle}
use Rattle.sheet_model.specs.declared.value.Value.{Value}
use Rattle.sheet_model.specs.declared.value.Value.TheVariants.{Error}
use Rattle.sheet_model.specs.declared.grid.Arg.TheVariants.{One}
use Rattle.sheet_funcs.specs.Arguments.{at, column_of, on_ok, answered}
use Rattle.sheet_funcs.specs.Lookups.{found, field_at, field_of, kind_where, or_fault}
use Rattle.sheet_funcs.specs.Picks.{taken_from}
use Rattle.sheet_funcs.proofs.Looking.{one_taken}

-- the element in a column, counted from 1, of the row that is found
abbrev pub element_or : Rectangle → ℤ → Option ℕ → Value
element_or g column None = Error kind.NotAvailable
element_or g (pos n) (Some row) = at g row (n - 1)
element_or g _ (Some row) = Error kind.Value

abbrev pub looked_up : Rectangle → Value → ℤ → Bool → Value
looked_up g key column sorted =
    if int_le column (pos 0) then Error kind.Value
    else if int_le column (pos g.columns) then element_or g column (found (kind_where sorted) key (column_of g 0))
    else Error kind.Ref

module _ (g : Rectangle) where
  by_column : (b : Bool) (n : ℕ) (row : Option ℕ)
      → taken_from g (or_fault (if b then Ok n else Err kind.Ref) (λ field. field_of field row)) ≡ One (if b then element_or g (pos (suc n)) row else Error kind.Ref)
  by_column false n row = refl
  by_column true n None = refl
  by_column true n (Some row) = one_taken g row n ∙ ap (λ column. One (at g row column)) (omega arith)

  by_place : (n : ℤ) (row : Option ℕ) → taken_from g (or_fault (field_at g.columns n) (λ field. field_of field row))
      ≡ One (if int_le n (pos 0) then Error kind.Value else if int_le n (pos g.columns) then element_or g n row else Error kind.Ref)
  by_place (pos zero) row = refl
  by_place (negsuc n) row = refl
  by_place (pos (suc n)) row =
      let above : int_le (pos (suc n)) (pos 0) ≡ false = grind (arith, nat_tests) in
      let within : int_le (pos (suc n)) (pos g.columns) ≡ nat_le (n + 1) g.columns = rw add-one refl in
      rw (above, within) (by_column (nat_le (n + 1) g.columns) n row)

  -- errors of the key, of the place and of the order come first
  pub lookup_steps : (key : Result Value ErrorKind) (place : Result ℤ ErrorKind) (sorted : Result Bool ErrorKind)
      → taken_from g (or_fault key (λ k. or_fault place (λ n. or_fault sorted (λ s. or_fault (field_at g.columns n) (λ field. field_of field (found (kind_where s) k (column_of g 0)))))))
      ≡ exact (on_ok key (λ k. on_ok place (λ n. on_ok sorted (λ s. answered (looked_up g k n s)))))
  lookup_steps (Err k) place sorted = refl
  lookup_steps (Ok k) (Err l) sorted = refl
  lookup_steps (Ok k) (Ok n) (Err l) = refl
  lookup_steps (Ok k) (Ok n) (Ok s) = by_place n (found (kind_where s) k (column_of g 0))
