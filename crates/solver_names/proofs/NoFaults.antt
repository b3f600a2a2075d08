-- What holds where there is no fault.
use Rattle.std.proofs.Common.{◌≡◌, ◌<◌, ◌≤◌, ℕ, zero, suc, inl, inr, List, [], ◌∷◌, ◌++◌, map, length, get_or, slice_get, flat_map, Some, None, refl, sym, ap, ap₂, ◌∙◌, arith}
use Rattle.std.specs.Prelude.{nat_lt}
use Rattle.std.proofs.lemmas.Bool.{cases_Bool, ltb-false}
use Rattle.std.proofs.lemmas.List.{length-map}
use Rattle.solver_names.specs.declared.constraints.Constraint.{Constraint}
use Rattle.solver_names.specs.declared.faults.Fault.{Fault}
use Rattle.solver_names.specs.declared.faults.Fault.TheVariants as fault
use Rattle.solver_names.specs.declared.faults.Check.{Check}
use Rattle.solver_names.specs.declared.faults.Check.TheVariants as check
use Rattle.solver_names.specs.Faults.{all_by, all_rows, bad_options, cells_unformed, decisions_of, faults, first, found_by, mismatch, no_decisions, of_constraints, too_many, too_many_decisions, too_many_rows, where_so}
use Rattle.solver_names.specs.Read.{Read}
use Rattle.solver_names.specs.Stated.{different, different_cells}
use Rattle.solver_names.proofs.DifferentCells.{all_decided}
use Rattle.solver_names.proofs.Firsts.{none_empty, none_first, none_later}

none_at : {X : Type 0} (g : X → List Fault) (xs : List X) (k : ℕ) (d : X) → k < length xs → first (flat_map g xs) ≡ None → g (get_or xs k d) ≡ []
none_at g [] k d h e = absurd (omega (arith, h))
none_at g (x ∷ xs) zero d h e = none_empty (g x) (none_first (g x) (flat_map g xs) e)
none_at g (x ∷ xs) (suc k) d h e = none_at g xs k d (omega (arith, h)) (none_later (g x) (flat_map g xs) e)

lengths : {A B : Type 0} (f : A → B) (xss : List (List A)) → map length (map (map f) xss) ≡ map length xss
lengths f [] = refl
lengths f (xs ∷ xss) = ap₂ (λ n ns. n ∷ ns) (length-map xs f) (lengths f xss)

within : (most n : ℕ) (f : Fault) → first (where_so (nat_lt most n) f) ≡ None → n ≤ most
within most n f e = elim (cases_Bool (nat_lt most n)) [
  | inl more ↦ absurd (cc (e, more))
  | inr few ↦ ltb-false most n few
]

module _ (r : Read) (none : first (faults r) ≡ None) where
  behind : first (of_constraints (decisions_of r) r.constraints ++ (bad_options r ++ too_many (decisions_of r) r.constraints)) ≡ None
  behind =
      let rest = of_constraints (decisions_of r) r.constraints ++ (bad_options r ++ too_many (decisions_of r) r.constraints) in
      none_later (cells_unformed r) rest (none_later (no_decisions r) (cells_unformed r ++ rest) none)

  counts : first (too_many (decisions_of r) r.constraints) ≡ None
  counts =
      none_later (bad_options r) (too_many (decisions_of r) r.constraints)
      (none_later (of_constraints (decisions_of r) r.constraints) (bad_options r ++ too_many (decisions_of r) r.constraints) behind)

  pub few_decisions : length (decisions_of r) ≤ 512
  few_decisions =
      within 512 (length (decisions_of r)) (fault.TooManyDecisions (length (decisions_of r)))
      (none_first (too_many_decisions (decisions_of r)) (too_many_rows r.constraints) counts)

  pub few_rows : length (all_rows r.constraints) ≤ 256
  few_rows =
      within 256 (length (all_rows r.constraints)) (fault.TooManyRows (length (all_rows r.constraints)))
      (none_later (too_many_decisions (decisions_of r)) (too_many_rows r.constraints) counts)

  -- by one of the checks
  abbrev found : Check → List Fault
  found check = all_by check (decisions_of r) r.constraints

  last_checks : first (found check.Sizes ++ found check.Decisions) ≡ None
  last_checks =
      let last = found check.Sizes ++ found check.Decisions in
      none_later (found check.Code) last
      (none_later (found check.Parts) (found check.Code ++ last)
      (none_later (found check.Sides) (found check.Parts ++ (found check.Code ++ last))
      (none_first (of_constraints (decisions_of r) r.constraints) (bad_options r ++ too_many (decisions_of r) r.constraints) behind)))

  pub all_fit : (k : ℕ) (d : Constraint) → k < length r.constraints → mismatch (get_or r.constraints k d) ≡ []
  all_fit k d h = none_at (found_by check.Sizes (decisions_of r)) r.constraints k d h (none_first (found check.Sizes) (found check.Decisions) last_checks)

  -- the cells that are to be different are those of their numbers, in their order
  pub different_decided : map (map (slice_get (decisions_of r))) (different r.constraints (decisions_of r)) ≡ map (map Some) (different_cells r.constraints)
  different_decided = all_decided (decisions_of r) r.constraints (none_later (found check.Sizes) (found check.Decisions) last_checks)

  -- so each list of numbers is as long as its left side
  pub as_long : map length (different r.constraints (decisions_of r)) ≡ map length (different_cells r.constraints)
  as_long =
      sym (lengths (slice_get (decisions_of r)) (different r.constraints (decisions_of r))) ∙ ap (map length) different_decided ∙ lengths Some (different_cells r.constraints)
