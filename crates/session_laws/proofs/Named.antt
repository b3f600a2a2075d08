-- The search that a slice names is the open one of its sheet.
use Rattle.std.proofs.Common.{◌≡◌, ℕ, Option, Some, None, Result, Ok, Err, refl, subst}
use Rattle.session.specs.FromSheetSolving.{Opened}
use Rattle.commands.specs.declared.answer.Answer.{Answer}
use Rattle.commands.specs.Locating.{or_unknown}
use Rattle.session.specs.Cuts.{Cut, cut, search_or}
use Rattle.session.specs.Edits.{and_then}

same_cut : (r : Result Cut Answer) (c d : Cut) → r ≡ Ok c → r ≡ Ok d → c ≡ d
same_cut r c d e f = cc

module _ (f : ℕ → Option Opened) where
  of_search : (sheet units : ℕ) (o : Option Opened) (c : Cut) → f sheet ≡ o → and_then (search_or o) (λ search. Ok (cut sheet units search)) ≡ Ok c → f c.sheet ≡ Some c.search
  of_search sheet units None c is e = absurd cc
  of_search sheet units (Some search) c is e = let same : cut sheet units search ≡ c = same_cut _ (cut sheet units search) c refl e in subst (λ (d : Cut). f d.sheet ≡ Some d.search) same is

  of_units : (sheet : ℕ) (u : Result ℕ Answer) (c : Cut) → and_then u (λ units. and_then (search_or (f sheet)) (λ search. Ok (cut sheet units search))) ≡ Ok c → f c.sheet ≡ Some c.search
  of_units sheet (Ok units) c e = of_search sheet units (f sheet) c refl e
  of_units sheet (Err r) c e = absurd cc

  pub is_open : (u : Result ℕ Answer) (o : Option ℕ) (c : Cut) → and_then (or_unknown o) (λ sheet. and_then u (λ units. and_then (search_or (f sheet)) (λ search. Ok (cut sheet units search)))) ≡ Ok c
      → f c.sheet ≡ Some c.search
  is_open u None c e = absurd cc
  is_open u (Some sheet) c e = of_units sheet u c e
