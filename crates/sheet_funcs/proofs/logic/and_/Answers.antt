use Rattle.std.proofs.Common.{◌≡◌, refl, sym, ap, ◌∙◌, Bool, true, false, not, ◌||◌, List, [], ◌∷◌, Some, Result, Ok, Err}
use Rattle.std.specs.List.{list_all, list_any}
use Rattle.calculations.specs.Calculation.{narrow}
use Rattle.calculations.proofs.CalculationLaws.{narrow-exact}
use Rattle.cell_refs.specs.declared.error_kind.ErrorKind.{ErrorKind}
use Rattle.sheet_model.specs.declared.value.Value.TheVariants.{Logical}
use Rattle.sheet_model.specs.declared.grid.Arg.TheVariants.{One}
use Rattle.sheet_funcs.specs.Arguments.{on_ok}
use Rattle.sheet_funcs.specs.Items.{logicals_of}
use Rattle.sheet_funcs.specs.Logic.{and_of, of_some}
use Rattle.sheet_funcs.specs.SeenLogicals.{seen_of, seen_or_error}
use Rattle.sheet_funcs.specs.declared.logic.Seen.{Seen}
use Rattle.sheet_funcs.proofs.logic.and_.Goals as goal

-- all are true where none is false
none_false : (bs : List Bool) → list_all (λ b. b) bs ≡ not (list_any not bs)
none_false [] = refl
none_false (true ∷ bs) = none_false bs
none_false (false ∷ bs) = refl

all_of_some : (r : Result (List Bool) ErrorKind) (s : Seen) → Ok s ≡ seen_or_error r → (s.some_true || s.some_false) ≡ true → narrow (on_ok r (of_some (list_all (λ b. b)))) ≡ Some (One (Logical (not s.some_false)))
all_of_some (Err k) s e n = cc
all_of_some (Ok []) s e n = let nothing : s ≡ seen_of [] = cc in let none : (s.some_true || s.some_false) ≡ false = rw nothing refl in cc
all_of_some (Ok (b ∷ bs)) s e n =
    let seen : s ≡ seen_of (b ∷ bs) = cc in
    ap (λ holds. Some (One (Logical holds))) (none_false (b ∷ bs) ∙ ap (λ (t : Seen). not t.some_false) (sym seen))

pub returns-in-Ok-clause-narrow : goal.returns-in-Ok-clause-narrow
returns-in-Ok-clause-narrow c =
    rw c.logical.ensures (all_of_some (logicals_of c.args.args.now) c.in-Ok.seen c.in-Ok.ensures (sym c.is_some.ensures ∙ c.if-is_some.true))

pub returns-in-Ok-clause-exact : goal.returns-in-Ok-clause-exact
returns-in-Ok-clause-exact c = sym (narrow-exact (and_of c.args.args.now) _ (returns-in-Ok-clause-narrow c))
