-- The numbers and the names of the smallest sizes. What is expected was worked out by hand from the draws, which are those of the example of `rand` in
-- the standard of C.
use Rattle.std.specs.Prelude.{◌≡◌, [], ◌∷◌, codes, map}
use Rattle.workbook.specs.State.{Name}
use Rattle.made_up_books.specs.MadeUp.{costs, demands, draws, made_up_names}

pub record FirstNumbers : Type 0 where
  pub drawn : draws 6 1 ≡ 16838 ∷ 5758 ∷ 10113 ∷ 17515 ∷ 31051 ∷ 5627 ∷ []
  pub cost_of_one : costs 1 ≡ 19 ∷ []
  pub demand_of_one : demands 1 ≡ 18 ∷ []
  pub costs_of_two : costs 2 ≡ 19 ∷ 19 ∷ 14 ∷ 16 ∷ []
  pub demands_of_two : demands 2 ≡ 11 ∷ 17 ∷ []

-- the texts of the names, in their order
pub record FirstNames : Type 0 where
  pub of_one : map (λ (n : Name). n.text) (made_up_names 1) ≡
      codes "$A$2" ∷ codes "$A$5" ∷ codes "2" ∷ codes "2"
      ∷ codes "$B$2" ∷ codes "1" ∷ codes "$C$2" ∷ codes "$A$3" ∷ codes "3" ∷ codes "$A$4" ∷ []
  pub of_two : map (λ (n : Name). n.text) (made_up_names 2) ≡
      codes "$A$3:$B$4" ∷ codes "$A$7" ∷ codes "2" ∷ codes "2"
      ∷ codes "$C$3:$C$4" ∷ codes "1" ∷ codes "$D$3:$D$4" ∷ codes "$A$5:$B$5" ∷ codes "3" ∷ codes "$A$6:$B$6" ∷ []
