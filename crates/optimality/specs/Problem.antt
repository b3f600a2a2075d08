-- A problem of optimisation over fractions of any size, whatever it was read from: a sheet, a linear model or a box of one.
-- (Chvatal, Linear Programming, chapter 1.)
use Rattle.std.specs.Prelude.{ℕ, List, Option}
use Rattle.fractions.specs.Rational.{ℚ}

-- one number per decision, in the order of the decisions
abbrev pub Assignment : Type 0
Assignment = List ℚ

-- what a formula is worth under an assignment: a number, or none where it isn't one
abbrev pub Worth : Type 0
Worth = Assignment → Option ℚ

-- how the left side of a row stands to its right side
pub data Relation : Type 0 where
  at_most : Relation
  equal : Relation
  at_least : Relation

-- two sides in a relation
pub record Row : Type 0 where
  pub left : Worth
  pub relation : Relation
  pub right : Worth

-- what is wanted of the objective
pub data Goal : Type 0 where
  greatest : Goal
  least : Goal
  reach : ℚ → Goal

-- decisions are numbered from 0; three lists name those that are whole, binary and not negative. The decisions of each group of `numbered` hold the numbers
-- from 1 on, each once; those of each group of `different` hold different numbers
pub record Problem : Type 0 where
  pub decisions : ℕ
  pub rows : List Row
  pub whole : List ℕ
  pub binary : List ℕ
  pub not_negative : List ℕ
  pub numbered : List (List ℕ)
  pub different : List (List ℕ)
  pub objective : Option Worth
  pub goal : Goal
