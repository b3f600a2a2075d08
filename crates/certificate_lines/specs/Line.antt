-- The lines of a certificate's text, and how each is spelled.
use Rattle.std.specs.Prelude.{◌≢◌, ◌<◌, ◌+◌, ◌^◌, ℕ, suc, if◌then◌else◌, List, [], ◌∷◌, ◌++◌, length, map, Option, Some, None, IfSome, ℤ, pos, ◌+ℤ◌, codes}
use Rattle.std.specs.List.{AllByRecursion}
use Rattle.fractions.specs.Rational.{ℚ, zero_ℚ, eq_ℚ}
use Rattle.fractions.specs.Whole.{whole_ℚ}
use Rattle.frac128.specs.Narrow.{IsNarrow, IsNarrowWhole}
use Rattle.frac128.specs.Printed.{printed}

-- what the first line says: that a point is optimal, with the objective's value there where there is an objective; or one of the others
pub data Said : Type 0 where
  said_optimal : (value : Option ℚ) → Said
  said_infeasible : Said
  said_unbounded : Said

-- a line: the claim, the point, the direction, a node of the tree, or the last one
pub data Line : Type 0 where
  claim_line : (said : Said) → Line
  point_line : (point : List ℚ) → Line
  ray_line : (direction : List ℚ) → Line
  split_line : (decision : ℕ) (floor : ℤ) → Line
  best_line : (multipliers : List ℚ) → Line
  empty_line : (multipliers : List ℚ) → Line
  clash_line : (first second : ℕ) → Line
  end_line : Line

-- ---- spelling
-- a whole number, as it is printed
abbrev pub whole_text : ℤ → List ℕ
whole_text n = printed (whole_ℚ n)

-- the number of a row, ':' and its multiplier
abbrev pub pair_text : ℕ → ℚ → List ℕ
pair_text k y = whole_text (pos k) ++ (58 ∷ printed y)

-- the multipliers that are not 0, each with the number of its row, the first row's number being k
abbrev pub pair_words : ℕ → List ℚ → List (List ℕ)
pair_words k [] = []
pair_words k (y ∷ ys) = if eq_ℚ y zero_ℚ then pair_words (suc k) ys else (pair_text k y ∷ pair_words (suc k) ys)

-- a value, where there is one
abbrev pub value_words : Option ℚ → List (List ℕ)
value_words None = []
value_words (Some v) = printed v ∷ []

abbrev pub said_words : Said → List (List ℕ)
said_words (said_optimal v) = codes "optimal" ∷ value_words v
said_words said_infeasible = codes "infeasible" ∷ []
said_words said_unbounded = codes "unbounded" ∷ []

-- the first word of a line
abbrev pub first_word : Line → List ℕ
first_word (claim_line s) = codes "cert"
first_word (point_line xs) = codes "point"
first_word (ray_line xs) = codes "ray"
first_word (split_line j f) = codes "split"
first_word (best_line ys) = codes "best"
first_word (empty_line ys) = codes "empty"
first_word (clash_line i j) = codes "clash"
first_word end_line = codes "end"

-- the other words; decisions and rows are counted from 1
abbrev pub other_words : Line → List (List ℕ)
other_words (claim_line s) = said_words s
other_words (point_line xs) = map printed xs
other_words (ray_line xs) = map printed xs
other_words (split_line j f) = whole_text (pos (suc j)) ∷ whole_text f ∷ []
other_words (best_line ys) = pair_words 1 ys
other_words (empty_line ys) = pair_words 1 ys
other_words (clash_line i j) = whole_text (pos (suc i)) ∷ whole_text (pos (suc j)) ∷ []
other_words end_line = []

-- words, each behind a space
abbrev pub spaced : List (List ℕ) → List ℕ
spaced [] = []
spaced (w ∷ ws) = 32 ∷ (w ++ spaced ws)

-- a line without its line feed
abbrev pub line_text : Line → List ℕ
line_text l = first_word l ++ spaced (other_words l)

-- lines, each with its line feed
abbrev pub text_of : List Line → List ℕ
text_of [] = []
text_of (l ∷ ls) = line_text l ++ (10 ∷ text_of ls)

-- ---- which lines there are
-- numbers that fit, one at least
pub record AreNumbers (xs : List ℚ) : Type 0 where
  pub some : 0 < length xs
  pub narrow : AllByRecursion IsNarrow xs

-- numbers that fit, the last of them not 0; so is the number of the last row
pub record AreMultipliers (ys : List ℚ) : Type 0 where
  pub narrow : AllByRecursion IsNarrow ys
  pub last : (zs : List ℚ) → ys ≢ zs ++ (zero_ℚ ∷ [])
  pub few : length ys < 2 ^ 127

-- a decision below 65,536, and a floor that fits with the whole number above it
pub record IsSplit (j : ℕ) (f : ℤ) : Type 0 where
  pub decision : j < 2 ^ 16
  pub floor : IsNarrowWhole f
  pub above : IsNarrowWhole (f +ℤ pos 1)

-- two decisions below 65,536
pub record IsPair (i j : ℕ) : Type 0 where
  pub one : i < 2 ^ 16
  pub other : j < 2 ^ 16

abbrev pub IsSaid : Said → Type 0
IsSaid (said_optimal v) = IfSome v IsNarrow
IsSaid said_infeasible = Unit {0}
IsSaid said_unbounded = Unit {0}

-- the line can stand in a certificate
abbrev pub IsLine : Line → Type 0
IsLine (claim_line s) = IsSaid s
IsLine (point_line xs) = AreNumbers xs
IsLine (ray_line xs) = AreNumbers xs
IsLine (split_line j f) = IsSplit j f
IsLine (best_line ys) = AreMultipliers ys
IsLine (empty_line ys) = AreMultipliers ys
IsLine (clash_line i j) = IsPair i j
IsLine end_line = Unit {0}

-- ---- weight
-- 1 for a leaf, and its greatest row where it has rows
abbrev pub line_weight : Line → ℕ
line_weight (best_line ys) = 1 + length ys
line_weight (empty_line ys) = 1 + length ys
line_weight (clash_line i j) = 1
line_weight (claim_line s) = 0
line_weight (point_line xs) = 0
line_weight (ray_line xs) = 0
line_weight (split_line j f) = 0
line_weight end_line = 0

abbrev pub weight : List Line → ℕ
weight [] = 0
weight (l ∷ ls) = line_weight l + weight ls
