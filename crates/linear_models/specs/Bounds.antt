-- The bounds that a statement gives its decisions, and which of these are to be whole.
use Rattle.std.specs.Prelude.{ℕ, ◌==◌, Bool, true, false, not, ◌&&◌, ◌||◌, if◌then◌else◌, List, [], ◌∷◌, ◌++◌, length, Option, Some, None, flat_map, pos}
use Rattle.std.specs.Option.{option_map}
use Rattle.fractions.specs.Rational.{ℚ, neg_ℚ, zero_ℚ, one_ℚ}
use Rattle.fractions.specs.Whole.{whole_ℚ}
use Rattle.fractions.specs.Floor.{floor_ℚ}
use Rattle.optimality.specs.Problem.{Relation, at_most, equal, at_least}
use Rattle.linear_models.specs.Box.{lesser, greater}
use Rattle.linear_models.specs.Statement.{Constraint, Statement, is_in, is_grouped}

-- the decision that the row bounds: its left side is that decision, and its right side a number
abbrev pub bounded_by : Option ℕ → List (ℕ × ℚ) → Option ℕ
bounded_by None ts = None
bounded_by (Some j) [] = Some j
bounded_by (Some j) (t ∷ ts) = None

abbrev pub bounded : Constraint → Option ℕ
bounded r = bounded_by r.own r.right.terms

abbrev pub is_number : ℕ → Option ℕ → Bool
is_number j None = false
is_number j (Some i) = i == j

-- the least values that a relation to a number gives
abbrev pub lows : Relation → ℚ → List ℚ
lows at_most c = []
lows equal c = c ∷ []
lows at_least c = c ∷ []

-- the greatest values
abbrev pub highs : Relation → ℚ → List ℚ
highs at_most c = c ∷ []
highs equal c = c ∷ []
highs at_least c = []

abbrev pub lows_in : ℕ → Constraint → List ℚ
lows_in j r = if is_number j (bounded r) then lows r.relation r.right.constant else []

abbrev pub highs_in : ℕ → Constraint → List ℚ
highs_in j r = if is_number j (bounded r) then highs r.relation r.right.constant else []

abbrev pub where_so : Bool → ℚ → List ℚ
where_so b c = if b then c ∷ [] else []

-- how many decisions the group has, where it has this one
abbrev pub size_in : ℕ → List ℕ → List ℚ
size_in j group = where_so (is_in j group) (whole_ℚ (pos (length group)))

-- all lower bounds of a decision, and all upper ones: one in a group of N is between 1 and N
abbrev pub lower_bounds : Statement → ℕ → List ℚ
lower_bounds s j =
    flat_map (lows_in j) s.rows ++ (where_so (is_in j s.binary) zero_ℚ ++ (where_so (s.not_negative && not (is_in j s.explicit)) zero_ℚ ++ where_so (is_grouped j s.groups) one_ℚ))

abbrev pub upper_bounds : Statement → ℕ → List ℚ
upper_bounds s j = flat_map (highs_in j) s.rows ++ (where_so (is_in j s.binary) one_ℚ ++ flat_map (size_in j) s.groups)

-- the greatest of some numbers, where there is one
abbrev pub highest : List ℚ → Option ℚ
highest [] = None
highest (c ∷ cs) = Some (greater (highest cs) c)

-- the least of them
abbrev pub lowest : List ℚ → Option ℚ
lowest [] = None
lowest (c ∷ cs) = Some (lesser (lowest cs) c)

-- ---- rounded inwards where the decision is whole
abbrev pub ceiling_ℚ : ℚ → ℚ
ceiling_ℚ x = neg_ℚ (whole_ℚ (floor_ℚ (neg_ℚ x)))

abbrev pub up : Bool → ℚ → ℚ
up true x = ceiling_ℚ x
up false x = x

abbrev pub down : Bool → ℚ → ℚ
down true x = whole_ℚ (floor_ℚ x)
down false x = x

abbrev pub is_marked : Statement → ℕ → Bool
is_marked s j = (is_in j s.whole || is_in j s.binary) || is_grouped j s.groups

abbrev pub least_of : Statement → ℕ → Option ℚ
least_of s j = option_map (up (is_marked s j)) (highest (lower_bounds s j))

abbrev pub greatest_of : Statement → ℕ → Option ℚ
greatest_of s j = option_map (down (is_marked s j)) (lowest (upper_bounds s j))
