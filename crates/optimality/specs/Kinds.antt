-- Relations and goals of the code, as those of problems.
use Rattle.optimality.specs.Problem.{Relation, at_most, equal, at_least, Goal, greatest, least, reach}
use Rattle.optimality.specs.declared.kinds.Relation.{Relation as Kind}
use Rattle.optimality.specs.declared.kinds.Relation.TheVariants as kinds
use Rattle.optimality.specs.declared.kinds.Goal.{Goal as Aim}
use Rattle.optimality.specs.declared.kinds.Goal.TheVariants as aims

-- each relation by its name
abbrev pub relation_of : Kind → Relation
relation_of kinds.AtMost = at_most
relation_of kinds.Equal = equal
relation_of kinds.AtLeast = at_least

-- each goal by its name
abbrev pub goal_of : Aim → Goal
goal_of aims.Max = greatest
goal_of aims.Min = least
goal_of (aims.Reach v) = reach v
