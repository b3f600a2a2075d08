-- What a dictionary asks for next.
use Rattle.std.specs.Prelude.{◌<◌, length}
use Rattle.dictionaries.specs.Dictionary.{Dictionary, IsPlace}
use Rattle.dictionaries.specs.Bland.{NextPivot, IsBestEnd, IsInfeasibleEnd, IsUnboundedEnd}
use Rattle.simplex.specs.declared.choose.Next.{Next}
use Rattle.simplex.specs.declared.choose.Next.TheVariants.{Pivot, Best, Infeasible, Unbounded}

-- the run's next pivot, or how the run has ended
abbrev pub IsNextOf : Dictionary → Next → Type 0
IsNextOf d (Pivot r c) = NextPivot d r c
IsNextOf d Best = IsBestEnd d
IsNextOf d Infeasible = IsInfeasibleEnd d
IsNextOf d (Unbounded c) = IsUnboundedEnd d c

-- a pivot stands at an entry other than 0
abbrev pub IsAtPlace : Dictionary → Next → Type 0
IsAtPlace d (Pivot r c) = IsPlace d r c
IsAtPlace d Best = Unit {0}
IsAtPlace d Infeasible = Unit {0}
IsAtPlace d (Unbounded c) = c < length d.nonbasic
