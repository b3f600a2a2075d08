-- What holds of every trail of a search.
use Rattle.std.specs.Prelude.{◌≡◌, ◌≢◌, ℕ, List, [], ◌∷◌, length, map, None}
use Rattle.node_pick.specs.Rules.{Rule, free, IsRising}
use Rattle.linear_models.specs.Model.{Model, IsValid}
use Rattle.searches.specs.Trees.{info}
use Rattle.searches.specs.Trails.{State, SearchUnit, opening, pivot, Grows, Trail, IsOver}
use Rattle.searches.specs.Answers.{Answer, Says, IsTrueOf}

-- what a search that is over answers is true of the model
abbrev pub AnswersAreTrue : Type 0
AnswersAreTrue = (m : Model) (rule : Rule) (us : List SearchUnit) (s : State) (a : Answer) → IsValid m → Trail m rule us s → s.work ≡ None → IsOver m s → Says m s a → IsTrueOf m a

-- the numbers of the nodes that the units open
abbrev pub openings : List SearchUnit → List ℕ
openings [] = []
openings (opening n ∷ us) = n ∷ openings us
openings (pivot r c ∷ us) = openings us

-- no element is the number
abbrev pub Lacks : List ℕ → ℕ → Type 0
Lacks [] k = Unit {0}
Lacks (n ∷ ns) k = (n ≢ k) × Lacks ns k

-- each number stands once
abbrev pub AreDistinct : List ℕ → Type 0
AreDistinct [] = Unit {0}
AreDistinct (n ∷ ns) = Lacks ns n × AreDistinct ns

-- no node is opened twice
abbrev pub NoNodeIsOpenedTwice : Type 0
NoNodeIsOpenedTwice = (m : Model) (rule : Rule) (us : List SearchUnit) (s : State) → Trail m rule us s → AreDistinct (openings us)

-- the numbers of the nodes that wait rise
abbrev pub NumbersRise : Type 0
NumbersRise = (m : Model) (rule : Rule) (us : List SearchUnit) (s : State) → Trail m rule us s → IsRising (map info s.waiting)

-- under a rule other than the free one, the next unit and the state after it are one
abbrev pub OneNextState : Type 0
OneNextState = (m : Model) (rule : Rule) (us : List SearchUnit) (s t t' : State) (u u' : SearchUnit) → IsValid m → rule ≢ free → Trail m rule us s → Grows m rule s u t → Grows m rule s u' t'
    → (u ≡ u') × (t ≡ t')

-- so there is at most one trail of each length
abbrev pub OneTrail : Type 0
OneTrail = (m : Model) (rule : Rule) (us us' : List SearchUnit) (s s' : State) → IsValid m → rule ≢ free → Trail m rule us s → Trail m rule us' s' → length us ≡ length us' → (us ≡ us') × (s ≡ s')

-- wherever a search stands, it says one answer for the case that it is over
abbrev pub OneAnswer : Type 0
OneAnswer = (m : Model) (s : State) → (a : Answer) × Says m s a × ((b : Answer) → Says m s b → b ≡ a)
