-- Searches that are cut and gone on with.
use Rattle.std.specs.Prelude.{◌≡◌, ◌≢◌, ◌++◌, List, length}
use Rattle.node_pick.specs.Rules.{Rule, free}
use Rattle.linear_models.specs.Model.{Model, IsValid}
use Rattle.searches.specs.Trails.{State, SearchUnit, Leads, Trail}

-- what two slices make one after the other is made by one slice of both their units
abbrev pub SlicesJoin : Type 0
SlicesJoin = (m : Model) (rule : Rule) (s t : State) (us vs : List SearchUnit) (w : State) → Leads m rule s us t → Leads m rule t vs w → Leads m rule s (vs ++ us) w

-- and what one slice makes is made by two, wherever it is cut
abbrev pub SlicesPart : Type 0
SlicesPart = (m : Model) (rule : Rule) (us vs : List SearchUnit) (s w : State) → Leads m rule s (vs ++ us) w → (t : State) × Leads m rule s us t × Leads m rule t vs w

-- whatever rules were followed before, units by a rule other than the free one are one list of each length, and lead to one state
abbrev pub SlicesAgree : Type 0
SlicesAgree = (m : Model) (rule : Rule) (before : List SearchUnit) (s : State) (us us' : List SearchUnit) (t t' : State) → IsValid m → rule ≢ free → Trail m free before s → Leads m rule s us t → Leads m rule s us' t'
    → length us ≡ length us' → (us ≡ us') × (t ≡ t')
