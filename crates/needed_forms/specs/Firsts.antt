-- The least place of a kind, and the first refusal of some places.
use Rattle.std.specs.Prelude.{Bool, true, false, if◌then◌else◌, List, [], ◌∷◌, Option, Some, None}
use Rattle.std.specs.Option.{option_and_then, option_or}
use Rattle.std.specs.Ordering.{is_lt}
use Rattle.cell_refs.specs.declared.place.Place.{Place}
use Rattle.cell_refs.specs.declared.place.Place.TheVariants as place
use Rattle.form_needs.specs.FirstRefusal.{place_cmp}
use Rattle.form_needs.specs.declared.refusal.FormRefusal.{FormRefusal}
use Rattle.needed_forms.specs.declared.stage.Stage.{Stage}
use Rattle.needed_forms.specs.declared.stage.Stage.TheVariants as stage
use Rattle.needed_forms.specs.Stages.{is_in}

-- ---- places
abbrev pub is_side : Place → Bool
is_side (place.Cell a) = false
is_side (place.Side k) = true

abbrev pub is_before : Place → Place → Bool
is_before p q = is_lt (place_cmp p q)

abbrev pub lesser : Place → Option Place → Place
lesser p None = p
lesser p (Some q) = if is_before p q then p else q

abbrev pub with_least : Bool → Place → Option Place → Option Place
with_least true p least = Some (lesser p least)
with_least false p least = least

-- the least of some places that pass a test
abbrev pub least_in : (Place → Bool) → List Place → Option Place
least_in test [] = None
least_in test (p ∷ places) = with_least (test p) p (least_in test places)

-- ---- refusals
-- whether what refuses a place is of a kind
abbrev pub is_told : (Place → Option FormRefusal) → Stage → Place → Bool
is_told told s p = is_in s (told p)

-- of the least place with a refusal of this kind
abbrev pub least_told : (Place → Option FormRefusal) → Stage → List Place → Option FormRefusal
least_told told s places = option_and_then told (least_in (is_told told s) places)

-- malformed cells come first, then circular places, then refusals of their own, then roots that are no number
abbrev pub first_told : (Place → Option FormRefusal) → List Place → List Place → Option FormRefusal
first_told told needed roots =
    option_or (least_told told stage.Malformed needed)
    (option_or (least_told told stage.Circular needed) (option_or (least_told told stage.Refused needed) (least_told told stage.NotNumber roots)))
