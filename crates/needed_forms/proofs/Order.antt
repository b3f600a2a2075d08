-- The order of places.
use Rattle.std.specs.Prelude.{◌≢◌}
use Rattle.std.proofs.Common.{◌≡◌, refl, sym, ap, ◌∙◌, true, false}
use Rattle.std.specs.Cmp.{IsTotalOrder, nat_cmp_total, tied_itself}
use Rattle.std.specs.Ordering.{is_lt, ordering_reverse}
use Rattle.std.specs.declared.cmp.Ordering.{Ordering}
use Rattle.std.specs.declared.cmp.Ordering.TheVariants.{Less, Equal, Greater}
use Rattle.cell_refs.proofs.Order.{cells_total}
use Rattle.cell_refs.specs.declared.place.Place.{Place}
use Rattle.cell_refs.specs.declared.place.Place.TheVariants as place
use Rattle.form_needs.specs.FirstRefusal.{place_cmp}
use Rattle.needed_forms.specs.Firsts.{is_before}

turned : (p q : Place) → place_cmp p q ≡ ordering_reverse (place_cmp q p)
turned (place.Cell a) (place.Cell b) = cells_total.antisymm a b
turned (place.Cell a) (place.Side k) = refl
turned (place.Side j) (place.Cell b) = refl
turned (place.Side j) (place.Side k) = nat_cmp_total.antisymm j k

less_less : (p q r : Place) → place_cmp p q ≡ Less → place_cmp q r ≡ Less → place_cmp p r ≡ Less
less_less (place.Cell a) (place.Cell b) (place.Cell c) h k = cells_total.trans a b c h k
less_less (place.Cell a) (place.Cell b) (place.Side l) h k = refl
less_less (place.Cell a) (place.Side j) (place.Cell c) h k = cc
less_less (place.Cell a) (place.Side j) (place.Side l) h k = refl
less_less (place.Side i) (place.Cell b) r h k = cc
less_less (place.Side i) (place.Side j) (place.Cell c) h k = cc
less_less (place.Side i) (place.Side j) (place.Side l) h k = nat_cmp_total.trans i j l h k

alike : (p q r : Place) → place_cmp p q ≡ Equal → place_cmp p r ≡ place_cmp q r
alike (place.Cell a) (place.Cell b) (place.Cell c) h = cells_total.congr a b c h
alike (place.Cell a) (place.Cell b) (place.Side l) h = refl
alike (place.Cell a) (place.Side j) r h = cc
alike (place.Side i) (place.Cell b) r h = cc
alike (place.Side i) (place.Side j) (place.Cell c) h = refl
alike (place.Side i) (place.Side j) (place.Side l) h = nat_cmp_total.congr i j l h

pub places_total : IsTotalOrder place_cmp
places_total = record { antisymm = turned; trans = less_less; congr = alike }

-- ---- places that aren't behind
pub itself_fits : (p : Place) → place_cmp p p ≢ Greater
itself_fits p g = let m : Equal ≡ Greater = sym (tied_itself places_total p) ∙ g in cc

is_less : (o : Ordering) → is_lt o ≡ true → o ≡ Less
is_less Less h = refl
is_less Equal h = cc
is_less Greater h = cc

-- what comes before a place that isn't behind another isn't behind it either
pub before_fits : (p q r : Place) → is_before p q ≡ true → place_cmp q r ≢ Greater → place_cmp p r ≢ Greater
before_fits p q r b n = by (place_cmp q r) refl n
  where
    less : place_cmp p q ≡ Less
    less = is_less (place_cmp p q) b

    by : (o : Ordering) → place_cmp q r ≡ o → o ≢ Greater → place_cmp p r ≢ Greater
    by Less e n = λ g. let m : Less ≡ Greater = sym (less_less p q r less e) ∙ g in cc
    by Equal e n = λ g.
        let m : place_cmp p r ≡ place_cmp p q = turned p r ∙ ap ordering_reverse (sym (alike q r p e)) ∙ sym (turned p q) in
        let l : Less ≡ Greater = sym less ∙ sym m ∙ g in
        cc
    by Greater e n = λ g. n refl

-- a place that isn't before another is behind it
pub other_fits : (p q : Place) → is_before p q ≡ false → place_cmp q p ≢ Greater
other_fits p q b g =
    let m : place_cmp p q ≡ Less = turned p q ∙ ap ordering_reverse g in
    let r : true ≡ false = sym (ap is_lt m) ∙ b in
    cc
