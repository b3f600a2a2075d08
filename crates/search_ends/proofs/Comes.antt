-- To which end an outcome comes.
use Rattle.std.proofs.Common.{◌≡◌, ℕ, refl, sym, subst, List, inl, inr}
use Rattle.std.specs.Prelude.{All, Option, Some, None}
use Rattle.std.specs.Option.{option_map}
use Rattle.fractions.specs.Rational.{ℚ}
use Rattle.fractions.specs.Vectors.{at}
use Rattle.fractions.specs.Floor.{floor_ℚ}
use Rattle.fractions.proofs.Tests.{le_or_lt}
use Rattle.optimality.specs.Groups.{AreDifferent}
use Rattle.linear_models.specs.Box.{Box}
use Rattle.linear_models.specs.Model.{Model}
use Rattle.searches.specs.Alike.{AreFirstAlike}
use Rattle.searches.specs.Trees.{End, Found, beaten, whole, split}
use Rattle.searches.specs.Trails.{best, is_beaten, is_whole, is_split, is_parted, is_clash, IsUnbroken, IsFirstBroken, IsBetterThan}
use Rattle.search_ends.specs.Ends.{ComesToWith, IsBetter}
use Rattle.search_ends.specs.Pairs.{IsParting, by_split, by_clash}

better : (found : Option Found) (b : Option ℚ) (v : ℚ) → option_map (λ (f : Found). f.value) found ≡ b → IsBetter b v → IsBetterThan found v
better None b v e h = tt
better (Some f) b v e h = subst (λ (o : Option ℚ). IsBetter o v) (sym e) h

pub comes_beaten : (m : Model) (box : Box) (b : Option ℚ) (x : List ℚ) (v : ℚ) → (IsBetter b v → ⊥) → ComesToWith m box b (best x v) (beaten v)
comes_beaten m box b x v n None e = absurd (n (subst (λ (o : Option ℚ). IsBetter o v) e tt))
comes_beaten m box b x v n (Some f) e = elim (le_or_lt v f.value) [
  | inl l ↦ is_beaten x v f refl l
  | inr l ↦ absurd (n (subst (λ (o : Option ℚ). IsBetter o v) e l))
]

pub comes_whole : (m : Model) (box : Box) (b : Option ℚ) (x : List ℚ) (v : ℚ) → IsBetter b v → IsUnbroken m x → All (AreDifferent x) m.groups → ComesToWith m box b (best x v) (whole x v)
comes_whole m box b x v l n d found e = is_whole x v (better found b v e l) n d

pub comes_split : (m : Model) (box : Box) (b : Option ℚ) (x : List ℚ) (v : ℚ) (j : ℕ) → IsBetter b v → IsFirstBroken m x j → ComesToWith m box b (best x v) (split j (floor_ℚ (at x j)) v)
comes_split m box b x v j l n found e = is_split x v j (better found b v e l) n

pub comes_parted : (m : Model) (box : Box) (b : Option ℚ) (x : List ℚ) (v : ℚ) (i j : ℕ) (e : End) → IsBetter b v → IsUnbroken m x → AreFirstAlike x m.groups i j → IsParting box x v i j e → ComesToWith m box b (best x v) e
comes_parted m box b x v i j e l n a (by_split c f s z) found q = is_parted x v i j c f (better found b v q l) n a s z
comes_parted m box b x v i j e l n a (by_clash p r) found q = is_clash x v i j (better found b v q l) n a p r
