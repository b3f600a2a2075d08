-- With the objective 0 no program is unbounded.
use Rattle.std.proofs.Common.{◌≡◌, subst, List, Bool, true, false}
use Rattle.std.specs.Prelude.{Option}
use Rattle.fractions.specs.Rational.{ℚ, ◌<ℚ◌, zero_ℚ}
use Rattle.fractions.proofs.Order.{lt_irrefl}
use Rattle.affine_forms.specs.Forms.{sum_at}
use Rattle.affine_forms.specs.Assigned.{assigned}
use Rattle.dictionaries.specs.Dictionary.{Dictionary}
use Rattle.dictionaries.specs.Run.{IsOnTheWay}
use Rattle.dictionaries.proofs.Ends.{ends_prove}
use Rattle.linear_models.specs.Model.{Model, IsValid}
use Rattle.linear_models.specs.Standard.{wanted, splits_of}
use Rattle.linear_models.proofs.Forms.{dot-spread_terms}
use Rattle.linear_models.proofs.Regular.{wanted_is}
use Rattle.searches.specs.Trees.{Node, Way}
use Rattle.searches.specs.Trails.{is_plain, box_of, node_program, no_bound, Finishes, without_bound}
use Rattle.searches.proofs.Ends.{node_regular}

zero_wanted : (m : Model) (plain : Bool) (a : List ℚ) → plain ≡ true → zero_ℚ <ℚ sum_at (assigned a) (wanted m plain).terms → ⊥
zero_wanted m true a e h = lt_irrefl zero_ℚ h
zero_wanted m false a e h = cc

pub nothing_improves : (m : Model) (way : Option Way) (node : Node) (d : Dictionary) (x u : List ℚ) → IsValid m → IsOnTheWay (node_program m way node) d
    → Finishes (node_program m way node) d (no_bound x u) → is_plain way ≡ true → ⊥
nothing_improves m way node d x u v w (without_bound c e) p =
    let o = (ends_prove.unbounded (node_program m way node) d c (node_regular m way node v) w e).is_way_out in
    let s = subst (λ t. zero_ℚ <ℚ t) (dot-spread_terms (splits_of (box_of m node)) (wanted m (is_plain way)).terms _ (wanted_is m (is_plain way) v).rise) o.improves in
    zero_wanted m (is_plain way) _ p s
