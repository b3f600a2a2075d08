-- The program of a node: of which box, and how many columns it has.
use Rattle.std.proofs.Common.{◌≡◌, ℕ, suc, refl, ap, ap₂, ◌∙◌, List, [], ◌∷◌, length, Bool, true, false}
use Rattle.std.specs.Prelude.{Option, Some, None, Result, Ok, Err, IfOk, is_some}
use Rattle.std.specs.Option.{option_map}
use Rattle.linear_programs.specs.Program.{Program}
use Rattle.memory.specs.declared.Memory.{Memory}
use Rattle.std.proofs.lemmas.List.{length-map}
use Rattle.linear_models.specs.Box.{Box}
use Rattle.linear_models.specs.Model.{Model, IsValid}
use Rattle.linear_models.specs.Laws.{IsBoxOf}
use Rattle.linear_models.specs.Standard.{standard, columns_from, is_split, splits_of}
use Rattle.searches.specs.Trees.{Node, Part, Way, box_along}
use Rattle.searches.specs.Trails.{box_of, is_plain, node_program}
use Rattle.searches.proofs.Boxes.{along_is_box}
use Rattle.branch_bound.specs.States.{way_of}
use Rattle.branch_bound.specs.declared.frontier.Way.{Way as Held}

pub own_box : (m : Model) → IsValid m → IsBoxOf m m.bounds
own_box m v = record { least = v.least; greatest = v.greatest }

pub part_box : (m : Model) (ps : List Part) → IsValid m → IsBoxOf m (box_along m.bounds ps)
part_box m ps v = along_is_box m m.bounds ps (own_box m v)

columns_length : (k : ℕ) (ss : List Bool) → length (columns_from k ss) ≡ length ss
columns_length k [] = refl
columns_length k (true ∷ ss) = ap suc (columns_length (suc (suc k)) ss)
columns_length k (false ∷ ss) = ap suc (columns_length (suc k) ss)

pub program_columns : (m : Model) (box : Box) (plain : Bool) → IsBoxOf m box → length (standard m box plain).columns ≡ length m.whole
program_columns m box plain b = columns_length 0 (splits_of box) ∙ length-map box.least is_split ∙ b.least

pub columns_of : (m : Model) (box : Box) (plain : Bool) (r : Result Program Memory) → IsBoxOf m box → IfOk r (λ p. p ≡ standard m box plain) → IfOk r (λ p. length p.columns ≡ length m.whole)
columns_of m box plain (Ok p) b h = ap (λ (q : Program). length q.columns) h ∙ program_columns m box plain b
columns_of m box plain (Err e) b h = tt

-- whether there is a way out
pub plain_where : (way : Option Held) → is_some way ≡ is_plain (option_map way_of way)
plain_where None = refl
plain_where (Some w) = refl

-- the objective is 0 where there is one
pub program_is : (m : Model) (box : Box) (node : Node) (way : Option Way) (plain : Bool) (r : Result Program Memory) → box ≡ box_of m node → plain ≡ is_plain way → IfOk r (λ p. p ≡ standard m box plain)
    → IfOk r (λ p. p ≡ node_program m way node)
program_is m box node way plain (Ok p) b e h = h ∙ ap₂ (standard m) b e
program_is m box node way plain (Err e) b q h = tt
