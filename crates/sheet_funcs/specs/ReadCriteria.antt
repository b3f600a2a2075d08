-- Criteria as they are read once for many elements.
use Rattle.std.specs.Prelude.{◌≡◌, ℕ, Bool, false, not, ◌&&◌, ◌==◌, if◌then◌else◌, List, [], ◌∷◌}
use Rattle.cell_refs.specs.declared.op.Op.{Op}
use Rattle.cell_refs.specs.declared.op.Op.TheVariants as op
use Rattle.sheet_model.specs.declared.value.Value.{Value}
use Rattle.sheet_model.specs.declared.value.Value.TheVariants as value
use Rattle.sheet_funcs.specs.Criteria.{stands_in, meets, is_empty, is_error}
use Rattle.sheet_funcs.specs.declared.criterion.Criterion.{Criterion}
use Rattle.sheet_funcs.specs.declared.criterion.Criterion.TheVariants.{Never, Nothing, Something, Number, Text, Logical}

-- whether an element meets what was read
abbrev pub is_met : Criterion → Value → Bool
is_met Never v = false
is_met Nothing v = is_empty v
is_met Something v = not (is_empty v) && not (is_error v)
is_met (Number relation x) v = stands_in relation (value.Number x) v
is_met (Text relation t) v = stands_in relation (value.Text t.now) v
is_met (Logical b) v = stands_in op.Eq (value.Logical b) v

-- what was read is met as the criterion is
pub record IsReadOf (read : Criterion) (criterion : Value) : Type 0 where
  pub met : (v : Value) → is_met read v ≡ meets criterion v

-- ---- the relation in front of a text
-- behind '<'
abbrev pub behind_less : List ℕ → Op × List ℕ
behind_less [] = (op.Lt, [])
behind_less (b ∷ bytes) = if b == 61 then (op.Le, bytes) else if b == 62 then (op.Ne, bytes) else (op.Lt, b ∷ bytes)

-- behind '>'
abbrev pub behind_greater : List ℕ → Op × List ℕ
behind_greater [] = (op.Gt, [])
behind_greater (b ∷ bytes) = if b == 61 then (op.Ge, bytes) else (op.Gt, b ∷ bytes)
