use Rattle.std.proofs.Common.{◌≡◌, sym, ap, ◌∙◌, arith, List, ◌∷◌, Option, Some}
use Rattle.cell_refs.specs.declared.error_kind.ErrorKind.{ErrorKind}
use Rattle.sheet_model.specs.declared.value.Value.{Value}
use Rattle.sheet_model.specs.declared.value.Value.TheVariants.{Error}
use Rattle.sheet_model.proofs.Spreading.{rest_from}
use Rattle.sheet_funcs.specs.Arguments.{first_error}
use Rattle.sheet_funcs.proofs.items.first_error.Goals as goal

-- an error that the rest begins with
error_first : (whole : Option ErrorKind) (rest : List Value) (v : Value) (others : List Value) (k : ErrorKind) → rest ≡ v ∷ others → v ≡ Error k → whole ≡ first_error rest → Some k ≡ whole
error_first whole rest v others k e f all = sym (all ∙ ap first_error e ∙ ap (λ u. first_error (u ∷ others)) f)

pub returns-in-Error : goal.returns-in-Error
returns-in-Error c =
    error_first _ _ c.item-item.result _ c.in-Error.kind (rest_from c.args.items.now c.loop-item.item-index c.item-item.result (omega arith) c.item-item.is) c.in-Error.is c.loop-item.invariant
