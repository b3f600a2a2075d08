use Rattle.std.proofs.Common.{ℕ, subst}
use Rattle.std.specs.Prelude.{IfNone, IfSome}
use Rattle.cell_refs.specs.Address.{IsAddress}
use Rattle.cell_refs.proofs.AddressReading.{told}
use Rattle.cell_refs.proofs.address.read_address.Goals as goal

pub returns-clause-none : goal.returns-clause-none
returns-clause-none c = subst (λ t. IfNone c.row_and_column.result ((row column : ℕ) → IsAddress t row column → ⊥)) c.as_bytes.ensures.value c.row_and_column.ensures.none

pub returns-clause-reading : goal.returns-clause-reading
returns-clause-reading c =
    told c.args.text.now c.row_and_column.result (subst (λ t. IfSome c.row_and_column.result (λ a. IsAddress t a.0 a.1)) c.as_bytes.ensures.value c.row_and_column.ensures.address)
    (subst (λ t. IfNone c.row_and_column.result ((row column : ℕ) → IsAddress t row column → ⊥)) c.as_bytes.ensures.value c.row_and_column.ensures.none)
