-- Faults of names that can't be removed.
use Rattle.std.proofs.Common.{◌≡◌, ◌≢◌, ℕ, Bool, if◌then◌else◌, true, false, List, Some, None, not, subst}
use Rattle.std.specs.Prelude.{OnErr, Result, Ok, Err, length, nat_lt}
use Rattle.cell_refs.specs.declared.limits.TheConstants.{TEXT_BYTES}
use Rattle.workbook.specs.declared.fault.EditFault.{EditFault}
use Rattle.workbook.specs.declared.fault.EditFault.TheVariants as fault
use Rattle.workbook.specs.Files.{is_name}
use Rattle.workbook.specs.Naming.{unname_fault}

-- want of memory is none of them
fault_by : (bad long : Bool) → Some fault.Memory ≢ (if bad then Some fault.BadName else if long then Some fault.FieldTooLong else None)
fault_by true long = λ e. absurd (cc)
fault_by false true = λ e. absurd (cc)
fault_by false false = λ e. absurd (cc)

pub no_memory : (name : List ℕ) (f : EditFault) → Some f ≡ unname_fault name → f ≢ fault.Memory
no_memory name f is = λ want. fault_by (not (is_name name)) (nat_lt TEXT_BYTES (length name)) (subst (λ (x : EditFault). Some x ≡ unname_fault name) want is)

-- what never stands at an end
pub never_err : {A E : Type 0} (r : Result A E) (P Q : Type 0) → (P → ⊥) → OnErr r P → OnErr r Q
never_err (Ok a) P Q never h = h
never_err (Err e) P Q never h = absurd (never h)
