-- Refusals of what is picked and counted: no number is calculated.
use Rattle.std.specs.Prelude.{⊤}
use Rattle.form_values.specs.declared.refusal.OpRefusal.{OpRefusal}
use Rattle.form_values.specs.declared.refusal.OpRefusal.TheVariants as refusal

-- an argument leaves it undecided
abbrev pub IsUndecided : OpRefusal → Type 0
IsUndecided (refusal.Undecided i) = ⊤
IsUndecided _ = ⊥

-- an argument leaves it undecided, or memory ran out
abbrev pub IsUndecidedOrMemory : OpRefusal → Type 0
IsUndecidedOrMemory (refusal.Undecided i) = ⊤
IsUndecidedOrMemory refusal.Memory = ⊤
IsUndecidedOrMemory _ = ⊥
