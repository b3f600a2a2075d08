use Rattle.std.proofs.Common.{◌≡◌, refl, Bool, not, [], ◌∷◌, Ok}
use Rattle.std.specs.Option.{option_to_list}
use Rattle.fractions.specs.Rational.{ℚ}
use Rattle.sheet_model.specs.Tests.{is_zero}
use Rattle.sheet_model.specs.declared.value.Value.{Value}
use Rattle.sheet_model.specs.declared.value.Value.TheVariants.{Number}
use Rattle.sheet_model.proofs.NumberTests.{is_zero-told}
use Rattle.sheet_funcs.specs.Arguments.{all_or_error}
use Rattle.sheet_funcs.specs.Items.{logical_at}
use Rattle.sheet_funcs.specs.SeenLogicals.{seen_of, seen_or_error}
use Rattle.sheet_funcs.specs.declared.logic.Seen.{Seen}
use Rattle.sheet_funcs.proofs.logic.seen_at.Goals as goal

-- a number is the logical whether it is another than 0
number_seen : (v : Value) (x : ℚ) (b : Bool) (s : Seen) → v ≡ Number x → b ≡ is_zero x → s ≡ seen_of (not b ∷ []) → Ok s ≡ seen_or_error (all_or_error (option_to_list (logical_at v)))
number_seen v x b s e f g = rw (e, ← f, g) refl

pub returns-in-Number : goal.returns-in-Number
returns-in-Number c = number_seen c.args.item.now c.in-Number.number c.is_zero.result c.one.result c.in-Number.is (is_zero-told c.is_zero.result _ c.is_zero.ensures) c.one.ensures
