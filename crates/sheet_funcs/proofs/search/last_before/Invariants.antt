use Rattle.std.proofs.Common.{◌≡◌, ℕ, ◌<◌, ◌*◌, false, get_or}
use Rattle.std.specs.Prelude.{IfSome}
use Rattle.sheet_model.specs.declared.value.Value.TheVariants.{Empty}
use Rattle.sheet_funcs.specs.Lookups.{is_key, last_place}
use Rattle.sheet_funcs.specs.Searches.{spaced, stands}
use Rattle.sheet_funcs.proofs.search.last_before.Given as goal

-- no value so far is in this order beside the key, and the last place so far is known
abbrev pub invariant-loop-place : goal.invariant-loop-place
invariant-loop-place l = record {
  clear : (k : ℕ) → k < l.place → stands l.order l.key (get_or l.items (k * l.step) Empty) ≡ false;
  last : l.last ≡ last_place is_key (spaced l.items l.step l.place);
  within : IfSome l.last (λ place. place < l.place);
}
