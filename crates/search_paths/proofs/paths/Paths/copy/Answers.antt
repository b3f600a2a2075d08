use Rattle.std.proofs.Common.{sym, ◌∙◌, subst}
use Rattle.search_paths.specs.Tables.{AreBefore}
use Rattle.search_paths.proofs.Walking.{at_nowhere}
use Rattle.search_paths.proofs.paths.Paths.copy.Goals as goal

pub invariant_of-result : goal.invariant_of-result
invariant_of-result c =
    let os = c.in_ok-from_slice.field-0.items in
    let placed : AreBefore os = subst AreBefore (sym (c.in_ok-from_slice.ensures.items ∙ c.deref.ensures.value)) c.self.invariant.placed in
    record { placed = placed; at = at_nowhere os c.nowhere.result placed c.nowhere.ensures.at c.nowhere.ensures.led }
