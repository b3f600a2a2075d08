use Rattle.std.proofs.Common.{◌≡◌, ◌∙◌, ◌++◌, ℕ, List, ap, append_assoc, decimal, map, slice_index_or, string_bytes}
use Rattle.commands.specs.Preceded.{preceded}
use Rattle.commands.proofs.Saying.{behind, with_commas}
use Rattle.commands.proofs.refusals.say_basis.Goals as goal

pub returns : goal.returns
returns c =
    let old = string_bytes c.args.to.now in
    let basis = c.args.basis.now in
    let rest = preceded (map decimal (behind basis)) in
    let first : string_bytes c.say_number.new.to ≡ old ++ decimal (slice_index_or basis 0 0) = cc (c.in_ok-say_number.ensures, c.from.ensures) in
    c.in_ok-say_further_columns.ensures ∙ ap (λ (l : List ℕ). l ++ rest) first ∙ append_assoc old (decimal (slice_index_or basis 0 0)) rest
    ∙ ap (λ l. old ++ l) (with_commas decimal basis 0 c.in-len1-up.len_at_least)
