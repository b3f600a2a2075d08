use Rattle.std.proofs.Common.{sym, ap, ◌∙◌, inl, inr}
use Rattle.std.specs.Prelude.{not}
use Rattle.search_trees.proofs.Saying.{one_there, none_there, marks_then, marks_not}
use Rattle.search_trees.proofs.making.is_unbounded.Goals as goal

pub returns-then-is_some : goal.returns-then-is_some
returns-then-is_some c =
    let f = c.args.frontier.now in
    (λ t. (one_there f.way (c.is_none.ensures ∙ ap not c.if-is_none.false), inl (one_there f.found (sym c.is_some.ensures ∙ c.if-is_some.true))), λ u. c.if-is_some.true)

pub returns-else-is_some : goal.returns-else-is_some
returns-else-is_some c =
    let f = c.args.frontier.now in (
      λ t. (one_there f.way (c.is_none.ensures ∙ ap not c.if-is_none.false), inr (marks_then c.args.of.now c.has_marks.result c.has_marks.ensures t)),
      λ u. elim u.1 [
        | inl x ↦ absurd (none_there f.found x.0 (sym c.is_some.ensures ∙ c.if-is_some.false) x.1)
        | inr k ↦ marks_not c.args.of.now c.has_marks.result c.has_marks.ensures k
      ],
    )
