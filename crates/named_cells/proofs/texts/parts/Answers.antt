use Rattle.std.proofs.Common.{◌∙◌, ap, false, map, rules, string_bytes, sym}
use Rattle.std.specs.Str.Iter.{chars_rest}
use Rattle.solver_names.specs.Texts.{parts_from}
use Rattle.solver_names.proofs.PartLists.{char_more, cut_on, glued, started}
use Rattle.named_cells.proofs.texts.parts.Goals as goal

pub loop-c-init : goal.loop-c-init
loop-c-init c =
    started c.new-parts.result.items (string_bytes c.new-part.result) (chars_rest c.into_iter-c-iterator.result) c.args.text.now (search rules) (search rules) (search rules)

pub loop-c-preserved-then-is_cut : goal.loop-c-preserved-then-is_cut
loop-c-preserved-then-is_cut c =
    cut_on c.loop-c.is_quoted c.in-Some.c c.loop-c.parts.items c.push.new.self.items c.loop-c.part (string_bytes c.new-part-then-is_cut.result) (chars_rest c.loop-c.c-iterator)
    (chars_rest c.next.new.self) (parts_from false c.args.text.now) c.in-Some.ensures.steps.0 (sym c.is_cut.ensures ∙ c.if-is_cut.true) c.in_ok-push.ensures.items
    (search rules) c.loop-c.invariant

pub loop-c-preserved : goal.loop-c-preserved
loop-c-preserved c =
    ap (λ q. glued (map string_bytes c.loop-c.parts.items) (string_bytes c.push-else-is_cut.new.self) (parts_from q (chars_rest c.next.new.self))) c.is_quoted_behind-is_quoted.ensures
    ∙ char_more c.loop-c.is_quoted c.in-Some.c (map string_bytes c.loop-c.parts.items) (string_bytes c.loop-c.part) (string_bytes c.push-else-is_cut.new.self) (chars_rest c.loop-c.c-iterator)
    (chars_rest c.next.new.self) (parts_from false c.args.text.now) c.in-Some.ensures.steps.0 c.in_ok-push-2.ensures.bytes (sym c.is_cut.ensures ∙ c.if-is_cut.false) c.loop-c.invariant
