use Rattle.std.proofs.Common.{◌≡◌, ◌<◌, ◌+◌, ◌++◌, ◌∷◌, ◌∙◌, [], cond, length, false, ap, sym, arith}
use Rattle.std.specs.Prelude.{not}
use Rattle.cell_refs.specs.declared.limits.TheConstants.{TEXTS}
use Rattle.column_strips.specs.Affected.{has_cell}
use Rattle.column_strips.proofs.Marked.{one_more_marked, seen_is, updated}
use Rattle.column_strips.proofs.marks.mark.Goals as goal

pub push_reserved-requires : goal.push_reserved-requires
push_reserved-requires c =
    let m = c.requires.marks in
    let absent : has_cell c.args.cells.now.items c.args.cell ≡ false
    = sym (seen_is c.args.cells.now c.args.seen.now m c.args.cell) ∙ sym c.contains.ensures ∙ c.if-contains.false in
    omega (arith, c.requires.room absent, m.room)

pub returns-clause-marks : goal.returns-clause-marks
returns-clause-marks c =
    let m = c.requires.marks in
    let absent : has_cell c.args.cells.now.items c.args.cell ≡ false
    = sym (seen_is c.args.cells.now c.args.seen.now m c.args.cell) ∙ sym c.contains.ensures ∙ c.if-contains.false in
    let below : length c.args.cells.now.items < TEXTS + 1 = omega (arith, c.requires.room absent, c.args.cells.now.ok.0) in
    one_more_marked c.args.cells.now c.push_reserved.new.self c.args.seen.now c.insert.new.self c.args.cell m absent below
    c.push_reserved.ensures.items (omega (arith, c.push_reserved.ensures.capacity)) c.insert.ensures.spare
    (c.in-Ok.ensures.len ∙ ap (λ b. length c.args.seen.now.keys + cond b 1 0) (c.in-Ok.ensures.added ∙ ap not (sym c.contains.ensures ∙ c.if-contains.false)))
    (λ q. updated c.args.seen.now.keys c.insert.new.self.keys c.args.cell q (c.in-Ok.ensures.updates.0 q))

pub returns-clause-marked : goal.returns-clause-marked
returns-clause-marked c =
    let absent : has_cell c.args.cells.now.items c.args.cell ≡ false
    = sym (seen_is c.args.cells.now c.args.seen.now c.requires.marks c.args.cell) ∙ sym c.contains.ensures ∙ c.if-contains.false in
    c.push_reserved.ensures.items ∙ sym (ap (λ b. cond b c.args.cells.now.items (c.args.cells.now.items ++ c.args.cell ∷ [])) absent)
