use Rattle.std.proofs.Common.{◌||◌, ap, subst, sym, ◌∙◌, arith}
use Rattle.std.specs.Ordering.{eq_by_cmp}
use Rattle.column_strips.specs.Formulas.{IsRising}
use Rattle.column_strips.specs.Strips.{has_strip, strip_cmp}
use Rattle.column_strips.proofs.Places.{read_room, read_strips, rising_set, room_set, room_within, strips_set}
use Rattle.column_strips.proofs.Rising.{get_set_other}
use Rattle.column_strips.proofs.columns.add_at.Goals as goal

pub add_strip-requires-clause-rising : goal.add_strip-requires-clause-rising
add_strip-requires-clause-rising c =
    let within = room_within c.args.columns.now c.args.place c.requires.room in
    subst (IsRising strip_cmp) (read_strips c.args.columns.now c.args.place c.index-columns-place.result within) (c.requires.rising c.args.place)

pub add_strip-requires-clause-room : goal.add_strip-requires-clause-room
add_strip-requires-clause-room c =
    let within = room_within c.args.columns.now c.args.place c.requires.room in
    omega (arith, read_room c.args.columns.now c.args.place c.index-columns-place.result within, c.requires.room)

pub returns-clause-rising : goal.returns-clause-rising
returns-clause-rising c =
    let within = room_within c.args.columns.now c.args.place c.requires.room in
    rising_set c.args.columns.now c.args.place c.add_strip.new.column within c.requires.rising c.add_strip.ensures.rising

pub returns-clause-has : goal.returns-clause-has
returns-clause-has c = λ s.
    let within = room_within c.args.columns.now c.args.place c.requires.room in
    ap (λ xs. has_strip xs s) (strips_set c.args.columns.now c.args.place c.add_strip.new.column within)
    ∙ c.add_strip.ensures.has s
    ∙ ap (λ xs. eq_by_cmp strip_cmp s c.args.strip || has_strip xs s) (sym (read_strips c.args.columns.now c.args.place c.index-columns-place.result within))

pub returns-clause-room : goal.returns-clause-room
returns-clause-room c =
    let within = room_within c.args.columns.now c.args.place c.requires.room in
    omega (
      arith,
      read_room c.args.columns.now c.args.place c.index-columns-place.result within,
      room_set c.args.columns.now c.args.place c.add_strip.new.column within,
      c.add_strip.ensures.len,
      c.add_strip.ensures.capacity,
    )

pub returns-clause-others : goal.returns-clause-others
returns-clause-others c = λ i n. get_set_other c.args.columns.now c.args.place c.add_strip.new.column i n
