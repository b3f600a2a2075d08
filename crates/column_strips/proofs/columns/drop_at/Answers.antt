use Rattle.std.proofs.Common.{◌≡◌, ◌<◌, ◌&&◌, Bool, true, false, [], length, refl, ap, subst, sym, ◌∙◌, arith}
use Rattle.std.specs.Prelude.{not}
use Rattle.std.specs.Ordering.{eq_by_cmp}
use Rattle.column_strips.specs.Columns.{strips_at}
use Rattle.column_strips.specs.Formulas.{IsRising}
use Rattle.column_strips.specs.Strips.{has_strip, strip_cmp}
use Rattle.column_strips.proofs.Places.{none_past, read_room, read_strips, rising_set, room_set, strips_set}
use Rattle.column_strips.proofs.Rising.{get_set_other}
use Rattle.column_strips.proofs.columns.drop_at.Goals as goal

none_left : (b : Bool) → false ≡ (b && false)
none_left true = refl
none_left false = refl

pub returns-then-place-columns-clause-has : goal.returns-then-place-columns-clause-has
returns-then-place-columns-clause-has c = λ s.
    let e : strips_at c.args.columns.now c.args.place ≡ [] = none_past c.args.columns.now c.args.place (omega (arith, c.if-place-columns.true)) in
    ap (λ xs. has_strip xs s) e ∙ none_left (not (eq_by_cmp strip_cmp s c.args.strip)) ∙ ap (λ xs. not (eq_by_cmp strip_cmp s c.args.strip) && has_strip xs s) (sym e)

pub drop_strip-requires : goal.drop_strip-requires
drop_strip-requires c =
    let within : c.args.place < length c.args.columns.now = omega (arith, c.if-place-columns.false) in
    subst (IsRising strip_cmp) (read_strips c.args.columns.now c.args.place c.index-columns-place.result within) (c.requires c.args.place)

pub returns-clause-rising : goal.returns-clause-rising
returns-clause-rising c =
    let within : c.args.place < length c.args.columns.now = omega (arith, c.if-place-columns.false) in
    rising_set c.args.columns.now c.args.place c.drop_strip.new.column within c.requires c.drop_strip.ensures.rising

pub returns-clause-has : goal.returns-clause-has
returns-clause-has c = λ s.
    let within : c.args.place < length c.args.columns.now = omega (arith, c.if-place-columns.false) in
    ap (λ xs. has_strip xs s) (strips_set c.args.columns.now c.args.place c.drop_strip.new.column within)
    ∙ c.drop_strip.ensures.has s
    ∙ ap (λ xs. not (eq_by_cmp strip_cmp s c.args.strip) && has_strip xs s) (sym (read_strips c.args.columns.now c.args.place c.index-columns-place.result within))

pub returns-clause-room : goal.returns-clause-room
returns-clause-room c =
    let within : c.args.place < length c.args.columns.now = omega (arith, c.if-place-columns.false) in
    omega (
      arith,
      read_room c.args.columns.now c.args.place c.index-columns-place.result within,
      room_set c.args.columns.now c.args.place c.drop_strip.new.column within,
      c.drop_strip.ensures.len,
      c.drop_strip.ensures.capacity,
    )

pub returns-clause-others : goal.returns-clause-others
returns-clause-others c = λ i n. get_set_other c.args.columns.now c.args.place c.drop_strip.new.column i n
