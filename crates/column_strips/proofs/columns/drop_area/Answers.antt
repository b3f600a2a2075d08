use Rattle.std.proofs.Common.{◌≡◌, ◌&&◌, ◌≤◌, ap, refl, ◌∙◌, arith, inl, inr}
use Rattle.std.specs.Prelude.{not}
use Rattle.std.proofs.lemmas.Bool.{cases_eq}
use Rattle.cell_refs.specs.Areas.{right}
use Rattle.column_strips.specs.Columns.{place_in, room_at, room_of}
use Rattle.column_strips.proofs.Parts.{everywhere, one_column}
use Rattle.column_strips.proofs.columns.drop_area.Goals as goal

pub loop-place-preserved : goal.loop-place-preserved
loop-place-preserved c =
    let start = c.loop-place.auto.place in
    record {
      rising = c.drop_at.ensures.rising;
      done = one_column (λ a b. not a && b) c.args.columns.now c.loop-place.columns c.drop_at.new.columns c.place_of-first.result c.loop-place.place
          record { cell = c.args.cell; top = c.top.result; bottom = c.bottom.result }
          c.loop-place.invariant.done c.loop-place.invariant.behind c.drop_at.ensures.has c.drop_at.ensures.others;
      before = λ i l. c.drop_at.ensures.others i (λ e. omega (arith, e, l, start)) ∙ c.loop-place.invariant.before i l;
      behind = λ i l. c.drop_at.ensures.others i (λ e. omega (arith, e, l)) ∙ c.loop-place.invariant.behind i (omega (arith, l));
      room = λ i. elim (cases_eq i c.loop-place.place) as (λ _. room_at c.args.columns.now i ≤ room_at c.drop_at.new.columns i) [
        | inl e ↦ let a = ap (room_at c.args.columns.now) e in let b = ap (room_at c.drop_at.new.columns) e in
            let d = ap room_of (c.loop-place.invariant.behind c.loop-place.place (omega arith)) in omega (arith, a, b, d, c.drop_at.ensures.room)
        | inr n ↦ let a = ap room_of (c.drop_at.ensures.others i n) in omega (arith, a, c.loop-place.invariant.room i)
      ];
    }

pub returns-clause-has : goal.returns-clause-has
returns-clause-has c =
    let own = ap (λ s. s.0) c.sheet.ensures in
    let own_too = ap (λ s. s.0) c.sheet-2.ensures in
    let first : c.place_of-first.result ≡ place_in c.args.area.sheet.0 c.args.area.left = omega (arith, c.place_of-first.ensures, own, c.left.ensures.value) in
    let last : c.place_of-last.result ≡ place_in c.args.area.sheet.0 (right c.args.area) = omega (arith, c.place_of-last.ensures, own_too, c.right.ensures.value) in
    let end = c.loop-place-test.false in
    let upto = c.loop-place.auto.place-end in
    everywhere (λ a b. not a && b) (λ b. refl) c.args.area c.top.ensures.on_sheet
    record { cell = c.args.cell; top = c.top.result; bottom = c.bottom.result } c.top.ensures.value c.bottom.ensures.value
    c.args.columns.now c.loop-place.columns
    (λ i s a b. c.loop-place.invariant.done i s (omega (arith, a, first)) (omega (arith, b, last, end)))
    (λ i a. c.loop-place.invariant.before i (omega (arith, a, first)))
    (λ i a. c.loop-place.invariant.behind i (omega (arith, a, first, last, upto)))
