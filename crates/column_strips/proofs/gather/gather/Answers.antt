use Rattle.std.proofs.Common.{◌≡◌, ◌+◌, ◌≤◌, ◌⊎◌, Bool, true, Some, length, get_or, slice_get, ap, subst, sym, ◌∙◌, arith, inl, inr}
use Rattle.std.specs.Prelude.{Vec, vec_capacity}
use Rattle.std.specs.Global.{Global}
use Rattle.std.proofs.lemmas.Option.{same_Some, slice_get-get_or}
use Rattle.cell_refs.specs.declared.cell.Cell.{Cell}
use Rattle.cell_refs.specs.declared.limits.TheConstants.{TEXTS}
use Rattle.column_strips.specs.Affected.{has_cell}
use Rattle.column_strips.specs.Rows.{IsSought, in_column}
use Rattle.column_strips.proofs.Spreading.{has_there}
use Rattle.column_strips.proofs.gather.gather.Goals.{else-add_beside, then-add_beside}
use Rattle.column_strips.proofs.gather.gather.Goals as goal

abbrev none : Cell
none = record { sheet = record { 0 = 0 }; row = 0; col = 0 }

pub loop-place-preserved : goal.loop-place-preserved
loop-place-preserved c =
    let cell : Cell = get_or c.args.cells.now c.loop-place.place none in
    let at : slice_get c.args.cells.now c.loop-place.place ≡ Some cell = slice_get-get_or c.args.cells.now c.loop-place.place none (omega (arith, c.loop-place-test.true, c.requires.end.0)) in
    let inv = c.loop-place.invariant in
    record {
      ahead = c.add_beside.ensures.ahead;
      space = record {
        for_rows = omega (arith, inv.space.for_rows, c.add_beside.ensures.capacity);
        for_flags = elim c.if-add_beside.branch as (λ _. TEXTS + 1 ≤ vec_capacity c.if-add_beside.done) [
          | then-add_beside w ↦ let q = ap (λ (d : Vec Bool Global). vec_capacity d) w.done-is in omega (arith, q, w.flag.ensures.capacity, inv.space.for_flags)
          | else-add_beside w ↦ let q = ap (λ (d : Vec Bool Global). vec_capacity d) w.done-is in omega (arith, q, inv.space.for_flags)
        ];
      };
      kept = λ r h. c.add_beside.ensures.kept r (inv.kept r h);
      sound = λ r h. elim (c.add_beside.ensures.others r h) as (λ _. IsSought c.args.rows.now.items r ⊎ (has_cell c.args.cells.now (in_column c.args.to r) ≡ true)) [
        | inl e ↦ inr (ap (has_cell c.args.cells.now) (sym e) ∙ has_there c.args.cells.now c.loop-place.place cell at)
        | inr old ↦ inv.sound r old
      ];
      few = λ n l h. elim c.if-add_beside.branch as (λ _. length c.if-add_beside.done.items ≤ n) [
        | then-add_beside w ↦
            let q = ap (λ (d : Vec Bool Global). length d.items) w.done-is in
            let m = w.flag.ensures.few n (inv.few n l h) (omega (arith, h, c.loop-place-test.true)) in
            omega (arith, q, m)
        | else-add_beside w ↦ let q = ap (λ (d : Vec Bool Global). length d.items) w.done-is in let m = inv.few n l h in omega (arith, q, m)
      ];
      flagged = λ p d f g.
          let G : Type 0 = (slice_get c.args.done.now.items p ≡ Some true) ⊎ ((d ≡ in_column c.args.to d.row) × IsSought c.add_beside.new.rows.items d.row) in
          let before : slice_get c.loop-place.done.items p ≡ Some true → G = λ o. elim (inv.flagged p d o g) as (λ _. G) [ inl z ↦ inl z | inr v ↦ inr (v.0, c.add_beside.ensures.kept d.row v.1) ] in
          elim c.if-add_beside.branch as (λ _. G) [
            | then-add_beside w ↦
                let q = ap (λ (e : Vec Bool Global). slice_get e.items p) w.done-is in
                elim (w.flag.ensures.flagged p (sym q ∙ f)) as (λ _. G) [
                  | inl e ↦
                      let same : d ≡ cell = same_Some d cell (sym g ∙ ap (slice_get c.args.cells.now) e ∙ at) in
                      inr (subst (λ (x : Cell). (x ≡ in_column c.args.to x.row) × IsSought c.add_beside.new.rows.items x.row) (sym same) (c.add_beside.ensures.added w.if-add_beside.true))
                  | inr o ↦ before o
                ]
            | else-add_beside w ↦ let q = ap (λ (e : Vec Bool Global). slice_get e.items p) w.done-is in before (sym q ∙ f)
          ];
    }
