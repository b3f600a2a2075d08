use Rattle.std.proofs.Common.{◌≡◌, ◌≢◌, ◌<◌, ◌∙◌, ℕ, suc, sym, ap, subst, List, [], length, map, set, arith}
use Rattle.std.proofs.lemmas.List.{length-map, length-set}
use Rattle.fractions.specs.Rational.{ℚ, zero_ℚ}
use Rattle.fractions.specs.Vectors.{at}
use Rattle.dictionaries.specs.Dictionary.{solved_row, substituted}
use Rattle.dictionaries.specs.Narrow.{AreNarrow, IsNarrowSubstituted}
use Rattle.tableau.specs.Changed.{IsChanged}
use Rattle.tableau.specs.Table.{Numbers, IsTable}
use Rattle.tableau.proofs.Changing.{narrow_back_again, same_again, read_again}
use Rattle.tableau.proofs.WrittenBack.{written_back}
use Rattle.tableau.proofs.table.Table.change.Goals as goal

-- the same by the leaving row as it was read again
narrow_again : (row x leaves by now : List ℚ) (k : ℕ) → x ≡ leaves → at leaves k ≢ zero_ℚ → by ≡ solved_row leaves k → length row ≡ length by → k < length by
    → IsChanged row k by now → IsNarrowSubstituted now k x
narrow_again row x leaves by now k e n s w p c =
    let within : k < length row = omega (arith, p, w) in
    subst (IsNarrowSubstituted now k) (sym e) (narrow_back_again row leaves by now k n s (sym w) within c)

row_again : (row x leaves by now new : List ℚ) (k : ℕ) → x ≡ leaves → at leaves k ≢ zero_ℚ → by ≡ solved_row leaves k → length row ≡ length by → length leaves ≡ length by
    → IsChanged row k by now → new ≡ substituted now k x → new ≡ row
row_again row x leaves by now new k e n s w l c f = same_again row leaves by now new k n s (sym w) (l ∙ sym w) c (f ∙ ap (substituted now k) e)

pub restore_both-requires-clause-narrow : goal.restore_both-requires-clause-narrow
restore_both-requires-clause-narrow c =
    let old = c.self.inside.rows in
    let shaped = subst (λ (t : Numbers). IsTable t (length t.rows) (length c.args.by.now)) (sym c.self.view_is) c.requires.shaped in
    let rows = c.in-Err-change_rows.ensures.made.0 ∙ c.deref_mut.ensures.value in
    let back = written_back old.items c.change_rows.new.rows old.len (ap length rows) (omega (arith, old.ok.0)) in
    let x = read_again _ c.args.self.now.rows c.args.leaving c.index-in-Err-change_rows.result.now (sym back ∙ rows ∙ ap (λ (t : Numbers). t.rows) c.self.view_is)
    c.requires.leaving c.index-in-Err-change_rows.ensures in
    narrow_again c.self.inside.objective c.index-in-Err-change_rows.result.now _ c.args.by.now c.change_both.new.objective (suc c.args.col) x c.requires.pivot c.requires.solved
    shaped.objective c.requires.place c.in-Ok.ensures.made.0

pub restore_both-requires-clause-narrow_auxiliary : goal.restore_both-requires-clause-narrow_auxiliary
restore_both-requires-clause-narrow_auxiliary c =
    let old = c.self.inside.rows in
    let shaped = subst (λ (t : Numbers). IsTable t (length t.rows) (length c.args.by.now)) (sym c.self.view_is) c.requires.shaped in
    let rows = c.in-Err-change_rows.ensures.made.0 ∙ c.deref_mut.ensures.value in
    let back = written_back old.items c.change_rows.new.rows old.len (ap length rows) (omega (arith, old.ok.0)) in
    let x = read_again _ c.args.self.now.rows c.args.leaving c.index-in-Err-change_rows.result.now (sym back ∙ rows ∙ ap (λ (t : Numbers). t.rows) c.self.view_is)
    c.requires.leaving c.index-in-Err-change_rows.ensures in
    narrow_again c.self.inside.auxiliary c.index-in-Err-change_rows.result.now _ c.args.by.now c.change_both.new.auxiliary (suc c.args.col) x c.requires.pivot c.requires.solved
    shaped.auxiliary c.requires.place c.in-Ok.ensures.made.1

pub returns-in-Ok-change_rows-clause-made : goal.returns-in-Ok-change_rows-clause-made
returns-in-Ok-change_rows-clause-made c =
    let old = c.self.inside.rows in
    let k = suc c.args.col in
    let by = c.args.by.now in
    let made = c.in-Ok-change_rows.ensures.made in
    let rows : c.change_rows.new.rows ≡ set (map (λ r. substituted r k by) old.items) c.args.leaving by =
    made.0 ∙ ap (λ xs. set (map (λ r. substituted r k by) xs) c.args.leaving by) c.deref_mut.ensures.value in
    let back = written_back old.items c.change_rows.new.rows old.len (ap length rows ∙ length-set (map (λ r. substituted r k by) old.items) c.args.leaving _ ∙ length-map old.items _) (omega (arith, old.ok.0)) in
    rw (← c.self.view_is, ← back) (
      λ i. record { rows = rows i; objective = c.in-Ok.ensures.made.0.value i; auxiliary = c.in-Ok.ensures.made.1.value i },
      record {
        rows = subst (λ xs. AreNarrow xs c.args.leaving k by) c.deref_mut.ensures.value made.1;
        objective = c.in-Ok.ensures.made.0.narrow;
        auxiliary = c.in-Ok.ensures.made.1.narrow;
      },
    )

pub returns-in-Err-change_rows-clause-made : goal.returns-in-Err-change_rows-clause-made
returns-in-Err-change_rows-clause-made c =
    let old = c.self.inside.rows in
    let k = suc c.args.col in
    let by = c.args.by.now in
    let shaped = subst (λ (t : Numbers). IsTable t (length t.rows) (length by)) (sym c.self.view_is) c.requires.shaped in
    let made = c.in-Err-change_rows.ensures.made in
    let rows = made.0 ∙ c.deref_mut.ensures.value in
    let back = written_back old.items c.change_rows.new.rows old.len (ap length rows) (omega (arith, old.ok.0)) in
    let x = read_again _ c.args.self.now.rows c.args.leaving c.index-in-Err-change_rows.result.now (sym back ∙ rows ∙ ap (λ (t : Numbers). t.rows) c.self.view_is)
    c.requires.leaving c.index-in-Err-change_rows.ensures in
    let width = c.requires.shaped.widths c.args.leaving [] c.requires.leaving in
    let objective = row_again c.self.inside.objective c.index-in-Err-change_rows.result.now _ by c.change_both.new.objective c.restore_both.new.objective k x c.requires.pivot
    c.requires.solved shaped.objective width c.in-Ok.ensures.made.0 c.restore_both.ensures.objective in
    let auxiliary = row_again c.self.inside.auxiliary c.index-in-Err-change_rows.result.now _ by c.change_both.new.auxiliary c.restore_both.new.auxiliary k x c.requires.pivot
    c.requires.solved shaped.auxiliary width c.in-Ok.ensures.made.1 c.restore_both.ensures.auxiliary in
    let refused = λ (n : AreNarrow old.items c.args.leaving k by). made.1 (subst (λ xs. AreNarrow xs c.args.leaving k by) (sym c.deref_mut.ensures.value) n) in
    rw (← c.self.view_is, ← back) (λ i. record { rows = rows i; objective = objective i; auxiliary = auxiliary i }, λ n. refused n.rows)

pub returns-in-Err-change_rows-clause-room : goal.returns-in-Err-change_rows-clause-room
returns-in-Err-change_rows-clause-room c =
    let old = c.self.inside.rows in
    let rows = c.in-Err-change_rows.ensures.made.0 ∙ c.deref_mut.ensures.value in
    let back = written_back old.items c.change_rows.new.rows old.len (ap length rows) (omega (arith, old.ok.0)) in
    let x = read_again _ c.args.self.now.rows c.args.leaving c.index-in-Err-change_rows.result.now (sym back ∙ rows ∙ ap (λ (t : Numbers). t.rows) c.self.view_is)
    c.requires.leaving c.index-in-Err-change_rows.ensures in
    c.restore_both.ensures.room ∙ ap length x ∙ c.requires.shaped.widths c.args.leaving [] c.requires.leaving
