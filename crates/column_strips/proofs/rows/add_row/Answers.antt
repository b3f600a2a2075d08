use Rattle.std.proofs.Common.{ℕ, List, length, slice_get, ap, ◌∙◌, arith}
use Rattle.column_strips.proofs.Ahead.{added_row, kept_row, other_row, put_behind, put_lowered, still_ahead}
use Rattle.column_strips.proofs.rows.add_row.Goals as goal

-- ---- behind the list
pub returns-then-row-len-clause-ahead : goal.returns-then-row-len-clause-ahead
returns-then-row-len-clause-ahead c =
    let l = put_behind c.args.rows.now.items c.add_behind.new.rows.items c.args.row c.requires.ahead (omega (arith, c.if-row-len.true, c.len.ensures, c.args.rows.now.ok.0))
    c.add_behind.ensures.length c.add_behind.ensures.before c.add_behind.ensures.filled in
    still_ahead c.args.rows.now.items c.add_behind.new.rows.items (length c.args.rows.now.items) c.args.row c.requires.ahead l

pub returns-then-row-len-clause-kept : goal.returns-then-row-len-clause-kept
returns-then-row-len-clause-kept c =
    let l = put_behind c.args.rows.now.items c.add_behind.new.rows.items c.args.row c.requires.ahead (omega (arith, c.if-row-len.true, c.len.ensures, c.args.rows.now.ok.0))
    c.add_behind.ensures.length c.add_behind.ensures.before c.add_behind.ensures.filled in
    kept_row c.args.rows.now.items c.add_behind.new.rows.items (length c.args.rows.now.items) c.args.row c.requires.ahead l

pub returns-then-row-len-clause-others : goal.returns-then-row-len-clause-others
returns-then-row-len-clause-others c =
    let l = put_behind c.args.rows.now.items c.add_behind.new.rows.items c.args.row c.requires.ahead (omega (arith, c.if-row-len.true, c.len.ensures, c.args.rows.now.ok.0))
    c.add_behind.ensures.length c.add_behind.ensures.before c.add_behind.ensures.filled in
    other_row c.args.rows.now.items c.add_behind.new.rows.items (length c.args.rows.now.items) c.args.row c.requires.ahead l

-- ---- within it
pub returns-clause-ahead : goal.returns-clause-ahead
returns-clause-ahead c =
    let l = put_lowered c.args.rows.now.items c.fill.new.rows.items c.first_past-first.result c.args.row c.requires.ahead
    (omega (arith, c.if-row-len.false, c.len.ensures, c.args.rows.now.ok.0)) c.first_past-first.ensures.within
    (λ k v m u at. c.first_past-first.ensures.past k v m u (ap (λ (xs : List ℕ). slice_get xs k) c.deref.ensures.value ∙ at))
    (λ k v e at. c.first_past-first.ensures.short k v e (ap (λ (xs : List ℕ). slice_get xs k) c.deref.ensures.value ∙ at))
    c.fill.ensures.before c.fill.ensures.filled c.fill.ensures.behind in
    still_ahead c.args.rows.now.items c.fill.new.rows.items c.first_past-first.result c.args.row c.requires.ahead l

pub returns-clause-added : goal.returns-clause-added
returns-clause-added c =
    let l = put_lowered c.args.rows.now.items c.fill.new.rows.items c.first_past-first.result c.args.row c.requires.ahead
    (omega (arith, c.if-row-len.false, c.len.ensures, c.args.rows.now.ok.0)) c.first_past-first.ensures.within
    (λ k v m u at. c.first_past-first.ensures.past k v m u (ap (λ (xs : List ℕ). slice_get xs k) c.deref.ensures.value ∙ at))
    (λ k v e at. c.first_past-first.ensures.short k v e (ap (λ (xs : List ℕ). slice_get xs k) c.deref.ensures.value ∙ at))
    c.fill.ensures.before c.fill.ensures.filled c.fill.ensures.behind in
    added_row c.args.rows.now.items c.fill.new.rows.items c.first_past-first.result c.args.row c.requires.ahead l
