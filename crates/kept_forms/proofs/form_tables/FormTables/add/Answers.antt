use Rattle.std.specs.Prelude.{slice_get}
use Rattle.std.proofs.Common.{◌≡◌, ◌<◌, ◌+◌, ◌-◌, [], ◌∷◌, length, length-append, sym, ap, ◌∙◌, subst, arith}
use Rattle.kept_tables.specs.Tables.{first_idle}
use Rattle.kept_forms.specs.Tables.{AreTables, is_searching, parts_of, sheets_in}
use Rattle.kept_forms.proofs.Added.{added_for_one, added_last}
use Rattle.kept_forms.proofs.Placed.{inside}
use Rattle.kept_forms.proofs.Renewed.{begun_tables}
use Rattle.kept_forms.proofs.form_tables.FormTables.add.Goals as goal

-- ---- where there is room
pub returns-then-count-lt-MOST_TABLES-clause-begun : goal.returns-then-count-lt-MOST_TABLES-clause-begun
returns-then-count-lt-MOST_TABLES-clause-begun c =
    added_last (is_searching c.args.searching.now) c.self.inside.tables.items c.args.self.now c.args.table c.len-count.result c.self.view_is (omega (arith, c.self.inside.tables.ok.0, c.len-count.ensures))
    c.requires.new c.requires.kept c.requires.none c.if-count-lt-MOST_TABLES.true c.push.new.self.items c.in_ok-push.ensures.items

pub invariant_of-self-then-count-lt-MOST_TABLES : goal.invariant_of-self-then-count-lt-MOST_TABLES
invariant_of-self-then-count-lt-MOST_TABLES c =
    begun_tables (is_searching c.args.searching.now) c.args.table.sheet (parts_of c.args.table.kept) c.args.self.now c.push.new.self.items c.len-count.result
    (added_last (is_searching c.args.searching.now) c.self.inside.tables.items c.args.self.now c.args.table c.len-count.result c.self.view_is (omega (arith, c.self.inside.tables.ok.0, c.len-count.ensures))
    c.requires.new c.requires.kept c.requires.none c.if-count-lt-MOST_TABLES.true c.push.new.self.items c.in_ok-push.ensures.items)
    (subst AreTables c.self.view_is c.self.invariant)

-- ---- in the place of another
pub remove-requires : goal.remove-requires
remove-requires c =
    let f = c.in-Some.ensures.found in
    let i : c.in-Some.place < length c.deref.result.now = inside c.deref.result.now c.in-Some.place f.0 f.1 in
    let d : length c.deref.result.now ≡ length c.self.inside.tables.items = ap length c.deref.ensures.value in
    let l : length c.push.new.self.items ≡ length c.self.inside.tables.items + 1 = ap length c.in_ok-push.ensures.items ∙ length-append c.self.inside.tables.items (c.args.table ∷ []) in
    omega (arith, i, d, l, c.push.new.self.ok.0)

pub returns-clause-begun : goal.returns-clause-begun
returns-clause-begun c =
    let f = c.in-Some.ensures.found in
    added_for_one (is_searching c.args.searching.now) c.self.inside.tables.items c.args.self.now c.args.table c.len-count.result c.self.view_is (omega (arith, c.self.inside.tables.ok.0, c.len-count.ensures))
    c.requires.new c.requires.kept c.requires.none (omega (arith, c.if-count-lt-MOST_TABLES.false)) c.self.invariant.one_each c.in-Some.place f.0 (ap (λ ts. slice_get ts c.in-Some.place) (sym c.deref.ensures.value) ∙ f.1)
    (ap (λ ts. first_idle (is_searching c.args.searching.now) (sheets_in ts)) (sym c.deref.ensures.value) ∙ f.2) c.push.new.self.items c.remove.new.self.items c.in_ok-push.ensures.items c.remove.ensures.items

pub invariant_of-self-in-Some : goal.invariant_of-self-in-Some
invariant_of-self-in-Some c =
    let f = c.in-Some.ensures.found in
    begun_tables (is_searching c.args.searching.now) c.args.table.sheet (parts_of c.args.table.kept) c.args.self.now c.remove.new.self.items (c.len-count.result - 1)
    (added_for_one (is_searching c.args.searching.now) c.self.inside.tables.items c.args.self.now c.args.table c.len-count.result c.self.view_is (omega (arith, c.self.inside.tables.ok.0, c.len-count.ensures))
    c.requires.new c.requires.kept c.requires.none (omega (arith, c.if-count-lt-MOST_TABLES.false)) c.self.invariant.one_each c.in-Some.place f.0 (ap (λ ts. slice_get ts c.in-Some.place) (sym c.deref.ensures.value) ∙ f.1)
    (ap (λ ts. first_idle (is_searching c.args.searching.now) (sheets_in ts)) (sym c.deref.ensures.value) ∙ f.2) c.push.new.self.items c.remove.new.self.items c.in_ok-push.ensures.items c.remove.ensures.items)
    (subst AreTables c.self.view_is c.self.invariant)
