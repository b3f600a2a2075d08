use Rattle.std.proofs.Common.{◌≡◌, ◌≢◌, ◌<◌, ◌∙◌, ℕ, suc, refl, sym, subst, length, arith, get_or, set}
use Rattle.std.proofs.lemmas.List.{get_or_default}
use Rattle.std.proofs.lemmas.Result.{err_from_is_err_and}
use Rattle.fractions.specs.Rational.{ℚ, zero_ℚ}
use Rattle.fractions.specs.Vectors.{at, without}
use Rattle.dictionaries.specs.Narrow.{IsNarrowAt}
use Rattle.tableau.specs.Entries.{pair_at}
use Rattle.tableau.proofs.Adding.{same_step, sum_added}
use Rattle.tableau.proofs.Below.{below_more}
use Rattle.tableau.proofs.Made.{put_other, put_size}
use Rattle.tableau.proofs.Walking.{IsMerged, merged_none, merged_copies, merged_put, merged_all, earlier_than_next, before_all, narrow_where_other}
use Rattle.tableau.proofs.numbers.write_entries.Goals as goal

pub loop-i-init : goal.loop-i-init
loop-i-init c = record {
  size = c.requires.room;
  rest = refl;
  merged = merged_none c.args.row.now c.args.by.now c.kept-own.result.now c.kept-other.result.now c.args.col c.args.into.now c.kept-own.ensures c.kept-other.ensures c.requires.other c.requires.entry c.requires.blank;
  narrow = λ q l. absurd (omega (arith, l));
}

pub entry_at-entry-requires-clause-before : goal.entry_at-entry-requires-clause-before
entry_at-entry-requires-clause-before c = λ p l.
    let own = c.kept-own.result.now in
    let other = c.kept-other.result.now in
    let i = c.loop-i.i in
    let h : i < length other = omega arith in
    let first : pair_at other i ≡ get_or other i c.index-other-i.result = get_or_default other i (0, zero_ℚ) c.index-other-i.result h in
    subst (λ (q : ℕ × ℚ). (pair_at own p).0 < q.0) first
    (earlier_than_next c.args.row.now c.args.by.now own other c.args.col c.loop-i.place i c.copy_before-place.result c.loop-i.into h
    (λ p l m. subst (λ (q : ℕ × ℚ). (pair_at own p).0 < q.0) (sym first) (c.copy_before-place.ensures.before p l m)) c.loop-i.invariant.merged p l)

pub returns-in_err-sum-clause-made : goal.returns-in_err-sum-clause-made
returns-in_err-sum-clause-made c =
    let row = c.args.row.now in
    let by = c.args.by.now in
    let other = c.kept-other.result.now in
    let i = c.loop-i.i in
    let h : i < length other = omega arith in
    let each = c.kept-other.ensures.each i h in
    let first : pair_at other i ≡ get_or other i c.index-other-i.result = get_or_default other i (0, zero_ℚ) c.index-other-i.result h in
    let second : pair_at other i ≡ get_or other i c.index-other-i-in-loop-i.result = get_or_default other i (0, zero_ℚ) c.index-other-i-in-loop-i.result h in
    let within : suc (pair_at other i).0 < length row = omega (arith, each.within, c.requires.other) in
    let entry : c.entry_at-entry.result.0 ≡ at (without row (suc c.args.col)) (suc (pair_at other i).0) =
    subst (λ (q : ℕ × ℚ). c.entry_at-entry.result.0 ≡ at (without row (suc c.args.col)) (suc q.0)) (sym first)
    (c.entry_at-entry.ensures.entry row c.kept-own.ensures (subst (λ (q : ℕ × ℚ). suc q.0 < length row) first within)) in
    let number : (get_or other i c.index-other-i-in-loop-i.result).1 ≡ at by (suc (pair_at other i).0) =
    subst (λ (q : ℕ × ℚ). q.1 ≡ at by (suc (pair_at other i).0)) second each.value in
    let p = err_from_is_err_and c.from_residual.result c.from_residual.ensures.1 in
    rw p.1 (λ n. c.in_err-sum.ensures (same_step _ _ _ _ _ _ entry c.requires.factor number (n (suc (pair_at other i).0) within)))

pub loop-i-preserved : goal.loop-i-preserved
loop-i-preserved c =
    let row = c.args.row.now in
    let by = c.args.by.now in
    let own = c.kept-own.result.now in
    let other = c.kept-other.result.now in
    let i = c.loop-i.i in
    let h : i < length other = omega arith in
    let each = c.kept-other.ensures.each i h in
    let first : pair_at other i ≡ get_or other i c.index-other-i.result = get_or_default other i (0, zero_ℚ) c.index-other-i.result h in
    let second : pair_at other i ≡ get_or other i c.index-other-i-in-loop-i.result = get_or_default other i (0, zero_ℚ) c.index-other-i-in-loop-i.result h in
    let k = suc (pair_at other i).0 in
    let mid = c.copy_before-place.new.into in
    let new = c.append.new.self in
    let sum = c.in_ok-sum.sum in
    let within : k < length row = omega (arith, each.within, c.requires.other) in
    let entry : c.entry_at-entry.result.0 ≡ at (without row (suc c.args.col)) k =
    subst (λ (q : ℕ × ℚ). c.entry_at-entry.result.0 ≡ at (without row (suc c.args.col)) (suc q.0)) (sym first)
    (c.entry_at-entry.ensures.entry row c.kept-own.ensures (subst (λ (q : ℕ × ℚ). suc q.0 < length row) first within)) in
    let number : (get_or other i c.index-other-i-in-loop-i.result).1 ≡ at by k = subst (λ (q : ℕ × ℚ). q.1 ≡ at by k) second each.value in
    let made : new ≡ set mid k sum = subst (λ (q : ℕ × ℚ). new ≡ set mid (suc q.0) sum) (sym first) c.append.ensures in
    let copies = merged_copies row by own other c.args.col c.loop-i.place c.copy_before-place.result i c.loop-i.into mid c.kept-own.ensures c.kept-other.ensures c.requires.other c.requires.entry
    c.copy_before-place.ensures.first c.copy_before-place.ensures.within
    (before_all own other c.loop-i.place c.copy_before-place.result i c.kept-other.ensures.rising (λ p l m. subst (λ (q : ℕ × ℚ). (pair_at own p).0 < q.0) (sym first) (c.copy_before-place.ensures.before p l m)))
    c.copy_before-place.ensures.copied c.copy_before-place.ensures.left c.loop-i.invariant.merged in
    let start : 0 ≢ k = omega arith in
    record {
      size = put_size mid new k sum made ∙ c.copy_before-place.ensures.size ∙ c.loop-i.invariant.size;
      rest = put_other mid new k 0 sum made start ∙ c.copy_before-place.ensures.rest ∙ c.loop-i.invariant.rest;
      merged = merged_put row by own other c.args.col c.copy_before-place.result c.entry_at-entry.result.1 i mid new sum c.kept-other.ensures h
          c.entry_at-entry.ensures.first c.entry_at-entry.ensures.within
          (λ p l m. subst (λ (q : ℕ × ℚ). (pair_at own p).0 ≡ q.0) (sym first) (c.entry_at-entry.ensures.same p l m))
          (λ p l m. subst (λ (q : ℕ × ℚ). q.0 < (pair_at own p).0) (sym first) (c.entry_at-entry.ensures.after p l m))
          (omega (arith, within, c.copy_before-place.ensures.size, c.loop-i.invariant.size)) made
          (sum_added row by (suc c.args.col) k _ _ _ sum entry c.requires.factor number c.in_ok-sum.ensures.0) copies;
      narrow = below_more (λ q. IsNarrowAt row (suc c.args.col) by (suc (pair_at other q).0)) i c.loop-i.invariant.narrow
          (same_step _ _ _ _ _ _ (sym entry) (sym c.requires.factor) (sym number) c.in_ok-sum.ensures.1);
    }

pub returns-clause-made : goal.returns-clause-made
returns-clause-made c = λ j l.
    let row = c.args.row.now in
    let by = c.args.by.now in
    let own = c.kept-own.result.now in
    let other = c.kept-other.result.now in
    let e : c.loop-i.i ≡ length other = omega arith in (
      merged_all row by own other c.args.col c.loop-i.place c.copy_before-end.result c.len.result c.loop-i.into c.copy_before-end.new.into c.kept-own.ensures c.kept-other.ensures c.requires.other c.requires.entry
          c.copy_before-end.ensures.first c.copy_before-end.ensures.within c.len.ensures c.copy_before-end.ensures.after c.copy_before-end.ensures.copied c.copy_before-end.ensures.left
          (subst (λ n. IsMerged row by own other c.args.col c.loop-i.place n c.loop-i.into) e c.loop-i.invariant.merged) j l,
      narrow_where_other row by other c.args.col c.loop-i.i c.kept-other.ensures c.requires.other e c.loop-i.invariant.narrow j l,
    )
