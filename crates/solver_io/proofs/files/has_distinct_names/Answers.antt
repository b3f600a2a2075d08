use Rattle.std.proofs.Common.{◌≡◌, ◌∙◌, ◌<◌, ◌+◌, ◌-◌, ap, sym, drop, length, string_bytes, arith, rules}
use Rattle.std.proofs.lemmas.List.{take_rest}
use Rattle.solver_io.specs.Held.{File, IsPlaceOf}
use Rattle.solver_io.proofs.Names.{distinct_none, distinct_more, distinct_not, found_of, none_of}
use Rattle.solver_io.proofs.files.has_distinct_names.Goals as goal

pub loop-i-init : goal.loop-i-init
loop-i-init c = distinct_none c.args.files.now

pub returns-then-is_some : goal.returns-then-is_some
returns-then-is_some c =
    let name : c.deref.result.now ≡ string_bytes c.index-files-i.result.0 = c.deref.ensures ∙ ap (λ (f : File). string_bytes f.0) (sym c.index-files-i.is) in
    let later = rw (take_rest c.args.files.now (c.loop-i.i - 1 + 1), name) at c.place_of.ensures.found in
    let (j, place) = found_of c.place_of.result (IsPlaceOf (drop (c.loop-i.i - 1 + 1) c.args.files.now) (string_bytes c.index-files-i.result.0)) (sym c.if-is_some.ensures) later in
    (λ f. cc f, λ all. absurd (distinct_not c.args.files.now (c.loop-i.i - 1) j c.index-files-i.result (search rules) c.index-files-i.is place all))

pub loop-i-preserved : goal.loop-i-preserved
loop-i-preserved c =
    let name : c.deref.result.now ≡ string_bytes c.index-files-i.result.0 = c.deref.ensures ∙ ap (λ (f : File). string_bytes f.0) (sym c.index-files-i.is) in
    let later = rw (take_rest c.args.files.now (c.loop-i.i - 1 + 1), name) at c.place_of.ensures.none in
    let none = none_of c.place_of.result _ (sym c.if-is_some.ensures) later in
    let lt : c.loop-i.i - 1 < length c.args.files.now = search rules in
    let same : c.loop-i.i - 1 + 1 ≡ c.loop-i.i = omega arith in
    distinct_more c.args.files.now (c.loop-i.i - 1) c.index-files-i.result lt c.index-files-i.is none (rw same c.loop-i.invariant)
