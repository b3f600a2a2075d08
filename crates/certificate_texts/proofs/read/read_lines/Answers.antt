use Rattle.std.proofs.Common.{◌≡◌, ◌≢◌, ◌∙◌, ◌-◌, ◌++◌, ◌∷◌, ap, arith, drop, length, length-append, rules, subst, take}
use Rattle.std.proofs.lemmas.List.{nil_from_length}
use Rattle.certificate_lines.specs.Machine.{at_end}
use Rattle.certificate_texts.specs.Drafts.{TextTaken, state_of}
use Rattle.certificate_texts.proofs.Progress.{all_read, is_open, lines_within, read_more, read_none, stuck_behind, stuck_line, stuck_unfed}
use Rattle.certificate_texts.proofs.Reading.{feed_is}
use Rattle.certificate_texts.proofs.read.read_lines.Goals as goal

pub loop-alloc-init : goal.loop-alloc-init
loop-alloc-init c = read_none c.args.text.now c.args.draft.now c.requires.blank

pub overflow_add-result : goal.overflow_add-result
overflow_add-result c = let n = lines_within c.args.text.now c.loop-alloc.draft c.loop-alloc.rest.now c.loop-alloc.count c.loop-alloc.invariant c.requires.size in omega (arith, n)

pub returns-in_default : goal.returns-in_default
returns-in_default c =
    let s : state_of c.loop-alloc.draft.state ≢ at_end = λ e. let q = c.loop-alloc-test.ensures.1 e in absurd (cc q) in
    stuck_unfed c.args.text.now c.loop-alloc.draft c.loop-alloc.rest.now c.cut.result.0.now c.cut.result.1.now c.loop-alloc.count c.loop-alloc.invariant s c.cut.ensures.joined c.cut.ensures.lacks
    (nil_from_length c.cut.result.1.now (omega (arith, c.in_default.len_below)))

pub add_line-requires : goal.add_line-requires
add_line-requires c = is_open c.args.text.now c.loop-alloc.draft c.loop-alloc.rest.now c.loop-alloc.count c.loop-alloc.invariant c.requires.size

pub overflow_add-result-in-Ok-false : goal.overflow_add-result-in-Ok-false
overflow_add-result-in-Ok-false c = let n = lines_within c.args.text.now c.loop-alloc.draft c.loop-alloc.rest.now c.loop-alloc.count c.loop-alloc.invariant c.requires.size in omega (arith, n)

pub returns-in-Ok-false : goal.returns-in-Ok-false
returns-in-Ok-false c =
    let s : state_of c.loop-alloc.draft.state ≢ at_end = λ e. let q = c.loop-alloc-test.ensures.1 e in absurd (cc q) in
    let j = c.cut.ensures.joined ∙ ap (λ x. c.cut.result.0.now ++ x) (feed_is 10 c.cut.result.1.now c.cut.ensures.starts c.in-len1-up.len_at_least) in
    stuck_line c.args.text.now c.loop-alloc.draft c.add_line.new.draft c.loop-alloc.rest.now c.cut.result.0.now (take (length c.cut.result.1.now - 1) (drop 1 c.cut.result.1.now)) c.loop-alloc.count c.loop-alloc.invariant s j
    c.cut.ensures.lacks (subst (λ b. TextTaken c.loop-alloc.draft c.cut.result.0.now b c.add_line.new.draft) c.in-Ok-false.field-0-test c.in-Ok-false.ensures)

pub overflow_add-count : goal.overflow_add-count
overflow_add-count c = let n = lines_within c.args.text.now c.loop-alloc.draft c.loop-alloc.rest.now c.loop-alloc.count c.loop-alloc.invariant c.requires.size in omega (arith, n)

pub loop-alloc-smaller : goal.loop-alloc-smaller
loop-alloc-smaller c =
    let behind = take (length c.cut.result.1.now - 1) (drop 1 c.cut.result.1.now) in
    let j : c.loop-alloc.rest.now ≡ c.cut.result.0.now ++ (10 ∷ behind) = c.cut.ensures.joined ∙ ap (λ x. c.cut.result.0.now ++ x) (feed_is 10 c.cut.result.1.now c.cut.ensures.starts c.in-len1-up.len_at_least) in
    let n = ap length j ∙ length-append c.cut.result.0.now (10 ∷ behind) in
    omega (arith, n)

pub loop-alloc-preserved : goal.loop-alloc-preserved
loop-alloc-preserved c =
    let j = c.cut.ensures.joined ∙ ap (λ x. c.cut.result.0.now ++ x) (feed_is 10 c.cut.result.1.now c.cut.ensures.starts c.in-len1-up.len_at_least) in
    read_more c.args.text.now c.loop-alloc.draft c.add_line.new.draft c.loop-alloc.rest.now c.cut.result.0.now (take (length c.cut.result.1.now - 1) (drop 1 c.cut.result.1.now)) c.loop-alloc.count c.loop-alloc.invariant j
    (subst (λ b. TextTaken c.loop-alloc.draft c.cut.result.0.now b c.add_line.new.draft) c.in-Ok-true.field-0-test c.in-Ok-true.ensures)

pub returns-then-is_empty : goal.returns-then-is_empty
returns-then-is_empty c =
    all_read c.args.text.now c.loop-alloc.draft c.loop-alloc.rest.now c.loop-alloc.count c.loop-alloc.invariant (search rules) (nil_from_length c.loop-alloc.rest.now (search rules))

pub overflow_add-result-else-is_empty : goal.overflow_add-result-else-is_empty
overflow_add-result-else-is_empty c = let n = lines_within c.args.text.now c.loop-alloc.draft c.loop-alloc.rest.now c.loop-alloc.count c.loop-alloc.invariant c.requires.size in omega (arith, n)

pub returns : goal.returns
returns c =
    stuck_behind c.args.text.now c.loop-alloc.draft c.loop-alloc.rest.now c.loop-alloc.count c.loop-alloc.invariant (search rules) (search rules)
