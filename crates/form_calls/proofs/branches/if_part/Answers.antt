use Rattle.std.proofs.Common.{◌≡◌, ◌∙◌, IfOk, sym, subst, drop, refl}
use Rattle.form_values.specs.declared.abs.Abs.TheVariants.{Affine, Test}
use Rattle.form_calls.proofs.Chosen.{first_part, open_tested}
use Rattle.form_calls.proofs.branches.if_part.Goals as goal

pub returns-in-Ok-Affine : goal.returns-in-Ok-Affine
returns-in-Ok-Affine c =
    let args = c.args.args.now in
    let test = c.test-item.result in
    let is = first_part args test c.in-len1-up.len_at_least c.test-item.is in
    subst (λ part. IfOk c.open_test.result (λ made. made ≡ part))
    (open_tested c.args.whole args test (drop 1 args) is c.in-Some.value.now (sym c.in-Some.ensures) (Affine c.in-Ok-Affine.open) (sym c.in-Ok-Affine.field-0-is ∙ c.in-Ok-Affine.ensures)
    c.in_ok-looks.looks.items (c.in_ok-looks.ensures.items ∙ c.looks.ensures) refl)
    (c.open_test.ensures test (drop 1 args) is)

pub returns-in-Ok-Test : goal.returns-in-Ok-Test
returns-in-Ok-Test c =
    let args = c.args.args.now in
    let test = c.test-item.result in
    let is = first_part args test c.in-len1-up.len_at_least c.test-item.is in
    subst (λ part. IfOk c.open_test-in-Ok-Test.result (λ made. made ≡ part))
    (open_tested c.args.whole args test (drop 1 args) is c.in-Some.value.now (sym c.in-Some.ensures) (Test c.in-Ok-Test.open c.in-Ok-Test.relation) (sym c.in-Ok-Test.field-0-is ∙ c.in-Ok-Test.ensures)
    c.in_ok-looks.looks.items (c.in_ok-looks.ensures.items ∙ c.looks.ensures) refl)
    (c.open_test-in-Ok-Test.ensures test (drop 1 args) is)
