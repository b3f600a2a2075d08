use Rattle.std.proofs.Common.{◌≡◌, ◌∙◌, ◌+◌, ◌∷◌, ap, sym, drop, arith}
use Rattle.std.proofs.lemmas.List.{drop_more}
use Rattle.form_values.specs.declared.abs.Abs.TheVariants.{Known}
use Rattle.form_table.specs.Lookups.{is_never_found}
use Rattle.form_areas.proofs.NeverFound.{passed, told}
use Rattle.form_areas.proofs.searches.is_never_found.Goals as goal

pub returns-in-Some : goal.returns-in-Some
returns-in-Some c =
    let items = c.args.items.now in
    let i = c.loop-item.item-index in
    let rest : drop i items ≡ Known c.in-Known.value ∷ drop (i + 1) items = drop_more items i c.item-item.result (omega arith) ∙ ap (λ a. a ∷ drop (i + 1) items) (sym c.item-item.is ∙ c.in-Known.is) in
    sym
    (c.loop-item.invariant ∙ ap (is_never_found c.args.kind c.args.key.now) rest
    ∙ told c.args.key.now c.in-Known.value (drop (i + 1) items) c.args.kind c.in-Some.never (sym c.never_by.ensures ∙ c.in-Some.is))

pub loop-item-preserved : goal.loop-item-preserved
loop-item-preserved c =
    let items = c.args.items.now in
    let i = c.loop-item.item-index in
    let rest : drop i items ≡ Known c.in-Known.value ∷ drop (i + 1) items = drop_more items i c.item-item.result (omega arith) ∙ ap (λ a. a ∷ drop (i + 1) items) (sym c.item-item.is ∙ c.in-Known.is) in
    c.loop-item.invariant ∙ ap (is_never_found c.args.kind c.args.key.now) rest
    ∙ passed c.args.key.now c.in-Known.value (drop (i + 1) items) c.args.kind (sym c.never_by.ensures ∙ c.in_default-never_by.is)
