use Rattle.std.proofs.Common.{◌≡◌, ◌+◌, ◌-◌, ◌≤◌, ◌∙◌, ◌∷◌, ap, arith, drop, get_or, length, map, subst, sym, take}
use Rattle.std.specs.Prelude.{◌&&◌, nat_le, not, string_bytes, zip}
use Rattle.std.specs.FinMap.{contains_key}
use Rattle.cell_refs.specs.declared.cell.Cell.{Cell}
use Rattle.cell_refs.specs.declared.limits.TheConstants.{FORMULAS, TEXTS}
use Rattle.workbook.specs.State.{formula_count, is_formula_text, text_count}
use Rattle.workbook.proofs.Counting.{one}
use Rattle.workbook.proofs.Keeping.{has_text}
use Rattle.workbook.proofs.Room.{counted_first, counted_none, counted_on, refused_formula, refused_text, was_counted}
use Rattle.workbook.proofs.Severally.{first_others}
use Rattle.workbook.proofs.workbook.Workbook.formulas_with.Goals as goal

abbrev here : Cell
here = record { sheet = record { 0 = 0 }; row = 0; col = 0 }

pub loop-cells-init : goal.loop-cells-init
loop-cells-init c =
    counted_none c.args.self.now.contents (zip c.args.cells.now (map string_bytes c.args.texts.now)) c.args.cells.now c.len-count.result c.self.inside.formulas
    (c.len-count.ensures.len ∙ c.self.invariant.kept.counted ∙ ap (λ s. text_count s.contents) c.self.view_is)
    (subst (λ n. n ≤ TEXTS) (sym c.len-count.ensures.len) c.self.invariant.kept.few)
    (c.self.invariant.kept.numbered ∙ ap (λ s. formula_count s.contents) c.self.view_is)
    c.self.invariant.kept.few_formulas c.requires

pub returns-then-is_one_more : goal.returns-then-is_one_more
returns-then-is_one_more c =
    let before = c.args.self.now.contents in
    let all = zip c.args.cells.now (map string_bytes c.args.texts.now) in
    let at = c.loop-cells.cells.now in
    let texts = c.loop-cells.texts.now in
    let cells = take (length at - 1) (drop 1 at) in
    let others = take (length texts - 1) (drop 1 texts) in
    let k = get_or at 0 here in
    let x = c.text-item.result in
    let counted = counted_first string_bytes before all at cells texts others k x c.loop-cells.count c.loop-cells.formulas (first_others at here c.in-len1-up.len_at_least)
    (first_others texts x c.in-len1-up-texts.len_at_least ∙ ap (λ y. y ∷ others) (sym c.text-item.is)) c.loop-cells.invariant in
    refused_text before all (zip cells (map string_bytes others)) k (string_bytes x) cells c.loop-cells.count c.loop-cells.formulas counted (not c.contains_key-is_new.result) c.has_formula-was_one.result
    (ap not (c.contains_key-is_new.ensures ∙ sym (has_text c.self.inside.cells.entries k) ∙ ap (λ s. contains_key s.contents k) c.self.view_is))
    c.has_formula-was_one.ensures (sym c.is_one_more.ensures ∙ c.if-is_one_more.true)

pub returns-then-is_one_more-2 : goal.returns-then-is_one_more-2
returns-then-is_one_more-2 c =
    let before = c.args.self.now.contents in
    let all = zip c.args.cells.now (map string_bytes c.args.texts.now) in
    let at = c.loop-cells.cells.now in
    let texts = c.loop-cells.texts.now in
    let cells = take (length at - 1) (drop 1 at) in
    let others = take (length texts - 1) (drop 1 texts) in
    let k = get_or at 0 here in
    let x = c.text-item.result in
    let was = c.has_formula-was_one.result in
    let counted = counted_first string_bytes before all at cells texts others k x c.loop-cells.count c.loop-cells.formulas (first_others at here c.in-len1-up.len_at_least)
    (first_others texts x c.in-len1-up-texts.len_at_least ∙ ap (λ y. y ∷ others) (sym c.text-item.is)) c.loop-cells.invariant in
    refused_formula before all (zip cells (map string_bytes others)) k (string_bytes x) cells c.loop-cells.count c.loop-cells.formulas counted (not c.contains_key-is_new.result) was
    (ap not (c.contains_key-is_new.ensures ∙ sym (has_text c.self.inside.cells.entries k) ∙ ap (λ s. contains_key s.contents k) c.self.view_is))
    c.has_formula-was_one.ensures
    (sym (c.is_one_more-in-len1-up.ensures ∙ ap (λ b. nat_le FORMULAS c.loop-cells.formulas && b) (c.is_one_now.ensures ∙ ap (λ l. is_formula_text l && not was) c.as_str.ensures.value))
    ∙ c.if-is_one_more-2.true)

pub overflow_sub-formulas : goal.overflow_sub-formulas
overflow_sub-formulas c =
    let before = c.args.self.now.contents in
    let all = zip c.args.cells.now (map string_bytes c.args.texts.now) in
    let at = c.loop-cells.cells.now in
    let texts = c.loop-cells.texts.now in
    let cells = take (length at - 1) (drop 1 at) in
    let others = take (length texts - 1) (drop 1 texts) in
    let k = get_or at 0 here in
    let x = c.text-item.result in
    let was = c.has_formula-was_one.result in
    let counted = counted_first string_bytes before all at cells texts others k x c.loop-cells.count c.loop-cells.formulas (first_others at here c.in-len1-up.len_at_least)
    (first_others texts x c.in-len1-up-texts.len_at_least ∙ ap (λ y. y ∷ others) (sym c.text-item.is)) c.loop-cells.invariant in
    let fits : one was ≤ c.loop-cells.formulas =
    was_counted before all (zip cells (map string_bytes others)) k (string_bytes x) cells c.loop-cells.count c.loop-cells.formulas counted (not c.contains_key-is_new.result) was
    (ap not (c.contains_key-is_new.ensures ∙ sym (has_text c.self.inside.cells.entries k) ∙ ap (λ s. contains_key s.contents k) c.self.view_is))
    c.has_formula-was_one.ensures in
    let e : c.one-in-len1-up.result ≡ one was = c.one-in-len1-up.ensures in
    omega arith

pub loop-cells-preserved : goal.loop-cells-preserved
loop-cells-preserved c =
    let before = c.args.self.now.contents in
    let all = zip c.args.cells.now (map string_bytes c.args.texts.now) in
    let at = c.loop-cells.cells.now in
    let texts = c.loop-cells.texts.now in
    let cells = take (length at - 1) (drop 1 at) in
    let others = take (length texts - 1) (drop 1 texts) in
    let k = get_or at 0 here in
    let x = c.text-item.result in
    let was = c.has_formula-was_one.result in
    let counted = counted_first string_bytes before all at cells texts others k x c.loop-cells.count c.loop-cells.formulas (first_others at here c.in-len1-up.len_at_least)
    (first_others texts x c.in-len1-up-texts.len_at_least ∙ ap (λ y. y ∷ others) (sym c.text-item.is)) c.loop-cells.invariant in
    let new = ap not (c.contains_key-is_new.ensures ∙ sym (has_text c.self.inside.cells.entries k) ∙ ap (λ s. contains_key s.contents k) c.self.view_is) in
    let fits : one was ≤ c.loop-cells.formulas =
    was_counted before all (zip cells (map string_bytes others)) k (string_bytes x) cells c.loop-cells.count c.loop-cells.formulas counted (not c.contains_key-is_new.result) was new
    c.has_formula-was_one.ensures in
    let e : c.one-in-len1-up.result ≡ one was = c.one-in-len1-up.ensures in
    let g : c.one.result ≡ one (is_formula_text (string_bytes x)) = c.one.ensures ∙ ap one (c.is_formula.ensures ∙ ap is_formula_text c.as_str-in-len1-up.ensures.value) in
    counted_on before all (zip cells (map string_bytes others)) k (string_bytes x) cells c.loop-cells.count c.loop-cells.formulas counted (not c.contains_key-is_new.result) was new
    c.has_formula-was_one.ensures (c.loop-cells.count + c.one-count.result) (c.loop-cells.formulas + c.one.result - c.one-in-len1-up.result)
    (sym c.is_one_more.ensures ∙ c.if-is_one_more.false)
    (sym (c.is_one_more-in-len1-up.ensures ∙ ap (λ b. nat_le FORMULAS c.loop-cells.formulas && b) (c.is_one_now.ensures ∙ ap (λ l. is_formula_text l && not was) c.as_str.ensures.value))
    ∙ c.if-is_one_more-2.false)
    (ap (λ n. c.loop-cells.count + n) c.one-count.ensures)
    (omega arith)
