use Rattle.std.proofs.Common.{◌≡◌, ◌≤◌, ◌∙◌, ap, arith, length, List, [], subst, sym}
use Rattle.std.specs.Prelude.{All}
use Rattle.std.proofs.lemmas.List.Elements.{All-nil}
use Rattle.cell_refs.specs.declared.limits.TheConstants.{FORMULAS, TEXTS}
use Rattle.workbook.specs.Opening.{formulas_in}
use Rattle.workbook.specs.Parts.{AreFew}
use Rattle.workbook.specs.Scoped.{IsShort}
use Rattle.workbook.proofs.OpenLaws.{short_names}
use Rattle.workbook.proofs.PartsLaws.{empty_room, made}
use Rattle.workbook.proofs.workbook.Workbook.from_parts.Goals as goal

pub empty-requires : goal.empty-requires
empty-requires c =
    subst (λ l. All IsShort l) (sym c.in_ok-found.ensures.1) (short_names c.args.sheets.now [] c.args.names.now (All-nil IsShort) c.requires.short)

pub with_texts-requires : goal.with_texts-requires
with_texts-requires c =
    let texts : length c.args.cells.items ≤ TEXTS = omega (arith, c.if-len-gt-TEXTS.false, c.len.ensures) in
    let counted : c.count_formulas.result ≡ length (formulas_in c.args.cells.items) = c.count_formulas.ensures ∙ ap (λ l. length (formulas_in l)) c.deref.ensures.value in
    let formulas : length (formulas_in c.args.cells.items) ≤ FORMULAS = omega (arith, c.if-count_formulas-gt-FORMULAS.false, counted) in
    empty_room c.args.sheets.now c.args.cells.items c.in_ok-found.found c.in-Ok.sheets c.empty.result c.empty.ensures c.in-Ok.ensures
    (record { cells = texts; formulas = formulas }) c.requires.fields

pub returns : goal.returns
returns c =
    let texts : length c.args.cells.items ≤ TEXTS = omega (arith, c.if-len-gt-TEXTS.false, c.len.ensures) in
    let counted : c.count_formulas.result ≡ length (formulas_in c.args.cells.items) = c.count_formulas.ensures ∙ ap (λ l. length (formulas_in l)) c.deref.ensures.value in
    let formulas : length (formulas_in c.args.cells.items) ≤ FORMULAS = omega (arith, c.if-count_formulas-gt-FORMULAS.false, counted) in (
      record { cells = texts; formulas = formulas },
      c.in_ok-found.ensures.0,
      omega (arith, c.if-len-gt-NAMES.false, c.len-2.ensures),
      made c.args.sheets.now c.args.cells.items c.args.names.now c.in_ok-found.found c.in-Ok.sheets c.empty.result c.in-Ok-with_texts.workbook
          c.empty.ensures c.in-Ok.ensures c.in_ok-found.ensures.1 c.in-Ok-with_texts.ensures,
    )
