use Rattle.std.proofs.Common.{◌≡◌, ◌∙◌, ℕ, List, true, ap, sym, arith}
use Rattle.cell_refs.specs.Sheets.{unquoted}
use Rattle.commands.proofs.Naming.{first_named, is_name, none_named}
use Rattle.commands.proofs.sheet.find_quoted.Goals as goal

pub returns-then-is_quoted-clause-place : goal.returns-then-is_quoted-clause-place
returns-then-is_quoted-clause-place c =
    let name = unquoted c.args.text.now in
    let own = c.at.result.now in
    let is : is_name own name ≡ true = ap (λ (l : List ℕ). is_name l name) (sym c.as_bytes.ensures.value) ∙ sym c.is_quoted.ensures ∙ c.if-is_quoted.true in
    first_named c.args.sheets.now name c.loop-place.place own c.at.ensures is c.loop-place.invariant

pub returns-clause-place : goal.returns-clause-place
returns-clause-place c = none_named c.args.sheets.now (unquoted c.args.text.now) (λ k lt other at. c.loop-place.invariant k (omega (arith, lt, c.loop-place-test.false)) other at)
