use Rattle.std.proofs.Common.{◌≡◌, ◌∙◌, ℕ, List, Option, ap, subst, sym}
use Rattle.std.specs.Prelude.{IfOk, Result, option_map}
use denote.Ref.{Bor}
use Rattle.cell_refs.specs.declared.cell.SheetId.{SheetId}
use Rattle.workbook.specs.declared.change.Change.{Change}
use Rattle.workbook.specs.Changed.{changed}
use Rattle.workbook.specs.State.{Name, text_of}
use Rattle.workbook.proofs.Changes.{text_apart, text_here}
use Rattle.workbook.proofs.named.text_of.Goals as goal

abbrev Gives : {E : Type 0} → Result (Option (Bor (List ℕ))) E → Option (List ℕ) → Type 0
Gives r text = IfOk r (λ t. option_map (λ (b : Bor (List ℕ)). b.now) t ≡ text)

-- the text of the name once the edit is known, or that there is none
abbrev text_with : List Name → Option SheetId → List ℕ → Option (Bor Change) → Option (List ℕ)
text_with names sheet name o = text_of (changed names (option_map (λ (b : Bor Change). b.now) o)) (option_map (λ (s : SheetId). s.0) sheet) name

pub returns-in_default : goal.returns-in_default
returns-in_default c =
    subst (Gives c.text_in.result) (ap (text_with c.args.scope.now.names.now c.args.sheet c.args.name.now) (sym c.in_default.is)) c.text_in.ensures

pub returns-then-is_of : goal.returns-then-is_of
returns-then-is_of c =
    let sheet = option_map (λ (s : SheetId). s.0) c.args.sheet in
    c.text.ensures
    ∙ sym (text_here c.args.scope.now.names.now c.in-Some.change.now sheet c.args.name.now (sym c.is_of.ensures ∙ c.if-is_of.true))
    ∙ ap (text_with c.args.scope.now.names.now c.args.sheet c.args.name.now) (sym c.in-Some.is)

pub returns : goal.returns
returns c =
    let sheet = option_map (λ (s : SheetId). s.0) c.args.sheet in
    subst (Gives c.text_in-2.result)
    (sym (text_apart c.args.scope.now.names.now c.in-Some.change.now sheet c.args.name.now (sym c.is_of.ensures ∙ c.if-is_of.false))
    ∙ ap (text_with c.args.scope.now.names.now c.args.sheet c.args.name.now) (sym c.in-Some.is)) c.text_in-2.ensures
