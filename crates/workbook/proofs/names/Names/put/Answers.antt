use Rattle.std.proofs.Common.{◌≡◌, ◌∙◌, ap, map, subst, sym}
use Rattle.std.specs.Prelude.{string_bytes}
use Rattle.std.specs.Char.{to_ascii_lowercase}
use Rattle.std.specs.List.{list_any}
use Rattle.workbook.specs.Keyed.{AllAreKeyed}
use Rattle.workbook.specs.State.{is_called}
use Rattle.workbook.proofs.EditedKeys.{put_last, put_there}
use Rattle.workbook.proofs.NameEdits.{retexted_keyed}
use Rattle.workbook.proofs.NameLaws.{keyed-push}
use Rattle.workbook.proofs.NameRows.{is_there, not_there}
use Rattle.workbook.proofs.names.Names.put.Goals as goal

pub invariant_of-self : goal.invariant_of-self
invariant_of-self c =
    let small : c.in_ok-key.key.letters.items ≡ map to_ascii_lowercase c.args.name.name =
    c.in_ok-key.ensures.letters ∙ ap (map to_ascii_lowercase) (c.as_str.ensures.value ∙ ap (λ n. n.name) c.name.view_is) in
    subst AllAreKeyed (sym c.put_text.ensures.entries)
    (retexted_keyed c.in_ok-key.key c.args.name.name small (string_bytes c.name.inside.text) c.self.inside.names.entries c.self.invariant)

pub returns-then-is_some-clause-ok : goal.returns-then-is_some-clause-ok
returns-then-is_some-clause-ok c =
    let small : c.in_ok-key.key.letters.items ≡ map to_ascii_lowercase c.args.name.name =
    c.in_ok-key.ensures.letters ∙ ap (map to_ascii_lowercase) (c.as_str.ensures.value ∙ ap (λ n. n.name) c.name.view_is) in
    let sheet : c.in_ok-key.key.sheet ≡ c.args.name.sheet = c.in_ok-key.ensures.sheet ∙ ap (λ n. n.sheet) c.name.view_is in
    put_there c.in_ok-key.key c.args.name c.self.inside.names.entries c.put_text.new.names.entries c.args.self.now c.self.view_is small sheet (string_bytes c.name.inside.text)
    c.self.invariant c.put_text.ensures.unique
    (ap (λ s. list_any (is_called s c.args.name.name) c.args.self.now) (sym sheet)
    ∙ sym (is_there c.text.result c.args.self.now c.in_ok-key.key.sheet c.args.name.name (c.text.ensures c.args.name.name small))
    ∙ sym c.is_some.ensures ∙ c.if-is_some.true)
    c.put_text.ensures.entries (ap (λ n. n.text) c.name.view_is)

pub insert_new-requires : goal.insert_new-requires
insert_new-requires c =
    let small : c.in_ok-key.key.letters.items ≡ map to_ascii_lowercase c.args.name.name =
    c.in_ok-key.ensures.letters ∙ ap (map to_ascii_lowercase) (c.as_str.ensures.value ∙ ap (λ n. n.name) c.name.view_is) in
    not_there c.in_ok-key.key c.args.name.name c.self.inside.names.entries c.args.self.now c.self.view_is small c.self.invariant
    (sym (is_there c.text.result c.args.self.now c.in_ok-key.key.sheet c.args.name.name (c.text.ensures c.args.name.name small)) ∙ sym c.is_some.ensures ∙ c.if-is_some.false)

pub invariant_of-self-2 : goal.invariant_of-self-2
invariant_of-self-2 c =
    let small : c.in_ok-key.key.letters.items ≡ map to_ascii_lowercase c.args.name.name =
    c.in_ok-key.ensures.letters ∙ ap (map to_ascii_lowercase) (c.as_str.ensures.value ∙ ap (λ n. n.name) c.name.view_is) in
    let sheet : c.in_ok-key.key.sheet ≡ c.args.name.sheet = c.in_ok-key.ensures.sheet ∙ ap (λ n. n.sheet) c.name.view_is in
    subst AllAreKeyed (sym c.in_ok-insert_new.ensures.ok)
    (keyed-push c.self.inside.names.entries (c.in_ok-key.key, c.args.name) c.self.invariant (record { sheet = sheet; letters = small }))

pub returns-clause-ok : goal.returns-clause-ok
returns-clause-ok c =
    let small : c.in_ok-key.key.letters.items ≡ map to_ascii_lowercase c.args.name.name =
    c.in_ok-key.ensures.letters ∙ ap (map to_ascii_lowercase) (c.as_str.ensures.value ∙ ap (λ n. n.name) c.name.view_is) in
    let sheet : c.in_ok-key.key.sheet ≡ c.args.name.sheet = c.in_ok-key.ensures.sheet ∙ ap (λ n. n.sheet) c.name.view_is in
    put_last c.in_ok-key.key c.args.name c.self.inside.names.entries c.insert_new.new.names.entries c.args.self.now c.self.view_is small sheet
    (ap (λ s. list_any (is_called s c.args.name.name) c.args.self.now) (sym sheet)
    ∙ sym (is_there c.text.result c.args.self.now c.in_ok-key.key.sheet c.args.name.name (c.text.ensures c.args.name.name small))
    ∙ sym c.is_some.ensures ∙ c.if-is_some.false)
    c.in_ok-insert_new.ensures.ok
