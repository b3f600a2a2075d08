use Rattle.std.proofs.Common.{◌≡◌, ◌-◌, ◌∙◌, ◌∷◌, List, None, ℕ, arith, ap, drop, get_or, length, length-drop, length-take, map, rules, subst, sym, take}
use Rattle.std.specs.Prelude.{string_bytes, zip}
use Rattle.std.proofs.lemmas.List.Elements.{All-rest}
use Rattle.cell_refs.specs.declared.cell.Cell.{Cell}
use Rattle.workbook.specs.Filling.{IsFilled}
use Rattle.workbook.specs.Held.{contents_of}
use Rattle.cell_refs.specs.Listed.{IsListed}
use Rattle.workbook.specs.Several.{IsField, first_without_room}
use Rattle.workbook.proofs.Covered.{covered_put}
use Rattle.workbook.proofs.Severally.{all_filled, first_others, held_again, kept_first, room_later, zip_first}
use Rattle.workbook.proofs.several.+put_each.Goals as goal

abbrev here : Cell
here = record { sheet = record { 0 = 0 }; row = 0; col = 0 }

pub put_each-requires : goal.put_each-requires
put_each-requires t c =
    let at = c.args.at.now in
    let texts = c.args.texts.now in
    let cells = take (length at - 1) (drop 1 at) in
    let others = take (length texts - 1) (drop 1 texts) in
    let h = c.in_ok-held.held in
    let same : h.text ≡ string_bytes c.text-item.result = first_of (search rules, cc (c.in_ok-held.ensures.text, c.new-text.ensures, c.in_ok-from_str.ensures.ok, c.as_str.ensures.value)) in
    let first : texts ≡ c.text-item.result ∷ others = first_others texts c.text-item.result c.in-len1-up-texts.len_at_least ∙ ap (λ x. x ∷ others) (sym c.text-item.is) in
    let split = zip_first string_bytes at cells texts others (get_or at 0 here) c.text-item.result h.text (first_others at here c.in-len1-up.len_at_least) first same in
    let room : first_without_room (contents_of c.args.cells.now.entries) ((get_or at 0 here, h.text) ∷ zip cells (map string_bytes others)) ≡ None =
    sym (ap (first_without_room (contents_of c.args.cells.now.entries)) split) ∙ c.requires.room in (
      omega (arith, length-take (length at - 1) (drop 1 at), length-drop 1 at, c.in-len1-up.len_at_least, c.decreases),
      (
        c.requires.short,
        (
          kept_first c.args.sheets.now c.args.names.now c.args.cells.now.entries c.put_in.new.cells.entries (get_or at 0 here) h (zip cells (map string_bytes others))
              c.in_ok-was.ensures.put c.in_ok-was.ensures.len room c.requires.kept c.in_ok-held.ensures.held,
          (
            covered_put c.args.users.now c.add_names.new.self c.args.cells.now.entries c.add_names.ensures.grows c.requires.covered c.put_in.new.cells.entries (get_or at 0 here) h
                c.in_ok-was.ensures.put c.in_ok-add_names.ensures.covered,
            (
              All-rest (IsListed c.args.sheets.now) (get_or at 0 here) cells at (first_others at here c.in-len1-up.len_at_least) c.requires.listed,
              (
                All-rest (λ text. IsField (string_bytes text)) c.text-item.result others texts first c.requires.fields,
                room_later c.args.sheets.now c.args.names.now c.args.cells.now.entries c.put_in.new.cells.entries (get_or at 0 here) h (zip cells (map string_bytes others))
                    c.in_ok-was.ensures.put c.in_ok-was.ensures.len room,
              ),
            ),
          ),
        ),
      ),
    )

pub returns-in-Err-clause-err : goal.returns-in-Err-clause-err
returns-in-Err-clause-err t c =
    let at = c.args.at.now in
    let texts = c.args.texts.now in
    let rest = zip (take (length at - 1) (drop 1 at)) (map string_bytes (take (length texts - 1) (drop 1 texts))) in
    held_again c.args.sheets.now c.args.names.now c.args.cells.now.entries c.put_in.new.cells.entries (get_or at 0 here) c.in_ok-held.held rest
    c.in_ok-was.ensures.put c.in_ok-was.ensures.len c.put_each.new.cells.entries c.in-Err.ensures.err c.put_back.new.cells.entries c.in_ok-was.was' c.in_ok-was.ensures.was
    c.put_back.ensures.back c.put_back.ensures.len

pub returns-clause-ok : goal.returns-clause-ok
returns-clause-ok t c =
    let at = c.args.at.now in
    let texts = c.args.texts.now in
    let cells = take (length at - 1) (drop 1 at) in
    let others = take (length texts - 1) (drop 1 texts) in
    let h = c.in_ok-held.held in
    let same : h.text ≡ string_bytes c.text-item.result = first_of (search rules, cc (c.in_ok-held.ensures.text, c.new-text.ensures, c.in_ok-from_str.ensures.ok, c.as_str.ensures.value)) in
    let first : texts ≡ c.text-item.result ∷ others = first_others texts c.text-item.result c.in-len1-up-texts.len_at_least ∙ ap (λ x. x ∷ others) (sym c.text-item.is) in
    let split = zip_first string_bytes at cells texts others (get_or at 0 here) c.text-item.result h.text (first_others at here c.in-len1-up.len_at_least) first same in
    subst (λ (l : List (Cell × List ℕ)). IsFilled c.args.sheets.now c.args.names.now c.args.cells.now.entries l c.put_each.new.cells.entries) (sym split)
    (all_filled c.args.sheets.now c.args.names.now c.args.cells.now.entries c.put_in.new.cells.entries (get_or at 0 here) h (zip cells (map string_bytes others))
    c.in_ok-was.ensures.put c.in_ok-was.ensures.len c.put_each.new.cells.entries c.in_default-put_each.ensures.ok)
