use Rattle.std.proofs.Common.{◌≡◌, ◌<◌, ◌∙◌, ℕ, List, true, false, ap, arith, get_or, length, sym}
use Rattle.std.proofs.lemmas.List.{get_or_read}
use Rattle.session.proofs.Changed.{at_err, some_changed}
use Rattle.session.proofs.session.Session.changed_files.Goals as goal

pub returns-in_err-bytes-clause-memory : goal.returns-in_err-bytes-clause-memory
returns-in_err-bytes-clause-memory c =
    let flags = c.self.inside.changed_sheets.items in
    let sheets : length c.sheets.result.now ≡ length c.self.inside.book.book.sheets = ap (λ (l : List (List ℕ)). length l) c.sheets.ensures in
    let lt : c.loop-place.place < length flags = omega (arith, sheets, c.loop-place-test.true, c.len-place-end.ensures.count, c.self.invariant.sheets) in
    let on : get_or flags c.loop-place.place false ≡ true = sym (get_or_read flags c.loop-place.place c.index-changed.result.now lt c.index-changed.ensures false) ∙ c.if-changed.true in
    rw (← c.self.view_is) (at_err c.from_residual.result _ (some_changed c.self.inside.book.book flags c.loop-place.place c.loop-place.files.items _ lt on c.loop-place.invariant))

pub returns-in_err-push-clause-memory : goal.returns-in_err-push-clause-memory
returns-in_err-push-clause-memory c =
    let flags = c.self.inside.changed_sheets.items in
    let sheets : length c.sheets.result.now ≡ length c.self.inside.book.book.sheets = ap (λ (l : List (List ℕ)). length l) c.sheets.ensures in
    let lt : c.loop-place.place < length flags = omega (arith, sheets, c.loop-place-test.true, c.len-place-end.ensures.count, c.self.invariant.sheets) in
    let on : get_or flags c.loop-place.place false ≡ true = sym (get_or_read flags c.loop-place.place c.index-changed.result.now lt c.index-changed.ensures false) ∙ c.if-changed.true in
    rw (← c.self.view_is) (at_err c.from_residual-in_err-push.result _ (some_changed c.self.inside.book.book flags c.loop-place.place c.loop-place.files.items _ lt on c.loop-place.invariant))
