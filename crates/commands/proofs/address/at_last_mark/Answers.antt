use Rattle.std.proofs.Common.{◌≡◌, ◌<◌, ◌-◌, ◌∙◌, ap, sym, subst, true, false, ℕ, List, length, take, get_or, Some, arith}
use Rattle.std.proofs.lemmas.Str.{IsCharBoundary-after_ascii}
use Rattle.commands.specs.Addresses.{is_mark}
use Rattle.commands.proofs.Marks.{mark_small, no_last, parted}
use Rattle.commands.proofs.address.at_last_mark.Goals as goal

pub range_from-requires : goal.range_from-requires
range_from-requires c = λ _.
    let value = c.as_bytes.ensures.value in
    let within : c.in-Some.place < length c.args.text.now = subst (λ (l : List ℕ). c.in-Some.place < length l) value c.in-Some.ensures.within in
    let mark : is_mark (get_or c.args.text.now c.in-Some.place 0) ≡ true = subst (λ (l : List ℕ). is_mark (get_or l c.in-Some.place 0) ≡ true) value c.in-Some.ensures.mark in
    IsCharBoundary-after_ascii c.args.text.now c.in-Some.place c.utf8.text within (mark_small _ mark)

pub returns-in_default : goal.returns-in_default
returns-in_default c = sym (no_last c.args.text.now (subst (λ (l : List ℕ). (k : ℕ) → k < length l → is_mark (get_or l k 0) ≡ false) c.as_bytes.ensures.value c.in_default.ensures.none))

pub returns : goal.returns
returns c =
    let text = c.args.text.now in
    let i = c.in-Some.place in
    let value = c.as_bytes.ensures.value in
    let plain : i - 0 ≡ i = omega arith in
    let front : c.range.result.now ≡ take i text = c.range.ensures.value ∙ ap (λ n. take n text) plain in
    ap (λ l. Some (l, c.range_from.result.now)) front ∙ ap (λ l. Some (take i text, l)) c.range_from.ensures.value
    ∙ sym (parted text i (subst (λ (l : List ℕ). i < length l) value c.in-Some.ensures.within) (subst (λ (l : List ℕ). is_mark (get_or l i 0) ≡ true) value c.in-Some.ensures.mark)
    (subst (λ (l : List ℕ). (k : ℕ) → i < k → k < length l → is_mark (get_or l k 0) ≡ false) value c.in-Some.ensures.last))
