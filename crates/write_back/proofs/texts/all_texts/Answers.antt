use Rattle.std.proofs.Common.{◌≡◌, ◌+◌, All, List, [], ◌∷◌, ◌++◌, map, String, string_bytes, Global, take, sym, ap, ap₂, subst, ◌∙◌}
use Rattle.std.proofs.lemmas.List.{map-append, take_more}
use Rattle.std.proofs.lemmas.List.Elements.{All-push}
use Rattle.frac128.specs.Narrow.{IsNarrow}
use Rattle.workbook.specs.Several.{IsField}
use Rattle.write_back.specs.Writing.{number_text}
use Rattle.write_back.proofs.texts.all_texts.Goals as goal

abbrev field : String Global → Type 0
field text = IsField (string_bytes text)

pub loop-number-preserved : goal.loop-number-preserved
loop-number-preserved c =
    let xs = c.args.numbers.now in
    let i = c.loop-number.number-index in
    let x = c.number-item.result in
    let more : take (i + 1) xs ≡ take i xs ++ x ∷ [] = take_more xs i x c.loop-number-test.true ∙ ap (λ y. take i xs ++ y ∷ []) (sym c.number-item.is) in
    record {
      texts =
          ap (map string_bytes) c.in_ok-push.ensures.items
          ∙ map-append string_bytes c.loop-number.texts.items (c.in_ok-text_of.field-0 ∷ [])
          ∙ ap₂ (λ a b. a ++ b ∷ []) c.loop-number.invariant.texts c.in_ok-text_of.ensures.text
          ∙ sym (map-append number_text (take i xs) (x ∷ []))
          ∙ ap (map number_text) (sym more);
      fields = subst (All field) (sym {A = List (String Global)} c.in_ok-push.ensures.items) (All-push field c.loop-number.texts.items c.in_ok-text_of.field-0 c.loop-number.invariant.fields c.in_ok-text_of.ensures.field);
      narrow = subst (All IsNarrow) (sym more) (All-push IsNarrow (take i xs) x c.loop-number.invariant.narrow c.text_of.ensures.narrow);
    }
