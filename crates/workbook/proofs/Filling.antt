-- Texts put into their cells, the last of them first.
use Rattle.std.proofs.Common.{◌≡◌, ◌+◌, ◌≤◌, ℕ, Bool, true, false, cond, List, [], ◌∷◌, ◌++◌, length, Some, refl, sym, ap, subst, ◌∙◌, arith}
use Rattle.std.specs.FinMap.{contains_key, empty, from_entries, insert}
use Rattle.std.proofs.lemmas.List.{length_push}
use Rattle.std.proofs.lemmas.List.Elements.{All-pop}
use Rattle.cell_refs.specs.declared.cell.Cell.{Cell}
use Rattle.recalculation.specs.Entries.{Contents}
use Rattle.workbook.specs.Gathered.{IsFieldText}
use Rattle.workbook.specs.Held.{put_all}
use Rattle.workbook.specs.Opened.{TextsFit}
use Rattle.workbook.specs.Opening.{formulas_in}
use Rattle.workbook.specs.Room.{HasRoom}
use Rattle.workbook.specs.State.{State, formula_count, is_formula_text, text_count}
use Rattle.workbook.proofs.Counting.{formulas_put, one}
use Rattle.workbook.proofs.Keeping.{count_put}

abbrev pub Texts : Type 0
Texts = List (Cell × List ℕ)

pub put_last : (texts : Texts) (e : Cell × List ℕ) (m : Contents) → put_all (texts ++ e ∷ []) m ≡ put_all texts (insert m e.0 e.1)
put_last [] e m = refl
put_last (d ∷ texts) e m = ap (λ c. insert c d.0 d.1) (put_last texts e m)

pub put_empty : (texts : Texts) → put_all texts empty ≡ from_entries texts
put_empty [] = refl
put_empty (e ∷ texts) = ap (λ c. insert c e.0 e.1) (put_empty texts)

-- ---- room
at_most_one : (b : Bool) (n : ℕ) → cond b n (n + 1) ≤ n + 1
at_most_one true n = omega arith
at_most_one false n = omega arith

pub texts_grow : (m : Contents) (k : Cell) (text : List ℕ) → text_count (insert m k text) ≤ text_count m + 1
texts_grow m k text = let a = count_put m k text in let b = at_most_one (contains_key m k) (text_count m) in omega arith

pub formulas_grow : (m : Contents) (k : Cell) (text : List ℕ) → formula_count (insert m k text) ≤ formula_count m + one (is_formula_text text)
formulas_grow m k text = let a = formulas_put m k text in omega arith

counted_first : (b : Bool) (e : Cell × List ℕ) (fs : Texts) → length (cond b (e ∷ fs) fs) ≡ one b + length fs
counted_first true e fs = omega arith
counted_first false e fs = omega arith

pub formulas_last : (texts : Texts) (e : Cell × List ℕ) → length (formulas_in (texts ++ e ∷ [])) ≡ length (formulas_in texts) + one (is_formula_text e.1)
formulas_last [] e = let a = counted_first (is_formula_text e.1) e [] in omega arith
formulas_last (d ∷ texts) e =
    let a : length (formulas_in (d ∷ (texts ++ e ∷ []))) ≡ one (is_formula_text d.1) + length (formulas_in (texts ++ e ∷ [])) = counted_first (is_formula_text d.1) d (formulas_in (texts ++ e ∷ [])) in
    let b : length (formulas_in (d ∷ texts)) ≡ one (is_formula_text d.1) + length (formulas_in texts) = counted_first (is_formula_text d.1) d (formulas_in texts) in
    let c : length (formulas_in (texts ++ e ∷ [])) ≡ length (formulas_in texts) + one (is_formula_text e.1) = formulas_last texts e in
    omega arith

-- ---- the last of the texts
module _ (s : State) (texts rest : Texts) (e : Cell × List ℕ) (last : texts ≡ rest ++ e ∷ []) (fits : TextsFit s texts) where
  longer : length texts ≡ length rest + 1
  longer = ap length last ∙ length_push rest e

  more_formulas : length (formulas_in texts) ≡ length (formulas_in rest) + one (is_formula_text e.1)
  more_formulas = ap (λ l. length (formulas_in l)) last ∙ formulas_last rest e

  pub fits_room : HasRoom s.contents e.0 e.1
  fits_room = record {
    texts = let a = longer in let b = fits.room in let c = texts_grow s.contents e.0 e.1 in omega arith;
    formulas = let a = more_formulas in let b = fits.formulas in let c = formulas_grow s.contents e.0 e.1 in omega arith;
  }

  pub fits_field : IsFieldText s.sheets e
  fits_field = (All-pop (IsFieldText s.sheets) texts rest (Some e) last fits.fields).1

  pub fits_rest : (t : State) → t ≡ record s { contents = insert s.contents e.0 e.1 } → TextsFit t rest
  fits_rest t is = subst (λ u. TextsFit u rest) (sym is) (record {
    room = let a = longer in let b = fits.room in let c = texts_grow s.contents e.0 e.1 in omega arith;
    formulas = let a = more_formulas in let b = fits.formulas in let c = formulas_grow s.contents e.0 e.1 in omega arith;
    fields = (All-pop (IsFieldText s.sheets) texts rest (Some e) last fits.fields).0;
  })

  pub fills_on : (t : State) (total : Contents) → t ≡ record s { contents = insert s.contents e.0 e.1 } → put_all texts s.contents ≡ total → put_all rest t.contents ≡ total
  fills_on t total is so_far =
      ap (λ u. put_all rest u.contents) is ∙ sym (put_last rest e s.contents) ∙ ap (λ l. put_all l s.contents) (sym last) ∙ so_far
