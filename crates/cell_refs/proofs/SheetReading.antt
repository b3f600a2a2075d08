-- A sheet before an address is read exactly where it is spelled.
use Rattle.std.proofs.Common.{◌≡◌, ◌≢◌, ◌∙◌, ℕ, Bool, true, false, cond, List, [], ◌∷◌, ◌++◌, Option, Some, None, refl, sym, ap, subst, lit<, arith}
use Rattle.std.specs.Prelude.{◌==◌, ◌||◌, ◌&&◌, encode_utf8, option_map}
use Rattle.std.specs.List.{list_all}
use Rattle.std.proofs.lemmas.Bool.{eqb-true, ne_eqb}
use Rattle.std.proofs.lemmas.Bool.Decides.{nat_tests}
use Rattle.std.proofs.lemmas.Option.{none-some, same_Some}
use Rattle.std.proofs.lemmas.Str.{encode_ascii}
use Rattle.cell_refs.specs.Address.{without_dollar}
use Rattle.cell_refs.specs.Names.{begins_word, doubled, goes_on_word}
use Rattle.cell_refs.specs.Sheets.{SheetsAreSpelled, SpellsSheet, behind_quote, in_quotes, is_sheet_word, quoted, sheet_in, unquoted, word}

-- ---- behind a first character

-- no dollar sign leads it
pub no_dollar : (bs : List ℕ) → ((rest : List ℕ) → bs ≢ encode_utf8 36 ++ rest) → bs ≡ without_dollar bs
no_dollar [] h = refl
no_dollar (b ∷ bs) h = sym (ap (λ t. cond t bs (b ∷ bs)) (ne_eqb b 36 (λ e. h bs (ap (λ d. d ∷ bs) e ∙ sym (ap (λ l. l ++ bs) (encode_ascii 36 (lit< tt)))))))

-- no quote leads it
pub no_opening : (bs : List ℕ) → ((rest : List ℕ) → bs ≢ encode_utf8 39 ++ rest) → in_quotes bs ≡ None
no_opening [] h = refl
no_opening (b ∷ bs) h = ap (λ t. cond t (unquoted bs) None) (ne_eqb b 39 (λ e. h bs (ap (λ d. d ∷ bs) e ∙ sym (ap (λ l. l ++ bs) (encode_ascii 39 (lit< tt))))))

-- ---- what is read is spelled

mapped : {A B : Type 0} (f : A → B) (o : Option A) (y : B) → option_map f o ≡ Some y → (x : A) × (o ≡ Some x) × (f x ≡ y)
mapped f None y e = absurd (none-some y e)
mapped f (Some x) y e = (x, refl, same_Some (f x) y e)

mutual
  quoted_spelled : (text name : List ℕ) → unquoted text ≡ Some name → text ≡ doubled name ++ 39 ∷ []
  quoted_spelled [] name e = absurd (none-some name e)
  quoted_spelled (b ∷ text) name e =
      elim (b == 39) as (λ x. (b == 39) ≡ x → cond x (behind_quote text) (option_map (λ n. b ∷ n) (unquoted text)) ≡ Some name → b ∷ text ≡ doubled name ++ 39 ∷ []) [
        | true ↦ λ is h. ap (λ c. c ∷ text) (eqb-true b 39 is) ∙ behind_spelled text name h
        | false ↦ λ is h.
            let m = mapped (λ n. b ∷ n) (unquoted text) name h in
            ap (λ l. b ∷ l) (quoted_spelled text m.0 m.1) ∙ sym (ap (λ x. cond x (39 ∷ 39 ∷ doubled m.0) (b ∷ doubled m.0) ++ 39 ∷ []) is) ∙ ap (λ l. doubled l ++ 39 ∷ []) m.2
      ] refl e

  behind_spelled : (text name : List ℕ) → behind_quote text ≡ Some name → 39 ∷ text ≡ doubled name ++ 39 ∷ []
  behind_spelled [] name e = ap (λ l. doubled l ++ 39 ∷ []) (same_Some [] name e)
  behind_spelled (b ∷ text) name e =
      elim (b == 39) as (λ x. (b == 39) ≡ x → cond x (option_map (λ n. 39 ∷ n) (unquoted text)) None ≡ Some name → 39 ∷ b ∷ text ≡ doubled name ++ 39 ∷ []) [
        | true ↦ λ is h.
            let m = mapped (λ n. 39 ∷ n) (unquoted text) name h in
            ap (λ c. 39 ∷ c ∷ text) (eqb-true b 39 is) ∙ ap (λ l. 39 ∷ 39 ∷ l) (quoted_spelled text m.0 m.1) ∙ ap (λ l. doubled l ++ 39 ∷ []) m.2
        | false ↦ λ is h. absurd (none-some name h)
      ] refl e

opened : (text name : List ℕ) → in_quotes text ≡ Some name → text ≡ 39 ∷ (doubled name ++ 39 ∷ [])
opened [] name e = absurd (none-some name e)
opened (b ∷ text) name e =
    elim (b == 39) as (λ x. (b == 39) ≡ x → cond x (unquoted text) None ≡ Some name → b ∷ text ≡ 39 ∷ (doubled name ++ 39 ∷ [])) [
      | true ↦ λ is h. ap (λ c. c ∷ text) (eqb-true b 39 is) ∙ ap (λ l. 39 ∷ l) (quoted_spelled text name h)
      | false ↦ λ is h. absurd (none-some name h)
    ] refl e

spelled : (text name : List ℕ) → sheet_in text ≡ Some name → SpellsSheet text name
spelled text name e =
    elim (is_sheet_word text) as (λ x. is_sheet_word text ≡ x → cond x (Some (without_dollar text)) (in_quotes (without_dollar text)) ≡ Some name → SpellsSheet text name) [
      | true ↦ λ is h. subst (SpellsSheet text) (same_Some (without_dollar text) name h) (word is)
      | false ↦ λ is h. quoted name (opened (without_dollar text) name h)
    ] refl e

-- ---- and what is spelled is read

mutual
  unquoted_doubled : (name : List ℕ) → unquoted (doubled name ++ 39 ∷ []) ≡ Some name
  unquoted_doubled [] = refl
  unquoted_doubled (b ∷ name) =
      elim (b == 39) as (λ x. (b == 39) ≡ x → unquoted (cond x (39 ∷ 39 ∷ doubled name) (b ∷ doubled name) ++ 39 ∷ []) ≡ Some (b ∷ name)) [
        | true ↦ λ is. ap (λ o. option_map (λ n. 39 ∷ n) o) (unquoted_doubled name) ∙ ap (λ c. Some (c ∷ name)) (sym (eqb-true b 39 is))
        | false ↦ λ is. ap (λ t. cond t (behind_quote (doubled name ++ 39 ∷ [])) (option_map (λ n. b ∷ n) (unquoted (doubled name ++ 39 ∷ [])))) is
            ∙ ap (λ o. option_map (λ n. b ∷ n) o) (unquoted_doubled name)
      ] refl

no_word_byte : (b : ℕ) → b ≡ 39 → (begins_word b || b == 36) ≡ false
no_word_byte b h = grind (arith, nat_tests, h)

no_rest_byte : (b : ℕ) → b ≡ 39 → (goes_on_word b || b == 36) ≡ false
no_rest_byte b h = grind (arith, nat_tests, h)

-- a text in quotes is no word
no_word : (text rest : List ℕ) → without_dollar text ≡ 39 ∷ rest → is_sheet_word text ≡ false
no_word [] rest e = cc e
no_word (b ∷ text) rest e =
    elim (b == 36) as (λ x. (b == 36) ≡ x → cond x text (b ∷ text) ≡ 39 ∷ rest → is_sheet_word (b ∷ text) ≡ false) [
      | true ↦ λ is h.
          behind b text rest h
      | false ↦ λ is h.
          let first : b ≡ 39 = cc h in
          ap (λ t. t && list_all (λ c. goes_on_word c || c == 36) text) (no_word_byte b first)
    ] refl e
  where
    none_and : (a c : Bool) → c ≡ false → (a && c) ≡ false
    none_and true c h = h
    none_and false c h = refl

    behind : (b : ℕ) (text rest : List ℕ) → text ≡ 39 ∷ rest → is_sheet_word (b ∷ text) ≡ false
    behind b text rest h =
        none_and (begins_word b || b == 36) (list_all (λ c. goes_on_word c || c == 36) text)
        (ap (list_all (λ c. goes_on_word c || c == 36)) h ∙ ap (λ t. t && list_all (λ c. goes_on_word c || c == 36) rest) (no_rest_byte 39 refl))

read : (text name : List ℕ) → SpellsSheet text name → sheet_in text ≡ Some name
read text _ (word is) = ap (λ t. cond t (Some (without_dollar text)) (in_quotes (without_dollar text))) is
read text name (quoted _ is) =
    ap (λ t. cond t (Some (without_dollar text)) (in_quotes (without_dollar text))) (no_word text (doubled name ++ 39 ∷ []) is)
    ∙ ap in_quotes is ∙ unquoted_doubled name

pub sheets_are_spelled : SheetsAreSpelled
sheets_are_spelled = λ text name. (spelled text name, read text name)
