-- What is read of an address is spelled.
use Rattle.std.proofs.Common.{◌≡◌, ◌∙◌, inl, inr, ℕ, suc, ◌+◌, ◌<◌, Bool, true, false, cond, List, [], ◌∷◌, ◌++◌, length, take, drop, Option, Some, None, refl, sym, ap, subst, arith}
use Rattle.std.specs.Prelude.{◌==◌, ◌&&◌, nat_lt, option_map}
use Rattle.std.specs.Char.{is_ascii_alphabetic}
use Rattle.std.specs.List.{list_all, prefix_len}
use Rattle.std.specs.Str.{all_ascii_digits}
use Rattle.std.proofs.lemmas.Bool.{eqb-true, ltb-true}
use Rattle.std.proofs.lemmas.List.{take-append-drop}
use Rattle.std.proofs.lemmas.List.Folds.{length-prefix_len}
use Rattle.std.proofs.lemmas.Option.{cond_some, none-some, option_and_then_some, same_Some}
use Rattle.cell_refs.specs.Address.{behind_letters, letter_count_of, letters_of, without_dollar}
use Rattle.cell_refs.specs.Sheets.{SpellsSheet, sheet_in}
use Rattle.cell_refs.proofs.SheetReading.{sheets_are_spelled}
use Rattle.commands.specs.Addresses.{Address, marked_address, address_of, at_last_mark, is_mark, is_place, placed, with_byte}
use Rattle.cell_refs.specs.Units.{is_number}
use Rattle.commands.specs.Spelling.{IsDollar, SpellsMarked}

pub both : (a b : Bool) → (a && b) ≡ true → (a ≡ true) × (b ≡ true)
both true b h = (refl, h)
both false b h = absurd (cc h)

mapped : {A B : Type 0} (f : A → B) (o : Option A) (y : B) → option_map f o ≡ Some y → (x : A) × (o ≡ Some x) × (f x ≡ y)
mapped f None y e = absurd (none-some y e)
mapped f (Some x) y e = (x, refl, same_Some (f x) y e)

-- ---- the mark
abbrev Pair : Type 0
Pair = List ℕ × List ℕ

abbrev IsParted : List ℕ → Pair → Type 0
IsParted text p = (mark : ℕ) × (is_mark mark ≡ true) × (text ≡ p.0 ++ mark ∷ p.1)

parted : (text : List ℕ) (p : Pair) → at_last_mark text ≡ Some p → IsParted text p
parted [] p e = absurd (none-some p e)
parted (b ∷ text) p e = by (at_last_mark text) (λ q h. parted text q h) e
  where
    by : (o : Option Pair) → ((q : Pair) → o ≡ Some q → IsParted text q) → with_byte b o text ≡ Some p → IsParted (b ∷ text) p
    by (Some q) own h =
        let m = own q refl in
        (m.0, m.1, ap (λ l. b ∷ l) m.2 ∙ ap (λ (r : Pair). r.0 ++ m.0 ∷ r.1) (same_Some {A = Pair} (b ∷ q.0, q.1) p h))
    by None own h = let c = cond_some {A = Pair} (is_mark b) ([], text) p h in (b, c.0, ap (λ (r : Pair). r.0 ++ b ∷ r.1) c.1)

-- ---- dollar signs
dollar_of : (text : List ℕ) → (d : List ℕ) × IsDollar d × (text ≡ d ++ without_dollar text)
dollar_of [] = ([], inl refl, refl)
dollar_of (b ∷ text) = elim (b == 36) as (λ x. (b == 36) ≡ x → (d : List ℕ) × IsDollar d × (b ∷ text ≡ d ++ cond x text (b ∷ text))) [
  | true ↦ λ is. (36 ∷ [], inr refl, ap (λ c. c ∷ text) (eqb-true b 36 is))
  | false ↦ λ is. ([], inl refl, refl)
] refl

-- ---- letters
letters_pass : (p : ℕ → Bool) (xs : List ℕ) → list_all p (take (prefix_len p xs) xs) ≡ true
letters_pass p [] = refl
letters_pass p (x ∷ xs) = elim (p x) as (λ t. p x ≡ t → list_all p (take (cond t (1 + prefix_len p xs) 0) (x ∷ xs)) ≡ true) [
  | true ↦ λ is.
      let more : suc (prefix_len p xs) ≡ 1 + prefix_len p xs = omega arith in
      subst (λ n. list_all p (take n (x ∷ xs)) ≡ true) more (ap (λ t. t && list_all p (take (prefix_len p xs) xs)) is ∙ letters_pass p xs)
  | false ↦ λ is. refl
] refl

-- ---- the whole
cond_then : {A : Type 0} (b : Bool) (o : Option A) (y : A) → cond b o None ≡ Some y → (b ≡ true) × (o ≡ Some y)
cond_then true o y h = (refl, h)
cond_then false o y h = absurd (none-some y h)

pub spelled : (text : List ℕ) (a : Address) → marked_address text ≡ Some a → SpellsMarked text a
spelled text a e = option_and_then_some address_of (at_last_mark text) a e (λ p at is.
    let m = parted text p at in
    let split = cond_then (is_place p.1) (option_map (placed p.1) (sheet_in p.0)) a is in
    let name = mapped (placed p.1) (sheet_in p.0) a split.1 in
    let count = letter_count_of p.1 in
    let rest = drop count (without_dollar p.1) in
    let second = dollar_of p.1 in
    let third = dollar_of rest in
    let place = both (nat_lt 0 count) (is_number (behind_letters p.1)) split.0 in
    let number = both (nat_lt 0 (length (behind_letters p.1))) (all_ascii_digits (behind_letters p.1)) place.1 in
    record {
      sheet = p.0;
      mark = m.0;
      before = second.0;
      letters = letters_of p.1;
      between = third.0;
      digits = behind_letters p.1;
      whole = m.2
          ∙ ap (λ l. p.0 ++ m.0 ∷ l)
          (second.2 ∙ ap (λ l. second.0 ++ l) (sym (take-append-drop count (without_dollar p.1)) ∙ ap (λ l. letters_of p.1 ++ l) third.2));
      before_letters = second.1;
      before_digits = third.1;
      names = subst (SpellsSheet p.0) (ap (λ (b : Address). b.name) name.2) ((sheets_are_spelled p.0 name.0).0 name.1);
      is_one = m.1;
      some_letters = subst (λ n. 0 < n) (sym (length-prefix_len is_ascii_alphabetic (without_dollar p.1))) (ltb-true 0 count place.0);
      all_letters = letters_pass is_ascii_alphabetic (without_dollar p.1);
      some_digits = ltb-true 0 (length (behind_letters p.1)) number.0;
      all_digits = number.1;
      column = ap (λ (b : Address). b.column) name.2;
      row = ap (λ (b : Address). b.row) name.2;
    })
