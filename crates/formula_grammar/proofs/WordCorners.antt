-- A word is read as the corner that it spells.
use Rattle.std.proofs.Common.{◌≡◌, ◌∙◌, ◌-◌, ◌+◌, ℕ, Bool, true, false, cond, List, [], ◌∷◌, ◌++◌, Option, Some, None, refl, sym, ap, subst, arith}
use Rattle.std.specs.Prelude.{◌||◌, ◌&&◌, nat_eq, nat_le, option_map, if◌then◌else◌}
use Rattle.std.specs.Option.{option_and_then}
use Rattle.std.specs.Str.{all_ascii_digits}
use Rattle.std.specs.Str.Parse.{digits_value}
use Rattle.std.proofs.lemmas.Bool.{eqb-true}
use Rattle.std.proofs.lemmas.Bool.Decides.{nat_tests}
use Rattle.std.proofs.lemmas.Str.Parse.{tells_all_ascii_digits, numerals_by_value}
use Rattle.cell_refs.specs.Address.{IsAddress, address_in, behind_letters, column_number, letters_of}
use Rattle.cell_refs.specs.Names.{place_in}
use Rattle.cell_refs.specs.Sheets.{sheet_in}
use Rattle.cell_refs.specs.declared.limits.TheConstants.{COLUMNS, ROWS}
use Rattle.cell_refs.proofs.AddressReading.{told}
use Rattle.cell_refs.proofs.SheetReading.{sheets_are_spelled}
use Rattle.formula_grammar.specs.Symbols.{Setting}
use Rattle.formula_grammar.specs.Words.{Corner, Given, Named, Own, corner_on, has_point, logical_word}
use Rattle.formula_grammar.specs.WordReading.{at_last_point, if_listed, or_else, split_corner, unless_logical, with_byte, word_corner}
use Rattle.formula_grammar.specs.References.{SpellsJoined, SpellsWord, address, with_sheet}
use Rattle.formula_grammar.proofs.Turns.{bind_some, some_is}

-- ---- addresses

address_read : (text : List ℕ) (row column : ℕ) → IsAddress text row column → address_in text ≡ Some (row, column)
address_read text row column h = sym (told text (Some (row, column)) h tt)

no_address : (text : List ℕ) → ((r c : ℕ) → IsAddress text r c → ⊥) → address_in text ≡ None
no_address text none = sym (told text None tt none)

record Told (b : Bool) (column row : ℕ) (a : ℕ × ℕ) : Type 0 where
  pub digits : b ≡ true
  pub column_is : column ≡ a.1 + 1
  pub row_is : row ≡ a.0 + 1
  pub in_rows : nat_le row ROWS ≡ true
  pub in_columns : nat_le column COLUMNS ≡ true

within : (b : Bool) (column row : ℕ) (a : ℕ × ℕ) → (if b && (nat_le 1 column && nat_le column COLUMNS) && (nat_le 1 row && nat_le row ROWS) then Some (row - 1, column - 1) else None) ≡ Some a → Told b column row a
within b column row a e = by b (nat_le 1 column) (nat_le column COLUMNS) (nat_le 1 row) (nat_le row ROWS) refl refl refl refl refl e
  where
    by : (c t u v w : Bool) → b ≡ c → nat_le 1 column ≡ t → nat_le column COLUMNS ≡ u → nat_le 1 row ≡ v → nat_le row ROWS ≡ w → (if c && (t && u) && (v && w) then Some (row - 1, column - 1) else None) ≡ Some a → Told b column row a
    by true true true true true is p q r s e =
        let same : (row - 1, column - 1) ≡ a = some_is (row - 1, column - 1) a e in
        let first : row - 1 ≡ a.0 = ap (λ (x : ℕ × ℕ). x.0) same in
        let second : column - 1 ≡ a.1 = ap (λ (x : ℕ × ℕ). x.1) same in
        let some : row ≡ (row - 1) + 1 = grind (arith, nat_tests, r) in
        let more : column ≡ (column - 1) + 1 = grind (arith, nat_tests, p) in
        record { digits = is; column_is = more ∙ ap (λ n. n + 1) second; row_is = some ∙ ap (λ n. n + 1) first; in_rows = s; in_columns = q }
    by false t u v w is p q r s e = absurd cc
    by true false u v w is p q r s e = absurd cc
    by true true false v w is p q r s e = absurd cc
    by true true true false w is p q r s e = absurd cc
    by true true true true false is p q r s e = absurd cc

address_spelled : (text : List ℕ) (a : ℕ × ℕ) → address_in text ≡ Some a → IsAddress text a.0 a.1
address_spelled text a e =
    let model = numerals_by_value (λ ds. all_ascii_digits ds ≡ true) tells_all_ascii_digits in
    let k = within (all_ascii_digits (behind_letters text)) (column_number (letters_of text)) (digits_value 10 (behind_letters text)) a e in
    let row : nat_le (a.0 + 1) ROWS ≡ true = ap (λ n. nat_le n ROWS) (sym k.row_is) ∙ k.in_rows in
    let column : nat_le (a.1 + 1) COLUMNS ≡ true = ap (λ n. nat_le n COLUMNS) (sym k.column_is) ∙ k.in_columns in
    record {
      letters = k.column_is;
      digits = model.to (behind_letters text) k.digits;
      number = k.row_is;
      in_rows = grind (arith, nat_tests, row);
      in_columns = grind (arith, nat_tests, column);
    }

-- ---- the last point

both_false : (b c : Bool) → (b || c) ≡ false → (b ≡ false) × (c ≡ false)
both_false true c e = absurd cc
both_false false c e = (refl, e)

no_point : (bytes : List ℕ) → has_point bytes ≡ false → at_last_point bytes ≡ None
no_point [] h = refl
no_point (b ∷ bytes) h =
    let k = both_false (nat_eq b 46) (has_point bytes) h in
    ap (λ o. with_byte b o bytes) (no_point bytes k.1) ∙ ap (λ t. cond {A = Option (List ℕ × List ℕ)} t (Some ([], bytes)) None) k.0

none_some : {A : Type 0} (t : Bool) (x : A) → cond t (Some x) None ≡ None → t ≡ false
none_some true x e = absurd cc
none_some false x e = refl

none_point : (bytes : List ℕ) → at_last_point bytes ≡ None → has_point bytes ≡ false
none_point [] e = refl
none_point (b ∷ bytes) e = by (at_last_point bytes) refl (none_point bytes) e
  where
    by : (o : Option (List ℕ × List ℕ)) → at_last_point bytes ≡ o → (at_last_point bytes ≡ None → has_point bytes ≡ false) → with_byte b o bytes ≡ None → has_point (b ∷ bytes) ≡ false
    by (Some p) is own h = absurd cc
    by None is own h = ap (λ t. t || has_point bytes) (none_some {A = List ℕ × List ℕ} (nat_eq b 46) ([], bytes) h) ∙ own is

last_at : (front back : List ℕ) → has_point back ≡ false → at_last_point (front ++ 46 ∷ back) ≡ Some (front, back)
last_at [] back h = ap (λ o. with_byte 46 o back) (no_point back h)
last_at (b ∷ front) back h = ap (λ o. with_byte b o (front ++ 46 ∷ back)) (last_at front back h)

guarded : {A : Type 0} (t : Bool) (x y : A) → cond t (Some x) None ≡ Some y → (t ≡ true) × (x ≡ y)
guarded true x y e = (refl, some_is x y e)
guarded false x y e = absurd cc

record Parted (bytes : List ℕ) (p : List ℕ × List ℕ) : Type 0 where
  pub joined : bytes ≡ p.0 ++ 46 ∷ p.1
  pub last : has_point p.1 ≡ false

parted : (bytes : List ℕ) (p : List ℕ × List ℕ) → at_last_point bytes ≡ Some p → Parted bytes p
parted [] p e = absurd cc
parted (b ∷ bytes) p e = by (at_last_point bytes) refl (parted bytes) e
  where
    by : (o : Option (List ℕ × List ℕ)) → at_last_point bytes ≡ o → ((q : List ℕ × List ℕ) → at_last_point bytes ≡ Some q → Parted bytes q) → with_byte b o bytes ≡ Some p → Parted (b ∷ bytes) p
    by (Some q) is own h =
        let k = own q is in
        let same : (b ∷ q.0, q.1) ≡ p = some_is (b ∷ q.0, q.1) p h in
        subst (Parted (b ∷ bytes)) same (record { joined = ap (λ l. b ∷ l) k.joined; last = k.last })
    by None is own h =
        let g = guarded {A = List ℕ × List ℕ} (nat_eq b 46) ([], bytes) p h in
        subst (Parted (b ∷ bytes)) g.1 (record { joined = ap (λ c. c ∷ bytes) (eqb-true b 46 g.0); last = none_point bytes is })

-- ---- a sheet's name and an address in one word

mapped : {A B : Type 0} (f : A → B) (o : Option A) (y : B) → option_map f o ≡ Some y → (x : A) × (o ≡ Some x) × (f x ≡ y)
mapped f None y e = absurd cc
mapped f (Some x) y e = (x, refl, some_is (f x) y e)

abbrev corner : Given → ℕ → ℕ → Corner
corner sheet row column = record { sheet = sheet; row = row; column = column }

abbrev on_name : List ℕ → List ℕ → Option Corner
on_name text name = corner_on (Named name) (address_in text)

pub split_read : (bytes : List ℕ) {name : List ℕ} {row column : ℕ} → SpellsJoined bytes name row column → split_corner bytes ≡ Some (corner (Named name) row column)
split_read bytes {name = name} {row = row} {column = column} j =
    ap (option_and_then (λ (p : List ℕ × List ℕ). option_and_then (on_name p.1) (sheet_in p.0))) (ap at_last_point j.joined ∙ last_at j.sheet j.address j.last)
    ∙ ap (option_and_then (on_name j.address)) ((sheets_are_spelled j.sheet name).1 j.is_sheet)
    ∙ ap (corner_on (Named name)) (address_read j.address row column j.is_address)

record Split (bytes : List ℕ) (c : Corner) : Type 0 where
  pub name : List ℕ
  pub spelled : SpellsJoined bytes name c.row c.column
  pub is : c ≡ corner (Named name) c.row c.column

split : (bytes : List ℕ) (c : Corner) → split_corner bytes ≡ Some c → Split bytes c
split bytes c e =
    let p = bind_some (at_last_point bytes) (λ (p : List ℕ × List ℕ). option_and_then (on_name p.1) (sheet_in p.0)) c e in
    let n = bind_some (sheet_in p.0.0) (on_name p.0.1) c p.2 in
    let a = mapped (λ (a : ℕ × ℕ). corner (Named n.0) a.0 a.1) (address_in p.0.1) c n.2 in
    let k = parted bytes p.0 p.1 in
    subst (Split bytes) a.2 (record {
      name = n.0;
      spelled = record {
        sheet = p.0.0;
        address = p.0.1;
        joined = k.joined;
        last = k.last;
        is_sheet = (sheets_are_spelled p.0.0 n.0).0 n.1;
        is_address = address_spelled p.0.1 a.0 a.1;
      };
      is = refl;
    })

pub split_spelled : (bytes : List ℕ) (c : Corner) → split_corner bytes ≡ Some c → (name : List ℕ) × SpellsJoined bytes name c.row c.column × (c ≡ corner (Named name) c.row c.column)
split_spelled bytes c e = let k = split bytes c e in (k.name, k.spelled, k.is)

-- ---- words

module _ (S : Setting) (bytes : List ℕ) where
  abbrev listed : Option Corner → Option Corner
  listed o = option_and_then (λ c. if_listed S.sheets c.sheet c) o

  abbrev by_address : Option (ℕ × ℕ) → Option Corner
  by_address o = or_else (corner_on Own o) (listed (split_corner bytes))

  pub word_read : {c : Corner} → SpellsWord S bytes c → word_corner S bytes ≡ Some c
  word_read (address {row = row} {column = column} other is) =
      ap (λ o. unless_logical o (by_address (address_in bytes))) other ∙ ap by_address (address_read bytes row column is)
  word_read (with_sheet {name = name} {row = row} {column = column} {id = id} other none j there) =
      ap (λ o. unless_logical o (by_address (address_in bytes))) other ∙ ap by_address (no_address bytes none) ∙ ap listed (split_read bytes j)
      ∙ ap (option_map (λ _. corner (Named name) row column)) there

  pub word_spelled : (c : Corner) → word_corner S bytes ≡ Some c → SpellsWord S bytes c
  word_spelled c e = by (logical_word bytes) refl e
    where
      with_name : logical_word bytes ≡ None → address_in bytes ≡ None → listed (split_corner bytes) ≡ Some c → SpellsWord S bytes c
      with_name other none h =
          let d = bind_some (split_corner bytes) (λ (d : Corner). if_listed S.sheets d.sheet d) c h in
          let j = split bytes d.0 d.1 in
          let there = mapped (λ _. d.0) (place_in S.sheets j.name) c (ap (λ g. if_listed S.sheets g d.0) (sym (ap (λ (x : Corner). x.sheet) j.is)) ∙ d.2) in
          let no : (r k : ℕ) → IsAddress bytes r k → ⊥ = λ r k a. let both = sym none ∙ address_read bytes r k a in cc in
          subst (SpellsWord S bytes) (sym j.is ∙ there.2) (with_sheet other no j.spelled there.1)

      by_place : logical_word bytes ≡ None → (o : Option (ℕ × ℕ)) → address_in bytes ≡ o → by_address o ≡ Some c → SpellsWord S bytes c
      by_place other (Some a) is h = subst (SpellsWord S bytes) (some_is (corner Own a.0 a.1) c h) (address other (address_spelled bytes a is))
      by_place other None is h = with_name other is h

      by : (o : Option Bool) → logical_word bytes ≡ o → unless_logical o (by_address (address_in bytes)) ≡ Some c → SpellsWord S bytes c
      by (Some b) is h = absurd cc
      by None is h = by_place is (address_in bytes) refl h

  -- where none is spelled, none is read, and the other way round
  pub word_none : ((c : Corner) → SpellsWord S bytes c → ⊥) → word_corner S bytes ≡ None
  word_none none = by (word_corner S bytes) refl
    where
      by : (o : Option Corner) → word_corner S bytes ≡ o → word_corner S bytes ≡ None
      by (Some c) is = absurd (none c (word_spelled c is))
      by None is = is

  pub no_word : word_corner S bytes ≡ None → (c : Corner) → SpellsWord S bytes c → ⊥
  no_word none c h = let both = sym none ∙ word_read h in cc
