-- The names after an edit.
use Rattle.std.proofs.Common.{◌≡◌, ◌≢◌, ◌≤◌, ◌+◌, ℕ, suc, Bool, true, false, cond, List, [], ◌∷◌, ◌++◌, map, length, Option, Some, None, Err, refl, sym, ap, ◌∙◌, arith}
use Rattle.std.specs.Prelude.{All, if◌then◌else◌, ◌&&◌, ◌||◌, nat_eq, nat_lt, not, option_map}
use Rattle.std.specs.Char.{to_ascii_lowercase}
use Rattle.std.specs.List.{AllByRecursion, IsDistinct, find}
use Rattle.std.specs.Map.{keys_of}
use Rattle.std.specs.Option.{option_eq}
use Rattle.std.specs.Str.{bytes_eq}
use Rattle.std.proofs.lemmas.Bool.Decides.{nat_tests}
use Rattle.std.proofs.lemmas.List.Elements.{All-cons, All-head, All-nil, All-push, All-tail}
use Rattle.std.proofs.lemmas.Slice.Eq.{bytes_eq-Decides}
use Rattle.indexmap.specs.IndexMap.{shift_remove_entry}
use Rattle.cell_refs.specs.Names.{same_letters}
use Rattle.cell_refs.proofs.Places.{same, other as letters}
use Rattle.cell_refs.specs.declared.limits.TheConstants.{NAMES, TEXT_BYTES}
use Rattle.workbook.specs.declared.fault.EditFault.{EditFault}
use Rattle.workbook.specs.declared.fault.EditFault.TheVariants as fault
use Rattle.workbook.specs.declared.names.Key.{Key}
use Rattle.workbook.specs.EditedNames.{retexted, with_named, without}
use Rattle.workbook.specs.Files.{is_name}
use Rattle.workbook.specs.Keyed.{AllAreKeyed, is_key}
use Rattle.workbook.specs.Naming.{Names, is_there, name_fault, names_after, new_name, with_new_text}
use Rattle.workbook.specs.Renamed.{OthersStay}
use Rattle.workbook.specs.Scoped.{IsShort}
use Rattle.workbook.specs.State.{Name, State, is_called, is_same_sheet, text_of}
use Rattle.workbook.proofs.NameLaws.{Entries, names_of, test_is}

length_mapped : {A B : Type 0} (f : A → B) (xs : List A) → length (map f xs) ≡ length xs
length_mapped f [] = refl
length_mapped f (x ∷ xs) = ap suc (length_mapped f xs)

length_pushed : {A : Type 0} (xs : List A) (x : A) → length (xs ++ x ∷ []) ≡ length xs + 1
length_pushed [] x = refl
length_pushed (y ∷ xs) x = let e = length_pushed xs x in omega arith

counted : (b : Bool) (f : Name → Name) (n : Name) (names : List Name) → length (if b then map f names else names ++ n ∷ []) ≡ (if b then length names else length names + 1)
counted true f n names = length_mapped f names
counted false f n names = length_pushed names n

-- a name that is there doesn't count anew
pub names_counted : (s : State) (sheet : Option ℕ) (name text : List ℕ) → length (names_after s sheet name text)
    ≡ (if is_there s.names sheet name then length s.names else length s.names + 1)
names_counted s sheet name text = counted (is_there s.names sheet name) (with_new_text sheet name text) (new_name s.sheets sheet name text) s.names

-- ---- refusals
pub too_many : (full there : Bool) (count : ℕ) (s : State) (sheet : Option ℕ) (name text : List ℕ) → full ≡ nat_lt NAMES (if there then count else count + 1)
    → there ≡ is_there s.names sheet name → count ≡ length s.names → full ≡ nat_lt NAMES (length (names_after s sheet name text))
too_many full there count s sheet name text e f g =
    e ∙ ap (λ b. nat_lt NAMES (if b then count else count + 1)) f
    ∙ ap (λ n. nat_lt NAMES (if is_there s.names sheet name then n else n + 1)) g
    ∙ ap (nat_lt NAMES) (sym (names_counted s sheet name text))

abbrev pub if_full : Bool → Option EditFault
if_full full = if full then Some fault.TooManyNames else None

abbrev first_cause : Bool → Bool → Bool → Option EditFault
first_cause good long full = if not good then Some fault.BadName else if long then Some fault.FieldTooLong else if_full full

-- a name that is good, and not too long
pub if_full_is : (s : State) (sheet : Option ℕ) (name text : List ℕ) (full : Bool) → is_name name ≡ true → nat_lt TEXT_BYTES (length name) ≡ false → nat_lt TEXT_BYTES (length text) ≡ false
    → full ≡ nat_lt NAMES (length (names_after s sheet name text)) → if_full full ≡ name_fault s sheet name text
if_full_is s sheet name text full good short text_short many =
    let all = nat_lt NAMES (length (names_after s sheet name text)) in
    ap if_full many
    ∙ ap (λ b. first_cause true (false || b) all) (sym text_short)
    ∙ ap (λ b. first_cause true (b || nat_lt TEXT_BYTES (length text)) all) (sym short)
    ∙ ap (λ b. first_cause b (nat_lt TEXT_BYTES (length name) || nat_lt TEXT_BYTES (length text)) all) (sym good)

-- want of memory is no cause
no_memory : (good long full : Bool) → first_cause good long full ≢ Some fault.Memory
no_memory false long full e = absurd cc
no_memory true true full e = absurd cc
no_memory true false true e = absurd cc
no_memory true false false e = absurd cc

-- a cause is told
pub cause_told : (s : State) (sheet : Option ℕ) (name text : List ℕ) (f : EditFault) → name_fault s sheet name text ≡ Some f → Names s sheet name text (Err f) s
cause_told s sheet name text fault.OutOfSheet e = (e, refl)
cause_told s sheet name text fault.FieldTooLong e = (e, refl)
cause_told s sheet name text fault.TooManyCells e = (e, refl)
cause_told s sheet name text fault.TooManyFormulas e = (e, refl)
cause_told s sheet name text fault.BadName e = (e, refl)
cause_told s sheet name text fault.TooManyNames e = (e, refl)
cause_told s sheet name text fault.Memory e =
    absurd (no_memory (is_name name) (nat_lt TEXT_BYTES (length name) || nat_lt TEXT_BYTES (length text)) (nat_lt NAMES (length (names_after s sheet name text))) e)

-- ---- names by their keys, no two of which are one
same_option : (s t : Option ℕ) → option_eq nat_eq s t ≡ true → s ≡ t
same_option None None e = refl
same_option None (Some b) e = absurd cc
same_option (Some a) None e = absurd cc
same_option (Some a) (Some b) e = ap Some (grind (arith, nat_tests))

both_true : (a b : Bool) → (a && b) ≡ true → (a ≡ true) × (b ≡ true)
both_true true b e = (refl, e)
both_true false b e = absurd cc

same_sheet_of : (a b : Key) → is_key a b ≡ true → a.sheet ≡ b.sheet
same_sheet_of a b e = same_option a.sheet b.sheet (both_true (option_eq nat_eq a.sheet b.sheet) (bytes_eq a.letters.items b.letters.items) e).0

same_letters_of : (a b : Key) → is_key a b ≡ true → a.letters.items ≡ b.letters.items
same_letters_of a b e =
    (bytes_eq-Decides a.letters.items b.letters.items).0 (both_true (option_eq nat_eq a.sheet b.sheet) (bytes_eq a.letters.items b.letters.items) e).1

-- a key is another where the one that it is is
key_as : (a b k : Key) → is_key a b ≡ true → is_key a k ≡ is_key b k
key_as a b k e =
    ap (λ s. option_eq nat_eq s k.sheet && bytes_eq a.letters.items k.letters.items) (same_sheet_of a b e)
    ∙ ap (λ l. option_eq nat_eq b.sheet k.sheet && bytes_eq l k.letters.items) (same_letters_of a b e)

abbrev AreOthers : Key → List Key → Type 0
AreOthers key keys = AllByRecursion (λ (k : Key). is_key key k ≡ false) keys

others_too : (a b : Key) (keys : List Key) → is_key a b ≡ true → AreOthers b keys → AreOthers a keys
others_too a b [] e h = tt
others_too a b (k ∷ keys) e h = (key_as a b k e ∙ h.0, others_too a b keys e h.1)

first_others : (k : Key) (keys : List Key) → IsDistinct is_key (k ∷ keys) → AreOthers k keys
unfolding IsDistinct
first_others k keys h = h.0

later_of : (k : Key) (keys : List Key) → IsDistinct is_key (k ∷ keys) → IsDistinct is_key keys
unfolding IsDistinct
later_of k keys h = h.1

module _ (key : Key) (name : List ℕ) (small : key.letters.items ≡ map to_ascii_lowercase name) where
  module _ (text : List ℕ) where
    abbrev textual : Name → Name
    textual n = with_new_text key.sheet name text n

    unchanged : (es : Entries) → AllAreKeyed es → AreOthers key (keys_of es) → map textual (names_of es) ≡ names_of es
    unchanged [] keyed h = refl
    unchanged (e ∷ es) keyed h = λ i. at i ∷ unchanged es keyed.1 h.1 i
      where
        at : textual e.1 ≡ e.1
        at = ap (λ b. if b then record e.1 { text = text } else e.1) (sym (test_is key name e small keyed.0) ∙ h.0)

    -- the one name that is called so has the text
    pub retexted_names : (es : Entries) → AllAreKeyed es → IsDistinct is_key (keys_of es) → names_of (retexted (is_key key) text es) ≡ map textual (names_of es)
    retexted_names [] keyed h = refl
    retexted_names (e ∷ es) keyed h = by (is_key key e.0) refl (retexted_names es keyed.1 (later_of e.0 (keys_of es) h))
      where
        called : is_key key e.0 ≡ is_called key.sheet name e.1
        called = test_is key name e small keyed.0

        by : (b : Bool) → is_key key e.0 ≡ b → names_of (retexted (is_key key) text es) ≡ map textual (names_of es) → names_of (if b then ((e.0, record e.1 { text = text }) ∷ es) else e ∷ retexted (is_key key) text es) ≡ textual e.1 ∷ map textual (names_of es)
        by true t ih =
            let at : record e.1 { text = text } ≡ textual e.1 = ap (λ b. if b then record e.1 { text = text } else e.1) (sym t ∙ called) in
            let rest : names_of es ≡ map textual (names_of es) = sym (unchanged es keyed.1 (others_too key e.0 (keys_of es) t (first_others e.0 (keys_of es) h))) in
            λ i. at i ∷ rest i
        by false t ih =
            let at : e.1 ≡ textual e.1 = ap (λ b. if b then record e.1 { text = text } else e.1) (sym t ∙ called) in
            λ i. at i ∷ ih i

    pub retexted_keyed : (es : Entries) → AllAreKeyed es → AllAreKeyed (retexted (is_key key) text es)
    retexted_keyed [] keyed = tt
    retexted_keyed (e ∷ es) keyed = by (is_key key e.0) (retexted_keyed es keyed.1)
      where
        by : (b : Bool) → AllAreKeyed (retexted (is_key key) text es) → AllAreKeyed (if b then ((e.0, record e.1 { text = text }) ∷ es) else e ∷ retexted (is_key key) text es)
        by true ih = (record { sheet = keyed.0.sheet; letters = keyed.0.letters }, keyed.1)
        by false ih = (keyed.0, ih)

  all_stay : (es : Entries) → AllAreKeyed es → AreOthers key (keys_of es) → names_of es ≡ without key.sheet name (names_of es)
  all_stay [] keyed h = refl
  all_stay (e ∷ es) keyed h =
      ap (λ l. e.1 ∷ l) (all_stay es keyed.1 h.1)
      ∙ ap (λ b. if not b then e.1 ∷ without key.sheet name (names_of es) else without key.sheet name (names_of es)) (sym h.0 ∙ test_is key name e small keyed.0)

  -- the one name that is called so is gone
  pub removed_names : (es : Entries) → AllAreKeyed es → IsDistinct is_key (keys_of es) → names_of (shift_remove_entry (is_key key) es) ≡ without key.sheet name (names_of es)
  removed_names [] keyed h = refl
  removed_names (e ∷ es) keyed h = by (is_key key e.0) refl (removed_names es keyed.1 (later_of e.0 (keys_of es) h))
    where
      others : List Name
      others = without key.sheet name (names_of es)

      called : is_key key e.0 ≡ is_called key.sheet name e.1
      called = test_is key name e small keyed.0

      by : (b : Bool) → is_key key e.0 ≡ b → names_of (shift_remove_entry (is_key key) es) ≡ without key.sheet name (names_of es) → names_of (cond b es (e ∷ shift_remove_entry (is_key key) es)) ≡ without key.sheet name (e.1 ∷ names_of es)
      by true t ih =
          all_stay es keyed.1 (others_too key e.0 (keys_of es) t (first_others e.0 (keys_of es) h))
          ∙ ap (λ b. if not b then e.1 ∷ without key.sheet name (names_of es) else without key.sheet name (names_of es)) (sym t ∙ called)
      by false t ih =
          ap (λ l. e.1 ∷ l) ih
          ∙ ap (λ b. if not b then e.1 ∷ without key.sheet name (names_of es) else without key.sheet name (names_of es)) (sym t ∙ called)

  pub removed_keyed : (es : Entries) → AllAreKeyed es → AllAreKeyed (shift_remove_entry (is_key key) es)
  removed_keyed [] keyed = tt
  removed_keyed (e ∷ es) keyed = by (is_key key e.0) (removed_keyed es keyed.1)
    where
      by : (b : Bool) → AllAreKeyed (shift_remove_entry (is_key key) es) → AllAreKeyed (cond b es (e ∷ shift_remove_entry (is_key key) es))
      by true ih = keyed.1
      by false ih = (keyed.0, ih)

-- ---- the texts of other names
module _ (name other : List ℕ) (apart : same_letters other name ≡ false) where
  one_or_other : (n : List ℕ) → same_letters n name ≡ true → same_letters n other ≡ false
  one_or_other n e = by (same_letters n other) refl
    where
      by : (b : Bool) → same_letters n other ≡ b → same_letters n other ≡ false
      by false f = f
      by true f = absurd (let k : same_letters other name ≡ true = same other name (sym (letters n other f) ∙ letters n name e) in let j : true ≡ false = sym k ∙ apart in cc)

  uncalled : (s t : Option ℕ) (n : Name) → is_called s name n ≡ true → is_called t other n ≡ false
  uncalled s t n e = never (is_same_sheet n.sheet t) (same_letters n.name other) (one_or_other n.name (both_true (is_same_sheet n.sheet s) (same_letters n.name name) e).1)
    where
      never : (a b : Bool) → b ≡ false → (a && b) ≡ false
      never true b f = f
      never false b f = refl

module _ (name other : List ℕ) (s t : Option ℕ) (never : (n : Name) → is_called s name n ≡ true → is_called t other n ≡ false) where
  -- texts that are given to a name
  pub retexted_other : (text : List ℕ) (ns : List Name) → text_of (map (with_new_text s name text) ns) t other ≡ text_of ns t other
  retexted_other text [] = refl
  retexted_other text (n ∷ ns) = by (is_called s name n) refl (retexted_other text ns)
    where
      rest : Option (List ℕ)
      rest = text_of ns t other

      picked : (a b : Name) (o p : Option Name) (x y : Bool) → x ≡ y → a.text ≡ b.text → option_map (λ (n : Name). n.text) o ≡ option_map (λ (n : Name). n.text) p
          → option_map (λ (n : Name). n.text) (cond x (Some a) o) ≡ option_map (λ (n : Name). n.text) (cond y (Some b) p)
      picked a b o p true true e f g = ap Some f
      picked a b o p false false e f g = g
      picked a b o p true false e f g = absurd cc
      picked a b o p false true e f g = absurd cc

      by : (b : Bool) → is_called s name n ≡ b → text_of (map (with_new_text s name text) ns) t other ≡ text_of ns t other
          → text_of ((if b then record n { text = text } else n) ∷ map (with_new_text s name text) ns) t other ≡ text_of (n ∷ ns) t other
      by true e ih =
          let no : is_called t other n ≡ false = never n e in
          ap (λ x. option_map (λ (n : Name). n.text) (cond x (Some (record n { text = text })) (find (is_called t other) (map (with_new_text s name text) ns)))) no
          ∙ ih ∙ sym (ap (λ x. option_map (λ (n : Name). n.text) (cond x (Some n) (find (is_called t other) ns))) no)
      by false e ih = picked n n (find (is_called t other) (map (with_new_text s name text) ns)) (find (is_called t other) ns) (is_called t other n) (is_called t other n) refl refl ih

  pub pushed_other : (n : Name) (ns : List Name) → is_called s name n ≡ true → text_of (ns ++ n ∷ []) t other ≡ text_of ns t other
  pushed_other n [] e = ap (λ x. option_map (λ (n : Name). n.text) (cond x (Some n) None)) (never n e)
  pushed_other n (m ∷ ns) e = by (is_called t other m) (pushed_other n ns e)
    where
      by : (b : Bool) → text_of (ns ++ n ∷ []) t other ≡ text_of ns t other → option_map (λ (n : Name). n.text) (cond b (Some m) (find (is_called t other) (ns ++ n ∷ []))) ≡ option_map (λ (n : Name). n.text) (cond b (Some m) (find (is_called t other) ns))
      by true ih = refl
      by false ih = ih

  pub removed_other : (ns : List Name) → text_of (without s name ns) t other ≡ text_of ns t other
  removed_other [] = refl
  removed_other (n ∷ ns) = by (is_called s name n) refl (removed_other ns)
    where
      still : (b : Bool) → text_of (without s name ns) t other ≡ text_of ns t other
          → option_map (λ (n : Name). n.text) (cond b (Some n) (find (is_called t other) (without s name ns))) ≡ option_map (λ (n : Name). n.text) (cond b (Some n) (find (is_called t other) ns))
      still true ih = refl
      still false ih = ih

      by : (b : Bool) → is_called s name n ≡ b → text_of (without s name ns) t other ≡ text_of ns t other
          → text_of (if not b then n ∷ without s name ns else without s name ns) t other ≡ text_of (n ∷ ns) t other
      by true e ih = ih ∙ sym (ap (λ x. option_map (λ (n : Name). n.text) (cond x (Some n) (find (is_called t other) ns))) (never n e))
      by false e ih = still (is_called t other n) ih

-- a name is called what it is
own_sheet : (s : Option ℕ) → is_same_sheet s s ≡ true
own_sheet None = refl
own_sheet (Some a) = grind (arith, nat_tests)

pub own_name : (n : Name) → is_called n.sheet n.name n ≡ true
own_name n = ap (λ b. b && same_letters n.name n.name) (own_sheet n.sheet) ∙ same n.name n.name refl

pub others_stay_named : (n : Name) (ns : List Name) → OthersStay n.name ns (with_named ns n)
others_stay_named n ns t other apart = by (is_there ns n.sheet n.name)
  where
    by : (b : Bool) → text_of (if b then map (with_new_text n.sheet n.name n.text) ns else ns ++ n ∷ []) t other ≡ text_of ns t other
    by true = retexted_other n.name other n.sheet t (uncalled n.name other apart n.sheet t) n.text ns
    by false = pushed_other n.name other n.sheet t (uncalled n.name other apart n.sheet t) n ns (own_name n)

pub others_stay_without : (s : Option ℕ) (name : List ℕ) (ns : List Name) → OthersStay name ns (without s name ns)
others_stay_without s name ns t other apart = removed_other name other s t (uncalled name other apart s t) ns

-- ---- texts stay short
short_retexted : (s : Option ℕ) (name text : List ℕ) (ns : List Name) → length text ≤ 8192 → All IsShort ns → All IsShort (map (with_new_text s name text) ns)
short_retexted s name text [] h all = All-nil IsShort
short_retexted s name text (n ∷ ns) h all =
    All-cons IsShort (with_new_text s name text n) (map (with_new_text s name text) ns) (by (is_called s name n)) (short_retexted s name text ns h (All-tail IsShort n ns all))
  where
    by : (b : Bool) → IsShort (if b then record n { text = text } else n)
    by true = h
    by false = All-head IsShort n ns all

pub short_named : (n : Name) (ns : List Name) → length n.text ≤ 8192 → All IsShort ns → All IsShort (with_named ns n)
short_named n ns h all = by (is_there ns n.sheet n.name)
  where
    by : (b : Bool) → All IsShort (if b then map (with_new_text n.sheet n.name n.text) ns else ns ++ n ∷ [])
    by true = short_retexted n.sheet n.name n.text ns h all
    by false = All-push IsShort ns n all h

pub short_without : (s : Option ℕ) (name : List ℕ) (ns : List Name) → All IsShort ns → All IsShort (without s name ns)
short_without s name [] all = All-nil IsShort
short_without s name (n ∷ ns) all = by (is_called s name n) (short_without s name ns (All-tail IsShort n ns all))
  where
    by : (b : Bool) → All IsShort (without s name ns) → All IsShort (if not b then n ∷ without s name ns else without s name ns)
    by true ih = ih
    by false ih = All-cons IsShort n (without s name ns) (All-head IsShort n ns all) ih

-- the text of a name that has no fault is short
pub text_short : (s : State) (sheet : Option ℕ) (name text : List ℕ) → name_fault s sheet name text ≡ None → length text ≤ 8192
text_short s sheet name text e =
    within (is_name name) (nat_lt TEXT_BYTES (length name)) (nat_lt TEXT_BYTES (length text)) (nat_lt NAMES (length (names_after s sheet name text))) refl e
  where
    at_most : (n : ℕ) → nat_lt 8192 n ≡ false → n ≤ 8192
    at_most n h = grind (arith, nat_tests)

    within : (good a b full : Bool) → nat_lt TEXT_BYTES (length text) ≡ b → first_cause good (a || b) full ≡ None → length text ≤ 8192
    within false a b full h f = absurd cc
    within true true b full h f = absurd cc
    within true false true full h f = absurd cc
    within true false false full h f = at_most (length text) h

pub short_after : (s : State) (sheet : Option ℕ) (name text : List ℕ) → length text ≤ 8192 → All IsShort s.names → All IsShort (names_after s sheet name text)
short_after s sheet name text h all = short_named (new_name s.sheets sheet name text) s.names h all
