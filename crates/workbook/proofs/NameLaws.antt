-- Names in a map by their keys, as a list.
use Rattle.std.proofs.Common.{◌≡◌, ◌≤◌, ℕ, Bool, true, false, cond, List, [], ◌∷◌, ◌++◌, map, length, All, Option, Some, None, refl, sym, ap, ◌∙◌, arith}
use denote.Ref.{Bor}
use Rattle.std.specs.Prelude.{IfSome, ◌&&◌, ◌||◌, ◌==◌, nat_eq, option_map, is_some, unwrap_or}
use Rattle.std.specs.Option.{option_eq}
use Rattle.std.specs.Char.{to_ascii_lowercase}
use Rattle.std.specs.List.{find, list_any}
use Rattle.std.specs.Map.{lookup}
use Rattle.std.specs.Str.{bytes_eq}
use Rattle.std.proofs.lemmas.List.Elements.{All-head, All-tail}
use Rattle.std.proofs.lemmas.Bool.Decides.{nat_tests}
use Rattle.cell_refs.specs.Names.{same_letters}
use Rattle.workbook.specs.declared.names.Key.{Key}
use Rattle.workbook.specs.Kinds.{first_of}
use Rattle.workbook.specs.Keyed.{AllAreKeyed, IsKeyed, is_key}
use Rattle.workbook.specs.Scoped.{IsShort, text_for}
use Rattle.workbook.specs.State.{Name, is_called, is_same_sheet, text_of}

-- ---- tests
turned : (a b : ℕ) → nat_eq a b ≡ (b == a)
turned a b = grind (arith, nat_tests)

same_sheet : (a b : Option ℕ) → option_eq nat_eq a b ≡ is_same_sheet b a
same_sheet None None = refl
same_sheet None (Some b) = refl
same_sheet (Some a) None = refl
same_sheet (Some a) (Some b) = turned a b

small_same : (a b : List ℕ) → bytes_eq (map to_ascii_lowercase a) (map to_ascii_lowercase b) ≡ same_letters b a
small_same [] [] = refl
small_same [] (b ∷ bs) = refl
small_same (a ∷ xs) [] = refl
small_same (a ∷ xs) (b ∷ bs) = λ i. turned (to_ascii_lowercase a) (to_ascii_lowercase b) i && small_same xs bs i

pub test_is : (key : Key) (name : List ℕ) (e : Key × Name) → key.letters.items ≡ map to_ascii_lowercase name → IsKeyed e → is_key key e.0 ≡ is_called key.sheet name e.1
test_is key name e small keyed =
    ap (λ s. option_eq nat_eq key.sheet s && bytes_eq key.letters.items e.0.letters.items) keyed.sheet
    ∙ ap (λ l. option_eq nat_eq key.sheet e.1.sheet && bytes_eq l e.0.letters.items) small
    ∙ ap (λ l. option_eq nat_eq key.sheet e.1.sheet && bytes_eq (map to_ascii_lowercase name) l) keyed.letters
    ∙ ap (λ b. option_eq nat_eq key.sheet e.1.sheet && b) (small_same name e.1.name)
    ∙ ap (λ b. b && same_letters e.1.name name) (same_sheet key.sheet e.1.sheet)

abbrev pub Entries : Type 0
Entries = List (Key × Name)

abbrev pub names_of : Entries → List Name
names_of es = map (λ (e : Key × Name). e.1) es

-- the name that a key finds is the first that is called so
pub found : (key : Key) (name : List ℕ) (es : Entries) → key.letters.items ≡ map to_ascii_lowercase name → AllAreKeyed es
    → lookup (is_key key) es ≡ find (is_called key.sheet name) (names_of es)
found key name [] small keyed = refl
found key name (e ∷ es) small keyed =
    ap (λ b. cond b (Some e.1) (lookup (is_key key) es)) (test_is key name e small keyed.0)
    ∙ ap (cond (is_called key.sheet name e.1) (Some e.1)) (found key name es small keyed.1)

abbrev pub text_in : Option Name → Option (List ℕ)
text_in o = option_map (λ (n : Name). n.text) o

pub text_found : (key : Key) (name : List ℕ) (es : Entries) (names : List Name) → names_of es ≡ names → key.letters.items ≡ map to_ascii_lowercase name → AllAreKeyed es
    → text_in (lookup (is_key key) es) ≡ text_of names key.sheet name
text_found key name es names is small keyed = ap text_in (found key name es small keyed) ∙ ap (λ l. text_of l key.sheet name) is

-- ---- names one after the other
pub names-push : (es : Entries) (e : Key × Name) → names_of (es ++ e ∷ []) ≡ names_of es ++ e.1 ∷ []
names-push [] e = refl
names-push (d ∷ es) e = ap (λ l. d.1 ∷ l) (names-push es e)

pub any_found : (t : Name → Bool) (ns : List Name) → is_some (find t ns) ≡ list_any t ns
any_found t [] = refl
any_found t (n ∷ ns) = by_case (t n) (any_found t ns)
  where
    by_case : (b : Bool) → is_some (find t ns) ≡ list_any t ns → is_some (cond b (Some n) (find t ns)) ≡ (b || list_any t ns)
    by_case true e = refl
    by_case false e = e

pub keyed-push : (es : Entries) (e : Key × Name) → AllAreKeyed es → IsKeyed e → AllAreKeyed (es ++ e ∷ [])
keyed-push [] e all one = (one, tt)
keyed-push (d ∷ es) e all one = (all.0, keyed-push es e all.1 one)

-- ---- texts of names are short
short_found : (t : Name → Bool) (ns : List Name) (text : List ℕ) → All IsShort ns → Some text ≡ text_in (find t ns) → length text ≤ 8192
short_found t [] text all e = absurd cc
short_found t (n ∷ ns) text all e = by_case (t n) refl (short_found t ns text (All-tail IsShort n ns all))
  where
    by_case : (b : Bool) → t n ≡ b → (Some text ≡ text_in (find t ns) → length text ≤ 8192) → length text ≤ 8192
    by_case true h later =
        let told : Some text ≡ Some n.text = e ∙ ap (λ b. text_in (cond b (Some n) (find t ns))) h in
        let same : text ≡ n.text = ap (λ o. unwrap_or o text) told in
        rw same (All-head IsShort n ns all)
    by_case false h later = later (e ∙ ap (λ b. text_in (cond b (Some n) (find t ns))) h)

pub short_of : (ns : List Name) (sheet : Option ℕ) (name text : List ℕ) → All IsShort ns → Some text ≡ text_of ns sheet name → length text ≤ 8192
short_of ns sheet name text all e = short_found (is_called sheet name) ns text all e

pub short_there : (ns : List Name) (sheet : Option ℕ) (name : List ℕ) (text : Option (Bor (List ℕ))) → All IsShort ns
    → option_map (λ (t : Bor (List ℕ)). t.now) text ≡ text_of ns sheet name → IfSome text (λ t. length t.now ≤ 8192)
short_there ns sheet name None all e = tt
short_there ns sheet name (Some text) all e = short_of ns sheet name text.now all e

pub short_for : (ns : List Name) (home : ℕ) (name text : List ℕ) → All IsShort ns → Some text ≡ text_for ns home name → length text ≤ 8192
short_for ns home name text all e = by_case (text_of ns (Some home) name) refl
  where
    by_case : (o : Option (List ℕ)) → text_of ns (Some home) name ≡ o → length text ≤ 8192
    by_case None h = short_found (is_called None name) ns text all (e ∙ ap (λ o. first_of o (text_of ns None name)) h)
    by_case (Some own) h = short_found (is_called (Some home) name) ns text all (e ∙ ap (λ o. first_of o (text_of ns None name)) h ∙ sym h)
