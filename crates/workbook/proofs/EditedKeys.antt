-- A name that gets a text, or goes, by its key.
use Rattle.std.proofs.Common.{◌≡◌, ◌+◌, ℕ, Bool, true, false, cond, List, [], ◌∷◌, ◌++◌, map, drop, Option, Some, None, refl, sym, ap, ◌∙◌, append_assoc}
use Rattle.std.specs.Prelude.{if◌then◌else◌, slice_get, unwrap_or}
use Rattle.std.specs.Char.{to_ascii_lowercase}
use Rattle.std.specs.List.{IsDistinct, list_any}
use Rattle.std.specs.Map.{keys_of, lookup, set_value}
use Rattle.indexmap.specs.IndexMap.{shift_remove_entry}
use Rattle.sheet_csv.specs.Sheet.{Record}
use Rattle.workbook.specs.declared.names.Key.{Key}
use Rattle.workbook.specs.EditedNames.{retexted, with_named, without}
use Rattle.workbook.specs.Keyed.{AllAreKeyed, is_key}
use Rattle.workbook.specs.Naming.{with_new_text}
use Rattle.workbook.specs.Saving.{saved_name, saved_names}
use Rattle.workbook.specs.State.{Name, is_called}
use Rattle.workbook.proofs.Gathering.{left_from}
use Rattle.workbook.proofs.NameEdits.{removed_names, retexted_names}
use Rattle.workbook.proofs.NameLaws.{Entries, names_of, names-push}

one_name : (a b : Name) → Some a ≡ Some b → a ≡ b
one_name a b e = ap (λ o. unwrap_or o a) e

-- a text that is written into the place of what a key finds
pub written : (test : Key → Bool) (text : List ℕ) (es : Entries) (own : Name) → lookup test es ≡ Some own → set_value test es (record own { text = text }) ≡ retexted test text es
written test text [] own e = absurd cc
written test text (d ∷ es) own e = by (test d.0) e (written test text es own)
  where
    by : (b : Bool) → cond b (Some d.1) (lookup test es) ≡ Some own
        → (lookup test es ≡ Some own → set_value test es (record own { text = text }) ≡ retexted test text es)
        → cond b ((d.0, record own { text = text }) ∷ es) (d ∷ set_value test es (record own { text = text })) ≡ (if b then ((d.0, record d.1 { text = text }) ∷ es) else d ∷ retexted test text es)
    by true f ih = ap (λ (n : Name). (d.0, record n { text = text }) ∷ es) (sym (one_name d.1 own f))
    by false f ih = ap (λ l. d ∷ l) (ih f)

pub not_written : (test : Key → Bool) (text : List ℕ) (es : Entries) → lookup test es ≡ None → es ≡ retexted test text es
not_written test text [] e = refl
not_written test text (d ∷ es) e = by (test d.0) e (not_written test text es)
  where
    by : (b : Bool) → cond b (Some d.1) (lookup test es) ≡ None → (lookup test es ≡ None → es ≡ retexted test text es) → d ∷ es ≡ (if b then ((d.0, record d.1 { text = text }) ∷ es) else d ∷ retexted test text es)
    by true f ih = absurd cc
    by false f ih = ap (λ l. d ∷ l) (ih f)

module _ (key : Key) (n : Name) (es fs : Entries) (ns : List Name) (is : names_of es ≡ ns) (small : key.letters.items ≡ map to_ascii_lowercase n.name) (sheet : key.sheet ≡ n.sheet) where
  -- a name that is there
  pub put_there : (text : List ℕ) → AllAreKeyed es → IsDistinct is_key (keys_of es) → list_any (is_called n.sheet n.name) ns ≡ true → fs ≡ retexted (is_key key) text es → text ≡ n.text
      → names_of fs ≡ with_named ns n
  put_there text keyed unique there made same =
      ap names_of made ∙ retexted_names key n.name small text es keyed unique
      ∙ ap (λ s. map (with_new_text s n.name text) (names_of es)) sheet
      ∙ ap (λ t. map (with_new_text n.sheet n.name t) (names_of es)) same
      ∙ ap (map (with_new_text n.sheet n.name n.text)) is
      ∙ sym (ap (λ b. if b then map (with_new_text n.sheet n.name n.text) ns else ns ++ n ∷ []) there)

  -- a new name
  pub put_last : list_any (is_called n.sheet n.name) ns ≡ false → fs ≡ es ++ (key, n) ∷ [] → names_of fs ≡ with_named ns n
  put_last new made =
      ap names_of made ∙ names-push es (key, n) ∙ ap (λ l. l ++ n ∷ []) is
      ∙ sym (ap (λ b. if b then map (with_new_text n.sheet n.name n.text) ns else ns ++ n ∷ []) new)

-- a name that goes
pub gone : (key : Key) (sheet : Option ℕ) (name : List ℕ) (es fs : Entries) (ns : List Name) → names_of es ≡ ns → key.letters.items ≡ map to_ascii_lowercase name → key.sheet ≡ sheet → AllAreKeyed es
    → IsDistinct is_key (keys_of es) → fs ≡ shift_remove_entry (is_key key) es → names_of fs ≡ without sheet name ns
gone key sheet name es fs ns is small of keyed unique made =
    ap names_of made ∙ removed_names key name small es keyed unique ∙ ap (λ s. without s name (names_of es)) of ∙ ap (without sheet name) is

-- ---- records
pub row_on : (rows more total : List Record) (ns : List Name) (i : ℕ) (n : Name) → slice_get ns i ≡ Some n → more ≡ rows ++ saved_name n ∷ []
    → rows ++ saved_names (drop i ns) ≡ total → more ++ saved_names (drop (i + 1) ns) ≡ total
row_on rows more total ns i n at pushed so_far =
    ap (λ l. l ++ saved_names (drop (i + 1) ns)) pushed
    ∙ append_assoc rows (saved_name n ∷ []) (saved_names (drop (i + 1) ns))
    ∙ sym (ap (λ l. rows ++ saved_names l) (left_from ns i n at)) ∙ so_far
