-- The names of records, and names that are put behind others.
use Rattle.std.proofs.Common.{◌≡◌, ◌≢◌, ◌≤◌, ◌+◌, ℕ, zero, suc, Bool, cond, drop, true, false, List, [], ◌∷◌, map, length, Option, Some, None, refl, sym, ap, ◌∙◌, arith}
use Rattle.std.specs.Prelude.{if◌then◌else◌, is_some, option_map, slice_get}
use Rattle.std.specs.List.{find, list_any}
use denote.Ref.{Bor}
use Rattle.std.proofs.lemmas.List.{drop_all}
use Rattle.workbook.proofs.Gathering.{left_from}
use Rattle.sheet_csv.specs.Sheet.{Record}
use Rattle.workbook.specs.Files.{is_name, name_in, name_on, sheet_in}
use Rattle.std.specs.Char.{to_ascii_lowercase}
use Rattle.std.specs.Map.{lookup}
use Rattle.workbook.specs.declared.names.Key.{Key}
use Rattle.workbook.specs.Keyed.{AllAreKeyed, is_key}
use Rattle.workbook.specs.State.{Name, is_called, text_of}
use Rattle.workbook.proofs.NameLaws.{any_found, found, names_of, text_in}

same_text : (a b : List ℕ) → Some a ≡ Some b → a ≡ b
same_text a b e = cc

-- ---- records of three or four fields
abbrev name_if : List ℕ → List ℕ → List ℕ → Option (List ℕ) → Option ℕ → Bool → Option Name
name_if s b t c sheet is = if is then Some (record { sheet = sheet; sheet_text = s; name = b; text = t; comment = c }) else None

no_name_on : (s b t : List ℕ) (c : Option (List ℕ)) (o : Option (Option ℕ)) → is_name b ≡ false → None ≡ name_on s b t c o
no_name_on s b t c None e = refl
no_name_on s b t c (Some sheet) e = ap (name_if s b t c sheet) (sym e)

-- a record of another number of fields
pub not_row : (sheets : List (List ℕ)) (fields : Record) → length fields ≢ 3 → length fields ≢ 4 → None ≡ name_in sheets fields
not_row sheets [] three four = refl
not_row sheets (a ∷ []) three four = refl
not_row sheets (a ∷ b ∷ []) three four = refl
not_row sheets (a ∷ b ∷ t ∷ []) three four = absurd (three refl)
not_row sheets (a ∷ b ∷ t ∷ c ∷ []) three four = absurd (four refl)
not_row sheets (a ∷ b ∷ t ∷ c ∷ d ∷ fields) three four = refl

module _ (sheets : List (List ℕ)) (x y z : List ℕ) where
  same_fields : (a b t : List ℕ) (c : Option (List ℕ)) → Some a ≡ Some x → Some b ≡ Some y → Some t ≡ Some z
      → name_on x y z c (sheet_in sheets x) ≡ name_on a b t c (sheet_in sheets a)
  same_fields a b t c p q r =
      ap (λ l. name_on l y z c (sheet_in sheets l)) (sym (same_text a x p))
      ∙ ap (λ l. name_on a l z c (sheet_in sheets a)) (sym (same_text b y q))
      ∙ ap (λ l. name_on a b l c (sheet_in sheets a)) (sym (same_text t z r))

  -- the fourth field is the comment, where there is one
  as_named : (fields : Record) → 3 ≤ length fields → length fields ≤ 4 → slice_get fields 0 ≡ Some x → slice_get fields 1 ≡ Some y → slice_get fields 2 ≡ Some z
      → name_on x y z (slice_get fields 3) (sheet_in sheets x) ≡ name_in sheets fields
  as_named [] least most p q r = absurd (omega arith)
  as_named (a ∷ []) least most p q r = absurd (omega arith)
  as_named (a ∷ b ∷ []) least most p q r = absurd (omega arith)
  as_named (a ∷ b ∷ t ∷ []) least most p q r = same_fields a b t None p q r
  as_named (a ∷ b ∷ t ∷ c ∷ []) least most p q r = same_fields a b t (Some c) p q r
  as_named (a ∷ b ∷ t ∷ c ∷ d ∷ fields) least most p q r = absurd (omega arith)

  module _ (fields : Record) (least : 3 ≤ length fields) (most : length fields ≤ 4) (p : slice_get fields 0 ≡ Some x) (q : slice_get fields 1 ≡ Some y) (r : slice_get fields 2 ≡ Some z) where
    pub not_sheet : None ≡ sheet_in sheets x → None ≡ name_in sheets fields
    not_sheet f = ap (name_on x y z (slice_get fields 3)) f ∙ as_named fields least most p q r

    pub not_name : is_name y ≡ false → None ≡ name_in sheets fields
    not_name e = no_name_on x y z (slice_get fields 3) (sheet_in sheets x) e ∙ as_named fields least most p q r

    pub is_row : (comment : Option (List ℕ)) (sheet : Option ℕ) → comment ≡ slice_get fields 3 → is_name y ≡ true → Some sheet ≡ sheet_in sheets x
        → Some (record { sheet = sheet; sheet_text = x; name = y; text = z; comment = comment }) ≡ name_in sheets fields
    is_row comment sheet c e f =
        ap (name_if x y z comment sheet) (sym e) ∙ ap (name_on x y z comment) f
        ∙ ap (λ c. name_on x y z c (sheet_in sheets x)) c ∙ as_named fields least most p q r

-- ---- whether a name is there
seen_some : (r : Option (Bor (List ℕ))) → is_some r ≡ is_some (option_map (λ (t : Bor (List ℕ)). t.now) r)
seen_some None = refl
seen_some (Some t) = refl

text_some : (o : Option Name) → is_some (text_in o) ≡ is_some o
text_some None = refl
text_some (Some n) = refl

pub is_there : (r : Option (Bor (List ℕ))) (names : List Name) (sheet : Option ℕ) (name : List ℕ) → option_map (λ (t : Bor (List ℕ)). t.now) r ≡ text_of names sheet name
    → is_some r ≡ list_any (is_called sheet name) names
is_there r names sheet name e =
    seen_some r ∙ ap is_some e ∙ text_some (find (is_called sheet name) names) ∙ any_found (is_called sheet name) names

none_found : (o : Option Name) → is_some o ≡ false → o ≡ None
none_found None e = refl
none_found (Some n) e = absurd cc

pub not_there : (key : Key) (name : List ℕ) (es : List (Key × Name)) (names : List Name) → names_of es ≡ names → key.letters.items ≡ map to_ascii_lowercase name → AllAreKeyed es
    → list_any (is_called key.sheet name) names ≡ false → lookup (is_key key) es ≡ None
not_there key name es names is small keyed e =
    found key name es small keyed ∙ ap (find (is_called key.sheet name)) is
    ∙ none_found (find (is_called key.sheet name) names) (any_found (is_called key.sheet name) names ∙ e)

-- ---- each name is looked at
pub index_names : (es : List (Key × Name)) (i : ℕ) (e : Key × Name) → slice_get es i ≡ Some e → slice_get (names_of es) i ≡ Some e.1
index_names [] i e at = cc at
index_names (d ∷ es) zero e at = ap (option_map (λ (x : Key × Name). x.1)) at
index_names (d ∷ es) (suc i) e at = index_names es i e at

module _ (t : Name → Bool) (ns : List Name) (i : ℕ) (n : Name) (at : slice_get ns i ≡ Some n) (so_far : find t ns ≡ find t (drop i ns)) where
  here : find t ns ≡ cond (t n) (Some n) (find t (drop (i + 1) ns))
  here = so_far ∙ ap (find t) (left_from ns i n at)

  pub found_at : (text : List ℕ) → t n ≡ true → text ≡ n.text → Some text ≡ text_in (find t ns)
  found_at text h is = ap Some is ∙ sym (ap text_in (here ∙ ap (λ b. cond b (Some n) (find t (drop (i + 1) ns))) h))

  pub passed_at : t n ≡ false → find t ns ≡ find t (drop (i + 1) ns)
  passed_at h = here ∙ ap (λ b. cond b (Some n) (find t (drop (i + 1) ns))) h

pub nowhere_found : (t : Name → Bool) (ns : List Name) (i : ℕ) → length ns ≤ i → find t ns ≡ find t (drop i ns) → None ≡ text_in (find t ns)
nowhere_found t ns i h so_far = sym (ap text_in (so_far ∙ ap (find t) (drop_all i ns h)))
