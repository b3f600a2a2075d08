-- Records that are names' are saved as they were found.
use Rattle.std.proofs.Common.{◌≡◌, ℕ, Bool, true, false, List, [], ◌∷◌, ◌++◌, Option, Some, None, refl, sym, ap, ◌∙◌, append_assoc, append-nil}
use Rattle.std.specs.Prelude.{if◌then◌else◌, not, unwrap_or}
use Rattle.std.proofs.lemmas.List.{map-append}
use Rattle.sheet_csv.specs.Sheet.{Record}
use Rattle.workbook.specs.Files.{bad_name_row, here_or_later, is_name, is_new, name_in, name_on, names_in, sheet_in, with_name}
use Rattle.workbook.specs.Found.{SavedAsFound}
use Rattle.workbook.specs.Saving.{comment_fields, saved_name, saved_names}
use Rattle.workbook.specs.State.{Name}

-- a name has the record in which it was found
name_saved : (s b t : List ℕ) (c : Option (List ℕ)) (o : Option (Option ℕ)) (n : Name) → name_on s b t c o ≡ Some n → saved_name n ≡ s ∷ b ∷ t ∷ comment_fields c
name_saved s b t c None n e = absurd cc
name_saved s b t c (Some sheet) n e = by (is_name b) e
  where
    by : (is : Bool) → (if is then Some (record { sheet = sheet; sheet_text = s; name = b; text = t; comment = c }) else None) ≡ Some n → saved_name n ≡ s ∷ b ∷ t ∷ comment_fields c
    by true f = ap (λ o. saved_name (unwrap_or o n)) (sym f)
    by false f = absurd cc

row_saved : (sheets : List (List ℕ)) (row : Record) (n : Name) → name_in sheets row ≡ Some n → saved_name n ≡ row
row_saved sheets [] n e = absurd cc
row_saved sheets (a ∷ []) n e = absurd cc
row_saved sheets (a ∷ b ∷ []) n e = absurd cc
row_saved sheets (a ∷ b ∷ t ∷ []) n e = name_saved a b t None (sheet_in sheets a) n e
row_saved sheets (a ∷ b ∷ t ∷ c ∷ []) n e = name_saved a b t (Some c) (sheet_in sheets a) n e
row_saved sheets (a ∷ b ∷ t ∷ c ∷ d ∷ row) n e = absurd cc

later_none : (b : Bool) (o : Option ℕ) → here_or_later b o ≡ None → o ≡ None
later_none true o e = absurd cc
later_none false None e = refl
later_none false (Some k) e = absurd cc

-- behind others too
all_saved : (sheets : List (List ℕ)) (before : List Name) (rows : List Record) → bad_name_row sheets before rows ≡ None → saved_names (names_in sheets before rows) ≡ saved_names before ++ rows
all_saved sheets before [] e = sym (append-nil (saved_names before))
all_saved sheets before (row ∷ rows) e = by (name_in sheets row) refl e (λ b. all_saved sheets b rows)
  where
    by : (o : Option Name) → name_in sheets row ≡ o → here_or_later (not (is_new before o)) (bad_name_row sheets (with_name before o) rows) ≡ None
        → ((b : List Name) → bad_name_row sheets b rows ≡ None → saved_names (names_in sheets b rows) ≡ saved_names b ++ rows)
        → saved_names (names_in sheets (with_name before o) rows) ≡ saved_names before ++ row ∷ rows
    by None f h others = absurd cc
    by (Some n) f h others =
        others (before ++ n ∷ []) (later_none (not (is_new before (Some n))) (bad_name_row sheets (before ++ n ∷ []) rows) h)
        ∙ ap (λ l. l ++ rows) (map-append saved_name before (n ∷ []))
        ∙ append_assoc (saved_names before) (saved_name n ∷ []) rows
        ∙ ap (λ r. saved_names before ++ r ∷ rows) (row_saved sheets row n f)

pub saved_as_found : SavedAsFound
saved_as_found sheets records = all_saved sheets [] records
