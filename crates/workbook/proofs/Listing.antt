-- Sheets and names that are listed one after the other, up to the first that is refused.
use Rattle.std.proofs.Common.{◌≡◌, ◌+◌, ◌≤◌, ◌<◌, ℕ, zero, suc, Bool, true, false, List, [], ◌∷◌, ◌++◌, length, take, drop, get_or, Option, Some, None, Ok, Err, refl, sym, ap, subst, ◌∙◌, append_assoc, append-nil, arith}
use Rattle.std.specs.Prelude.{◌||◌, All, is_some, not, option_map, slice_get, if◌then◌else◌}
use Rattle.std.specs.List.{list_any}
use Rattle.std.proofs.lemmas.List.{drop_all, drop_more, take_more, map-append}
use Rattle.std.proofs.lemmas.List.Elements.{All-push}
use Rattle.cell_refs.specs.Names.{IsNamed, place_in, same_letters}
use Rattle.cell_refs.proofs.Places.{missing, same}
use Rattle.sheet_csv.specs.Sheet.{Record, sheet_records}
use Rattle.sheet_csv.specs.Reads.{ReadsSheet}
use Rattle.sheet_csv.specs.declared.fault.SheetFault.{SheetFault}
use Rattle.sheet_csv.specs.declared.fault.SheetFault.TheVariants as sheet_fault
use Rattle.std.specs.declared.result.Result.{Result}
use Rattle.cell_refs.specs.declared.limits.TheConstants.{COLUMNS, ROWS}
use Rattle.cell_refs.specs.declared.limits.TheConstants.{TEXT_BYTES}
use Rattle.workbook.specs.Files.{SheetFile, bad_name_row, here_or_later, is_new, name_in, names_in, stems_of, with_name}
use Rattle.workbook.specs.Gathered.{records_of}
use Rattle.workbook.specs.Opened.{ReadsFiles, sheet_fault_of}
use Rattle.workbook.specs.Opening.{IsRead, first_twin, sheet_limits}
use Rattle.workbook.specs.State.{Name}

-- ---- items at an index
pub at_index : {A : Type 0} (xs : List A) (i : ℕ) (x : A) → i < length xs → x ≡ get_or xs i x → slice_get xs i ≡ Some x
at_index [] i x h e = absurd (omega arith)
at_index (y ∷ ys) zero x h e = ap Some (sym e)
at_index (y ∷ ys) (suc i) x h e = at_index ys i x (omega arith) e

pub from_index : {A : Type 0} (xs : List A) (i : ℕ) (x : A) → i < length xs → x ≡ get_or xs i x → drop i xs ≡ x ∷ drop (i + 1) xs
from_index xs i x h e = drop_more xs i x h ∙ ap (λ y. y ∷ drop (i + 1) xs) (sym e)

pub up_to : {A : Type 0} (xs : List A) (i : ℕ) (x : A) → i < length xs → x ≡ get_or xs i x → take (i + 1) xs ≡ take i xs ++ x ∷ []
up_to xs i x h e = take_more xs i x h ∙ ap (λ y. take i xs ++ y ∷ []) (sym e)

-- ---- places
abbrev pub moved : ℕ → Option ℕ → Option ℕ
moved n o = option_map (λ k. n + k) o

pub unmoved : (o : Option ℕ) → o ≡ moved 0 o
unmoved None = refl
unmoved (Some k) = ap Some (omega arith)

one_later : (n : ℕ) (o : Option ℕ) → moved n (option_map suc o) ≡ moved (n + 1) o
one_later n None = refl
one_later n (Some k) = ap Some (omega arith)

here : (n : ℕ) (o : Option ℕ) → moved n (here_or_later true o) ≡ Some n
here n o = ap Some (omega arith)

-- ---- sheets
or_true : (b : Bool) → (b || true) ≡ true
or_true true = refl
or_true false = refl

pub named_there : (names : List (List ℕ)) (name : List ℕ) (id : ℕ) → IsNamed names name id → list_any (λ b. same_letters b name) names ≡ true
named_there [] name id h = cc h.there
named_there (x ∷ names) name zero h =
    let e : x ≡ h.own = cc h.there in
    ap (λ b. b || list_any (λ b. same_letters b name) names) (same x name (rw e h.same))
named_there (x ∷ names) name (suc id) h =
    ap (λ b. same_letters x name || b) (named_there names name id (record { own = h.own; there = h.there; same = h.same })) ∙ or_true (same_letters x name)

some_placed : (b c : Bool) (o : Option ℕ) → c ≡ is_some o → (b || c) ≡ is_some (if b then Some 0 else option_map suc o)
some_placed true c o e = refl
some_placed false c None e = e
some_placed false c (Some k) e = e

any_placed : (names : List (List ℕ)) (name : List ℕ) → list_any (λ b. same_letters b name) names ≡ is_some (place_in names name)
any_placed [] name = refl
any_placed (x ∷ names) name =
    some_placed (same_letters x name) (list_any (λ b. same_letters b name) names) (place_in names name) (any_placed names name)

pub named_nowhere : (names : List (List ℕ)) (name : List ℕ) → ((id : ℕ) → IsNamed names name id → ⊥) → list_any (λ b. same_letters b name) names ≡ false
named_nowhere names name none = any_placed names name ∙ ap is_some (missing names name none)

module _ (sheet : ℕ) (files : List SheetFile) (f : SheetFile) (before : List (List ℕ)) (at : drop sheet files ≡ f ∷ drop (sheet + 1) files)
    (so_far : first_twin [] (stems_of files) ≡ moved sheet (first_twin before (stems_of (drop sheet files)))) where
  pub twin_here : list_any (λ b. same_letters b f.stem) before ≡ true → first_twin [] (stems_of files) ≡ Some sheet
  twin_here e =
      so_far ∙ ap (λ l. moved sheet (first_twin before (stems_of l))) at
      ∙ ap (λ b. moved sheet (here_or_later b (first_twin (before ++ f.stem ∷ []) (stems_of (drop (sheet + 1) files))))) e
      ∙ here sheet (first_twin (before ++ f.stem ∷ []) (stems_of (drop (sheet + 1) files)))

  pub twin_later : (after : List (List ℕ)) → after ≡ before ++ f.stem ∷ [] → list_any (λ b. same_letters b f.stem) before ≡ false
      → first_twin [] (stems_of files) ≡ moved (sheet + 1) (first_twin after (stems_of (drop (sheet + 1) files)))
  twin_later after is e =
      so_far ∙ ap (λ l. moved sheet (first_twin before (stems_of l))) at
      ∙ ap (λ b. moved sheet (here_or_later b (first_twin (before ++ f.stem ∷ []) (stems_of (drop (sheet + 1) files))))) e
      ∙ one_later sheet (first_twin (before ++ f.stem ∷ []) (stems_of (drop (sheet + 1) files)))
      ∙ ap (λ l. moved (sheet + 1) (first_twin l (stems_of (drop (sheet + 1) files)))) (sym is)

  pub sheet_listed : (after : List (List ℕ)) → after ≡ before ++ f.stem ∷ [] → before ++ stems_of (drop sheet files) ≡ stems_of files
      → after ++ stems_of (drop (sheet + 1) files) ≡ stems_of files
  sheet_listed after is listed =
      ap (λ l. l ++ stems_of (drop (sheet + 1) files)) is ∙ append_assoc before (f.stem ∷ []) (stems_of (drop (sheet + 1) files))
      ∙ ap (λ l. before ++ stems_of l) (sym at) ∙ listed

pub no_twin : (sheet : ℕ) (files : List SheetFile) (before : List (List ℕ)) → length files ≤ sheet → first_twin [] (stems_of files) ≡ moved sheet (first_twin before (stems_of (drop sheet files)))
    → first_twin [] (stems_of files) ≡ None
no_twin sheet files before h so_far = so_far ∙ ap (λ l. moved sheet (first_twin before (stems_of l))) (drop_all sheet files h)

pub all_listed : (sheet : ℕ) (files : List SheetFile) (before : List (List ℕ)) → length files ≤ sheet → before ++ stems_of (drop sheet files) ≡ stems_of files → before ≡ stems_of files
all_listed sheet files before h listed = sym (append-nil before) ∙ ap (λ l. before ++ stems_of l) (sym (drop_all sheet files h)) ∙ listed

-- ---- files
pub read_as : (file : SheetFile) (r : Result (List Record) SheetFault) (rows columns : ℕ) (bytes : List ℕ) → rows ≡ ROWS → columns ≡ COLUMNS → bytes ≡ file.bytes
    → ReadsSheet (record { rows = rows; columns = columns; field = TEXT_BYTES }) bytes r → ReadsSheet sheet_limits file.bytes r
read_as file r rows columns bytes e f g h =
    subst (λ b. ReadsSheet sheet_limits b r) g
    (subst (λ n. ReadsSheet (record { rows = ROWS; columns = n; field = TEXT_BYTES }) bytes r) f
    (subst (λ n. ReadsSheet (record { rows = n; columns = columns; field = TEXT_BYTES }) bytes r) e h))

pub is_read : (file : SheetFile) (rows : List Record) → ReadsSheet sheet_limits file.bytes (Ok rows) → IsRead sheet_limits file.bytes × (rows ≡ sheet_records file.bytes)
is_read file rows h = ((refl, h.1, h.2, h.3, h.4), h.0)

pub all_read : (files : List SheetFile) (i : ℕ) (file : SheetFile) → i < length files → file ≡ get_or files i file → All (λ (b : SheetFile). IsRead sheet_limits b.bytes) (take i files)
    → IsRead sheet_limits file.bytes → All (λ (b : SheetFile). IsRead sheet_limits b.bytes) (take (i + 1) files)
all_read files i file h e before one =
    subst (λ l. All (λ (b : SheetFile). IsRead sheet_limits b.bytes) l) (sym (up_to files i file h e)) (All-push (λ (b : SheetFile). IsRead sheet_limits b.bytes) (take i files) file before one)

pub records_up_to : (files : List SheetFile) (i : ℕ) (file : SheetFile) (before after : List (List Record)) (rows : List Record) → i < length files → file ≡ get_or files i file
    → before ≡ records_of (take i files) → rows ≡ sheet_records file.bytes → after ≡ before ++ rows ∷ [] → after ≡ records_of (take (i + 1) files)
records_up_to files i file before after rows h e so_far is pushed =
    pushed ∙ ap (λ l. l ++ rows ∷ []) so_far ∙ ap (λ r. records_of (take i files) ++ r ∷ []) is
    ∙ sym (ap records_of (up_to files i file h e) ∙ map-append (λ (f : SheetFile). sheet_records f.bytes) (take i files) (file ∷ []))

pub unread : (files : List SheetFile) (sheet : ℕ) (file : SheetFile) (f : SheetFault) → slice_get files sheet ≡ Some file → All (λ (b : SheetFile). IsRead sheet_limits b.bytes) (take sheet files)
    → ReadsSheet sheet_limits file.bytes (Err f) → ReadsFiles files (Err (sheet_fault_of sheet f))
unread files sheet file (sheet_fault.NotUtf8 n) at before e = record { file = file; there = at; before = before; fault = e }
unread files sheet file sheet_fault.TooManyRows at before e = record { file = file; there = at; before = before; fault = e }
unread files sheet file (sheet_fault.TooManyColumns n) at before e = record { file = file; there = at; before = before; fault = e }
unread files sheet file (sheet_fault.FieldTooLong n) at before e = record { file = file; there = at; before = before; fault = e }
unread files sheet file sheet_fault.Memory at before e = tt

-- ---- names
module _ (sheets : List (List ℕ)) (row : ℕ) (rows : List Record) (one : Record) (before : List Name) (at : drop row rows ≡ one ∷ drop (row + 1) rows)
    (so_far : bad_name_row sheets [] rows ≡ moved row (bad_name_row sheets before (drop row rows))) where
  pub bad_here : is_new before (name_in sheets one) ≡ false → bad_name_row sheets [] rows ≡ Some row
  bad_here e =
      so_far ∙ ap (λ l. moved row (bad_name_row sheets before l)) at
      ∙ ap (λ b. moved row (here_or_later (not b) (bad_name_row sheets (with_name before (name_in sheets one)) (drop (row + 1) rows)))) e
      ∙ here row (bad_name_row sheets (with_name before (name_in sheets one)) (drop (row + 1) rows))

  pub bad_later : (after : List Name) → after ≡ with_name before (name_in sheets one) → is_new before (name_in sheets one) ≡ true
      → bad_name_row sheets [] rows ≡ moved (row + 1) (bad_name_row sheets after (drop (row + 1) rows))
  bad_later after is e =
      so_far ∙ ap (λ l. moved row (bad_name_row sheets before l)) at
      ∙ ap (λ b. moved row (here_or_later (not b) (bad_name_row sheets (with_name before (name_in sheets one)) (drop (row + 1) rows)))) e
      ∙ one_later row (bad_name_row sheets (with_name before (name_in sheets one)) (drop (row + 1) rows))
      ∙ ap (λ l. moved (row + 1) (bad_name_row sheets l (drop (row + 1) rows))) (sym is)

  pub names_go_on : (after : List Name) → after ≡ with_name before (name_in sheets one) → names_in sheets before (drop row rows) ≡ names_in sheets [] rows
      → names_in sheets after (drop (row + 1) rows) ≡ names_in sheets [] rows
  names_go_on after is named =
      ap (λ l. names_in sheets l (drop (row + 1) rows)) is ∙ ap (names_in sheets before) (sym at) ∙ named

pub none_bad : (sheets : List (List ℕ)) (row : ℕ) (rows : List Record) (before : List Name) → length rows ≤ row → bad_name_row sheets [] rows ≡ moved row (bad_name_row sheets before (drop row rows))
    → bad_name_row sheets [] rows ≡ None
none_bad sheets row rows before h so_far = so_far ∙ ap (λ l. moved row (bad_name_row sheets before l)) (drop_all row rows h)

pub all_named : (sheets : List (List ℕ)) (row : ℕ) (rows : List Record) (before : List Name) → length rows ≤ row → names_in sheets before (drop row rows) ≡ names_in sheets [] rows
    → before ≡ names_in sheets [] rows
all_named sheets row rows before h named = ap (names_in sheets before) (sym (drop_all row rows h)) ∙ named
