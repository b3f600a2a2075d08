-- Files are opened in one way: of two answers the first that differs would contradict what both say of the files.
use Rattle.std.proofs.Common.{◌≡◌, ◌≢◌, ◌≤◌, ◌<◌, ◌⊎◌, ◌∙◌, ℕ, zero, suc, List, [], ◌∷◌, length, take, Option, Some, None, Ok, Err, refl, sym, ap, subst, inl, inr, arith}
use Rattle.std.specs.Prelude.{All, nat_lt, slice_get, unwrap_or}
use Rattle.std.specs.declared.result.Result.{Result}
use Rattle.std.proofs.lemmas.Bool.{cases_Bool, ltb-true, ltb-false}
use Rattle.std.proofs.lemmas.List.Elements.{All-head, All-tail}
use Rattle.sheet_csv.specs.Reads.{ReadsSheet}
use Rattle.sheet_csv.specs.Sheet.{sheet_records}
use Rattle.sheet_csv.specs.declared.fault.CsvLimits.{CsvLimits}
use Rattle.sheet_csv.specs.declared.fault.SheetFault.{SheetFault}
use Rattle.sheet_csv.specs.declared.fault.SheetFault.TheVariants as sheet_fault
use Rattle.workbook.specs.declared.fault.OpenFault.{OpenFault}
use Rattle.workbook.specs.declared.fault.OpenFault.TheVariants as fault
use Rattle.cell_refs.specs.declared.limits.TheConstants.{FORMULAS, NAMES, TEXTS}
use Rattle.workbook.specs.Determined.{OneOpening}
use Rattle.workbook.specs.Files.{SheetFile, bad_name_row, state_in, stems_of, texts_in_files}
use Rattle.workbook.specs.Opening.{ContentsFit, IsFirstFault, IsRead, NamesAreRead, Opens, first_twin, formulas_in, name_limits, sheet_limits}
use Rattle.workbook.specs.State.{State}

abbrev Outcome : Type 0
Outcome = Result State OpenFault

-- ---- a file
same_place : (o : Option ℕ) (m n : ℕ) → o ≡ Some m → o ≡ Some n → m ≡ n
same_place o m n a b = ap (λ p. unwrap_or p 0) (sym a ∙ b)

not_both : (o : Option ℕ) (n : ℕ) → o ≡ Some n → o ≡ None → ⊥
not_both o n a b = let e : Some n ≡ None = sym a ∙ b in cc

-- it has one fault
one_fault : (limits : CsvLimits) (bytes : List ℕ) (f g : SheetFault) → ReadsSheet limits bytes (Err f) → ReadsSheet limits bytes (Err g) → f ≢ sheet_fault.Memory → g ≢ sheet_fault.Memory → f ≡ g
one_fault limits bytes (sheet_fault.NotUtf8 m) (sheet_fault.NotUtf8 n) a b p q = ap sheet_fault.NotUtf8 (a.1 ∙ sym b.1)
one_fault limits bytes (sheet_fault.NotUtf8 m) sheet_fault.TooManyRows a b p q = absurd (a.0 b.0)
one_fault limits bytes (sheet_fault.NotUtf8 m) (sheet_fault.TooManyColumns n) a b p q = absurd (a.0 b.0)
one_fault limits bytes (sheet_fault.NotUtf8 m) (sheet_fault.FieldTooLong n) a b p q = absurd (a.0 b.0)
one_fault limits bytes (sheet_fault.NotUtf8 m) sheet_fault.Memory a b p q = absurd (q refl)
one_fault limits bytes sheet_fault.TooManyRows (sheet_fault.NotUtf8 n) a b p q = absurd (b.0 a.0)
one_fault limits bytes sheet_fault.TooManyRows sheet_fault.TooManyRows a b p q = refl
one_fault limits bytes sheet_fault.TooManyRows (sheet_fault.TooManyColumns n) a b p q = absurd (omega (arith, a.1, b.1))
one_fault limits bytes sheet_fault.TooManyRows (sheet_fault.FieldTooLong n) a b p q = absurd (omega (arith, a.1, b.1))
one_fault limits bytes sheet_fault.TooManyRows sheet_fault.Memory a b p q = absurd (q refl)
one_fault limits bytes (sheet_fault.TooManyColumns m) (sheet_fault.NotUtf8 n) a b p q = absurd (b.0 a.0)
one_fault limits bytes (sheet_fault.TooManyColumns m) sheet_fault.TooManyRows a b p q = absurd (omega (arith, a.1, b.1))
one_fault limits bytes (sheet_fault.TooManyColumns m) (sheet_fault.TooManyColumns n) a b p q = ap sheet_fault.TooManyColumns (same_place _ m n a.2 b.2)
one_fault limits bytes (sheet_fault.TooManyColumns m) (sheet_fault.FieldTooLong n) a b p q = absurd (not_both _ m a.2 b.2)
one_fault limits bytes (sheet_fault.TooManyColumns m) sheet_fault.Memory a b p q = absurd (q refl)
one_fault limits bytes (sheet_fault.FieldTooLong m) (sheet_fault.NotUtf8 n) a b p q = absurd (b.0 a.0)
one_fault limits bytes (sheet_fault.FieldTooLong m) sheet_fault.TooManyRows a b p q = absurd (omega (arith, a.1, b.1))
one_fault limits bytes (sheet_fault.FieldTooLong m) (sheet_fault.TooManyColumns n) a b p q = absurd (not_both _ n b.2 a.2)
one_fault limits bytes (sheet_fault.FieldTooLong m) (sheet_fault.FieldTooLong n) a b p q = ap sheet_fault.FieldTooLong (same_place _ m n a.3 b.3)
one_fault limits bytes (sheet_fault.FieldTooLong m) sheet_fault.Memory a b p q = absurd (q refl)
one_fault limits bytes sheet_fault.Memory g a b p q = absurd (p refl)

-- and none where it is read
no_fault : (limits : CsvLimits) (bytes : List ℕ) (f : SheetFault) → ReadsSheet limits bytes (Err f) → f ≢ sheet_fault.Memory → IsRead limits bytes → ⊥
no_fault limits bytes (sheet_fault.NotUtf8 m) a p b = a.0 b.1
no_fault limits bytes sheet_fault.TooManyRows a p b = omega (arith, a.1, b.2)
no_fault limits bytes (sheet_fault.TooManyColumns m) a p b = not_both _ m a.2 b.3
no_fault limits bytes (sheet_fault.FieldTooLong m) a p b = not_both _ m a.3 b.4
no_fault limits bytes sheet_fault.Memory a p b = p refl

-- ---- files
abbrev IsReadFile : SheetFile → Type 0
IsReadFile f = IsRead sheet_limits f.bytes

same_file : (x y : SheetFile) → Some y ≡ Some x → y ≡ x
same_file x y e = ap (λ o. unwrap_or o x) e

earlier : (files : List SheetFile) (i j : ℕ) (x : SheetFile) → slice_get files i ≡ Some x → i < j → All IsReadFile (take j files) → IsReadFile x
earlier [] i j x at lt h = let e : ◌≡◌ {A = Option SheetFile} None (Some x) = at in cc
earlier (y ∷ files) i zero x at lt h = absurd (omega arith)
earlier (y ∷ files) zero (suc j) x at lt h = subst IsReadFile (same_file x y at) (All-head IsReadFile y (take j files) h)
earlier (y ∷ files) (suc i) (suc j) x at lt h = earlier files i j x at (omega arith) (All-tail IsReadFile y (take j files) h)

every : (files : List SheetFile) (i : ℕ) (x : SheetFile) → slice_get files i ≡ Some x → All IsReadFile files → IsReadFile x
every [] i x at h = let e : ◌≡◌ {A = Option SheetFile} None (Some x) = at in cc
every (y ∷ files) zero x at h = subst IsReadFile (same_file x y at) (All-head IsReadFile y files h)
every (y ∷ files) (suc i) x at h = every files i x at (All-tail IsReadFile y files h)

not_earlier : (files : List SheetFile) (i j : ℕ) (f g : SheetFault) → IsFirstFault files i f → IsFirstFault files j g → f ≢ sheet_fault.Memory → i < j → ⊥
not_earlier files i j f g a b p lt = no_fault sheet_limits a.file.bytes f a.fault p (earlier files i j a.file a.there lt b.before)

one_sheet : (files : List SheetFile) (i j : ℕ) (f g : SheetFault) → IsFirstFault files i f → IsFirstFault files j g → f ≢ sheet_fault.Memory → g ≢ sheet_fault.Memory → i ≡ j
one_sheet files i j f g a b p q = elim (cases_Bool (nat_lt i j)) [
  | inl less ↦ absurd (not_earlier files i j f g a b p (ltb-true i j less))
  | inr not_less ↦ elim (cases_Bool (nat_lt j i)) [
    | inl more ↦ absurd (not_earlier files j i g f b a q (ltb-true j i more))
    | inr not_more ↦ omega (arith, ltb-false i j not_less, ltb-false j i not_more)
  ]
]

one_in_sheet : (files : List SheetFile) (i j : ℕ) (f g : SheetFault) → IsFirstFault files i f → IsFirstFault files j g → f ≢ sheet_fault.Memory → g ≢ sheet_fault.Memory → f ≡ g
one_in_sheet files i j f g a b p q =
    let place = one_sheet files i j f g a b p q in
    let there : slice_get files i ≡ Some b.file = ap (slice_get files) place ∙ b.there in
    let same : b.file ≡ a.file = same_file a.file b.file (sym there ∙ a.there) in
    one_fault sheet_limits a.file.bytes f g a.fault (subst (λ (x : SheetFile). ReadsSheet sheet_limits x.bytes (Err g)) same b.fault) p q

-- ---- the steps of opening, each of which ends it or leads to the next
-- two answers are one where both end a step or both go on
one_answer : (End Next : Outcome → Type 0) → ((a b : Outcome) → End a → End b → a ≡ b) → ((a b : Outcome) → End a → Next b → ⊥) → ((a b : Outcome) → Next a → Next b → a ≡ b)
    → (a b : Outcome) → End a ⊎ Next a → End b ⊎ Next b → a ≡ b
one_answer End Next ends apart nexts a b (inl p) (inl q) = ends a b p q
one_answer End Next ends apart nexts a b (inl p) (inr q) = absurd (apart a b p q)
one_answer End Next ends apart nexts a b (inr p) (inl q) = absurd (apart b a q p)
one_answer End Next ends apart nexts a b (inr p) (inr q) = nexts a b p q

module _ (files : List SheetFile) (names : List ℕ) where
  abbrev twin : Option ℕ
  twin = first_twin [] (stems_of files)

  abbrev bad : Option ℕ
  bad = bad_name_row (stems_of files) [] (sheet_records names)

  -- too many names, or the workbook
  abbrev ManyNames : Outcome → Type 0
  ManyNames r = (NAMES < length (sheet_records names)) × (r ≡ Err fault.TooManyNames)

  abbrev IsWhole : Outcome → Type 0
  IsWhole r = (length (sheet_records names) ≤ NAMES) × (r ≡ Ok (state_in files names))

  -- a record of the names, or none
  abbrev BadRow : Outcome → Type 0
  BadRow r = (row : ℕ) × (bad ≡ Some row) × (r ≡ Err (fault.BadNameRow row))

  abbrev GoodRows : Outcome → Type 0
  GoodRows r = (bad ≡ None) × (ManyNames r ⊎ IsWhole r)

  -- the file of names, or none
  abbrev BadNames : Outcome → Type 0
  BadNames r = (f : SheetFault) × (f ≢ sheet_fault.Memory) × ReadsSheet name_limits names (Err f) × (r ≡ Err (fault.NameFile f))

  abbrev ReadNames : Outcome → Type 0
  ReadNames r = IsRead name_limits names × (BadRow r ⊎ GoodRows r)

  -- too many formulas, or not
  abbrev ManyFormulas : Outcome → Type 0
  ManyFormulas r = (FORMULAS < length (formulas_in (texts_in_files 0 files))) × (r ≡ Err fault.TooManyFormulas)

  abbrev FewFormulas : Outcome → Type 0
  FewFormulas r = (length (formulas_in (texts_in_files 0 files)) ≤ FORMULAS) × (BadNames r ⊎ ReadNames r)

  -- too many texts, or not
  abbrev ManyTexts : Outcome → Type 0
  ManyTexts r = (TEXTS < length (texts_in_files 0 files)) × (r ≡ Err fault.TooManyCells)

  abbrev FewTexts : Outcome → Type 0
  FewTexts r = (length (texts_in_files 0 files) ≤ TEXTS) × (ManyFormulas r ⊎ FewFormulas r)

  -- a sheet's file, or none
  abbrev BadFile : Outcome → Type 0
  BadFile r = (sheet : ℕ) × (f : SheetFault) × (f ≢ sheet_fault.Memory) × IsFirstFault files sheet f × (r ≡ Err (fault.Sheet sheet f))

  abbrev ReadFiles : Outcome → Type 0
  ReadFiles r = All IsReadFile files × (ManyTexts r ⊎ FewTexts r)

  -- two sheets of one name, or not
  abbrev Twins : Outcome → Type 0
  Twins r = (sheet : ℕ) × (twin ≡ Some sheet) × (r ≡ Err (fault.DuplicateSheet sheet))

  abbrev NoTwins : Outcome → Type 0
  NoTwins r = (twin ≡ None) × (BadFile r ⊎ ReadFiles r)

  one_whole : (a b : Outcome) → ManyNames a ⊎ IsWhole a → ManyNames b ⊎ IsWhole b → a ≡ b
  one_whole = one_answer ManyNames IsWhole (λ a b p q. p.1 ∙ sym q.1) (λ a b p q. omega (arith, p.0, q.0)) (λ a b p q. p.1 ∙ sym q.1)

  one_rows : (a b : Outcome) → BadRow a ⊎ GoodRows a → BadRow b ⊎ GoodRows b → a ≡ b
  one_rows = one_answer BadRow GoodRows
      (λ a b p q. p.2 ∙ ap (λ n. Err (fault.BadNameRow n)) (same_place bad p.0 q.0 p.1 q.1) ∙ sym q.2)
      (λ a b p q. not_both bad p.0 p.1 q.0) (λ a b p q. one_whole a b p.1 q.1)

  one_names : (a b : Outcome) → BadNames a ⊎ ReadNames a → BadNames b ⊎ ReadNames b → a ≡ b
  one_names = one_answer BadNames ReadNames
      (λ a b p q. p.3 ∙ ap (λ f. Err (fault.NameFile f)) (one_fault name_limits names p.0 q.0 p.2 q.2 p.1 q.1) ∙ sym q.3)
      (λ a b p q. no_fault name_limits names p.0 p.2 p.1 q.0) (λ a b p q. one_rows a b p.1 q.1)

  one_formulas : (a b : Outcome) → ManyFormulas a ⊎ FewFormulas a → ManyFormulas b ⊎ FewFormulas b → a ≡ b
  one_formulas = one_answer ManyFormulas FewFormulas (λ a b p q. p.1 ∙ sym q.1) (λ a b p q. omega (arith, p.0, q.0)) (λ a b p q. one_names a b p.1 q.1)

  one_texts : (a b : Outcome) → ManyTexts a ⊎ FewTexts a → ManyTexts b ⊎ FewTexts b → a ≡ b
  one_texts = one_answer ManyTexts FewTexts (λ a b p q. p.1 ∙ sym q.1) (λ a b p q. omega (arith, p.0, q.0)) (λ a b p q. one_formulas a b p.1 q.1)

  one_files : (a b : Outcome) → BadFile a ⊎ ReadFiles a → BadFile b ⊎ ReadFiles b → a ≡ b
  one_files = one_answer BadFile ReadFiles
      (λ a b p q. p.4 ∙ ap (λ n. Err (fault.Sheet n p.1)) (one_sheet files p.0 q.0 p.1 q.1 p.3 q.3 p.2 q.2)
      ∙ ap (λ f. Err (fault.Sheet q.0 f)) (one_in_sheet files p.0 q.0 p.1 q.1 p.3 q.3 p.2 q.2) ∙ sym q.4)
      (λ a b p q. no_fault sheet_limits p.3.file.bytes p.1 p.3.fault p.2 (every files p.0 p.3.file p.3.there q.0)) (λ a b p q. one_texts a b p.1 q.1)

  one_opening : (a b : Outcome) → Twins a ⊎ NoTwins a → Twins b ⊎ NoTwins b → a ≡ b
  one_opening = one_answer Twins NoTwins
      (λ a b p q. p.2 ∙ ap (λ n. Err (fault.DuplicateSheet n)) (same_place twin p.0 q.0 p.1 q.1) ∙ sym q.2)
      (λ a b p q. not_both twin p.0 p.1 q.0) (λ a b p q. one_files a b p.1 q.1)

  -- ---- what is answered is one of them
  past_contents : (r : Outcome) → ContentsFit files → BadNames r ⊎ ReadNames r → Twins r ⊎ NoTwins r
  past_contents r h rest = inr (h.sheets.twins, inr (h.sheets.read, inr (h.texts, inr (h.formulas, rest))))

  past_names : (r : Outcome) → NamesAreRead files names → ManyNames r ⊎ IsWhole r → Twins r ⊎ NoTwins r
  past_names r h rest = past_contents r h.contents (inr (h.read, inr (h.good, rest)))

  faulty_file : (sheet : ℕ) (f : SheetFault) → f ≢ sheet_fault.Memory → IsFirstFault files sheet f → Twins (Err (fault.Sheet sheet f)) ⊎ NoTwins (Err (fault.Sheet sheet f))
  faulty_file sheet f p h = inr (h.twins, inl (sheet, f, p, h, refl))

  faulty_names : (f : SheetFault) → f ≢ sheet_fault.Memory → ContentsFit files × ReadsSheet name_limits names (Err f) → Twins (Err (fault.NameFile f)) ⊎ NoTwins (Err (fault.NameFile f))
  faulty_names f p h = past_contents (Err (fault.NameFile f)) h.0 (inl (f, p, h.1, refl))

  steps : (r : Outcome) → Opens files names r → r ≢ Err fault.Memory → Twins r ⊎ NoTwins r
  steps (Ok state) h some = past_names (Ok state) h.0 (inr (h.1, ap Ok h.2))
  steps (Err fault.Memory) h some = absurd (some refl)
  steps (Err (fault.DuplicateSheet sheet)) h some = inl (sheet, h, refl)
  steps (Err (fault.Sheet sheet sheet_fault.Memory)) h some = absurd h
  steps (Err (fault.Sheet sheet (sheet_fault.NotUtf8 n))) h some = faulty_file sheet (sheet_fault.NotUtf8 n) (λ e. cc e) h
  steps (Err (fault.Sheet sheet sheet_fault.TooManyRows)) h some = faulty_file sheet sheet_fault.TooManyRows (λ e. cc e) h
  steps (Err (fault.Sheet sheet (sheet_fault.TooManyColumns n))) h some = faulty_file sheet (sheet_fault.TooManyColumns n) (λ e. cc e) h
  steps (Err (fault.Sheet sheet (sheet_fault.FieldTooLong n))) h some = faulty_file sheet (sheet_fault.FieldTooLong n) (λ e. cc e) h
  steps (Err fault.TooManyCells) h some = inr (h.0.twins, inr (h.0.read, inl (h.1, refl)))
  steps (Err fault.TooManyFormulas) h some = inr (h.0.twins, inr (h.0.read, inr (h.1, inl (h.2, refl))))
  steps (Err (fault.NameFile sheet_fault.Memory)) h some = absurd h
  steps (Err (fault.NameFile sheet_fault.TooManyRows)) h some = absurd h
  steps (Err (fault.NameFile (sheet_fault.TooManyColumns n))) h some = absurd h
  steps (Err (fault.NameFile (sheet_fault.NotUtf8 n))) h some = faulty_names (sheet_fault.NotUtf8 n) (λ e. cc e) h
  steps (Err (fault.NameFile (sheet_fault.FieldTooLong n))) h some = faulty_names (sheet_fault.FieldTooLong n) (λ e. cc e) h
  steps (Err (fault.BadNameRow row)) h some = past_contents (Err (fault.BadNameRow row)) h.0 (inr (h.1, inl (row, h.2, refl)))
  steps (Err fault.TooManyNames) h some = past_names (Err fault.TooManyNames) h.0 (inl (h.1, refl))

pub opened_in_one_way : OneOpening
opened_in_one_way files names a b p q m n = one_opening files names a b (steps files names a p m) (steps files names b q n)
