-- Opening one empty file, without names.
use Rattle.std.proofs.Common.{◌≡◌, ◌<◌, ℕ, zero, suc, Bool, true, false, ◌++◌, List, [], ◌∷◌, Option, Some, refl, sym, ap, subst, ◌∙◌, arith}
use Rattle.std.specs.Prelude.{Err, slice_get, unwrap_or}
use Rattle.std.proofs.lemmas.Str.{IsUtf8-nil}
use Rattle.csv.specs.Machine.{next_record}
use Rattle.csv.specs.Reading.{records_from, strip_bom}
use Rattle.sheet_csv.specs.Reads.{ReadsSheet}
use Rattle.sheet_csv.specs.declared.fault.CsvLimits.{CsvLimits}
use Rattle.sheet_csv.specs.declared.fault.SheetFault.{SheetFault}
use Rattle.sheet_csv.specs.declared.fault.SheetFault.TheVariants as sheet_fault
use Rattle.workbook.specs.declared.fault.OpenFault.{OpenFault}
use Rattle.workbook.specs.declared.fault.OpenFault.TheVariants as fault
use Rattle.workbook.specs.Files.{SheetFile}
use Rattle.workbook.specs.Opening.{IsFirstFault, Opens, name_limits, sheet_limits}
use Rattle.made_up_books.specs.MadeUp.{sheet_name}

abbrev pub one_empty : List SheetFile
one_empty = record { stem = sheet_name; bytes = [] } ∷ []

pub one_file_is : (files before : List SheetFile) (file : SheetFile) (stem bytes : List ℕ) → files ≡ before ++ file ∷ [] → before ≡ []
    → file ≡ record { stem = stem; bytes = bytes } → stem ≡ sheet_name → bytes ≡ [] → files ≡ one_empty
one_file_is files before file stem bytes all first is named none =
    all ∙ ap (λ fs. fs ++ file ∷ []) first ∙ ap (λ (f : SheetFile). f ∷ []) is
    ∙ ap (λ t. (λ (f : SheetFile). f ∷ []) (record { stem = t; bytes = bytes })) named
    ∙ ap (λ b. (λ (f : SheetFile). f ∷ []) (record { stem = sheet_name; bytes = b })) none

read_of_nothing : (limits : CsvLimits) (f : SheetFault) → ReadsSheet limits [] (Err f) → f ≡ sheet_fault.Memory
unfolding strip_bom records_from next_record
read_of_nothing limits (sheet_fault.NotUtf8 n) h = absurd (h.0 IsUtf8-nil)
read_of_nothing limits sheet_fault.TooManyRows h = let none : limits.rows < 0 = h.1 in absurd (omega arith)
read_of_nothing limits (sheet_fault.TooManyColumns n) h = absurd cc
read_of_nothing limits (sheet_fault.FieldTooLong n) h = absurd cc
read_of_nothing limits sheet_fault.Memory h = refl

bytes_of_it : (sheet : ℕ) (file : SheetFile) → slice_get one_empty sheet ≡ Some file → file.bytes ≡ []
bytes_of_it zero file e = ap (λ (o : Option SheetFile). (unwrap_or o file).bytes) (sym e)
bytes_of_it (suc n) file e = absurd cc

sheet_of_nothing : (sheet : ℕ) (f : SheetFault) → IsFirstFault one_empty sheet f → f ≡ sheet_fault.Memory
sheet_of_nothing sheet f h =
    read_of_nothing sheet_limits f (subst (λ b. ReadsSheet sheet_limits b (Err f)) (bytes_of_it sheet h.file h.there) h.fault)

abbrev is_memory : SheetFault → Bool
is_memory sheet_fault.Memory = true
is_memory _ = false

other_than_memory : (f : SheetFault) → f ≡ sheet_fault.Memory → is_memory f ≡ false → ⊥
other_than_memory f e h = let is : true ≡ false = sym (ap is_memory e) ∙ h in absurd cc

pub only_memory : (f : OpenFault) → Opens one_empty [] (Err f) → f ≡ fault.Memory
unfolding strip_bom records_from next_record
only_memory fault.Memory h = refl
only_memory (fault.DuplicateSheet n) h = absurd cc
only_memory (fault.Sheet n (sheet_fault.NotUtf8 k)) h = absurd (other_than_memory (sheet_fault.NotUtf8 k) (sheet_of_nothing n (sheet_fault.NotUtf8 k) h) refl)
only_memory (fault.Sheet n sheet_fault.TooManyRows) h = absurd (other_than_memory sheet_fault.TooManyRows (sheet_of_nothing n sheet_fault.TooManyRows h) refl)
only_memory (fault.Sheet n (sheet_fault.TooManyColumns k)) h = absurd (other_than_memory (sheet_fault.TooManyColumns k) (sheet_of_nothing n (sheet_fault.TooManyColumns k) h) refl)
only_memory (fault.Sheet n (sheet_fault.FieldTooLong k)) h = absurd (other_than_memory (sheet_fault.FieldTooLong k) (sheet_of_nothing n (sheet_fault.FieldTooLong k) h) refl)
only_memory (fault.Sheet n sheet_fault.Memory) h = absurd h
only_memory fault.TooManyCells h = absurd (omega (arith, h.1))
only_memory fault.TooManyFormulas h = absurd (omega (arith, h.2))
only_memory (fault.NameFile (sheet_fault.NotUtf8 k)) h = absurd (other_than_memory (sheet_fault.NotUtf8 k) (read_of_nothing name_limits (sheet_fault.NotUtf8 k) h.1) refl)
only_memory (fault.NameFile sheet_fault.TooManyRows) h = absurd h
only_memory (fault.NameFile (sheet_fault.TooManyColumns k)) h = absurd h
only_memory (fault.NameFile (sheet_fault.FieldTooLong k)) h = absurd (other_than_memory (sheet_fault.FieldTooLong k) (read_of_nothing name_limits (sheet_fault.FieldTooLong k) h.1) refl)
only_memory (fault.NameFile sheet_fault.Memory) h = absurd h
only_memory (fault.BadNameRow k) h = let e = h.2 in absurd cc
only_memory fault.TooManyNames h = absurd (omega (arith, h.1))
