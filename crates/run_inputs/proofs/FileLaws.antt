-- Reading the files of the sheets.
use Rattle.std.proofs.Common.{◌≡◌, ◌<◌, ◌≤◌, ◌+◌, ◌++◌, ◌∷◌, [], ℕ, zero, suc, List, Option, Some, None, IfSome, length, take, drop, get_or, refl, ap, sym, arith, string_bytes, drop-cons, length-append, add-one, ◌∙◌}
use Rattle.std.specs.Prelude.{Result, Ok, Err, String, Vec, slice_get, unwrap_or}
use Rattle.std.specs.Global.{Global}
use Rattle.std.specs.FinMap.{get}
use Rattle.std.proofs.lemmas.List.{take_more, take_all, drop_all}
use Rattle.solver_io.specs.Files.{Files}
use Rattle.workbook.specs.Files.{SheetFile}
use Rattle.run_inputs.specs.Findings.{and_then, file_held, sheet_files, sheets_held}
use Rattle.run_inputs.specs.Inputs.{ReadsSheet, ReadsSheets}
use Rattle.command_line.specs.Words.{stem_of, texts_of}
use Rattle.run_inputs.specs.declared.stop.End.{End}
use Rattle.run_inputs.specs.declared.stop.End.TheVariants as end
use Rattle.run_inputs.specs.declared.stop.Input.TheVariants as input
use Rattle.run_inputs.specs.declared.stop.Stop.{Stop}

-- ---- the sheets' files
-- the bytes of a file, and those of more
abbrev and_more : Result (List ℕ) Stop → Result (List (List ℕ)) Stop → Result (List (List ℕ)) Stop
and_more first rest = and_then first (λ bytes. and_then rest (λ more. Ok (bytes ∷ more)))

-- the bytes of files, and those that come behind them
abbrev all_held : List (List ℕ) → Result (List (List ℕ)) Stop → Result (List (List ℕ)) Stop
all_held [] r = r
all_held (bytes ∷ more) r = and_more (Ok bytes) (all_held more r)

all_held_more : (held : List (List ℕ)) (bytes : List ℕ) (r : Result (List (List ℕ)) Stop) → all_held held (and_more (Ok bytes) r) ≡ all_held (held ++ bytes ∷ []) r
all_held_more [] bytes r = refl
all_held_more (b ∷ held) bytes r = ap (λ (z : Result (List (List ℕ)) Stop). and_more (Ok b) z) (all_held_more held bytes r)

all_held_stop : (held : List (List ℕ)) (stop : Stop) → all_held held (Err stop) ≡ Err stop
all_held_stop [] stop = refl
all_held_stop (b ∷ held) stop = ap (λ (z : Result (List (List ℕ)) Stop). and_more (Ok b) z) (all_held_stop held stop)

all_held_all : (held : List (List ℕ)) → all_held held (Ok []) ≡ Ok held
all_held_all [] = refl
all_held_all (b ∷ held) = ap (λ (z : Result (List (List ℕ)) Stop). and_more (Ok b) z) (all_held_all held)

-- the files of the first words were read
pub record AreRead (files : Files) (words : List (List ℕ)) (place : ℕ) (sheets : List SheetFile) : Type 0 where
  pub held : List (List ℕ)
  pub count : length held ≡ place
  pub so_far : sheets_held files 0 words ≡ all_held held (sheets_held files place (drop place words))
  pub sheets_are : sheets ≡ sheet_files (take place words) held

pub none_read : (content : Option Files) (words : List (List ℕ)) → IfSome content (λ files. AreRead files words 0 [])
none_read None words = tt
none_read (Some files) words = record { held = []; count = refl; so_far = refl; sheets_are = refl }

-- an element that stands at a place
element : {A : Type 0} (xs : List A) (i : ℕ) (a : A) → slice_get xs i ≡ Some a → get_or xs i a ≡ a
element [] i a h = cc
element (x ∷ xs) zero a h = cc
element (x ∷ xs) (suc i) a h = element xs i a h

below : {A : Type 0} (xs : List A) (i : ℕ) (a : A) → slice_get xs i ≡ Some a → i < length xs
below [] i a h = cc
below (x ∷ xs) zero a h = omega arith
below (x ∷ xs) (suc i) a h = let b : i < length xs = below xs i a h in omega arith

-- the words from one on
rest_of : (words : List (List ℕ)) (place : ℕ) (word : List ℕ) → slice_get words place ≡ Some word → drop place words ≡ word ∷ drop (suc place) words
rest_of words place word there =
    drop-cons words place word (below words place word there) ∙ ap (λ (z : List ℕ). z ∷ drop (suc place) words) (element words place word there)

take_next : (words : List (List ℕ)) (place : ℕ) (word : List ℕ) → slice_get words place ≡ Some word → take (place + 1) words ≡ take place words ++ word ∷ []
take_next words place word there =
    take_more words place word (below words place word there) ∙ ap (λ (z : List ℕ). take place words ++ z ∷ []) (element words place word there)

abbrev file_of : List ℕ → List ℕ → SheetFile
file_of word bytes = record { stem = unwrap_or (stem_of word) []; bytes = bytes }

sheet_files_more : (words held : List (List ℕ)) (word bytes : List ℕ) → length held ≡ length words → sheet_files (words ++ word ∷ []) (held ++ bytes ∷ []) ≡ sheet_files words held ++ file_of word bytes ∷ []
sheet_files_more [] [] word bytes e = refl
sheet_files_more [] (h ∷ held) word bytes e = absurd (omega arith)
sheet_files_more (w ∷ words) [] word bytes e = absurd (omega arith)
sheet_files_more (w ∷ words) (h ∷ held) word bytes e = ap (λ (z : List SheetFile). file_of w h ∷ z) (sheet_files_more words held word bytes (omega arith))

length_front : {A : Type 0} (xs : List A) (i : ℕ) (a : A) → slice_get xs i ≡ Some a → length (take i xs) ≡ i
length_front [] i a h = cc
length_front (x ∷ xs) zero a h = refl
length_front (x ∷ xs) (suc i) a h = ap suc (length_front xs i a h)

read_more : (files : Files) (words : List (List ℕ)) (place : ℕ) (sheets : List SheetFile) (word : List ℕ) (file : SheetFile) → slice_get words place ≡ Some word → AreRead files words place sheets
    → file_held (input.Sheet place) (get files word) ≡ Ok file.bytes → file.stem ≡ unwrap_or (stem_of word) [] → AreRead files words (place + 1) (sheets ++ file ∷ [])
read_more files words place sheets word file there are held stem = record {
  held = are.held ++ file.bytes ∷ [];
  count = simp (length-append) (let c = are.count in omega arith);
  so_far =
      let here : sheets_held files place (drop place words) ≡ and_more (Ok file.bytes) (sheets_held files (place + 1) (drop (place + 1) words)) = rw (rest_of words place word there, held, add-one) refl in
      are.so_far ∙ ap (all_held are.held) here ∙ all_held_more are.held file.bytes (sheets_held files (place + 1) (drop (place + 1) words));
  sheets_are =
      let one : file ≡ file_of word file.bytes = ap (λ (s : List ℕ). record { stem = s; bytes = file.bytes }) stem in
      let many = sheet_files_more (take place words) are.held word file.bytes (are.count ∙ sym (length_front words place word there)) in
      rw (take_next words place word there)
      (ap (λ (z : List SheetFile). z ++ file ∷ []) are.sheets_are ∙ ap (λ (z : SheetFile). sheet_files (take place words) are.held ++ z ∷ []) one ∙ sym many);
}

read_stops : (files : Files) (words : List (List ℕ)) (place : ℕ) (sheets : List SheetFile) (word : List ℕ) (stop : Stop) → slice_get words place ≡ Some word → AreRead files words place sheets
    → file_held (input.Sheet place) (get files word) ≡ Err stop → sheets_held files 0 words ≡ Err stop
read_stops files words place sheets word stop there are held =
    let here : sheets_held files place (drop place words) ≡ Err stop = rw (rest_of words place word there, held) refl in
    are.so_far ∙ ap (all_held are.held) here ∙ all_held_stop are.held stop

read_all : (files : Files) (words : List (List ℕ)) (place : ℕ) (sheets : List SheetFile) → length words ≤ place → AreRead files words place sheets
    → (held : List (List ℕ)) × (sheets_held files 0 words ≡ Ok held) × (sheets ≡ sheet_files words held)
read_all files words place sheets long are =
    (are.held, are.so_far ∙ rw (drop_all place words long) (all_held_all are.held), are.sheets_are ∙ ap (λ (z : List (List ℕ)). sheet_files z are.held) (take_all place words long))

-- ---- the words
-- the text of a word that stands at a place
pub word_at : (words : List (String Global)) (i : ℕ) (w : String Global) (text : List ℕ) → i < length words → w ≡ get_or words i w → text ≡ string_bytes w → slice_get (texts_of words) i ≡ Some text
word_at [] i w text b is e = absurd (omega arith)
word_at (x ∷ words) zero w text b is e = ap Some (ap string_bytes (sym is) ∙ sym e)
word_at (x ∷ words) (suc i) w text b is e = word_at words i w text (omega arith) is e

pub length_texts : (words : List (String Global)) → length (texts_of words) ≡ length words
length_texts [] = refl
length_texts (w ∷ words) = ap suc (length_texts words)

pub sheets_more : (content : Option Files) (words : List (String Global)) (place : ℕ) (sheets : List SheetFile) (word : List ℕ) (file : SheetFile) → slice_get (texts_of words) place ≡ Some word
    → IfSome content (λ files. AreRead files (texts_of words) place sheets) → IfSome content (λ files. ReadsSheet (input.Sheet place) word (get files word) (Ok file))
    → IfSome content (λ files. AreRead files (texts_of words) (place + 1) (sheets ++ file ∷ []))
sheets_more None words place sheets word file there are h = tt
sheets_more (Some files) words place sheets word file there are h = read_more files (texts_of words) place sheets word file there are h.0 h.1

pub sheets_stop : (content : Option Files) (words : List (String Global)) (place : ℕ) (sheets : List SheetFile) (word : List ℕ) (e : End) → slice_get (texts_of words) place ≡ Some word
    → IfSome content (λ files. AreRead files (texts_of words) place sheets) → IfSome content (λ files. ReadsSheet (input.Sheet place) word (get files word) (Err e))
    → IfSome content (λ files. ReadsSheets files (texts_of words) (Err e))
sheets_stop None words place sheets word e there are h = tt
sheets_stop (Some files) words place sheets word (end.Stopped stop) there are h = read_stops files (texts_of words) place sheets word stop there are h
sheets_stop (Some files) words place sheets word end.Failed there are h = tt
sheets_stop (Some files) words place sheets word end.Memory there are h = tt

pub sheets_read : (content : Option Files) (words : List (String Global)) (place : ℕ) (sheets : Vec SheetFile Global) → length words ≤ place
    → IfSome content (λ files. AreRead files (texts_of words) place sheets.items) → IfSome content (λ files. ReadsSheets files (texts_of words) (Ok sheets))
sheets_read None words place sheets long are = tt
sheets_read (Some files) words place sheets long are = let n = length_texts words in read_all files (texts_of words) place sheets.items (omega arith) are
