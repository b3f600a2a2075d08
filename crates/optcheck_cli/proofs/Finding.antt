-- What a run finds before the check, from what was read.
use Rattle.std.proofs.Common.{◌≡◌, ◌≤◌, ◌<◌, ℕ, List, Option, Some, None, IfSome, length, refl, ap, sym, subst, ◌∙◌}
use Rattle.std.specs.Prelude.{Result, Ok, Err, Vec, IsUtf8}
use Rattle.std.specs.Global.{Global}
use Rattle.std.specs.FinMap.{get}
use Rattle.std.specs.Str.Lossy.{utf8_valid_len}
use Rattle.std.proofs.lemmas.Bool.{le-ltb, lt-ltb}
use Rattle.std.proofs.lemmas.Str.{is_utf8-from_IsUtf8}
use Rattle.cell_refs.specs.declared.limits.TheConstants.{FILE_BYTES}
use Rattle.solver_io.specs.Files.{Files}
use Rattle.certificate_texts.specs.declared.cert.Cert.{Cert as Made}
use Rattle.workbook.specs.State.{State}
use Rattle.run_inputs.specs.declared.stop.Limit.TheVariants as limit
use Rattle.run_inputs.specs.declared.stop.Stop.TheVariants as stop
use Rattle.run_inputs.proofs.OpenLaws.{no_text}
use Rattle.optcheck_cli.specs.Findings.{text_held}
use Rattle.optcheck_cli.specs.Inner.{FindsMade, OpensBook, ReadsBytes, ReadsCertificate, ReadsText}
use Rattle.optcheck_cli.specs.Words.{Asked}
use Rattle.optcheck_cli.specs.declared.halt.End.{End}
use Rattle.optcheck_cli.specs.declared.halt.End.TheVariants as end
use Rattle.optcheck_cli.specs.declared.halt.Halt.TheVariants as halt

-- ---- the certificate
-- its file is too long
pub too_long : (bytes : List ℕ) → FILE_BYTES < length bytes → text_held (Some bytes) ≡ Err (halt.Files (stop.TooMuch limit.FileBytes))
too_long bytes long = rw (lt-ltb FILE_BYTES (length bytes) long) refl

is_held : (bytes : List ℕ) → length bytes ≤ FILE_BYTES → IsUtf8 bytes → text_held (Some bytes) ≡ Ok bytes
is_held bytes fits text = rw (le-ltb FILE_BYTES (length bytes) fits, is_utf8-from_IsUtf8 bytes text) refl

is_no_text : (bytes : List ℕ) → length bytes ≤ FILE_BYTES → ¬ (IsUtf8 bytes) → text_held (Some bytes) ≡ Err (halt.NotUtf8 (utf8_valid_len bytes))
is_no_text bytes fits other = rw (le-ltb FILE_BYTES (length bytes) fits, no_text bytes other) refl

by_text : (bytes : List ℕ) (r : Result Made End) → length bytes ≤ FILE_BYTES → ReadsText bytes r → ReadsCertificate (Some bytes) r
by_text bytes (Ok made) fits (text, (cert, (is, read))) = (bytes, cert, (is_held bytes fits text, (is, read)))
by_text bytes (Err (end.Halted (halt.NotUtf8 place))) fits (other, at) = is_no_text bytes fits other ∙ ap (λ (n : ℕ). Err (halt.NotUtf8 n)) (sym at)
by_text bytes (Err (end.Halted (halt.Line line))) fits (text, stops) = (bytes, (is_held bytes fits text, stops))
by_text bytes (Err (end.Halted (halt.Files cause))) fits h = absurd h
by_text bytes (Err (end.Halted halt.Missing)) fits h = absurd h
by_text bytes (Err end.Failed) fits h = absurd h
by_text bytes (Err end.Memory) fits h = tt

pub certificate_read : (content : Option Files) (word : List ℕ) (bytes : Vec ℕ Global) (given : List ℕ) (r : Result Made End) → length bytes.items ≤ FILE_BYTES → given ≡ bytes.items
    → IfSome content (λ files. ReadsBytes (get files word) (Ok bytes)) → ReadsText given r → IfSome content (λ files. ReadsCertificate (get files word) r)
certificate_read None word bytes given r fits same held read = tt
certificate_read (Some files) word bytes given r fits same held read =
    subst (λ (z : Option (List ℕ)). ReadsCertificate z r) (sym held) (by_text bytes.items r fits (subst (λ (z : List ℕ). ReadsText z r) same read))

by_bytes : (held : Option (List ℕ)) (e : End) → ReadsBytes held (Err e) → ReadsCertificate held (Err e)
by_bytes held (end.Halted (halt.Files cause)) h = h.0
by_bytes held (end.Halted halt.Missing) h = h.0
by_bytes held (end.Halted (halt.NotUtf8 place)) h = h.0
by_bytes held (end.Halted (halt.Line line)) h = absurd (h.1 line refl)
by_bytes held end.Failed h = tt
by_bytes held end.Memory h = tt

pub certificate_ends : (content : Option Files) (word : List ℕ) (e : End) → IfSome content (λ files. ReadsBytes (get files word) (Err e)) → IfSome content (λ files. ReadsCertificate (get files word) (Err e))
certificate_ends None word e h = tt
certificate_ends (Some files) word e h = by_bytes (get files word) e h

-- ---- both
pub both_found : (content : Option Files) (asked : Asked) (book : State) (made : Made) → IfSome content (λ files. OpensBook asked.named files (Ok book))
    → IfSome content (λ files. ReadsCertificate (get files asked.certificate) (Ok made)) → IfSome content (λ files. FindsMade asked files (Ok (book, made)))
both_found None asked book made h k = tt
both_found (Some files) asked book made h (text, cert, (held, (is, read))) = (cert, (is, record { text = text; held = rw (h, held) refl; read = read }))

by_certificate : (files : Files) (asked : Asked) (book : State) (e : End) → OpensBook asked.named files (Ok book) → ReadsCertificate (get files asked.certificate) (Err e) → FindsMade asked files (Err e)
by_certificate files asked book (end.Halted (halt.Files cause)) h k = rw (h, k) refl
by_certificate files asked book (end.Halted halt.Missing) h k = rw (h, k) refl
by_certificate files asked book (end.Halted (halt.NotUtf8 place)) h k = rw (h, k) refl
by_certificate files asked book (end.Halted (halt.Line line)) h (text, (held, stops)) = record { book = book; text = text; held = rw (h, held) refl; stops = stops }
by_certificate files asked book end.Failed h k = tt
by_certificate files asked book end.Memory h k = tt

-- the folder is as before, and the word that is asked for
pub read_there : (there content : Option Files) (word given : List ℕ) (e : End) → there ≡ content → word ≡ given → IfSome there (λ files. ReadsCertificate (get files word) (Err e))
    → IfSome content (λ files. ReadsCertificate (get files given) (Err e))
read_there there content word given e same is h =
    subst (λ (w : List ℕ). IfSome content (λ files. ReadsCertificate (get files w) (Err e))) is (subst (λ (z : Option Files). IfSome z (λ files. ReadsCertificate (get files word) (Err e))) same h)

pub ends_in_certificate : (content : Option Files) (asked : Asked) (book : State) (e : End) → IfSome content (λ files. OpensBook asked.named files (Ok book))
    → IfSome content (λ files. ReadsCertificate (get files asked.certificate) (Err e)) → IfSome content (λ files. FindsMade asked files (Err e))
ends_in_certificate None asked book e h k = tt
ends_in_certificate (Some files) asked book e h k = by_certificate files asked book e h k

by_book : (files : Files) (asked : Asked) (e : End) → OpensBook asked.named files (Err e) → FindsMade asked files (Err e)
by_book files asked (end.Halted (halt.Files cause)) h = rw h refl
by_book files asked (end.Halted halt.Missing) h = absurd h
by_book files asked (end.Halted (halt.NotUtf8 place)) h = absurd h
by_book files asked (end.Halted (halt.Line line)) h = absurd h
by_book files asked end.Failed h = tt
by_book files asked end.Memory h = tt

pub ends_in_book : (content : Option Files) (asked : Asked) (e : End) → IfSome content (λ files. OpensBook asked.named files (Err e)) → IfSome content (λ files. FindsMade asked files (Err e))
ends_in_book None asked e h = tt
ends_in_book (Some files) asked e h = by_book files asked e h
