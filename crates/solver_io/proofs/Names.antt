-- Names that are distinct, file by file from the last.
use Rattle.std.proofs.Common.{◌≡◌, ◌∙◌, ◌<◌, ◌+◌, ◌∷◌, ℕ, zero, suc, true, false, List, [], drop, length, get_or, Some, None, string_bytes, sym, ap, subst, arith, Option, IfSome, IfNone}
use Rattle.std.specs.Prelude.{slice_get, is_some}
use Rattle.std.specs.Str.{bytes_eq}
use Rattle.std.specs.List.{AllByRecursion, IsDistinct}
use Rattle.std.proofs.lemmas.List.{drop_more, drop_all}
use Rattle.std.proofs.lemmas.Map.Keys.{IsDistinct-cons, IsDistinct-head, IsDistinct-tail}
use Rattle.std.proofs.lemmas.Map.Text.{is_eq-slice_cmp}
use Rattle.std.proofs.lemmas.Slice.Eq.{bytes_eq-Decides}
use Rattle.solver_io.specs.Held.{File, IsPlaceOf, first_held, names_of}
use Rattle.solver_io.proofs.Places.{apart_of}

-- a name under which nothing is held is none of the names
apart_all : (name : List ℕ) (files : List File) → first_held name files ≡ None → AllByRecursion (λ y. bytes_eq name y ≡ false) (names_of files)
apart_all name [] none = tt
apart_all name (f ∷ fs) none =
    let apart = apart_of name f fs none in
    (sym (is_eq-slice_cmp name (string_bytes f.0)) ∙ apart, apart_all name fs (rw apart at none))

-- a name that stands somewhere is not apart from all
not_apart : (name : List ℕ) (files : List File) (j : ℕ) (file : File) → slice_get files j ≡ Some file → string_bytes file.0 ≡ name
    → AllByRecursion (λ y. bytes_eq name y ≡ false) (names_of files) → ⊥
not_apart name [] j file there same apart = cc there
not_apart name (f ∷ fs) zero file there same apart =
    let e : f ≡ file = cc in
    let is : name ≡ string_bytes f.0 = sym (ap (λ (g : File). string_bytes g.0) e ∙ same) in
    let alike : bytes_eq name (string_bytes f.0) ≡ true = (bytes_eq-Decides name (string_bytes f.0)).1 is in
    cc (sym alike ∙ apart.0)
not_apart name (f ∷ fs) (suc j) file there same apart = not_apart name fs j file there same apart.1

-- no names are distinct
pub distinct_none : (files : List File) → IsDistinct bytes_eq (names_of (drop (length files) files))
unfolding IsDistinct
distinct_none files = rw (drop_all (length files) files (omega arith)) tt

-- the files from a place on are the file there and those after it
drop_at : (files : List File) (i : ℕ) (file : File) → i < length files → file ≡ get_or files i file → drop i files ≡ file ∷ drop (i + 1) files
drop_at files i file lt is = drop_more files i file lt ∙ ap (λ f. f ∷ drop (i + 1) files) (sym is)

-- one more name, under which nothing is held after it
pub distinct_more : (files : List File) (i : ℕ) (file : File) → i < length files → file ≡ get_or files i file → first_held (string_bytes file.0) (drop (i + 1) files) ≡ None
    → IsDistinct bytes_eq (names_of (drop (i + 1) files)) → IsDistinct bytes_eq (names_of (drop i files))
distinct_more files i file lt is none rest =
    subst (λ l. IsDistinct bytes_eq (names_of l)) (sym (drop_at files i file lt is))
    (IsDistinct-cons bytes_eq (string_bytes file.0) (names_of (drop (i + 1) files)) (apart_all (string_bytes file.0) (drop (i + 1) files) none) rest)

-- names that are distinct are so from each place on
distinct_drop : (files : List File) (i : ℕ) → IsDistinct bytes_eq (names_of files) → IsDistinct bytes_eq (names_of (drop i files))
distinct_drop [] zero all = all
distinct_drop [] (suc i) all = all
distinct_drop (f ∷ fs) zero all = all
distinct_drop (f ∷ fs) (suc i) all = distinct_drop fs i (IsDistinct-tail bytes_eq (string_bytes f.0) (names_of fs) all)

-- a name that stands again later
pub distinct_not : (files : List File) (i j : ℕ) (file : File) → i < length files → file ≡ get_or files i file → IsPlaceOf (drop (i + 1) files) (string_bytes file.0) j
    → IsDistinct bytes_eq (names_of files) → ⊥
distinct_not files i j file lt is place all =
    let from = distinct_drop files i all in
    let head = IsDistinct-head bytes_eq (string_bytes file.0) (names_of (drop (i + 1) files)) (subst (λ l. IsDistinct bytes_eq (names_of l)) (drop_at files i file lt is) from) in
    let (other, there, same) = place.there in
    not_apart (string_bytes file.0) (drop (i + 1) files) j other there same head

-- what an answer says of the value that it has
pub found_of : (r : Option ℕ) (P : ℕ → Type 0) → is_some r ≡ true → IfSome r P → (j : ℕ) × P j
found_of None P e found = cc e
found_of (Some j) P e found = (j, found)

-- what an answer says where it has no value
pub none_of : (r : Option ℕ) (P : Type 0) → is_some r ≡ false → IfNone r P → P
none_of None P e none = none
none_of (Some j) P e none = cc e
