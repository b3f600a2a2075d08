-- Files to be written.
use Rattle.std.specs.Prelude.{ℕ, List, Option, refl}
use Rattle.std.specs.Coded.{Coded, code_by, coded×, coded_list, coded_ℕ, coded_option}

-- a file: that of a sheet, by its number, or that of the names; and its bytes
pub record SavedFile : Type 0 where
  pub sheet : Option ℕ
  pub bytes : List ℕ

-- a file as the pair of its parts
abbrev pub saved_code : Coded SavedFile
saved_code =
    code_by (Option ℕ × List ℕ) (coded× (coded_option coded_ℕ) (coded_list coded_ℕ)) (λ f. (f.sheet, f.bytes)) (λ p. record { sheet = p.0; bytes = p.1 }) (λ _. refl)
