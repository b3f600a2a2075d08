-- What a check is handed: words, a folder and a sink.
use Rattle.std.specs.Prelude.{ℕ, List, Option, None, refl}
use Rattle.std.specs.Coded.{Coded, code_by, coded×, coded_ℕ, coded_list, coded_option}
use Rattle.std.specs.FinMap.{code}
use Rattle.solver_io.specs.Files.{Files}
use Rattle.optcheck_cli.specs.Outside.{Outside, seen}

-- the texts of the words, and what is seen of the folder and the sink
pub record Surrounded : Type 0 where
  pub words : List (List ℕ)
  pub outside : Outside

-- no bytes are told, and no call has failed
abbrev pub untouched : Outside
untouched = seen None 0 0 0 None 0

-- ---- how proofs tell them apart
abbrev pub files_code : Coded (Option Files)
files_code = coded_option (code (coded_list coded_ℕ) (coded_list coded_ℕ))

-- what is told, and the counts, as pairs of their parts
abbrev pub outside_code : Coded Outside
outside_code =
    code_by
    ((Option Files × Option (List (List ℕ))) × (ℕ × (ℕ × (ℕ × ℕ))))
    (coded× (coded× files_code (coded_option (coded_list (coded_list coded_ℕ)))) (coded× coded_ℕ (coded× coded_ℕ (coded× coded_ℕ coded_ℕ))))
    (λ o. ((o.files, o.pieces), (o.folder_reads, (o.folder_writes, (o.folder_wants, o.sink_writes)))))
    (λ p. seen p.0.0 p.1.0 p.1.1.0 p.1.1.1.0 p.0.1 p.1.1.1.1)
    (λ _. refl)

abbrev pub surrounded_code : Coded Surrounded
surrounded_code =
    code_by (List (List ℕ) × Outside) (coded× (coded_list (coded_list coded_ℕ)) outside_code) (λ s. (s.words, s.outside))
    (λ p. record { words = p.0; outside = p.1 }) (λ _. refl)
