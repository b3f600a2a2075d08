-- Command lines and what they ask for.
use Rattle.std.specs.Prelude.{◌≡◌, ◌∷◌, [], ℕ, Some, None, codes}
use Rattle.std.proofs.Common.{refl}
use Rattle.clap.proofs.OnLiterals.{clap_on_literals}
use Rattle.command_line.specs.Words.{Job, MadeUp, Script, asked_of, best, depth}

-- a script over these files
script_of : ℕ → Job
script_of budget = record { named = record { names = codes "n.csv"; sheets = codes "a.csv" ∷ [] }; budget = budget; pick = depth }

names_and_a_sheet : asked_of (codes "--names" ∷ codes "n.csv" ∷ codes "a.csv" ∷ []) ≡ Some (Script (script_of 100000))
unfolding clap_on_literals script_of
names_and_a_sheet = refl

options_behind_a_sheet : asked_of (codes "a.csv" ∷ codes "--names" ∷ codes "n.csv" ∷ codes "--budget" ∷ codes "7" ∷ []) ≡ Some (Script (script_of 7))
unfolding clap_on_literals script_of
options_behind_a_sheet = refl

names_after_a_sign : asked_of (codes "--names=n.csv" ∷ codes "a.csv" ∷ []) ≡ Some (Script (script_of 100000))
unfolding clap_on_literals script_of
names_after_a_sign = refl

files_behind_two_dashes : asked_of (codes "--names" ∷ codes "n.csv" ∷ codes "--" ∷ codes "a.csv" ∷ []) ≡ Some (Script (script_of 100000))
unfolding clap_on_literals script_of
files_behind_two_dashes = refl

a_picker_and_two_sheets : asked_of (codes "--pick" ∷ codes "best" ∷ codes "b/x.csv" ∷ codes "--names=n" ∷ codes "a.csv" ∷ [])
    ≡ Some (Script (record { named = record { names = codes "n"; sheets = codes "b/x.csv" ∷ codes "a.csv" ∷ [] }; budget = 100000; pick = best }))
unfolding clap_on_literals
a_picker_and_two_sheets = refl

the_greatest_size : asked_of (codes "--gen" ∷ codes "12" ∷ []) ≡ Some (MadeUp 12)
unfolding clap_on_literals
the_greatest_size = refl

a_dash_in_front_of_a_file : asked_of (codes "--names=n.csv" ∷ codes "--" ∷ codes "-x.csv" ∷ [])
    ≡ Some (Script (record { named = record { names = codes "n.csv"; sheets = codes "-x.csv" ∷ [] }; budget = 100000; pick = depth }))
unfolding clap_on_literals
a_dash_in_front_of_a_file = refl

-- ---- words of another form
no_size : asked_of (codes "--gen" ∷ codes "0" ∷ []) ≡ None
unfolding clap_on_literals
no_size = refl

too_great_a_size : asked_of (codes "--gen" ∷ codes "13" ∷ []) ≡ None
unfolding clap_on_literals
too_great_a_size = refl

a_size_and_a_file : asked_of (codes "--gen" ∷ codes "1" ∷ codes "a.csv" ∷ []) ≡ None
unfolding clap_on_literals
a_size_and_a_file = refl

no_sheet : asked_of (codes "--names" ∷ codes "n.csv" ∷ []) ≡ None
unfolding clap_on_literals
no_sheet = refl

an_unknown_flag : asked_of (codes "-x" ∷ []) ≡ None
unfolding clap_on_literals
an_unknown_flag = refl

no_flag_for_help : asked_of (codes "--help" ∷ []) ≡ None
unfolding clap_on_literals
no_flag_for_help = refl

names_twice : asked_of (codes "--names" ∷ codes "n.csv" ∷ codes "--names" ∷ codes "m.csv" ∷ codes "a.csv" ∷ []) ≡ None
unfolding clap_on_literals
names_twice = refl

no_file_of_a_sheet : asked_of (codes "--names" ∷ codes "n.csv" ∷ codes "a.txt" ∷ []) ≡ None
unfolding clap_on_literals
no_file_of_a_sheet = refl

no_words : asked_of [] ≡ None
unfolding clap_on_literals
no_words = refl

no_budget : asked_of (codes "--names" ∷ codes "n.csv" ∷ codes "a.csv" ∷ codes "--budget" ∷ codes "1000001" ∷ []) ≡ None
unfolding clap_on_literals
no_budget = refl

an_option_without_a_value : asked_of (codes "a.csv" ∷ codes "--names" ∷ []) ≡ None
unfolding clap_on_literals
an_option_without_a_value = refl

an_option_for_a_value : asked_of (codes "--names" ∷ codes "--budget" ∷ codes "7" ∷ codes "a.csv" ∷ []) ≡ None
unfolding clap_on_literals
an_option_for_a_value = refl

an_unknown_picker : asked_of (codes "--names" ∷ codes "n.csv" ∷ codes "--pick" ∷ codes "worst" ∷ codes "a.csv" ∷ []) ≡ None
unfolding clap_on_literals
an_unknown_picker = refl
