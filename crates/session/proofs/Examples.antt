-- Steps that there are.
use Rattle.std.proofs.Common.{◌≡◌, [], ◌∷◌, codes, refl}
use Rattle.std.specs.Prelude.{Some, None, Err, Ok}
use Rattle.node_pick.specs.Rules.{Rule}
use Rattle.kept_book.specs.FromSheetSolving.{Opened}
use Rattle.commands.specs.declared.answer.Answer.TheVariants as answer
use Rattle.commands.specs.Commands.{Slice, Stop}
use Rattle.session.specs.Cuts.{cut, cut_of, sheet_to_begin}
use Rattle.session.specs.States.{SessionState, other_searches, with_search}
use Rattle.session.specs.Steps.{Step}

-- a session over a workbook with the sheets `plan` and `data`, without searches
over : SessionState → SessionState
over s = record s { book = record (s.book) { sheets = codes "plan" ∷ codes "data" ∷ [] }; searches = None ∷ None ∷ [] }

the_sheet_before_the_number : (rule : Rule) (s : SessionState) → Step rule (over s) (Slice (codes "none") (codes "0")) answer.UnknownSheet (over s)
unfolding over
the_sheet_before_the_number rule s = (over s, (refl, refl), refl)

the_number_before_the_search : (rule : Rule) (s : SessionState) → Step rule (over s) (Slice (codes "plan") (codes "0")) answer.BadNumber (over s)
unfolding over
the_number_before_the_search rule s = (over s, (refl, refl), refl)

no_search : (rule : Rule) (s : SessionState) → Step rule (over s) (Slice (codes "plan") (codes "1")) answer.NoSearch (over s)
unfolding over
no_search rule s = (over s, (refl, refl), refl)

a_stop : (rule : Rule) (s : SessionState) (search : Opened) → Step rule (with_search (over s) 1 search) (Stop (codes "DATA")) answer.Stopped (over s)
unfolding over
a_stop rule s search = (over s, (refl, refl), refl)

of_another : (rule : Rule) (s : SessionState) (search : Opened) → Step rule (with_search (over s) 1 search) (Stop (codes "plan")) answer.NoSearch (with_search (over s) 1 search)
unfolding over
of_another rule s search = (with_search (over s) 1 search, (refl, refl), refl)

a_cut : (s : SessionState) (search : Opened) → cut_of (with_search (over s) 0 search) (codes "plan") (codes "007") ≡ Ok (cut 0 7 search)
unfolding over
a_cut s search = refl

one_other : (s : SessionState) (search : Opened) → other_searches (with_search (with_search (over s) 0 search) 1 search) 0 ≡ 1
unfolding over
one_other s search = refl

-- with eight other searches
eight : SessionState → Opened → SessionState
eight s search = record s {
  book = record (s.book) { sheets = codes "plan" ∷ [] };
  searches = None ∷ Some search ∷ Some search ∷ Some search ∷ Some search ∷ Some search ∷ Some search ∷ Some search ∷ Some search ∷ [];
}

a_ninth : (s : SessionState) (search : Opened) → sheet_to_begin (eight s search) (codes "plan") ≡ Err answer.TooManySearches
unfolding eight
a_ninth s search = refl
