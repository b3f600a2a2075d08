-- The relation in front of a text.
use Rattle.std.proofs.Common.{◌≡◌, ◌≢◌, ℕ, Bool, true, false, refl, ap, List, [], ◌∷◌, None}
use Rattle.std.specs.Prelude.{◌==◌}
use Rattle.std.proofs.lemmas.Bool.{eqb-true}
use Rattle.cell_refs.specs.declared.op.Op.TheVariants as op
use Rattle.sheet_funcs.specs.ReadCriteria.{behind_less, behind_greater}
use Rattle.sheet_funcs.specs.Criteria.{relation_in}

-- a byte that isn't this one in front of any text
other : (c b : ℕ) (bytes : List ℕ) → ((rest : List ℕ) → (b ∷ bytes) ≢ c ∷ rest) → (b == c) ≡ false
other c b bytes none = by_case (b == c) refl
  where
    by_case : (t : Bool) → (b == c) ≡ t → t ≡ false
    by_case false e = refl
    by_case true e = absurd (none bytes (ap (λ x. x ∷ bytes) (eqb-true b c e)))

-- behind '<' stands neither '=' nor '>'
pub less_alone : (text : List ℕ) → ((rest : List ℕ) → text ≢ 61 ∷ rest) → ((rest : List ℕ) → text ≢ 62 ∷ rest) → ◌≡◌ {A = op.the_data × List ℕ} (op.Lt, text) (behind_less text)
less_alone [] none_equal none_greater = refl
less_alone (b ∷ bytes) none_equal none_greater = rw (other 61 b bytes none_equal, other 62 b bytes none_greater) refl

-- behind '>' stands no '='
pub greater_alone : (text : List ℕ) → ((rest : List ℕ) → text ≢ 61 ∷ rest) → ◌≡◌ {A = op.the_data × List ℕ} (op.Gt, text) (behind_greater text)
greater_alone [] none = refl
greater_alone (b ∷ bytes) none = rw (other 61 b bytes none) refl

-- a text without a sign in front asks for no relation
pub no_relation : (text : List ℕ) → ((rest : List ℕ) → text ≢ 60 ∷ rest) → ((rest : List ℕ) → text ≢ 61 ∷ rest) → ((rest : List ℕ) → text ≢ 62 ∷ rest) → None ≡ relation_in text
no_relation [] less equal greater = refl
no_relation (b ∷ bytes) less equal greater = rw (other 60 b bytes less, other 61 b bytes equal, other 62 b bytes greater) refl
