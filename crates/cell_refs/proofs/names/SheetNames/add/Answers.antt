use Rattle.std.proofs.Common.{◌≡◌, ◌∙◌, ◌++◌, ◌∷◌, [], List, ℕ, ap, subst, sym, map, string_bytes, length, refl, arith}
use Rattle.std.proofs.lemmas.List.{map_push, length-map}
use Rattle.cell_refs.specs.Names.{AreDistinct, IsNamed}
use Rattle.cell_refs.proofs.NamesLemmas.{distinct_push, none_of}
use Rattle.cell_refs.specs.declared.limits.TheConstants.{SHEETS}
use Rattle.cell_refs.proofs.names.SheetNames.add.Goals as goal

pub invariant_of-self-2 : goal.invariant_of-self-2
invariant_of-self-2 c =
    let names : List (List ℕ) = map string_bytes c.self.inside.names.items in
    let free = none_of c.find.result _ (sym c.if-is_some.ensures) c.find.ensures.none in
    let items = c.in-Ok-push.ensures.items in
    let more : map string_bytes c.push.new.self.items ≡ names ++ c.args.name.now ∷ [] =
    ap (map string_bytes) items ∙ map_push string_bytes c.self.inside.names.items c.in-Ok.name ∙ ap (λ (n : List ℕ). names ++ n ∷ []) c.in-Ok.ensures.ok in
    let apart = distinct_push names c.args.name.now c.self.invariant.1 (λ id named. free id (subst (λ (ns : List (List ℕ)). IsNamed ns c.args.name.now id) c.self.view_is named)) in
    (omega arith, subst AreDistinct (sym more) apart)

pub returns-then-count-ge-SHEETS-clause-taken : goal.returns-then-count-ge-SHEETS-clause-taken
returns-then-count-ge-SHEETS-clause-taken c =
    let free = none_of c.find.result _ (sym c.if-is_some.ensures) c.find.ensures.none in
    (λ e. cc e, λ (id, named). absurd (free id named))

pub returns-in_default-clause-taken : goal.returns-in_default-clause-taken
returns-in_default-clause-taken c =
    let free = none_of c.find.result _ (sym c.if-is_some.ensures) c.find.ensures.none in
    (λ e. cc e, λ (id, named). absurd (free id named))

pub returns-in_default-push-clause-taken : goal.returns-in_default-push-clause-taken
returns-in_default-push-clause-taken c =
    let free = none_of c.find.result _ (sym c.if-is_some.ensures) c.find.ensures.none in
    (λ e. cc e, λ (id, named). absurd (free id named))

pub returns-clause-taken : goal.returns-clause-taken
returns-clause-taken c =
    let free = none_of c.find.result _ (sym c.if-is_some.ensures) c.find.ensures.none in
    (λ e. cc e, λ (id, named). absurd (free id named))

pub returns-then-count-ge-SHEETS-clause-full : goal.returns-then-count-ge-SHEETS-clause-full
returns-then-count-ge-SHEETS-clause-full c =
    let free = none_of c.find.result _ (sym c.if-is_some.ensures) c.find.ensures.none in
    let count = length-map c.self.inside.names.items string_bytes in
    let all : length c.args.self.now ≡ SHEETS = rw (← c.self.view_is) (omega (arith, count, c.self.invariant.0)) in
    (λ _. (free, all), λ _. refl)
