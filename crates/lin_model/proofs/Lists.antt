-- What holds of the lists that vectors hold.
use Rattle.std.specs.Prelude.{All, Vec}
use Rattle.std.specs.Global.{Global}
use Rattle.std.specs.List.{AllByRecursion}
use Rattle.std.proofs.Common.{◌↔◌, ℕ, List, [], ◌∷◌}
use Rattle.std.proofs.lemmas.List.Elements.{All-from_recursion, recursion_from_All}
use Rattle.lin_model.specs.Lists.{lists_of}

by_recursion : (P : List ℕ → Type 0) (vs : List (Vec ℕ Global)) → AllByRecursion P (lists_of vs) ↔ AllByRecursion (λ (v : Vec ℕ Global). P v.items) vs
by_recursion P [] = (λ h. tt, λ h. tt)
by_recursion P (v ∷ vs) = let r = by_recursion P vs in (λ h. (h.0, r.0 h.1), λ h. (h.0, r.1 h.1))

pub all_of_lists : (P : List ℕ → Type 0) (vs : List (Vec ℕ Global)) → All P (lists_of vs) ↔ All (λ (v : Vec ℕ Global). P v.items) vs
all_of_lists P vs =
    let r = by_recursion P vs in (
      λ h. All-from_recursion (λ (v : Vec ℕ Global). P v.items) vs (r.0 (recursion_from_All P (lists_of vs) h)),
      λ h. All-from_recursion P (lists_of vs) (r.1 (recursion_from_All (λ (v : Vec ℕ Global). P v.items) vs h)),
    )
