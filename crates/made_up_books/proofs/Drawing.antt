-- Draws one after the other.
use Rattle.std.proofs.Common.{◌≡◌, ◌<◌, ◌+◌, ◌-◌, ◌*◌, ◌/◌, ◌%◌, ◌++◌, ℕ, zero, suc, List, [], ◌∷◌, length, take, drop, refl, ap, ◌∙◌, append_assoc, length-drop, arith}
use Rattle.std.proofs.lemmas.List.{length-map}
use Rattle.made_up_books.specs.MadeUp.{costs, demands, draws, next_seed}

pub draws_go_on : (drawn : List ℕ) (count i seed : ℕ) → i < count
    → (drawn ++ (next_seed seed / 65536) ∷ []) ++ draws (count - (i + 1)) (next_seed seed) ≡ drawn ++ draws (count - i) seed
draws_go_on drawn count i seed h =
    let e : count - i ≡ suc (count - (i + 1)) = omega arith in
    rw (append_assoc, e) refl

pub length_of_draws : (count seed : ℕ) → length (draws count seed) ≡ count
length_of_draws zero seed = refl
length_of_draws (suc count) seed = ap suc (length_of_draws count (next_seed seed))

pub first_draws : (count more seed : ℕ) → take count (draws (count + more) seed) ≡ draws count seed
first_draws zero more seed = refl
first_draws (suc count) more seed =
    let e : suc count + more ≡ suc (count + more) = omega arith in
    rw e (ap (λ ds. next_seed seed / 65536 ∷ ds) (first_draws count more (next_seed seed)))

pub length_of_costs : (n : ℕ) → length (costs n) ≡ n * n
length_of_costs n = length-map (draws (n * n) 1) (λ d. 1 + d % 20) ∙ length_of_draws (n * n) 1

pub length_of_demands : (n : ℕ) → length (demands n) ≡ n
length_of_demands n =
    let a = length-map (drop (n * n) (draws (n * n + n) 1)) (λ d. 10 + d % 10) in
    let b = length-drop (n * n) (draws (n * n + n) 1) in
    let c = length_of_draws (n * n + n) 1 in
    omega arith
