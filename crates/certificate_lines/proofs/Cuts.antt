-- Cutting texts at a mark that the parts do not have.
use Rattle.std.proofs.Common.{◌≡◌, ◌≢◌, ℕ, List, [], ◌∷◌, ◌++◌, refl, sym, ap₂}
use Rattle.std.specs.List.{AllByRecursion}
use Rattle.certificate_lines.specs.Cutting.{Lacks, Starts, at_once, behind}

pub heads : {X : Type 0} (x y : X) (xs ys : List X) → x ∷ xs ≡ y ∷ ys → x ≡ y
heads x y xs ys e = cc

pub tails : {X : Type 0} (x y : X) (xs ys : List X) → x ∷ xs ≡ y ∷ ys → xs ≡ ys
tails x y xs ys e = cc

pub none_there : {X : Type 0} {P : Type 0} (x : X) (xs : List X) → x ∷ xs ≡ [] → P
none_there x xs e = absurd (cc)

pub record Cut (a b x y : List ℕ) : Type 0 where
  pub front : a ≡ b
  pub back : x ≡ y

pub cut : (m : ℕ) (a b x y : List ℕ) → Lacks m a → Lacks m b → a ++ (m ∷ x) ≡ b ++ (m ∷ y) → Cut a b x y
cut m [] [] x y h k e = record { front = refl; back = tails _ _ _ _ e }
cut m [] (c ∷ b) x y h k e = absurd (k.0 (sym (heads _ _ _ _ e)))
cut m (c ∷ a) [] x y h k e = absurd (h.0 (heads _ _ _ _ e))
cut m (c ∷ a) (d ∷ b) x y h k e =
    let r = cut m a b x y h.1 k.1 (tails _ _ _ _ e) in
    record { front = ap₂ (λ p q. p ∷ q) (heads _ _ _ _ e) r.front; back = r.back }

lacked : {P : Type 0} (m c : ℕ) (x : List ℕ) (b : List ℕ) → c ≢ m → Starts m x → x ≡ c ∷ b → P
lacked m c _ b h at_once e = none_there c b (sym e)
lacked m c _ b h (behind xs) e = absurd (h (sym (heads _ _ _ _ e)))

pub cut_start : (m : ℕ) (a b x y : List ℕ) → Lacks m a → Lacks m b → Starts m x → Starts m y → a ++ x ≡ b ++ y → Cut a b x y
cut_start m [] [] x y h k s t e = record { front = refl; back = e }
cut_start m [] (c ∷ b) x y h k s t e = lacked m c x _ k.0 s e
cut_start m (c ∷ a) [] x y h k s t e = lacked m c y _ h.0 t (sym e)
cut_start m (c ∷ a) (d ∷ b) x y h k s t e =
    let r = cut_start m a b x y h.1 k.1 s t (tails _ _ _ _ e) in
    record { front = ap₂ (λ p q. p ∷ q) (heads _ _ _ _ e) r.front; back = r.back }

-- ---- each of some numbers
pub all_map : {X : Type 0} (P Q : X → Type 0) → ((x : X) → P x → Q x) → (xs : List X) → AllByRecursion P xs → AllByRecursion Q xs
all_map P Q f [] h = tt
all_map P Q f (x ∷ xs) h = (f x h.0, all_map P Q f xs h.1)

pub all-append : {X : Type 0} (P : X → Type 0) (xs ys : List X) → AllByRecursion P xs → AllByRecursion P ys → AllByRecursion P (xs ++ ys)
all-append P [] ys h k = k
all-append P (x ∷ xs) ys h k = (h.0, all-append P xs ys h.1 k)

pub all-front : {X : Type 0} (P : X → Type 0) (xs ys : List X) → AllByRecursion P (xs ++ ys) → AllByRecursion P xs
all-front P [] ys h = tt
all-front P (x ∷ xs) ys h = (h.0, all-front P xs ys h.1)

pub all-back : {X : Type 0} (P : X → Type 0) (xs ys : List X) → AllByRecursion P (xs ++ ys) → AllByRecursion P ys
all-back P [] ys h = h
all-back P (x ∷ xs) ys h = all-back P xs ys h.1
