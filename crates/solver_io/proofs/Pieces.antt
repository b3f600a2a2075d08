-- A piece that is written bit by bit.
use Rattle.std.proofs.Common.{◌≡◌, ◌∙◌, ◌≤◌, ◌++◌, ℕ, List, [], length, take, drop, Option, Some, None, sym, ap, refl, arith, append_assoc, append-nil, length-append, ◌∷◌}
use Rattle.std.proofs.lemmas.List.{take-append-drop}
use Rattle.std.proofs.Math.Seq.{take-append_seam}
use Rattle.std.proofs.KnownBytes.{Appends-nil, Appends-trans}
use Rattle.std.specs.Io.KnownBytes.{Appends, Keeps}
use Rattle.solver_io.specs.Moving.{AppendsSome}

-- the piece but for this rest was appended
pub record Underway (old new : Option (List ℕ)) (piece rest : List ℕ) : Type 0 where
  pub front : List ℕ
  pub split : piece ≡ front ++ rest
  pub appended : Appends old new front

Appends-kept : (a b c : Option (List ℕ)) (bs : List ℕ) → Appends a b bs → Keeps b c → Appends a c bs
Appends-kept None b c bs p q = tt
Appends-kept (Some x) None c bs p q = absurd p
Appends-kept (Some x) (Some y) None bs p q = absurd q
Appends-kept (Some x) (Some y) (Some z) bs p q = q ∙ p

pub underway_start : (a : Option (List ℕ)) (piece : List ℕ) → Underway a a piece piece
underway_start a piece = record { front = []; split = refl; appended = Appends-nil a }

pub underway_more : (a b c : Option (List ℕ)) (piece rest : List ℕ) (n : ℕ) → Underway a b piece rest → Appends b c (take n rest) → Underway a c piece (drop n rest)
underway_more a b c piece rest n u more = record {
  front = u.front ++ take n rest;
  split = u.split ∙ ap (λ l. u.front ++ l) (sym (take-append-drop n rest)) ∙ sym (append_assoc u.front (take n rest) (drop n rest));
  appended = Appends-trans a b c u.front (take n rest) u.appended more;
}

pub underway_kept : (a b c : Option (List ℕ)) (piece rest : List ℕ) → Underway a b piece rest → Keeps b c → Underway a c piece rest
underway_kept a b c piece rest u kept = record { front = u.front; split = u.split; appended = Appends-kept a b c u.front u.appended kept }

-- where the writing stops, a prefix of the piece was appended
pub underway_some : (a b : Option (List ℕ)) (piece rest : List ℕ) → Underway a b piece rest → AppendsSome a b piece
underway_some a b piece rest u =
    let short : length u.front ≤ length piece = omega (arith, ap length u.split, length-append u.front rest) in
    (length u.front, short, rw (u.split, take-append_seam u.front rest) u.appended)

-- where nothing is left, the piece was appended
pub underway_all : (a b : Option (List ℕ)) (piece rest : List ℕ) → Underway a b piece rest → length rest ≡ 0 → Appends a b piece
underway_all a b piece [] u e = rw (u.split, append-nil u.front) u.appended
underway_all a b piece (x ∷ xs) u e = absurd (omega arith)
