use Rattle.std.proofs.Common.{◌≡◌, ◌+◌, ℕ, List, [], ◌∷◌, ◌++◌, Some, length, slice_get, ap, ◌∙◌, arith, inl, inr}
use Rattle.std.proofs.lemmas.Bool.{cases_lt}
use Rattle.std.proofs.lemmas.List.{length_push}
use Rattle.column_strips.proofs.Ahead.{get_push_before, get_push_last}
use Rattle.column_strips.proofs.rows.add_behind.Goals as goal

pub push_reserved-requires : goal.push_reserved-requires
push_reserved-requires c = omega (arith, c.behind-test.true, c.len.ensures, c.requires.room, c.behind.invariant.capacity, c.behind.rows.ok.0)

pub behind-preserved : goal.behind-preserved
behind-preserved c =
    let old = c.behind.rows.items in
    let pushed = c.push_reserved.ensures.items in
    let longer : length c.push_reserved.new.self.items ≡ length old + 1 = ap length pushed ∙ length_push old c.args.row in
    record {
      capacity = omega (arith, c.behind.invariant.capacity, c.push_reserved.ensures.capacity);
      most = omega (arith, longer, c.behind-test.true, c.len.ensures, c.behind.rows.ok.0);
      least = omega (arith, longer, c.behind.invariant.least);
      before = λ k h. ap (λ (xs : List ℕ). slice_get xs k) pushed ∙ get_push_before old c.args.row k (omega (arith, h, c.behind.invariant.least)) ∙ c.behind.invariant.before k h;
      filled = λ k a h. elim (cases_lt k (length old)) as (λ _. slice_get c.push_reserved.new.self.items k ≡ Some c.args.row) [
        | inl b ↦ ap (λ (xs : List ℕ). slice_get xs k) pushed ∙ get_push_before old c.args.row k b ∙ c.behind.invariant.filled k a b
        | inr m ↦
            let e : k ≡ length old = omega (arith, h, longer, m) in
            ap (λ (xs : List ℕ). slice_get xs k) pushed ∙ ap (slice_get (old ++ c.args.row ∷ [])) e ∙ get_push_last old c.args.row
      ];
    }
