-- The search for what is needed.
use Rattle.std.specs.Prelude.{◌↔◌, All}
use Rattle.std.proofs.Common.{◌≡◌, ℕ, ◌+◌, ◌<◌, true, false, List, [], ◌∷◌, ◌++◌, get_or, length, take, Contains, refl, sym, ap, subst, ◌∙◌, arith, ◌⊎◌, inl, inr, length-append}
use Rattle.std.specs.FinMap.{contains_key, contains_key-keys, keys}
use Rattle.std.specs.FinSet as set
use Rattle.std.proofs.lemmas.List.Elements.{All-contains, All-more, All-weaker, Contains-append_left, Contains-get_or, Contains-push, Contains-push_cases}
use Rattle.std.proofs.lemmas.Map.Views.{Contains-from_any}
use Rattle.cell_refs.specs.declared.cell.Cell.{Cell}
use Rattle.cell_refs.specs.Cells.{cell_cmp}
use Rattle.cell_refs.proofs.Order.{exact_cells}
use Rattle.dep_table.proofs.Orderings.{is_equal}
use Rattle.recalculation.specs.Entries.{Book}
use Rattle.cell_refs.specs.declared.place.Place.{Place}
use Rattle.cell_refs.specs.declared.place.Place.TheVariants as place
use Rattle.form_needs.specs.Needed.{Asked, IsNeeded, PlaceLooksAt}
use Rattle.form_needs.specs.Needed as needed
use Rattle.needed_cells.specs.Finding.{AreAdded, Has, IsSpreading, IsStarted, StartsAt, not_found}
use Rattle.needed_cells.proofs.Adding.{CellSet}

-- a cell with a text is among those that have one
pub among_texts : (book : Book) (b : Cell) → contains_key book.texts b ≡ true → Contains (keys book.texts) b
among_texts book b h = Contains-from_any (λ x y t. exact_cells x y (is_equal _ t)) b (keys book.texts) (sym (contains_key-keys book.texts b) ∙ h)

module _ (q : Asked) where
  -- nothing is found at first
  pub nothing : (found : CellSet) (pending : List Cell) → found ≡ set.empty → pending ≡ [] → IsSpreading q found pending
  nothing found pending e f = record {
    needed = λ c h. absurd (none c h);
    there = λ c h. let l = ap length f in absurd (omega (arith, h.1, l));
    closed = λ a b h l. absurd (none a h);
  }
    where
      none : (c : Cell) → Has found c → ⊥
      none c h = let n : set.contains found c ≡ false = ap (λ s. set.contains s c) e ∙ set.contains-empty cell_cmp c in cc

  module _ (found later : CellSet) (pending waiting : List Cell) where
    -- ---- a root
    start_needed : (p : Place) (b : Cell) → Contains q.roots p → StartsAt q p b → IsNeeded q (place.Cell b)
    start_needed (place.Cell a) b i h = subst (λ c. IsNeeded q (place.Cell c)) h.0 (needed.root (place.Cell a) i h.1)
    start_needed (place.Side k) b i h = needed.looked (place.Side k) b (needed.root (place.Side k) i tt) h

    pub started_on : IsSpreading q found pending → (root : Place) → Contains q.roots root → (cells : List Cell) → ((b : Cell) → Contains cells b ↔ StartsAt q root b)
        → AreAdded cells found pending later waiting → IsSpreading q later waiting
    started_on s root i cells each added = record {
      needed = λ c h. elim (added.only c h) as (λ _. IsNeeded q (place.Cell c)) [ inl w ↦ s.needed c w | inr w ↦ start_needed root c i ((each c).0 w) ];
      there = λ c h. elim (added.from c h) as (λ _. Has later c) [ inl w ↦ added.kept c (s.there c w) | inr w ↦ added.added c w ];
      closed = λ a b h l. elim (added.fresh a h) as (λ _. Has later b ⊎ Contains waiting a) [
        | inl w ↦ elim (s.closed a b w l) as (λ _. Has later b ⊎ Contains waiting a) [ inl v ↦ inl (added.kept b v) | inr v ↦ inr (added.still a v) ]
        | inr w ↦ inr w
      ];
    }

    -- the next root
    pub one_started : (i : ℕ) (d : Place) → i < length q.roots → IsSpreading q found pending → All (IsStarted q found) (take i q.roots) → (cells : List Cell)
        → ((b : Cell) → Contains cells b ↔ StartsAt q (get_or q.roots i d) b) → AreAdded cells found pending later waiting
        → record { spreads : IsSpreading q later waiting; started : All (IsStarted q later) (take (i + 1) q.roots) }
    one_started i d within s started cells each added = record {
      spreads = started_on s (get_or q.roots i d) (Contains-get_or q.roots i d within) cells each added;
      started = All-more (IsStarted q later) q.roots i d within
          (All-weaker (IsStarted q found) (IsStarted q later) (λ p h b k. added.kept b (h b k)) (take i q.roots) started) (λ b k. added.added b ((each b).1 k));
    }

    -- ---- a cell that is followed
    module _ (cell : Cell) (looks : List Cell) (each : (b : Cell) → Contains looks b ↔ PlaceLooksAt q (place.Cell cell) b) (added : AreAdded looks found pending later waiting) where
      pub spread_on : IsSpreading q found (pending ++ cell ∷ []) → IsSpreading q later waiting
      spread_on s = record {
        needed = λ c h. elim (added.only c h) as (λ _. IsNeeded q (place.Cell c)) [
          | inl w ↦ s.needed c w
          | inr w ↦ needed.looked (place.Cell cell) c (s.needed cell (s.there cell (Contains-push pending cell))) ((each c).0 w)
        ];
        there = λ c h. elim (added.from c h) as (λ _. Has later c) [
          | inl w ↦ added.kept c (s.there c (Contains-append_left pending (cell ∷ []) c w))
          | inr w ↦ added.added c w
        ];
        closed = λ a b h l. elim (added.fresh a h) as (λ _. Has later b ⊎ Contains waiting a) [
          | inl w ↦ elim (s.closed a b w l) as (λ _. Has later b ⊎ Contains waiting a) [
            | inl v ↦ inl (added.kept b v)
            | inr v ↦ elim (Contains-push_cases pending cell a v) as (λ _. Has later b ⊎ Contains waiting a) [
              | inl u ↦ inr (added.still a u)
              | inr e ↦ inl (added.added b ((each b).1 (subst (λ x. PlaceLooksAt q (place.Cell x) b) (sym e) l)))
            ]
          ]
          | inr w ↦ inr w
        ];
      }

      -- fewer cells are left to find or to follow
      pub fewer_left : not_found (keys q.book.texts) later + length waiting < not_found (keys q.book.texts) found + length (pending ++ cell ∷ [])
      fewer_left =
          let less = added.fewer (keys q.book.texts) (λ b h. among_texts q.book b ((each b).0 h).2) in
          let longer = length-append pending (cell ∷ []) in
          omega (arith, less, longer)

  -- ---- where nothing is left to follow, all is found
  module _ (found : CellSet) (s : IsSpreading q found []) (started : All (IsStarted q found) q.roots) where
    abbrev IsReached : Place → Type 0
    IsReached (place.Cell c) = Has found c
    IsReached (place.Side k) = Contains q.roots (place.Side k)

    from_root : (p : Place) → Contains q.roots p → needed.IsNoDecision q p → IsReached p
    from_root (place.Cell c) i n = All-contains (IsStarted q found) q.roots (place.Cell c) started i c (refl, n)
    from_root (place.Side k) i n = i

    from_looked : (p : Place) (b : Cell) → IsReached p → PlaceLooksAt q p b → Has found b
    from_looked (place.Cell a) b r l = elim (s.closed a b r l) as (λ _. Has found b) [ inl v ↦ v | inr v ↦ absurd (omega (arith, v.1)) ]
    from_looked (place.Side k) b r l = All-contains (IsStarted q found) q.roots (place.Side k) started r b l

    reached : (p : Place) → IsNeeded q p → IsReached p
    reached _ (needed.root p i n) = from_root p i n
    reached _ (needed.looked p b n l) = from_looked p b (reached p n) l

    pub all_found : (c : Cell) → Has found c ↔ IsNeeded q (place.Cell c)
    all_found c = (s.needed c, reached (place.Cell c))
