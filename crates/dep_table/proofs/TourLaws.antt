-- Each step of a tour keeps what a tour keeps, and leaves less to do.
use Rattle.std.proofs.Common.{◌≡◌, ◌≢◌, ℕ, zero, suc, ◌+◌, ◌-◌, ◌*◌, ◌<◌, ◌≤◌, Bool, true, false, List, [], ◌∷◌, ◌++◌, length, get_or, set, refl, sym, ap, subst, ◌∙◌, arith, ◌⊎◌, inl, inr, length-append, length-set, get_or-set_same}
use Rattle.std.specs.Prelude.{sum_by}
use Rattle.std.proofs.lemmas.Bool.Decides.{leb_tells}
use Rattle.std.proofs.lemmas.List.{get_or_push, get_or_append_left}
use Rattle.std.proofs.lemmas.List.Sums.{sum_by-set}
use Rattle.dep_table.specs.declared.find.Cursor.{Cursor}
use Rattle.dep_table.specs.declared.tour.Mark.{Mark}
use Rattle.dep_table.specs.declared.tour.Mark.TheVariants.{New, Open, Done, Circular}
use Rattle.dep_table.specs.Edges.{number}
use Rattle.dep_table.specs.Tour.{cursor_at, mark_at, new_one, start, IsSound, closed, work}
use Rattle.dep_table.proofs.Numbers.{same_place}
use Rattle.dep_table.proofs.Places.{set_cases, push_cases}

module _ (n : ℕ) (edge : ℕ → ℕ → Bool) (slot : ℕ → ℕ → ℕ → Bool) where
  -- the cursor goes past a reference that is done
  pub advance : (marks : List Mark) (cursors : List Cursor) (stack order : List ℕ) (i a j : ℕ) → IsSound n edge slot marks cursors stack order
      → i < length marks → j < n → mark_at marks j ≡ Done → ((i a j : ℕ) → slot i a j ≡ true → j < n)
      → ((b k : ℕ) → number n (cursor_at cursors i) ≤ b * n + k → b * n + k < a * n + j → slot i b k ≡ false)
      → IsSound n edge slot marks (set cursors i (record { area = a; place = j + 1 })) stack order
  advance marks cursors stack order i a j s within lt d places none =
      let c : Cursor = record { area = a; place = j + 1 } in
      let inside : i < length cursors = omega (arith, s.same_length) in
      record {
        same_length = length-set cursors i c ∙ s.same_length;
        in_range = λ k. elim (set_cases cursors i c start k inside) as (λ _. (cursor_at (set cursors i c) k).place ≤ n) [
          | inl w ↦ let e : (cursor_at (set cursors i c) k).place ≡ j + 1 = ap (λ (x : Cursor). x.place) w.1 in omega (arith, lt)
          | inr w ↦ let e : (cursor_at (set cursors i c) k).place ≡ (cursor_at cursors k).place = ap (λ (x : Cursor). x.place) w.1 in omega (arith, s.in_range k)
        ];
        scanned = λ k b m below e. elim (set_cases cursors i c start k inside) as (λ _. mark_at marks m ≡ Done) [
          | inl w ↦
              let e' : slot i b m ≡ true = ap (λ x. slot x b m) (sym w.0) ∙ e in
              let below' : b * n + m < number n c = subst (λ x. b * n + m < number n x) w.1 below in
              elim (leb_tells (number n (cursor_at cursors i)) (b * n + m)) as (λ _. mark_at marks m ≡ Done) [
                | inl v ↦ elim (leb_tells (a * n + j) (b * n + m)) as (λ _. mark_at marks m ≡ Done) [
                  | inl u ↦ ap (mark_at marks) (same_place n b m a j (places i b m e') lt (omega (arith, u.1))) ∙ d
                  | inr u ↦ let no_edge = none b m v.1 u.1 in cc
                ]
                | inr v ↦ s.scanned i b m v.1 e'
              ]
          | inr w ↦ s.scanned k b m (subst (λ x. b * n + m < number n x) w.1 below) e
        ];
        opened = s.opened;
        stacked = s.stacked;
        distinct = s.distinct;
        chain = s.chain;
        circular = s.circular;
        done = s.done;
        ordered = s.ordered;
        finished = s.finished;
        once = s.once;
      }

  -- the last of the stack has all of its references done
  pub finish : (marks : List Mark) (cursors : List Cursor) (rest order : List ℕ) (i : ℕ) → IsSound n edge slot marks cursors (rest ++ i ∷ []) order
      → ((k : ℕ) → edge i k ≡ true → (a : ℕ) × (slot i a k ≡ true))
      → ((a k : ℕ) → number n (cursor_at cursors i) ≤ a * n + k → slot i a k ≡ false)
      → IsSound n edge slot (set marks i Done) cursors rest (order ++ i ∷ [])
  finish marks cursors rest order i s by none =
      let more = length-append rest (i ∷ []) in
      let last = get_or_push rest i 0 (length rest) refl in
      let top = s.stacked (length rest) (omega arith) in
      let top_open : mark_at marks i ≡ Open = ap (mark_at marks) (sym last) ∙ top.0 in
      let within : i < length marks = omega (arith, top.1) in
      let len = length-set marks i Done in
      let below : (p : ℕ) → p < length rest → get_or (rest ++ i ∷ []) p 0 ≡ get_or rest p 0 = λ p h. get_or_append_left rest (i ∷ []) 0 p h in
      let stays : (k : ℕ) → mark_at marks k ≡ Done → mark_at (set marks i Done) k ≡ Done
      = λ k h. elim (set_cases marks i Done New k within) as (λ _. mark_at (set marks i Done) k ≡ Done) [ inl w ↦ w.1 | inr w ↦ w.1 ∙ h ] in
      let grown : (q : ℕ) → q < length order → get_or (order ++ i ∷ []) q 0 ≡ get_or order q 0 = λ q h. get_or_append_left order (i ∷ []) 0 q h in
      let not_ordered : (p : ℕ) → p < length order → get_or order p 0 ≢ i = λ p h e. let old = s.finished p h in let m = ap (mark_at marks) e in cc in
      record {
        same_length = s.same_length ∙ sym len;
        in_range = s.in_range;
        scanned = λ k a m h e. stays m (s.scanned k a m h e);
        opened = λ k h. elim (set_cases marks i Done New k within) as (λ _. (p : ℕ) × (p < length rest) × (get_or rest p 0 ≡ k)) [
          | inl w ↦ cc
          | inr w ↦
              let at = s.opened k (sym w.1 ∙ h) in
              elim (push_cases rest i 0 at.0 at.1) as (λ _. (p : ℕ) × (p < length rest) × (get_or rest p 0 ≡ k)) [
                | inl v ↦ (at.0, v.0, sym v.1 ∙ at.2)
                | inr v ↦ absurd (w.0 (sym at.2 ∙ v.1))
              ]
        ];
        stacked = λ p h.
            let old = s.stacked p (omega arith) in
            let e = below p h in
            let is_open : mark_at marks (get_or rest p 0) ≡ Open = ap (mark_at marks) (sym e) ∙ old.0 in
            elim (set_cases marks i Done New (get_or rest p 0) within) as (λ _. (mark_at (set marks i Done) (get_or rest p 0) ≡ Open) × (get_or rest p 0 < length (set marks i Done))) [
              | inl w ↦ let same = s.distinct p (length rest) (omega arith) (omega arith) (e ∙ w.0 ∙ sym last) in absurd (omega arith)
              | inr w ↦ (w.1 ∙ is_open, omega (arith, old.1))
            ];
        distinct = λ p q h k e. s.distinct p q (omega arith) (omega arith) (below p h ∙ e ∙ sym (below q k));
        chain = λ p h. let a = below p (omega arith) in let b = below (p + 1) h in let e = s.chain p (omega arith) in cc;
        circular = λ k h. elim (set_cases marks i Done New k within) as (λ _. (j : ℕ) × (edge k j ≡ true) × (mark_at (set marks i Done) j ≡ Circular)) [
          | inl w ↦ cc
          | inr w ↦
              let next = s.circular k (sym w.1 ∙ h) in
              elim (set_cases marks i Done New next.0 within) as (λ _. (j : ℕ) × (edge k j ≡ true) × (mark_at (set marks i Done) j ≡ Circular)) [
                | inl v ↦ let clash = ap (mark_at marks) v.0 in let m = next.2 in cc
                | inr v ↦ (next.0, next.1, v.1 ∙ next.2)
              ]
        ];
        done = λ k h. elim (set_cases marks i Done New k within) as (λ _. (p : ℕ) × (p < length (order ++ i ∷ [])) × (get_or (order ++ i ∷ []) p 0 ≡ k)) [
          | inl w ↦ (length order, omega (arith, length-append order (i ∷ [])), get_or_push order i 0 (length order) refl ∙ sym w.0)
          | inr w ↦ let at = s.done k (sym w.1 ∙ h) in (at.0, omega (arith, at.1, length-append order (i ∷ [])), grown at.0 at.1 ∙ at.2)
        ];
        ordered = λ p h. elim (push_cases order i 0 p h) as (λ _. (get_or (order ++ i ∷ []) p 0 < length (set marks i Done)) × ((j : ℕ) → edge (get_or (order ++ i ∷ []) p 0) j ≡ true → (q : ℕ) × (q < p) × (get_or (order ++ i ∷ []) q 0 ≡ j))) [
          | inl w ↦
              let old = s.ordered p w.0 in (
                omega (arith, old.0, w.1),
                λ j e. let at = old.1 j (ap (λ x. edge x j) (sym w.1) ∙ e) in (at.0, at.1, grown at.0 (omega (arith, at.1, w.0)) ∙ at.2),
              )
          | inr w ↦ (
            omega (arith, w.1),
            λ j e.
                let e' : edge i j ≡ true = ap (λ x. edge x j) (sym w.1) ∙ e in
                let a = by j e' in
                elim (leb_tells (number n (cursor_at cursors i)) (a.0 * n + j)) as (λ _. (q : ℕ) × (q < p) × (get_or (order ++ i ∷ []) q 0 ≡ j)) [
                  | inl v ↦ let no_edge = none a.0 j v.1 in let is_edge = a.1 in cc
                  | inr v ↦ let at = s.done j (s.scanned i a.0 j v.1 a.1) in (at.0, omega (arith, at.1, w.0), grown at.0 at.1 ∙ at.2)
                ],
          )
        ];
        finished = λ p h. elim (push_cases order i 0 p h) as (λ _. mark_at (set marks i Done) (get_or (order ++ i ∷ []) p 0) ≡ Done) [
          | inl w ↦ ap (mark_at (set marks i Done)) w.1 ∙ stays (get_or order p 0) (s.finished p w.0)
          | inr w ↦ ap (mark_at (set marks i Done)) w.1 ∙ get_or-set_same marks i Done New within
        ];
        once = λ p q h k e. elim (push_cases order i 0 p h) as (λ _. p ≡ q) [
          | inl w ↦ elim (push_cases order i 0 q k) as (λ _. p ≡ q) [
            | inl v ↦ s.once p q w.0 v.0 (sym w.1 ∙ e ∙ v.1)
            | inr v ↦ absurd (not_ordered p w.0 (sym w.1 ∙ e ∙ v.1))
          ]
          | inr w ↦ elim (push_cases order i 0 q k) as (λ _. p ≡ q) [
            | inl v ↦ absurd (not_ordered q v.0 (sym v.1 ∙ sym e ∙ w.1))
            | inr v ↦ w.0 ∙ sym v.0
          ]
        ];
      }

  -- one that is new goes on the stack; the last of the stack, if there is one, refers to it
  pub enter : (marks : List Mark) (cursors : List Cursor) (stack order : List ℕ) (j : ℕ) → IsSound n edge slot marks cursors stack order
      → j < length marks → mark_at marks j ≡ New → ((p : ℕ) → p + 1 ≡ length stack → edge (get_or stack p 0) j ≡ true)
      → IsSound n edge slot (set marks j Open) cursors (stack ++ j ∷ []) order
  enter marks cursors stack order j s within new linked =
      let more = length-append stack (j ∷ []) in
      let last = get_or_push stack j 0 (length stack) refl in
      let len = length-set marks j Open in
      let below : (p : ℕ) → p < length stack → get_or (stack ++ j ∷ []) p 0 ≡ get_or stack p 0 = λ p h. get_or_append_left stack (j ∷ []) 0 p h in
      let not_stacked : (p : ℕ) → p < length stack → get_or stack p 0 ≢ j = λ p h e. let old = s.stacked p h in let m = ap (mark_at marks) e in let o = old.0 in cc in
      record {
        same_length = s.same_length ∙ sym len;
        in_range = s.in_range;
        scanned = λ k a m h e. let d = s.scanned k a m h e in
            elim (set_cases marks j Open New m within) as (λ _. mark_at (set marks j Open) m ≡ Done) [
              | inl w ↦ let clash = ap (mark_at marks) w.0 in cc
              | inr w ↦ w.1 ∙ d
            ];
        opened = λ k h. elim (set_cases marks j Open New k within) as (λ _. (p : ℕ) × (p < length (stack ++ j ∷ [])) × (get_or (stack ++ j ∷ []) p 0 ≡ k)) [
          | inl w ↦ (length stack, omega arith, last ∙ sym w.0)
          | inr w ↦ let at = s.opened k (sym w.1 ∙ h) in (at.0, omega (arith, at.1), below at.0 at.1 ∙ at.2)
        ];
        stacked = λ p h. elim (push_cases stack j 0 p h) as (λ _. (mark_at (set marks j Open) (get_or (stack ++ j ∷ []) p 0) ≡ Open) × (get_or (stack ++ j ∷ []) p 0 < length (set marks j Open))) [
          | inl w ↦
              let old = s.stacked p w.0 in (
                ap (mark_at (set marks j Open)) w.1
                    ∙ elim (set_cases marks j Open New (get_or stack p 0) within) as (λ _. mark_at (set marks j Open) (get_or stack p 0) ≡ Open) [ inl v ↦ v.1 | inr v ↦ v.1 ∙ old.0 ],
                omega (arith, old.1, w.1),
              )
          | inr w ↦ (ap (mark_at (set marks j Open)) w.1 ∙ get_or-set_same marks j Open New within, omega (arith, w.1))
        ];
        distinct = λ p q h k e. elim (push_cases stack j 0 p h) as (λ _. p ≡ q) [
          | inl w ↦ elim (push_cases stack j 0 q k) as (λ _. p ≡ q) [
            | inl v ↦ s.distinct p q w.0 v.0 (sym w.1 ∙ e ∙ v.1)
            | inr v ↦ absurd (not_stacked p w.0 (sym w.1 ∙ e ∙ v.1))
          ]
          | inr w ↦ elim (push_cases stack j 0 q k) as (λ _. p ≡ q) [
            | inl v ↦ absurd (not_stacked q v.0 (sym v.1 ∙ sym e ∙ w.1))
            | inr v ↦ w.0 ∙ sym v.0
          ]
        ];
        chain = λ p h. elim (push_cases stack j 0 (p + 1) h) as (λ _. edge (get_or (stack ++ j ∷ []) p 0) (get_or (stack ++ j ∷ []) (p + 1) 0) ≡ true) [
          | inl w ↦ let a = below p (omega (arith, w.0)) in let b = w.1 in let e = s.chain p w.0 in cc
          | inr w ↦ let a = below p (omega (arith, w.0)) in let b = w.1 in let e = linked p w.0 in cc
        ];
        circular = λ k h. elim (set_cases marks j Open New k within) as (λ _. (m : ℕ) × (edge k m ≡ true) × (mark_at (set marks j Open) m ≡ Circular)) [
          | inl w ↦ cc
          | inr w ↦
              let next = s.circular k (sym w.1 ∙ h) in
              elim (set_cases marks j Open New next.0 within) as (λ _. (m : ℕ) × (edge k m ≡ true) × (mark_at (set marks j Open) m ≡ Circular)) [
                | inl v ↦ let clash = ap (mark_at marks) v.0 in let m = next.2 in cc
                | inr v ↦ (next.0, next.1, v.1 ∙ next.2)
              ]
        ];
        done = λ k h. elim (set_cases marks j Open New k within) as (λ _. (p : ℕ) × (p < length order) × (get_or order p 0 ≡ k)) [
          | inl w ↦ cc
          | inr w ↦ s.done k (sym w.1 ∙ h)
        ];
        ordered = λ p h. let old = s.ordered p h in (omega (arith, old.0), old.1);
        finished = λ p h. let d = s.finished p h in
            elim (set_cases marks j Open New (get_or order p 0) within) as (λ _. mark_at (set marks j Open) (get_or order p 0) ≡ Done) [
              | inl w ↦ let clash = ap (mark_at marks) w.0 in cc
              | inr w ↦ w.1 ∙ d
            ];
        once = s.once;
      }

-- ---- the stack becomes circular as a whole
pub length-closed : (stack : List ℕ) (marks : List Mark) → length (closed marks stack) ≡ length marks
length-closed [] marks = refl
length-closed (i ∷ stack) marks = length-closed stack (set marks i Circular) ∙ length-set marks i Circular

stays_circular : (stack : List ℕ) (marks : List Mark) (k : ℕ) → ((p : ℕ) → p < length stack → get_or stack p 0 < length marks) → mark_at marks k ≡ Circular → mark_at (closed marks stack) k ≡ Circular
stays_circular [] marks k h m = m
stays_circular (i ∷ stack) marks k h m =
    let len = length-set marks i Circular in
    let within : i < length marks = h 0 (omega arith) in
    stays_circular stack (set marks i Circular) k (λ p b. let x : get_or stack p 0 < length marks = h (suc p) (omega arith) in omega arith)
    (elim (set_cases marks i Circular New k within) as (λ _. mark_at (set marks i Circular) k ≡ Circular) [ inl w ↦ w.1 | inr w ↦ w.1 ∙ m ])

closed_in : (stack : List ℕ) (marks : List Mark) (p : ℕ) → ((p : ℕ) → p < length stack → get_or stack p 0 < length marks) → p < length stack → mark_at (closed marks stack) (get_or stack p 0) ≡ Circular
closed_in [] marks p h b = absurd (omega arith)
closed_in (i ∷ stack) marks zero h b =
    let len = length-set marks i Circular in
    let within : i < length marks = h 0 (omega arith) in
    stays_circular stack (set marks i Circular) i (λ p b. let x : get_or stack p 0 < length marks = h (suc p) (omega arith) in omega arith) (get_or-set_same marks i Circular New within)
closed_in (i ∷ stack) marks (suc p) h b =
    let len = length-set marks i Circular in
    closed_in stack (set marks i Circular) p (λ p b. let x : get_or stack p 0 < length marks = h (suc p) (omega arith) in omega arith) (omega arith)

closed_cases : (stack : List ℕ) (marks : List Mark) (k : ℕ) → ((p : ℕ) → p < length stack → get_or stack p 0 < length marks)
    → (mark_at (closed marks stack) k ≡ mark_at marks k) ⊎ ((mark_at (closed marks stack) k ≡ Circular) × ((p : ℕ) × (p < length stack) × (get_or stack p 0 ≡ k)))
closed_cases [] marks k h = inl refl
closed_cases (i ∷ stack) marks k h =
    let len = length-set marks i Circular in
    let within : i < length marks = h 0 (omega arith) in
    let h' : (p : ℕ) → p < length stack → get_or stack p 0 < length (set marks i Circular) = λ p b. let x : get_or stack p 0 < length marks = h (suc p) (omega arith) in omega arith in
    let G : Type 0 = (mark_at (closed (set marks i Circular) stack) k ≡ mark_at marks k) ⊎ ((mark_at (closed (set marks i Circular) stack) k ≡ Circular) × ((p : ℕ) × (p < suc (length stack)) × (get_or (i ∷ stack) p 0 ≡ k))) in
    elim (closed_cases stack (set marks i Circular) k h') as (λ _. G) [
      | inl w ↦ elim (set_cases marks i Circular New k within) as (λ _. G) [
        | inl v ↦ inr (w ∙ v.1, (0, omega arith, sym v.0))
        | inr v ↦ inl (w ∙ v.1)
      ]
      | inr w ↦ inr (w.0, (suc w.1.0, omega (arith, w.1.1), w.1.2))
    ]

pub closed_count : (f : Mark → ℕ) → f Circular ≡ 0 → (stack : List ℕ) (marks : List Mark) → ((p : ℕ) → p < length stack → (get_or stack p 0 < length marks) × (f (mark_at marks (get_or stack p 0)) ≡ 0)) → sum_by f (closed marks stack) ≡ sum_by f marks
closed_count f z [] marks h = refl
closed_count f z (i ∷ stack) marks h =
    let len = length-set marks i Circular in
    let first = h 0 (omega arith) in
    let within : i < length marks = first.0 in
    let sums = sum_by-set f marks i Circular New within in
    let same : sum_by f (set marks i Circular) ≡ sum_by f marks = omega (arith, first.1) in
    closed_count f z stack (set marks i Circular) (λ p b.
    let old = h (suc p) (omega arith) in (
      omega (arith, old.0),
      elim (set_cases marks i Circular New (get_or stack p 0) within) as (λ _. f (mark_at (set marks i Circular) (get_or stack p 0)) ≡ 0) [ inl w ↦ ap f w.1 ∙ z | inr w ↦ ap f w.1 ∙ old.1 ],
    ))
    ∙ same

module _ (n : ℕ) (edge : ℕ → ℕ → Bool) (slot : ℕ → ℕ → ℕ → Bool) where
  -- the last of the stack refers to one that is open or circular
  pub close : (marks : List Mark) (cursors : List Cursor) (stack order : List ℕ) (j : ℕ) → IsSound n edge slot marks cursors stack order
      → (mark_at marks j ≡ Open) ⊎ (mark_at marks j ≡ Circular) → ((p : ℕ) → p + 1 ≡ length stack → edge (get_or stack p 0) j ≡ true)
      → IsSound n edge slot (closed marks stack) cursors [] order
  close marks cursors stack order j s met linked =
      let len = length-closed stack marks in
      let within : (p : ℕ) → p < length stack → get_or stack p 0 < length marks = λ p h. (s.stacked p h).1 in
      let cases : (k : ℕ) → (mark_at (closed marks stack) k ≡ mark_at marks k) ⊎ ((mark_at (closed marks stack) k ≡ Circular) × ((p : ℕ) × (p < length stack) × (get_or stack p 0 ≡ k))) = λ k. closed_cases stack marks k within in
      let met_circular : mark_at (closed marks stack) j ≡ Circular =
      elim met as (λ _. mark_at (closed marks stack) j ≡ Circular) [
        | inl open_now ↦ let at = s.opened j open_now in ap (mark_at (closed marks stack)) (sym at.2) ∙ closed_in stack marks at.0 within at.1
        | inr circular_now ↦ stays_circular stack marks j within circular_now
      ] in
      record {
        same_length = s.same_length ∙ sym len;
        in_range = s.in_range;
        scanned = λ k a m h e. let d = s.scanned k a m h e in elim (cases m) as (λ _. mark_at (closed marks stack) m ≡ Done) [
          | inl w ↦ w ∙ d
          | inr w ↦ let o = (s.stacked w.1.0 w.1.1).0 in let clash = ap (mark_at marks) w.1.2 in cc
        ];
        opened = λ k h. elim (cases k) as (λ _. (p : ℕ) × (p < 0) × (get_or [] p 0 ≡ k)) [
          | inl w ↦ let at = s.opened k (sym w ∙ h) in let c = closed_in stack marks at.0 within at.1 in let clash = ap (mark_at (closed marks stack)) at.2 in cc
          | inr w ↦ let x = w.0 in cc
        ];
        stacked = λ p h. absurd (omega arith);
        distinct = λ p q h k e. absurd (omega arith);
        chain = λ p h. absurd (omega arith);
        circular = λ k h. elim (cases k) as (λ _. (m : ℕ) × (edge k m ≡ true) × (mark_at (closed marks stack) m ≡ Circular)) [
          | inl w ↦ let next = s.circular k (sym w ∙ h) in (next.0, next.1, stays_circular stack marks next.0 within next.2)
          | inr w ↦ elim (leb_tells (length stack) (w.1.0 + 1)) as (λ _. (m : ℕ) × (edge k m ≡ true) × (mark_at (closed marks stack) m ≡ Circular)) [
            | inl v ↦ (j, ap (λ x. edge x j) (sym w.1.2) ∙ linked w.1.0 (omega (arith, w.1.1, v.1)), met_circular)
            | inr v ↦ (get_or stack (w.1.0 + 1) 0, ap (λ x. edge x (get_or stack (w.1.0 + 1) 0)) (sym w.1.2) ∙ s.chain w.1.0 v.1, closed_in stack marks (w.1.0 + 1) within v.1)
          ]
        ];
        done = λ k h. elim (cases k) as (λ _. (p : ℕ) × (p < length order) × (get_or order p 0 ≡ k)) [
          | inl w ↦ s.done k (sym w ∙ h)
          | inr w ↦ let x = w.0 in cc
        ];
        ordered = λ p h. let old = s.ordered p h in (omega (arith, old.0), old.1);
        finished = λ p h. let d = s.finished p h in elim (cases (get_or order p 0)) as (λ _. mark_at (closed marks stack) (get_or order p 0) ≡ Done) [
          | inl w ↦ w ∙ d
          | inr w ↦ let o = (s.stacked w.1.0 w.1.1).0 in let clash = ap (mark_at marks) w.1.2 in cc
        ];
        once = s.once;
      }

  -- ---- each step leaves less to do
  pub advance_works : (most : ℕ) (marks : List Mark) (cursors : List Cursor) (stack : List ℕ) (i a j : ℕ) → i < length cursors
      → number n (cursor_at cursors i) ≤ a * n + j → a * n + j < most
      → work n most marks (set cursors i (record { area = a; place = j + 1 })) stack < work n most marks cursors stack
  unfolding work
  advance_works most marks cursors stack i a j within le lt =
      let sums = sum_by-set (λ c. most - number n c) cursors i (record { area = a; place = j + 1 }) start within in omega arith

  pub finish_works : (most : ℕ) (marks : List Mark) (cursors : List Cursor) (rest : List ℕ) (i : ℕ) → i < length marks
      → work n most (set marks i Done) cursors rest < work n most marks cursors (rest ++ i ∷ [])
  unfolding work
  finish_works most marks cursors rest i within =
      let sums = sum_by-set new_one marks i Done New within in
      omega (arith, length-append rest (i ∷ []))

  pub enter_works : (most : ℕ) (marks : List Mark) (cursors : List Cursor) (stack : List ℕ) (j : ℕ) → j < length marks → mark_at marks j ≡ New
      → work n most (set marks j Open) cursors (stack ++ j ∷ []) < work n most marks cursors stack
  unfolding work
  enter_works most marks cursors stack j within new =
      let sums = sum_by-set new_one marks j Open New within in
      let two : new_one (mark_at marks j) ≡ 2 = ap new_one new in
      omega (arith, length-append stack (j ∷ []))

  pub close_works : (most : ℕ) (marks : List Mark) (cursors : List Cursor) (stack order : List ℕ) → IsSound n edge slot marks cursors stack order → 0 < length stack
      → work n most (closed marks stack) cursors [] < work n most marks cursors stack
  unfolding work
  close_works most marks cursors stack order s some =
      let sums = closed_count new_one refl stack marks (λ p h. ((s.stacked p h).1, ap new_one (s.stacked p h).0)) in
      omega arith

-- ---- what isn't new stays so
pub set_kept : (marks : List Mark) (i : ℕ) (m : Mark) → i < length marks → m ≢ New → (k : ℕ) → mark_at marks k ≢ New → mark_at (set marks i m) k ≢ New
set_kept marks i m within other k h e =
    elim (set_cases marks i m New k within) [ inl w ↦ other (sym w.1 ∙ e) | inr w ↦ h (sym w.1 ∙ e) ]

pub closed_kept : (stack : List ℕ) (marks : List Mark) → ((p : ℕ) → p < length stack → get_or stack p 0 < length marks) → (k : ℕ) → mark_at marks k ≢ New → mark_at (closed marks stack) k ≢ New
closed_kept stack marks within k h e =
    elim (closed_cases stack marks k within) [ inl w ↦ h (sym w ∙ e) | inr w ↦ let x = w.0 in let y : Circular ≡ New = sym x ∙ e in cc ]

pub open_not_new : Open ≢ New
open_not_new e = cc
