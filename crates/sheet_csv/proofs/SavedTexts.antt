-- What is saved of texts is a text.
use Rattle.std.proofs.Common.{◌≡◌, ◌++◌, ◌∷◌, [], ℕ, List, true, refl, subst, arith, inl, inr}
use Rattle.std.specs.Prelude.{IsUtf8, ◌==◌, nat_lt, if◌then◌else◌}
use Rattle.std.specs.List.{list_any}
use lib.Utf8.{encode, encodes, scalar, scalars}
use Rattle.std.proofs.lemmas.Bool.{cases_Bool, ltb-true, ltb-false}
use Rattle.std.proofs.lemmas.Str.{IsUtf8-append, IsUtf8-nil, IsUtf8-encode}
use Rattle.csv.specs.Records.{AllText}
use Rattle.csv.specs.Writing.{default_writer, escaped, field_text, fields_text, is_blank, needs_byte, row_text}
use Rattle.sheet_csv.specs.Sheet.{Record}
use Rattle.sheet_csv.proofs.Fields.{AllHigh, encode_high, encode_low, head_scalar, low_text, tail_scalars}

mark : IsUtf8 (34 ∷ [])
mark = low_text 34 (omega arith)

-- bytes that are no quotes stay single
escaped_high : (ys tail : List ℕ) → AllHigh ys → escaped default_writer (ys ++ tail) ≡ ys ++ escaped default_writer tail
unfolding escaped
escaped_high [] tail h = refl
escaped_high (b ∷ bs) tail h = rw (h.0.quote, escaped_high bs tail h.1) refl

-- a text with its quotes doubled is a text
escaped_text : (cs : List ℕ) → scalars cs ≡ true → IsUtf8 (escaped default_writer (encodes cs))
unfolding escaped
escaped_text [] ok = IsUtf8-nil
escaped_text (c ∷ cs) ok =
    let rest = escaped_text cs (tail_scalars (scalar c) (scalars cs) ok) in
    elim (cases_Bool (nat_lt c 128)) [
      | inl low ↦
          let lt = ltb-true c 128 low in
          let one = IsUtf8-append (c ∷ []) (escaped default_writer (encodes cs)) (low_text c lt) rest in
          rw (encode_low c lt) (elim (cases_Bool (c == 34)) [
            | inl quote ↦ rw quote (IsUtf8-append (34 ∷ []) (c ∷ escaped default_writer (encodes cs)) mark one)
            | inr other ↦ rw other one
          ])
      | inr above ↦ rw (escaped_high (encode c) (encodes cs) (encode_high c (ltb-false c 128 above)))
          (IsUtf8-append (encode c) (escaped default_writer (encodes cs)) (IsUtf8-encode c (head_scalar (scalar c) (scalars cs) ok)) rest)
    ]

field_utf8 : (field : List ℕ) → IsUtf8 field → IsUtf8 (field_text default_writer field)
field_utf8 field u = elim (cases_Bool (list_any (needs_byte default_writer) field)) [
  | inl needs ↦
      let inner : IsUtf8 (escaped default_writer field) = let P : List ℕ → Type 0 = λ b. IsUtf8 (escaped default_writer b) in subst P u.1.1 (escaped_text u.0 u.1.0) in
      rw needs (IsUtf8-append (34 ∷ []) (escaped default_writer field ++ (34 ∷ [])) mark (IsUtf8-append (escaped default_writer field) (34 ∷ []) inner mark))
  | inr plain ↦ rw plain u
]

fields_utf8 : (fields : Record) → AllText fields → IsUtf8 (fields_text default_writer fields)
unfolding fields_text AllText
fields_utf8 [] t = IsUtf8-nil
fields_utf8 (f ∷ fs) t =
    IsUtf8-append (44 ∷ []) (field_text default_writer f ++ fields_text default_writer fs) (low_text 44 (omega arith))
    (IsUtf8-append (field_text default_writer f) (fields_text default_writer fs) (field_utf8 f t.0) (fields_utf8 fs t.1))

end_utf8 : (fields : Record) → IsUtf8 ((if is_blank default_writer fields then 34 ∷ 34 ∷ [] else []) ++ (10 ∷ []))
end_utf8 fields = elim (cases_Bool (is_blank default_writer fields)) [
  | inl blank ↦ rw blank (IsUtf8-append (34 ∷ 34 ∷ []) (10 ∷ []) (IsUtf8-append (34 ∷ []) (34 ∷ []) mark mark) (low_text 10 (omega arith)))
  | inr full ↦ rw full (low_text 10 (omega arith))
]

-- the text of a record of texts
pub row_utf8 : (fields : Record) → AllText fields → IsUtf8 (row_text default_writer fields)
unfolding AllText
row_utf8 [] t = IsUtf8-append [] _ IsUtf8-nil (end_utf8 [])
row_utf8 (f ∷ fs) t =
    IsUtf8-append (field_text default_writer f ++ fields_text default_writer fs) _ (IsUtf8-append (field_text default_writer f) (fields_text default_writer fs) (field_utf8 f t.0) (fields_utf8 fs t.1))
    (end_utf8 (f ∷ fs))
