-- What references reach is what the workbook's formulas reach.
use Rattle.std.proofs.Common.{◌≡◌, Bool, true, refl, sym, ap, ◌∙◌, inl, inr}
use Rattle.std.specs.Prelude.{Option, None, Some}
use Rattle.std.specs.FinMap.{get}
use Rattle.cell_refs.specs.declared.cell.Cell.{Cell}
use Rattle.recalculation.specs.Entries.{Book, Entry, Constant, Formula, Malformed, entry}
use Rattle.recalculation.specs.Walks.{refers}
use Rattle.column_strips.specs.Affected.{AreAffected as AreReached, IsAtOrReaches, Reaches, by_more, by_one, refers_in}
use Rattle.column_strips.specs.Formulas.{References, refers_by}
use Rattle.dep_table.specs.Affected.{AreAffected, refers_at}
use Rattle.dep_table.specs.References.{AreReferencesOf, areas_said}

said_refers : (e : Option Entry) (d : Cell) → refers_by (areas_said e) d ≡ refers e d
said_refers None d = refl
said_refers (Some (Constant v)) d = refl
said_refers (Some (Formula t)) d = refl
said_refers (Some Malformed) d = refl

module _ (r s : Cell → Cell → Bool) (same : (c d : Cell) → r c d ≡ s c d) (to : Cell) where
  reaching : (c : Cell) → Reaches r to c → Reaches s to c
  reaching _ (by_one c h) = by_one c (sym (same c to) ∙ h)
  reaching _ (by_more c d h w) = by_more c d (sym (same c d) ∙ h) (reaching d w)

  at_or_reaching : (c : Cell) → IsAtOrReaches r to c → IsAtOrReaches s to c
  at_or_reaching c (inl e) = inl e
  at_or_reaching c (inr w) = inr (reaching c w)

pub affected_in : (references : References) (book : Book) → AreReferencesOf references book → (from : Cell) (has : Cell → Bool) → AreReached (refers_in references) from has
    → AreAffected book from has
affected_in references book are from has h c =
    let same : (x d : Cell) → refers_in references x d ≡ refers_at book x d = λ x d. ap (λ o. refers_by o d) (are x) ∙ said_refers (entry book x) d in (
      λ e. at_or_reaching (refers_in references) (refers_at book) same from c ((h c).0 e),
      λ w. (h c).1 (at_or_reaching (refers_at book) (refers_in references) (λ x d. sym (same x d)) from c w),
    )
