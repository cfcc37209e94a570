-- A table that was read off the terms. Assumes nothing.
use Rattle.std.proofs.Common.{◌≡◌, ℕ, ◌<◌, ◌≤◌, get_or, None, Option, sym, ap, ◌∙◌, subst}
use Rattle.book.specs.Rows.{Flagged, SmallDay}
use Rattle.day_table.proofs.Columns.{class-at, day-classes}
use Rattle.day_table.proofs.Tables.{read-day, no-parts, quantity-most}
use Rattle.day_table.specs.Table.{table_of, day_in}
use Rattle.day_table.specs.declared.table.DayTable.{DayTable}
use Rattle.terms.specs.Day.{Day, day_of}
use Rattle.terms.specs.Laws.{Laws}
use Rattle.terms.specs.Meaning.{Meaning}
use Rattle.terms.specs.declared.class_terms.ClassTerms.{ClassTerms}

module _ (w : Meaning) (law : Laws w) (t : DayTable) (e : t ≡ table_of w t.day) where
  pub tells : day_in t ≡ day_of w t.day
  tells = read-day w law t.day t e

  pub twelve : t.classes ≤ 12
  twelve = subst (λ (d : Day). d.classes ≤ 12) (sym tells) law.twelve

  pub flagged : Flagged t
  flagged q c p =
      let r = no-parts w law t.day (ap (λ (t : DayTable). t.some_parts) (sym e) ∙ q) c p in
      (ap (λ (d : Day). d.whole c) tells ∙ r.0, ap (λ (d : Day). d.part c p) tells ∙ r.1)

  pub small : SmallDay t
  small c = subst (λ (d : Day). d.quantity c ≤ 8940) (sym tells) (quantity-most w law t.day c)

  -- a class in the same table
  pub class-read : (u : DayTable) → u ≡ t → (c : ℕ) (o : Option ClassTerms) → c < 12 → get_or u.table c None ≡ o → w.on t.day c ≡ o
  class-read u same c o h r = sym (class-at w t.day c u.table (ap (λ (t : DayTable). t.table) same ∙ day-classes w t t.day e) h) ∙ r
