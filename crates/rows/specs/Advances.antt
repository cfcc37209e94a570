-- What a line asks that advances over days: `advance`, so many days in the column of lots, and a price. Assumes nothing.
use Rattle.std.specs.Prelude.{ℕ, List, [], ◌∷◌, ◌==◌, ◌&&◌, Ok, Some, None, Option, Result, cond, length, codes, bytes_eq}
use Rattle.rows.specs.CallNames.{just_filled}
use Rattle.rows.specs.Columns.{field_in}
use Rattle.rows.specs.Fields.{fields}
use Rattle.rows.specs.Requests.{◌>>=◌, ask, number_in, price_in}
use Rattle.rows.specs.declared.advance.Advance.{Advance}
use Rattle.rows.specs.declared.column.Column.{Column}
use Rattle.rows.specs.declared.column.Column.TheVariants.{Call, Lots, Price}
use Rattle.rows.specs.declared.fault.SheetFault.{SheetFault}
use Rattle.rows.specs.declared.fault.SheetFault.TheVariants.{FieldsFilled}

-- how many days, and the price
abbrev pub advance_asked : (Column → List ℕ) → Result Advance SheetFault
advance_asked field = do
  _ ← ask (just_filled (Lots ∷ Price ∷ []) field) FieldsFilled
  days ← number_in (field Lots)
  price ← price_in (field Price)
  Ok (record { days = days; price = price })

-- what a line of values asks, if it has six fields and its call is `advance`
unfoldable pub advance : List ℕ → List ℕ → Option (Result Advance SheetFault)
advance places line =
    let field = field_in places (fields line) in
    cond (length (fields line) == 6 && bytes_eq (field Call) (codes "advance")) (Some (advance_asked field)) None
