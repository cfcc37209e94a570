-- The columns of a sheet: their names, and where a names line puts them. Assumes nothing.
use Rattle.std.specs.Prelude.{◌≡◌, ℕ, Bool, List, [], ◌∷◌, ◌&&◌, ◌==◌, Ok, Err, Option, Result, cond, length, map, codes, bytes_eq, is_some, position, slice_index, slice_index_or, unwrap_or}
use Rattle.std.specs.List.{list_all}
use Rattle.rows.specs.Fields.{fields}
use Rattle.rows.specs.declared.column.Column.{Column}
use Rattle.rows.specs.declared.column.Column.TheVariants.{Call, Buyer, Seller, Class, Lots, Price}
use Rattle.rows.specs.declared.fault.SheetFault.{SheetFault}
use Rattle.rows.specs.declared.fault.SheetFault.TheVariants.{ColumnNames}

abbrev pub columns : List Column
columns = Call ∷ Buyer ∷ Seller ∷ Class ∷ Lots ∷ Price ∷ []

abbrev pub column_name : Column → List ℕ
column_name Call = codes "call"
column_name Buyer = codes "buyer"
column_name Seller = codes "seller"
column_name Class = codes "class"
column_name Lots = codes "lots"
column_name Price = codes "price"

-- the place of a column among the columns
abbrev pub column_place : Column → ℕ
column_place Call = 0
column_place Buyer = 1
column_place Seller = 2
column_place Class = 3
column_place Lots = 4
column_place Price = 5

-- the first place where a column's name stands among the fields of a line
unfoldable pub place_among : List (List ℕ) → Column → Option ℕ
place_among fields column = position (λ field. bytes_eq field (column_name column)) fields

-- whether a line has six fields, and each column's name is one of them
unfoldable pub names_fit : List ℕ → Bool
names_fit line = length (fields line) == 6 && list_all (λ column. is_some (place_among (fields line) column)) columns

-- the place of each column in a names line
unfoldable pub places_of : List ℕ → List ℕ
places_of line = map (λ column. unwrap_or (place_among (fields line) column) 0) columns

-- the field of a column, where the columns stand in these places
abbrev pub field_in : List ℕ → List (List ℕ) → Column → List ℕ
field_in places fields column = slice_index_or fields (slice_index places (column_place column)) []

-- each column has its name in its place
abbrev pub HoldsItsName : List ℕ → List (List ℕ) → Type 0
HoldsItsName places fields = (column : Column) → field_in places fields column ≡ column_name column

-- the places that a names line gives the columns, or the fault of a line that is no names line
abbrev pub names_of : List ℕ → Result (List ℕ) SheetFault
names_of line = cond (names_fit line) (Ok (places_of line)) (Err ColumnNames)
