-- The calls of a sheet by name, and the fields that each needs. Assumes nothing.
use Rattle.std.specs.Prelude.{ℕ, Bool, List, [], ◌∷◌, ◌==◌, Option, cond, length, codes, bytes_eq, find, option_map, nat_lt}
use Rattle.std.specs.List.{list_any, list_all}
use Rattle.rows.specs.Columns.{column_place}
use Rattle.rows.specs.declared.call_name.CallName.{CallName}
use Rattle.rows.specs.declared.call_name.CallName.TheVariants.{Trade, Mark, Reprice, Settle, Margins, Close}
use Rattle.rows.specs.declared.column.Column.{Column}
use Rattle.rows.specs.declared.column.Column.TheVariants.{Buyer, Seller, Class, Lots, Price}

-- the calls by name
abbrev pub call_names : List (List ℕ × CallName)
call_names = (codes "trade", Trade) ∷ (codes "mark", Mark) ∷ (codes "reprice", Reprice) ∷ (codes "settle", Settle) ∷ (codes "margins", Margins) ∷ (codes "close", Close) ∷ []

-- the call with just this name
abbrev pub call_named : List ℕ → Option CallName
call_named name = option_map (λ row. row.1) (find (λ row. bytes_eq row.0 name) call_names)

-- the fields that a call needs
abbrev pub needed : CallName → List Column
needed Trade = Buyer ∷ Seller ∷ Class ∷ Lots ∷ Price ∷ []
needed Mark = Class ∷ Price ∷ []
needed Reprice = Class ∷ Price ∷ []
needed Settle = Price ∷ []
needed Margins = Buyer ∷ []
needed Close = []

-- the columns whose fields a call may need
abbrev pub fillable : List Column
fillable = Buyer ∷ Seller ∷ Class ∷ Lots ∷ Price ∷ []

-- whether a column is among those that are needed
abbrev pub among : List Column → Column → Bool
among needed column = list_any (λ other. column_place other == column_place column) needed

-- whether a field is filled where it is needed, and empty elsewhere
abbrev pub fits : List Column → (Column → List ℕ) → Column → Bool
fits needed field column = cond (among needed column) (nat_lt 0 (length (field column))) (length (field column) == 0)

-- whether just the fields of these columns are filled
abbrev pub just_filled : List Column → (Column → List ℕ) → Bool
just_filled needed field = list_all (fits needed field) fillable
