-- The fields of a line of values, as the program keeps them. Assumes nothing.
use Rattle.std.specs.Prelude.{ℕ, List, map}
use Rattle.rows.specs.Columns.{field_in}
use Rattle.rows.specs.declared.column.Column.{Column}
use Rattle.rows.specs.declared.values.Values.{Values}

-- the field of a column
abbrev pub value : Values → Column → List ℕ
value values = field_in values.names.places (map (λ field. field.now) values.row.fields)
