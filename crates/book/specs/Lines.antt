-- Class lines in a table of twelve. Assumes nothing.
use Rattle.std.specs.Prelude.{ℕ, ◌-◌, Bool, ◌&&◌, ◌==◌, List, ◌++◌, length, replicate, nat_le}
use Rattle.coded.specs.declared.class_line.ClassLine.{ClassLine}

-- the line is that of a class, with an interval in range
abbrev pub line_fits : ClassLine → ℕ → Bool
line_fits l c = l.class == c && nat_le l.interval 10000

-- the class lines, and lines that are none up to twelve
abbrev pub filled : List ClassLine → List ClassLine
filled lines = lines ++ replicate (12 - length lines) (record { class = 0; interval = 0 })
