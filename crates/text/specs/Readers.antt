-- How far a reader has come in its text. Assumes nothing.
use Rattle.std.specs.Prelude.{ℕ, List}
use Rattle.text.specs.Lines.{lines_from}
use Rattle.text.specs.declared.lines.Reader.{Reader}

-- the lines that it still has to give
abbrev pub lines_left : Reader → List (List ℕ)
lines_left r = lines_from r.at r.bytes.now

-- how many it has given
abbrev pub lines_read : Reader → ℕ
lines_read r = r.line
