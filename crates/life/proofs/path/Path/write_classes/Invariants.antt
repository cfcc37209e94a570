use Rattle.std.proofs.Common.{◌≡◌, ◌++◌, string_bytes}
use Rattle.book.specs.Books.{book_of, meaning_of}
use Rattle.life.specs.Paths.{class_row}
use Rattle.std.specs.List.{flat_map, range_with_len}
use Rattle.life.proofs.path.Path.write_classes.Given as goal

-- the rows of the classes before this one are written
abbrev pub invariant-loop-class : goal.invariant-loop-class
invariant-loop-class g l =
    string_bytes l.text ≡ string_bytes l.initial.text ++ flat_map (class_row (meaning_of l.self.book.now) l.self.product (book_of l.self.book.now) l.self.account) (range_with_len 0 l.class)
