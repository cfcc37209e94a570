use Rattle.std.proofs.Common.{◌≡◌, ◌++◌}
use Rattle.book.specs.Books.{book_of, meaning_of}
use Rattle.life.specs.DayCalls.{mark_calls}
use Rattle.std.specs.List.{flat_map, range_with_len}
use Rattle.life.proofs.day_calls.push_marks.Given as goal

-- the marks of the classes before this one are listed
abbrev pub invariant-loop-class : goal.invariant-loop-class
invariant-loop-class g l =
    l.calls.items ≡ l.initial.calls.items ++ flat_map (mark_calls (meaning_of l.book) (book_of l.book) l.price) (range_with_len 0 l.class)
