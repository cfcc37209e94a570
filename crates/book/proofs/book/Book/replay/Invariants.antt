use Rattle.std.proofs.Common.{◌≡◌, map, reverse, take}
use Rattle.book.specs.Books.{book_of, meaning_of, terms_of}
use Rattle.ledger.specs.Ledger.{Life}
use Rattle.book.proofs.book.Book.replay.Given as goal

abbrev pub invariant-loop-entry : goal.invariant-loop-entry
invariant-loop-entry g l = record {
  life : Life (meaning_of l.initial.book) (reverse (take l.entry-index l.entries)) (book_of l.book);
  terms : terms_of l.book ≡ terms_of l.initial.book;
  made : (book_of l.book).made ≡ (book_of l.initial.book).made;
  calls : map (λ e. e.call) l.entries ≡ map (λ e. e.call) l.initial.entries;
}
