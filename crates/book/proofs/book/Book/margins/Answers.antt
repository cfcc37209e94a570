use Rattle.book.proofs.Lives.{ready}
use Rattle.book.proofs.book.Book.margins.Goals as goal

pub margins-requires : goal.margins-requires
margins-requires g c = ready c.args.self.now.store c.args.self.now.lived
