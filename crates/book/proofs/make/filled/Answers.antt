use Rattle.book.proofs.ClassLines.{fill-rest}
use Rattle.book.proofs.make.filled.Goals as goal

pub returns : goal.returns
returns c = fill-rest c.args.lines.now _ c.copy_from_slice.ensures.after
