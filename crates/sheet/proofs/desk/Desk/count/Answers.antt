use Rattle.std.proofs.Common.{ap, ◌∙◌}
use Rattle.sheet.proofs.Replying.{settle-long, close-long}
use Rattle.sheet.specs.Desks.{meaning_at, state_at}
use Rattle.sheet.proofs.desk.Desk.count.Goals as goal

pub returns-in-Settle : goal.returns-in-Settle
returns-in-Settle g c =
    let d = c.args.self.now in
    c.accounts.ensures ∙ ap (λ s. s.made.accounts) c.book.ensures.state ∙ settle-long (meaning_at d) (state_at d) c.args.call c.in-Settle.price c.in-Settle.room c.in-Settle.is

pub returns-in-Close : goal.returns-in-Close
returns-in-Close g c =
    let d = c.args.self.now in
    c.accounts-in-Close.ensures ∙ ap (λ s. s.made.accounts) c.book-in-Close.ensures.state ∙ close-long (meaning_at d) (state_at d) c.args.call c.in-Close.room c.in-Close.is
