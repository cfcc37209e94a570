use Rattle.std.proofs.Common.{◌≡◌, ◌<◌, length, None, pos, get_or, sym, ap, ◌∙◌, subst, arith}
use Rattle.day_table.specs.Table.{day_in}
use Rattle.ledger.specs.Calls.{lots_fit, after_parts}
use Rattle.ledger.specs.State.{Row}
use Rattle.ledger.specs.Words.{all_below, from}
use Rattle.book.proofs.close.close_accounts.Goals as goal

pub carry_accounts-requires-clause-keeps : goal.carry_accounts-requires-clause-keeps
carry_accounts-requires-clause-keeps c = λ a h.
    let l : a < length c.args.accounts.now = omega (arith, h, c.close_all.ensures.long) in
    ap (λ (r : Row). all_below c.args.day.now.classes (λ k. lots_fit (after_parts (day_in c.args.day.now) r k))) (c.close_all.ensures.rows a l) ∙ c.requires.keeps a l

pub carry_accounts-requires-clause-stays : goal.carry_accounts-requires-clause-stays
carry_accounts-requires-clause-stays c = λ e a t h.
    let l : a < length c.args.accounts.now = omega (arith, h, c.close_all.ensures.long) in
    subst (λ (r : Row). from (get_or c.args.sources.now t None) (pos 0) (after_parts (day_in c.args.day.now) r) ≡ r.lots t) (sym (c.close_all.ensures.rows a l)) (c.requires.stays e a t l)
