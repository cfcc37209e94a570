use Rattle.std.proofs.Common.{length, ap, ◌∙◌, take}
use Rattle.ledger.specs.Calls.{refusal}
use Rattle.sheet.specs.Desks.{meaning_at, state_at}
use Rattle.sheet.specs.Replies.{amounts}
use Rattle.sheet.proofs.Replying.{replied, told-at-head}
use Rattle.sheet.proofs.desk.Desk.call.Goals as goal

pub returns-clause-told : goal.returns-clause-told
returns-clause-told g c =
    let d = c.args.self.now in
    let w = meaning_at d in
    let s = state_at d in
    let k = c.args.call in
    let n = c.in_ok-answer.ensures in
    let o = refusal w s k in
    replied c.told.result o (amounts w s k) c.count-count.result c.call.new.list (c.told.ensures o (amounts w s k) n.answer) (λ e. ap (λ n. take n c.call.new.list) c.count-count.ensures ∙ ap (take (length (amounts w s k))) n.list ∙ told-at-head w s k d.list e)
