use Rattle.std.proofs.Common.{◌+◌, ◌++◌, Result, refl, ap, ◌∙◌, subst, string_bytes}
use Rattle.rows.specs.Headings.{places_in}
use Rattle.rows.specs.Requests.{request}
use Rattle.rows.specs.declared.fault.SheetFault.{SheetFault}
use Rattle.rows.specs.declared.request.Request.{Request}
use Rattle.sheet.proofs.Rows.{one_row, text_done, state_done, entries_done}
use Rattle.sheet.specs.Desks.{meaning_at, state_at, entries_at}
use Rattle.sheet.specs.Replies.{reply, reply_text, left, noted, Tells}
use Rattle.text.specs.Readers.{lines_left, lines_read}
use Rattle.sheet.proofs.desk.Desk.answer_rows.Goals as goal

pub loop-line-init : goal.loop-line-init
loop-line-init g c = (record { text_so_far = refl; state_so_far = refl; entries_so_far = refl }, refl)

pub loop-line-preserved : goal.loop-line-preserved
loop-line-preserved g c =
    let d = c.args.self.now in
    let e = c.loop-line.self in
    let u = c.reply.new.self in
    let w = meaning_at d in
    let places = places_in c.args.head.names in
    let line = c.in-Some.line.now in
    let asked = request c.args.product places line in
    let next = c.next_line.new.self in
    let taken = c.in-Some.ensures in
    let same = c.loop-line.invariant.1 in
    let is = c.request-asked.ensures.request in
    let now = c.in_ok-reply.ensures in
    let as_asked = subst (λ (r : Result Request SheetFault). Tells (reply (meaning_at e) (state_at e) r) c.in_ok-reply.reply u.list) is now.told in
    let told = subst (λ terms. Tells (reply (g.T.Terms.meaning terms) (state_at e) asked) c.in_ok-reply.reply u.list) same as_asked in
    let goes_on = now.state ∙ (λ i. left (g.T.Terms.meaning (same i)) (state_at e) (is i)) in
    let adds = now.entries ∙ (λ i. entries_at e ++ noted (g.T.Terms.meaning (same i)) (state_at e) (is i)) in
    let written = c.in_ok-write_reply.ensures (reply w (state_at e) asked) told ∙ ap (λ n. string_bytes c.loop-line.text ++ reply_text n (reply w (state_at e) asked)) (c.line.ensures ∙ taken.count) in
    (one_row w c.args.product places (string_bytes c.args.text.now) (string_bytes c.loop-line.text) (string_bytes c.write_reply.new.text) (lines_read c.args.head.rows + 1) (lines_read c.loop-line.rows + 1) (lines_read next + 1) (state_at d) (state_at e) (state_at u) (entries_at d) (entries_at e) (entries_at u) (lines_left c.args.head.rows) (lines_left c.loop-line.rows) (lines_left next) line c.loop-line.invariant.0 taken.takes written (ap (λ n. n + 1) taken.count) goes_on adds, c.reply.ensures.terms ∙ same)

pub returns-clause-text : goal.returns-clause-text
returns-clause-text g c = text_done _ _ _ _ _ _ _ _ _ _ _ _ _ c.loop-line.invariant.0 c.in_default.ensures.takes.0

pub returns-clause-state : goal.returns-clause-state
returns-clause-state g c = state_done _ _ _ _ _ _ _ _ _ _ _ _ _ c.loop-line.invariant.0 c.in_default.ensures.takes.0

pub returns-clause-entries : goal.returns-clause-entries
returns-clause-entries g c = entries_done _ _ _ _ _ _ _ _ _ _ _ _ _ c.loop-line.invariant.0 c.in_default.ensures.takes.0
