use Rattle.std.proofs.Common.{◌≡◌, ℕ, ◌<◌, cond, List, length, take, None, unwrap_or, pos, sym, ap, ◌∙◌, arith}
use Rattle.book.proofs.Settles.{each-row}
use Rattle.book.proofs.Stays.{sources-are, sources-known, lots-stay, kept}
use Rattle.book.proofs.Trades.{refilled}
use Rattle.book.specs.Rows.{rows_of, row_carried, row_credited}
use Rattle.book.specs.Stores.{meaning_in, state_in}
use Rattle.book.specs.declared.account.Account.{Account}
use Rattle.day_table.proofs.Tables.{read-day}
use Rattle.day_table.specs.Table.{table_of, day_in}
use Rattle.day_table.specs.declared.table.DayTable.{DayTable}
use Rattle.ledger.proofs.Linear.{nil-moved}
use Rattle.ledger.specs.Calls.{today, newest, lots_fit, after_parts, row_closed}
use Rattle.ledger.specs.Words.{all_below, from}
use Rattle.ledger.specs.declared.call.Call.TheVariants.{Close}
use Rattle.terms.specs.Day.{Day}
use Rattle.book.proofs.store.Store.go_on.Goals as goal

pub close_accounts-requires-clause-known : goal.close_accounts-requires-clause-known
close_accounts-requires-clause-known g c =
    let s = c.args.self.now in
    sources-known (meaning_in s) (g.met.T.Terms.lawful s.dated.terms) c.day.result.now (state_in s).market.day c.day.ensures.read c.sources-sources.result c.sources-sources.ensures

pub close_accounts-requires-clause-keeps : goal.close_accounts-requires-clause-keeps
close_accounts-requires-clause-keeps g c = λ a h.
    let s = c.args.self.now in
    let b = state_in s in
    let old = c.deref_mut.ensures.value in
    ap (λ xs. all_below c.day.result.now.classes (λ k. lots_fit (after_parts (day_in c.day.result.now) (rows_of xs a) k))) old
    ∙ ap (λ (d : Day). all_below d.classes (λ k. lots_fit (after_parts d (b.rows a) k))) c.day.ensures.day
    ∙ kept (meaning_in s) b b.made.accounts c.requires.may a (omega (arith, h, ap length old))

pub close_accounts-requires-clause-stays : goal.close_accounts-requires-clause-stays
close_accounts-requires-clause-stays g c = λ e a t h.
    let s = c.args.self.now in
    let b = state_in s in
    let w = meaning_in s in
    let law = g.met.T.Terms.lawful s.dated.terms in
    let old = c.deref_mut.ensures.value in
    let src = sources-are w law c.day.result.now b.market.day c.day.ensures.read c.sources-sources.result c.sources-sources.ensures in
    (λ i. from (src t i) (pos 0) (after_parts (c.day.ensures.day i) (rows_of (old i) a)))
    ∙ lots-stay w law c.day.result.now b.market.day c.day.ensures.read e b c.requires.ready.keeps a t
    ∙ ap (λ xs. (rows_of xs a).lots t) (sym old)

pub all_carried_prices-self-requires : goal.all_carried_prices-self-requires
all_carried_prices-self-requires g c = λ t k e.
    let s = c.args.self.now in
    omega (arith, sources-known (meaning_in s) (g.met.T.Terms.lawful s.dated.terms) c.day.result.now (state_in s).market.day c.day.ensures.read c.sources-sources.result c.sources-sources.ensures t k e, c.day.ensures.twelve)

pub returns-clause-state : goal.returns-clause-state
returns-clause-state g c = λ room.
    let s = c.args.self.now in
    let b = state_in s in
    let w = meaning_in s in
    let law = g.met.T.Terms.lawful s.dated.terms in
    let t = c.day.result.now in
    let k = b.market in
    let xs = s.tables.accounts.items in
    let ys = c.close_accounts.new.accounts in
    let old = c.deref_mut.ensures.value in
    let long = c.close_accounts.ensures.long ∙ ap length old in
    let e = refilled xs ys long in
    let src = sources-are w law t k.day c.day.ensures.read c.sources-sources.result c.sources-sources.ensures in
    let each : (a : ℕ) → a < length xs → rows_of ys a ≡ row_closed (today w b) k (b.rows a) =
    λ a l. c.close_accounts.ensures.rows a (omega (arith, l, ap length old)) ∙ (λ i. row_carried (c.day.ensures.day i) (λ t. src t i) (row_credited (c.requires.pays a l i) (rows_of (old i) a))) in
    let n : unwrap_or t.next 0 ≡ unwrap_or (today w b).next 0 = ap (λ (d : Day). unwrap_or d.next 0) c.day.ensures.day in
    let there = c.go_to.ensures.table ∙ ap (table_of w) (c.unwrap_or.ensures ∙ n) in
    let next = read-day w law (unwrap_or (today w b).next 0) c.go_to.new.self.table there in
    let told = ap day_in c.table.ensures ∙ next in
    let now : t.classes ≡ w.classes = ap (λ (d : Day). d.classes) c.day.ensures.day in
    λ i. record b {
      made = record b.made {
        accounts = (ap length e ∙ long) i;
        lines = ap (λ (m : ℕ). take m s.tables.lines) (ap (λ (d : Day). d.classes) next ∙ sym now ∙ ap (λ (t : DayTable). t.classes) c.day.ensures.table) i;
      };
      market = record k {
        day = (ap (λ (d : Day). d.day) next) i;
        last = λ t. (c.all_carried_prices-self.ensures.last k.day k.accepted t ∙ (λ i. from (src t i) None (newest (c.day.ensures.day i) k))) i;
        today = λ t. c.all_carried_prices-self.ensures.today k.day k.accepted t i;
        repriced = λ t. (c.all_carried_prices-self.ensures.repriced k.day k.accepted t ∙ (λ i. cond ((told i).tradable t) None (from (src t i) None k.repriced))) i;
      };
      rows = λ a. (ap (λ (xs : List Account). rows_of xs a) e ∙ each-row (λ a r. row_closed (today w b) k r) xs ys (λ a. nil-moved w k (Close 0)) long each a) i;
    }
