use Rattle.std.proofs.Common.{ℕ, ◌<◌, length, get_or, Decides, ltb, sym, ◌∙◌, rules, tests}
use Rattle.std.proofs.lemmas.Bool.{false≢true}
use Rattle.std.proofs.lemmas.Fn.{always_returns_same}
use Rattle.std.proofs.iter.runs.Made.{chains}
use Rattle.calendars.proofs.Rises.{rises_told}
use Rattle.calendars.proofs.listed.ordered.Goals as goal

pub returns-then-is_sorted_by : goal.returns-then-is_sorted_by
returns-then-is_sorted_by c =
    let up = rises_told c.args.closed.now _ (c.is_sorted_by.ensures.cases ltb (always_returns_same _ _ _ (λ a r f' k. search (rules, tests)))) in
    let inside : Decides c.all.result ((i : ℕ) → i < length c.args.closed.now → get_or c.args.closed.now i 0 < 36525) = search (rules, chains) in
    (λ t. (up.0 c.if-is_sorted_by.true, inside.0 t), λ o. inside.1 o.1)

pub returns-else-is_sorted_by : goal.returns-else-is_sorted_by
returns-else-is_sorted_by c =
    let up = rises_told c.args.closed.now _ (c.is_sorted_by.ensures.cases ltb (always_returns_same _ _ _ (λ a r f' k. search (rules, tests)))) in
    (λ t. absurd (false≢true (sym c.if-is_sorted_by.false ∙ t)), λ o. up.1 o.0)
