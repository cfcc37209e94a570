use Rattle.std.proofs.Common.{◌≡◌, ◌++◌, ℕ, List, ap, ◌∙◌, arith, string_bytes}
use Rattle.reckoning.proofs.Ranges.{flat_map-range_more}
use Rattle.reckoning.specs.Reckonings.{months_text}
use Rattle.reckoning.specs.Tellings.{month_of}
use Rattle.std.specs.List.{flat_map, range_with_len}
use Rattle.reckoning.proofs.account.tell_months.Goals as goal

pub loop-month-preserved : goal.loop-month-preserved
loop-month-preserved g c =
    let told = month_of c.args.journal.now c.args.account in
    c.in_ok-tell_month.ensures ∙ (ap (λ (bs : List ℕ). bs ++ told c.loop-month.month) c.loop-month.invariant ∙ flat_map-range_more told (string_bytes c.args.text.now) c.loop-month.month)

pub returns : goal.returns
unfolding months_text
returns g c =
    let told = month_of c.args.journal.now c.args.account in
    let e : c.loop-month.month ≡ 1200 = omega arith in
    c.loop-month.invariant ∙ ap (λ (n : ℕ). string_bytes c.args.text.now ++ flat_map told (range_with_len 0 n)) e
