use Rattle.std.proofs.Common.{sym, ◌∙◌}
use Rattle.std.proofs.lemmas.Bool.{and_parts}
use Rattle.wheat.proofs.Days.{answer-of}
use Rattle.wheat.proofs.wheat.WheatTerms.class_on.Goals as goal

pub returns : goal.returns
returns g c =
    let told = c.in_ok-answered_day.ensures in
    c.class_in.ensures
    ∙ answer-of (g.C.Calendar.opens c.args.self.now.calendar) c.args.day _ _ _ c.args.class (and_parts _ _ (sym told.answers)).0 told.front told.near told.lasts
