use Rattle.std.proofs.Common.{rules, tests, sym, ◌∙◌, bytes_eq}
use Rattle.std.proofs.lemmas.Iterator.{YieldsList-from_slice}
use Rattle.std.proofs.lemmas.Iterator.Search.{position_from_yields_List}
use Rattle.rows.specs.Columns.{column_name, place_among}
use Rattle.rows.proofs.Finding.{position-map}
use Rattle.rows.proofs.row.Row.place_of.Goals as goal

pub returns-clause-place : goal.returns-clause-place
unfolding place_among
returns-clause-place c =
    let fields = c.args.self.now.fields in
    position_from_yields_List (λ f. bytes_eq f.now (column_name c.args.column)) _ _ _ c.position.ensures.ran (YieldsList-from_slice fields cc) (λ x b q k. search (rules, tests)) ∙ sym (position-map (λ f. f.now) (λ f. bytes_eq f (column_name c.args.column)) fields)
