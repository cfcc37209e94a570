-- The lines of values, one after the other. Assumes nothing.
use Rattle.std.proofs.Common.{◌≡◌, ℕ, ◌+◌, List, [], ◌∷◌, ◌++◌, sym, ap, ◌∙◌, append_assoc}
use Rattle.ledger.specs.State.{State}
use Rattle.ledger.specs.declared.entry.Entry.{Entry}
use Rattle.products.specs.declared.product.Product.{Product}
use Rattle.rows.specs.Requests.{request}
use Rattle.sheet.specs.Replies.{reply, reply_text, left, noted}
use Rattle.sheet.specs.Sheets.{rows_text, rows_state, rows_entries}
use Rattle.std.proofs.lemmas.List.{append-nil}
use Rattle.terms.specs.Meaning.{Meaning}

module _ (w : Meaning) (product : Product) (places : List ℕ) where
  -- from a text, a line number, a state and entries one comes to others, and from rows to those that are left
  pub record Along (text text' : List ℕ) (n n' : ℕ) (s s' : State) (items items' : List Entry) (rows rows' : List (List ℕ)) : Type 0 where
    pub text_so_far : text ++ rows_text w product places n s rows ≡ text' ++ rows_text w product places n' s' rows'
    pub state_so_far : rows_state w product places s rows ≡ rows_state w product places s' rows'
    pub entries_so_far : items ++ rows_entries w product places s rows ≡ items' ++ rows_entries w product places s' rows'

  -- one row more
  pub one_row : (text text' text'' : List ℕ) (n n' n'' : ℕ) (s s' s'' : State) (items items' items'' : List Entry) (rows rows' rest : List (List ℕ)) (row : List ℕ) → Along text text' n n' s s' items items' rows rows' → rows' ≡ row ∷ rest → text'' ≡ text' ++ reply_text n' (reply w s' (request product places row)) → n'' ≡ n' + 1 → s'' ≡ left w s' (request product places row) → items'' ≡ items' ++ noted w s' (request product places row) → Along text text'' n n'' s s'' items items'' rows rest
  unfolding rows_text rows_state rows_entries
  one_row text text' text'' n n' n'' s s' s'' items items' items'' rows rows' rest row a e told count goes_on adds =
      let asked = request product places row in
      record {
        text_so_far = a.text_so_far ∙ ap (λ r. text' ++ rows_text w product places n' s' r) e ∙ sym (append_assoc text' (reply_text n' (reply w s' asked)) (rows_text w product places (n' + 1) (left w s' asked) rest)) ∙ (λ i. sym told i ++ rows_text w product places (sym count i) (sym goes_on i) rest);
        state_so_far = a.state_so_far ∙ ap (λ r. rows_state w product places s' r) e ∙ ap (λ u. rows_state w product places u rest) (sym goes_on);
        entries_so_far = a.entries_so_far ∙ ap (λ r. items' ++ rows_entries w product places s' r) e ∙ sym (append_assoc items' (noted w s' asked) (rows_entries w product places (left w s' asked) rest)) ∙ (λ i. sym adds i ++ rows_entries w product places (sym goes_on i) rest);
      }

  -- no row is left
  module _ (text text' : List ℕ) (n n' : ℕ) (s s' : State) (items items' : List Entry) (rows rows' : List (List ℕ)) (a : Along text text' n n' s s' items items' rows rows') (e : rows' ≡ []) where
    pub text_done : text' ≡ text ++ rows_text w product places n s rows
    unfolding rows_text
    text_done = sym (a.text_so_far ∙ ap (λ r. text' ++ rows_text w product places n' s' r) e ∙ append-nil text')

    pub state_done : s' ≡ rows_state w product places s rows
    unfolding rows_state
    state_done = sym (a.state_so_far ∙ ap (λ r. rows_state w product places s' r) e)

    pub entries_done : items' ≡ items ++ rows_entries w product places s rows
    unfolding rows_entries
    entries_done = sym (a.entries_so_far ∙ ap (λ r. items' ++ rows_entries w product places s' r) e ∙ append-nil items')
