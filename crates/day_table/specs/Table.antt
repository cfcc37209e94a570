-- What the terms say of a day, as a table. Assumes nothing.
use Rattle.std.specs.Prelude.{ℕ, false, List, map, None, Option, slice_index_or}
use Rattle.calendars.specs.Walks.{next_after}
use Rattle.std.specs.List.{range_with_len}
use Rattle.terms.specs.Day.{Day, source_below}
use Rattle.terms.specs.Laws.{names, is_taken_over}
use Rattle.terms.specs.Meaning.{Meaning, any_below, all_below, tradable, is_part, has_some_part, successor, class_quantity}
use Rattle.terms.specs.declared.class_terms.ClassTerms.{ClassTerms}
use Rattle.day_table.specs.declared.table.DayTable.{DayTable}

-- all classes of a day, by number
abbrev pub classes_of : Meaning → ℕ → List (Option ClassTerms)
classes_of w d = map (w.on d) (range_with_len 0 12)

abbrev pub quantities_of : Meaning → ℕ → List ℕ
quantities_of w d = map (λ c. class_quantity w (w.on d c)) (range_with_len 0 12)

-- what terms say of a day
unfoldable pub table_of : Meaning → ℕ → DayTable
table_of w d = record {
  day = d;
  classes = w.classes;
  settling = w.settling;
  table = classes_of w d;
  tradable = map (λ c. tradable (w.on d c)) (range_with_len 0 12);
  quantity = quantities_of w d;
  whole = map (λ c. has_some_part (w.on d c)) (range_with_len 0 12);
  some_parts = any_below w.classes (λ c. has_some_part (w.on d c));
  all_stay = all_below w.classes (λ c. names (successor (w.on d c)) c);
  taken_over = is_taken_over w d;
  next = next_after w.opens d;
}

-- a class in a list of classes, and none past its end
abbrev pub class_at : List (Option ClassTerms) → ℕ → Option ClassTerms
class_at ks c = slice_index_or ks c None

abbrev pub class_in : DayTable → ℕ → Option ClassTerms
class_in t c = class_at t.table c

-- the day that a table tells of
abbrev pub day_in : DayTable → Day
day_in t = record {
  day = t.day;
  classes = t.classes;
  settling = t.settling;
  quantity = λ c. slice_index_or t.quantity c 0;
  tradable = λ c. slice_index_or t.tradable c false;
  part = λ c p. is_part (class_in t c) p;
  whole = λ c. slice_index_or t.whole c false;
  source = λ s. source_below (λ c. successor (class_in t c)) s t.classes;
  taken_over = t.taken_over;
  next = t.next;
}
