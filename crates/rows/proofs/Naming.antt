-- What a names line tells of the places of the columns. Assumes nothing.
use Rattle.std.proofs.Common.{◌≡◌, ◌≢◌, ℕ, Bool, true, false, ltb, ◌&&◌, List, [], ◌∷◌, length, map, Some, None, Option, is_some, bytes_eq, slice_index, slice_index_or, unwrap_or, refl, sym, ap, ⊎_elim}
use Rattle.std.proofs.lemmas.Bool.{ltb-true, ne_eqb, and_left, and_right, and_parts, cases_Bool}
use Rattle.std.proofs.lemmas.List.Sums.{passes_at_first}
use Rattle.std.proofs.lemmas.Option.{cond_some}
use Rattle.std.proofs.lemmas.Slice.Eq.{bytes_eq-Decides}
use Rattle.std.specs.List.{list_all, position_or_len}
use Rattle.rows.specs.Columns.{columns, column_name, column_place, place_among, names_fit, places_of, HoldsItsName}
use Rattle.rows.specs.Fields.{fields}
use Rattle.rows.specs.declared.column.Column.{Column}
use Rattle.rows.specs.declared.column.Column.TheVariants.{Call, Buyer, Seller, Class, Lots, Price}

pub wrong_count : (line : List ℕ) → length (fields line) ≢ 6 → names_fit line ≡ false
unfolding names_fit
wrong_count line h = and_left _ _ (ne_eqb (length (fields line)) 6 h)

and_false : (b : Bool) → (b && false) ≡ false
and_false true = refl
and_false false = refl

one_fails : (test : Column → Bool) (column : Column) → test column ≡ false → list_all test columns ≡ false
one_fails test Call h = rw h
one_fails test Buyer h = rw h (simp and_false)
one_fails test Seller h = rw h (simp and_false)
one_fails test Class h = rw h (simp and_false)
one_fails test Lots h = rw h (simp and_false)
one_fails test Price h = rw h (simp and_false)

-- one column whose name stands nowhere is enough
pub lacks : (line : List ℕ) {parts : List (List ℕ)} (column : Column) → parts ≡ fields line → None ≡ place_among parts column → names_fit line ≡ false
unfolding names_fit
lacks line column e h =
    let missing : place_among (fields line) column ≡ None = rw (← e) (sym h) in
    and_right _ _ (one_fails (λ other. is_some (place_among (fields line) other)) column (ap is_some missing))

-- the places of the six columns among some fields
pub record Places (parts : List (List ℕ)) (call buyer seller class lots price : ℕ) : Type 0 where
  pub at_call : Some call ≡ place_among parts Call
  pub at_buyer : Some buyer ≡ place_among parts Buyer
  pub at_seller : Some seller ≡ place_among parts Seller
  pub at_class : Some class ≡ place_among parts Class
  pub at_lots : Some lots ≡ place_among parts Lots
  pub at_price : Some price ≡ place_among parts Price

pub has_all : (line : List ℕ) {parts : List (List ℕ)} {call buyer seller class lots price : ℕ} → parts ≡ fields line → length (fields line) ≡ 6 → Places parts call buyer seller class lots price → (names_fit line ≡ true) × (call ∷ buyer ∷ seller ∷ class ∷ lots ∷ price ∷ [] ≡ places_of line)
unfolding names_fit places_of
has_all line e six p = rw (six, ← e, ← p.at_call, ← p.at_buyer, ← p.at_seller, ← p.at_class, ← p.at_lots, ← p.at_price) (refl, refl)

abbrev has_column_name : Column → List ℕ → Bool
has_column_name column field = bytes_eq field (column_name column)

-- what stands in a column's place is its name
pub holds_name : (parts : List (List ℕ)) (column : Column) (place : ℕ) → place_among parts column ≡ Some place → slice_index_or parts place [] ≡ column_name column
unfolding place_among
holds_name parts column place h =
    let found = cond_some (ltb (position_or_len (has_column_name column) parts) (length parts)) (position_or_len (has_column_name column) parts) place h in
    rw (← found.1) ((bytes_eq-Decides _ _).0 (passes_at_first (has_column_name column) parts [] (ltb-true _ _ found.0)))

one_of_all : (test : Column → Bool) (column : Column) → list_all test columns ≡ true → test column ≡ true
one_of_all test column h = ⊎_elim (λ yes. yes) (λ fails. let none = one_fails test column fails in absurd cc) (cases_Bool (test column))

listed_place : (place : Column → ℕ) (column : Column) → slice_index (map place columns) (column_place column) ≡ place column
listed_place place Call = refl
listed_place place Buyer = refl
listed_place place Seller = refl
listed_place place Class = refl
listed_place place Lots = refl
listed_place place Price = refl

known : (o : Option ℕ) → is_some o ≡ true → o ≡ Some (unwrap_or o 0)
known None h = absurd cc
known (Some place) h = refl

-- in a names line each column's name stands in its place
pub fit_holds : (line : List ℕ) → names_fit line ≡ true → HoldsItsName (places_of line) (fields line)
unfolding names_fit places_of
fit_holds line h column =
    let found = known (place_among (fields line) column) (one_of_all (λ other. is_some (place_among (fields line) other)) column (and_parts _ _ h).1) in
    rw (listed_place (λ other. unwrap_or (place_among (fields line) other) 0) column) (holds_name (fields line) column _ found)
