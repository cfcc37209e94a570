-- Listing intervals field by field. Assumes nothing.
use Rattle.std.proofs.Common.{◌≡◌, ℕ, List, [], ◌∷◌, ◌++◌, Some, None, Ok, Err, Option, ok_or, refl, ap, sym, ◌∙◌}
use Rattle.std.proofs.lemmas.List.{append_assoc, append-nil}
use Rattle.setup.specs.Setups.{interval_named, in_front, numbers_in, Refuses}
use Rattle.setup.specs.declared.fault.ArgumentFault.{ArgumentFault}
use Rattle.setup.specs.declared.fault.ArgumentFault.TheVariants.{Intervals}

-- what is listed after some intervals, with those in front
abbrev pub after : List ℕ → Option (List ℕ) → Option (List ℕ)
after listed None = None
after listed (Some more) = Some (listed ++ more)

after_one : (listed : List ℕ) (n : ℕ) (others : Option (List ℕ)) → after listed (in_front (Some n) others) ≡ after (listed ++ n ∷ []) others
after_one listed n None = refl
after_one listed n (Some more) = ap Some (simp append_assoc)

-- what the answer of `interval_of` says of its field
accepted : (o : Option ℕ) {n : ℕ} → Ok n ≡ ok_or o Intervals → o ≡ Some n
accepted None h = absurd cc
accepted (Some m) h = cc

refused : (o : Option ℕ) {fault : ArgumentFault} → Err fault ≡ ok_or o Intervals → (o ≡ None) × (fault ≡ Intervals)
refused None h = (refl, cc)
refused (Some m) h = absurd cc

-- the fields that are left begin with one field and go on with the others
pub goes_on : (listed : List ℕ) (others : List (List ℕ)) {listed' : List ℕ} {n : ℕ} {field : List ℕ} {left : List (List ℕ)} {whole : Option (List ℕ)} → after listed (numbers_in left) ≡ whole → left ≡ field ∷ others → Ok n ≡ ok_or (interval_named field) Intervals → listed' ≡ listed ++ n ∷ [] → after listed' (numbers_in others) ≡ whole
unfolding numbers_in
goes_on listed others {n} {field} h b e p =
    rw (p, ← after_one listed n (numbers_in others), ← accepted (interval_named field) e) (rw b at h)

pub breaks-off : (listed : List ℕ) (others : List (List ℕ)) {field : List ℕ} {left : List (List ℕ)} {whole : Option (List ℕ)} {fault : ArgumentFault} → after listed (numbers_in left) ≡ whole → left ≡ field ∷ others → Err fault ≡ ok_or (interval_named field) Intervals → Refuses (ok_or whole Intervals) fault
unfolding numbers_in
breaks-off listed others {field} h b e =
    let no = refused (interval_named field) e in
    rw (no.1, ← h, b, no.0) refl

-- one field is left
pub comes-to-end : (listed : List ℕ) {listed' : List ℕ} {n : ℕ} {field : List ℕ} {left : List (List ℕ)} {whole : Option (List ℕ)} → after listed (numbers_in left) ≡ whole → left ≡ field ∷ [] → Ok n ≡ ok_or (interval_named field) Intervals → listed' ≡ listed ++ n ∷ [] → whole ≡ Some listed'
unfolding numbers_in
comes-to-end listed {listed'} h b e p = sym (goes_on listed [] h b e p) ∙ ap Some (append-nil listed')
