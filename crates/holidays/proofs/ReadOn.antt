-- Reading days line by line. Assumes nothing.
use Rattle.std.proofs.Common.{◌≡◌, ℕ, ◌+◌, List, [], ◌∷◌, ◌++◌, Some, None, Ok, Err, Option, Result, sym, refl, ap, ◌∙◌}
use Rattle.std.specs.Option.{ok_or}
use Rattle.std.proofs.lemmas.List.{append_assoc, append-nil}
use Rattle.holidays.specs.declared.file.ReadFault.{ReadFault}
use Rattle.holidays.specs.declared.file.ReadFault.TheVariants.{NotADate}
use Rattle.holidays.specs.File.{iso_day, in_front, days_from, days_read, Refuses}

-- what is read after some days, with those days in front
abbrev pub after : List ℕ → Result (List ℕ) ℕ → Result (List ℕ) ℕ
after days (Ok more) = Ok (days ++ more)
after days (Err bad) = Err bad

after_one : (days : List ℕ) (n day : ℕ) (others : Result (List ℕ) ℕ) → after days (in_front n (Some day) others) ≡ after (days ++ day ∷ []) others
after_one days n day (Ok more) = ap Ok (simp append_assoc)
after_one days n day (Err bad) = refl

-- what the answer of `line_day` says of its line
accepted : (o : Option ℕ) (fault : ReadFault) {day : ℕ} → Ok day ≡ ok_or o fault → o ≡ Some day
accepted None fault h = absurd cc
accepted (Some d) fault h = cc

refused : (o : Option ℕ) (fault : ReadFault) {e : ReadFault} → Err e ≡ ok_or o fault → (o ≡ None) × (e ≡ fault)
refused None fault h = (refl, cc)
refused (Some d) fault h = absurd cc

-- n lines of a text are read, and the lines that are left begin with one line and go on with the others
pub goes_on : (days : List ℕ) (n : ℕ) (days' : List ℕ) (others : List (List ℕ)) {n' number day : ℕ} {line : List ℕ} {left : List (List ℕ)} {whole : Result (List ℕ) ℕ} → after days (days_from (n + 1) left) ≡ whole → left ≡ line ∷ others → n' ≡ n + 1 → number ≡ n' → Ok day ≡ ok_or (iso_day line) (NotADate number) → days' ≡ days ++ day ∷ [] → after days' (days_from (n' + 1) others) ≡ whole
unfolding days_from
goes_on days n days' others {number} {day} {line} h b p k e q =
    let some = accepted (iso_day line) (NotADate number) e in
    rw (p, q, ← after_one days (n + 1) day (days_from (n + 1 + 1) others), ← some) (rw b at h)

pub breaks-off : (text days : List ℕ) (n : ℕ) (others : List (List ℕ)) {n' number : ℕ} {line : List ℕ} {left : List (List ℕ)} {e : ReadFault} → after days (days_from (n + 1) left) ≡ days_read text → left ≡ line ∷ others → n' ≡ n + 1 → number ≡ n' → Err e ≡ ok_or (iso_day line) (NotADate number) → Refuses text e
unfolding days_from
breaks-off text days n others {number} {line} h b p k e =
    let no = refused (iso_day line) (NotADate number) e in
    rw (no.1, k, p) (sym (rw b at h) ∙ rw no.0)

pub comes-to-end : (days : List ℕ) (n : ℕ) {left : List (List ℕ)} {whole : Result (List ℕ) ℕ} → after days (days_from n left) ≡ whole → left ≡ [] → whole ≡ Ok days
unfolding days_from
comes-to-end days n h b = sym (rw b at h) ∙ ap Ok (append-nil days)
