-- Class lines: line by line in make, and found by their class afterwards. Assumes nothing.
use Rattle.std.proofs.Common.{◌≡◌, ℕ, zero, suc, ◌+◌, ◌<◌, Bool, true, false, MatchBool, ◌&&◌, eqb, leb, List, [], ◌∷◌, ◌++◌, map, length, min, get_or, take, drop, replicate, Some, None, Option, sym, refl, ap, ◌∙◌, ⊎_elim, arith}
use Rattle.book.specs.Lines.{line_fits, filled}
use Rattle.coded.proofs.Found.{place-some}
use Rattle.coded.specs.Places.{Rising, place}
use Rattle.coded.specs.declared.class_line.ClassLine.{ClassLine}
use Rattle.ledger.proofs.Tests.{some-none}
use Rattle.ledger.specs.Make.{lines_fit}
use Rattle.ledger.specs.Questions.{line_interval}
use Rattle.ledger.specs.Words.{from}
use Rattle.std.proofs.lemmas.List.{drop-replicate, get_or-map, length-map}
use Rattle.std.proofs.Math.Seq.{take-append_seam}
use Rattle.std.proofs.lemmas.Bool.{and_from, and_parts, and_right, cases_Bool, eqb-true, eq-eqb}
use Rattle.std.proofs.lemmas.List.FromFn.{length-range_with_len, get_or-range_with_len}
use Rattle.std.proofs.lemmas.Slice.Zip.{get_or-zip, length-zip}
use Rattle.std.specs.List.{range_with_len, zip, AllWithin, HoldsAt}

abbrev pub no_line : ClassLine
no_line = record { class = 0; interval = 0 }

-- as many lines as classes
pub lines-count : (k n : ℕ) (xs : List ClassLine) → lines_fit k n xs ≡ true → k + length xs ≡ n
lines-count k n [] e = omega (arith, eqb-true k n e)
lines-count k n (l ∷ ls) e =
    let a = and_parts (eqb l.class k) _ e in
    let b = and_parts (leb l.interval 10000) _ a.1 in
    omega (arith, lines-count (suc k) n ls b.1)

pub not-as-many : (n : ℕ) (xs : List ClassLine) → (length xs ≡ n → ⊥) → false ≡ lines_fit 0 n xs
not-as-many n xs h = ⊎_elim (λ e. let q : length xs ≡ n = omega (arith, lines-count 0 n xs e) in absurd (h q)) sym (cases_Bool (lines_fit 0 n xs))

-- the lines beside the numbers of their classes
width : (n : ℕ) (xs : List ClassLine) → length xs ≡ n → length (zip xs (range_with_len 0 n)) ≡ n
width n xs e = length-zip xs (range_with_len 0 n) ∙ (λ i. min (e i) (length-range_with_len 0 n i)) ∙ (omega arith)

at_place : (n : ℕ) (xs : List ClassLine) (i : ℕ) → length xs ≡ n → i < length xs → get_or (zip xs (range_with_len 0 n)) i (no_line, 0) ≡ (get_or xs i no_line, 0 + i)
at_place n xs i e l =
    get_or-zip xs (range_with_len 0 n) i (no_line, 0) l (omega (arith, e, length-range_with_len 0 n))
    ∙ (λ j. (get_or xs i no_line, get_or-range_with_len 0 n i 0 (omega arith) j))

-- each line fits its class, or one does not
all-fit : (k n : ℕ) (xs : List ClassLine) → k + length xs ≡ n → ((i : ℕ) → i < length xs → line_fits (get_or xs i no_line) (k + i) ≡ true) → lines_fit k n xs ≡ true
all-fit k n [] e h = eq-eqb k n (omega arith)
all-fit k n (l ∷ ls) e h =
    let q : k + 0 ≡ k = omega arith in
    let here = and_parts (eqb l.class k) (leb l.interval 10000) (rw q at (h 0 (omega arith))) in
    let rest : lines_fit (suc k) n ls ≡ true = all-fit (suc k) n ls (omega arith) (λ i t. let p : suc k + i ≡ k + suc i = omega arith in rw p (h (suc i) (omega arith))) in
    and_from _ _ here.0 (and_from _ _ here.1 rest)

one-misfit : (k n i : ℕ) (xs : List ClassLine) → i < length xs → line_fits (get_or xs i no_line) (k + i) ≡ false → lines_fit k n xs ≡ false
one-misfit k n i [] h e = absurd (omega arith)
one-misfit k n zero (l ∷ ls) h e =
    let q : k + 0 ≡ k = omega arith in
    regroup (eqb l.class k) (leb l.interval 10000) (lines_fit (suc k) n ls) ∙ ap (λ b. b && lines_fit (suc k) n ls) (rw q at e)
  where
    regroup : (a b r : Bool) → (a && (b && r)) ≡ ((a && b) && r)
    regroup true b r = refl
    regroup false b r = refl
one-misfit k n (suc i) (l ∷ ls) h e =
    let p : suc k + i ≡ k + suc i = omega arith in
    let rest : lines_fit (suc k) n ls ≡ false = one-misfit (suc k) n i ls (omega arith) (rw p e) in
    and_right (eqb l.class k) _ (and_right (leb l.interval 10000) _ rest)

-- what `all` answers over the lines beside their classes
pub lines-asked : (n : ℕ) (xs : List ClassLine) (r : Bool) → length xs ≡ n → MatchBool r (AllWithin (λ p. line_fits p.0 p.1 ≡ true) (zip xs (range_with_len 0 n)) 0 (length (zip xs (range_with_len 0 n)))) ((i : ℕ) × (i < length (zip xs (range_with_len 0 n))) × HoldsAt (λ p. line_fits p.0 p.1 ≡ false) (zip xs (range_with_len 0 n)) i) → r ≡ lines_fit 0 n xs
lines-asked n xs true e h =
    sym (all-fit 0 n xs (omega arith) (λ i l.
    let q = at_place n xs i e l in
    ap (λ (p : ClassLine × ℕ). line_fits p.0 p.1) (sym q) ∙ h i (no_line, 0) (omega arith) (omega (arith, width n xs e))))
lines-asked n xs false e h =
    let l : h.0 < length xs = omega (arith, h.1, width n xs e) in
    sym (one-misfit 0 n h.0 xs l (ap (λ (p : ClassLine × ℕ). line_fits p.0 p.1) (sym (at_place n xs h.0 e l)) ∙ h.2 (no_line, 0)))

-- ---- the lines of a made book

-- the lines, and such as are none up to twelve
pub fill-rest : (xs ys : List ClassLine) → ys ≡ xs → ys ++ drop (length xs) (replicate 12 no_line) ≡ filled xs
fill-rest xs ys e = λ i. e i ++ drop-replicate (length xs) 12 no_line i

-- the first of them are the lines
pub filled-first : (n : ℕ) (xs : List ClassLine) → lines_fit 0 n xs ≡ true → take n (filled xs) ≡ xs
filled-first n xs e =
    let l : n ≡ length xs = omega (arith, lines-count 0 n xs e) in
    ap (λ n. take n (filled xs)) l ∙ take-append_seam xs _

-- ---- the line of a class is found

lines-class : (k n : ℕ) (xs : List ClassLine) → lines_fit k n xs ≡ true → (i : ℕ) → i < length xs → (get_or xs i no_line).class ≡ k + i
lines-class k n [] e i h = absurd (omega arith)
lines-class k n (l ∷ ls) e zero h = omega (arith, eqb-true l.class k (and_parts (eqb l.class k) _ e).0)
lines-class k n (l ∷ ls) e (suc i) h =
    let a = and_parts (eqb l.class k) _ e in
    let b = and_parts (leb l.interval 10000) _ a.1 in
    omega (arith, lines-class (suc k) n ls b.1 i (omega arith))

module _ (xs : List ClassLine) (n : ℕ) (fit : lines_fit 0 n xs ≡ true) where
  abbrev codes : List ℕ
  codes = map (λ (l : ClassLine). l.class) xs

  long : length xs ≡ n
  long = omega (arith, lines-count 0 n xs fit)

  read : (c : ℕ) → c < n → get_or codes c 0 ≡ c
  read c h = get_or-map (λ (l : ClassLine). l.class) xs c no_line 0 (omega (arith, long)) ∙ lines-class 0 n xs fit c (omega (arith, long)) ∙ (omega arith)

  pub lines-rise : Rising codes
  lines-rise i j h l =
      let m : j < n = omega (arith, length-map xs (λ (l : ClassLine). l.class), long) in
      omega (arith, read i (omega arith), read j m)

  found : (c : ℕ) → c < n → place codes c ≡ Some c
  found c h = place-some codes c c (omega (arith, length-map xs (λ (l : ClassLine). l.class), long)) (read c h) (λ k l e. omega (arith, read k (omega arith)))

  module _ (c : ℕ) (h : c < n) (o : Option ℕ) (e : o ≡ place codes c) where
    -- what is found has the class's interval, and something is found
    pub interval-is : (i : ℕ) → o ≡ Some i → (get_or xs i no_line).interval ≡ line_interval xs c
    interval-is i q = sym (ap (λ o. from o 0 (λ k. (get_or xs k no_line).interval)) (sym e ∙ q))

    pub not-missed : o ≡ None → ⊥
    not-missed q = some-none o c (e ∙ found c h) q
