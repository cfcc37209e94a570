-- The law of the ledger, at the start and after each call. Assumes nothing.
use Rattle.std.proofs.Common.{◌≡◌, ℕ, true, ◌&&◌, eqb, leb, [], ◌∷◌, ℤ, pos, ◌+ℤ◌, ◌-ℤ◌, ◌*ℤ◌, Some, None, Option, sym, refl, ap, ◌∙◌, subst, arith}
use Rattle.amounts.specs.SumsOfWhole.{sum_z, if_z}
use Rattle.ledger.proofs.Balance.{total-is, Balanced, new-balanced, done-balanced}
use Rattle.ledger.proofs.Closing.{may-close, close-open, close-kept}
use Rattle.ledger.proofs.Days.{start-answered}
use Rattle.ledger.proofs.Figures.{Figures, figures_of, told, figures-accepted, figures-refused}
use Rattle.ledger.proofs.Following.{Follows, new-follows, follows-accepted, follows-refused}
use Rattle.ledger.proofs.Keeping.{keeps-new, keeps-done}
use Rattle.ledger.proofs.Kept.{Open, Kept, worth, finals, kept-nil, past-empty}
use Rattle.ledger.proofs.Rules.{held, market_done, row_done}
use Rattle.ledger.proofs.Settling.{settle-open, settle-kept}
use Rattle.ledger.proofs.Tests.{ask-none, some-none}
use Rattle.ledger.proofs.Trading.{may-trade, settle-priced, story_of, still, trade-kept}
use Rattle.ledger.specs.Calls.{refusal, done, after}
use Rattle.ledger.specs.History.{History, net, since, costs, booked, final}
use Rattle.ledger.specs.Ledger.{held as held_by_law, at_last, at_final, Keeps, Stands, Reached, Always, Life, LivesOn, LedgerStands}
use Rattle.ledger.specs.Make.{make_refusal}
use Rattle.ledger.specs.State.{Made, State, new_state, start_day}
use Rattle.ledger.specs.Words.{or_zero, share, unless}
use Rattle.ledger.specs.declared.call.Call.{Call}
use Rattle.ledger.specs.declared.call.Call.TheVariants.{Trade, Mark, Reprice, Settle, Close}
use Rattle.ledger.specs.declared.entry.Entry.{Entry}
use Rattle.ledger.specs.declared.fault.Fault.{Fault}
use Rattle.std.proofs.lemmas.Bool.{and_parts, leb-true}
use Rattle.std.proofs.lemmas.Int.{ints}
use Rattle.terms.specs.Laws.{Laws}
use Rattle.terms.specs.Meaning.{Meaning, answers, has, class_quantity}

-- ---- what every history keeps, by the figures that it tells

pub record Stage (w : Meaning) (F : Figures) (s : State) : Type 0 where
  pub standing : Open w s.market F.final
  pub rows : (a : ℕ) → Kept w s.market F.final (story_of F a) (s.rows a)
  pub since : (a c : ℕ) → F.since a c ≡ (s.rows a).traded c
  pub balanced : Balanced s
  pub keeps : Keeps w s

abbrev no_figures : Figures
no_figures = record { net = λ a m. pos 0; since = λ a c. pos 0; costs = λ a. pos 0; booked = λ a. pos 0; final = λ m. None }

figures-none : (w : Meaning) (start : ℕ) → figures_of w start [] ≡ no_figures
unfolding net since costs booked final
figures-none w start = refl

stage-new : (w : Meaning) (m : Made) → answers w (start_day w m.month) ≡ true → Stage w no_figures (new_state w m)
stage-new w m a = record {
  standing = record { answered = a; past = λ m f e. absurd (some-none None f e refl) };
  rows = λ a. kept-nil w (new_state w m).market (λ m. None);
  since = λ a c. refl;
  balanced = record { nothing = new-balanced m.accounts };
  keeps = keeps-new w m;
}

-- ---- an accepted call

module _ (w : Meaning) (law : Laws w) (s : State) (F : Figures) (g : Stage w F s) where
  open-done : (call : Call) → refusal w s call ≡ None → Open w (market_done w s.market call) (told w s.market.day F call).final
  open-done (Trade buyer seller c n p) q = record { answered = g.standing.answered; past = g.standing.past }
  open-done (Mark c p) q = record { answered = g.standing.answered; past = g.standing.past }
  open-done (Reprice c p) q = record { answered = g.standing.answered; past = g.standing.past }
  open-done (Settle f room) q = settle-open w law s.market F.final g.standing f room (settle-priced w s f room q)
  open-done (Close room) q = close-open w law s.market (may-close w s room q) F.final g.standing

  row-kept : (call : Call) → refusal w s call ≡ None → (a : ℕ) → Kept w (market_done w s.market call) (told w s.market.day F call).final (story_of (told w s.market.day F call) a) (row_done w s.market call a (s.rows a))
  row-kept (Trade buyer seller c n p) q a = trade-kept w law s.market F g.standing buyer seller c n p (may-trade w s buyer seller c n p q).opened a (s.rows a) (g.rows a)
  row-kept (Mark c p) q a = still w s.market F.final _ _ _ _ _ (g.rows a)
  row-kept (Reprice c p) q a = still w s.market F.final _ _ _ _ _ (g.rows a)
  row-kept (Settle f room) q a = settle-kept w law s.market F.final g.standing f room (settle-priced w s f room q) (story_of F a) (s.rows a) (g.rows a)
  row-kept (Close room) q a = close-kept w law s.market (may-close w s room q) F.final g.standing (story_of F a) (s.rows a) (g.rows a)

  since-done : (call : Call) (a c : ℕ) → (told w s.market.day F call).since a c ≡ (row_done w s.market call a (s.rows a)).traded c
  since-done (Trade buyer seller i n p) a c = ap (λ v. v +ℤ if_z (eqb c i) (share buyer seller n a)) (g.since a c)
  since-done (Mark i p) a c = g.since a c
  since-done (Reprice i p) a c = g.since a c
  since-done (Settle f room) a c = g.since a c
  since-done (Close room) a c = refl

  pub stage-done : (call : Call) → refusal w s call ≡ None → Stage w (told w s.market.day F call) (done w s call)
  stage-done call q = record {
    standing = open-done call q;
    rows = row-kept call q;
    since = since-done call;
    balanced = record { nothing = done-balanced w s call q g.balanced };
    keeps = keeps-done w law s g.keeps call q;
  }

-- ---- a history

pub record Along (w : Meaning) (h : History) (s : State) : Type 0 where
  pub follows : Follows w s.made.month h s.market
  pub stage : Stage w (figures_of w s.made.month h) s

-- one entry more, by the call's answer
entry-along : (w : Meaning) → Laws w → (e : Entry) (h : History) (s : State) → Along w h s → (o : Option Fault) → e.answer ≡ o → refusal w s e.call ≡ o → Along w (e ∷ h) (unless o (done w s e.call) s)
entry-along w law e h s g None p q = record {
  follows = follows-accepted w s.made.month e h s.market g.follows law p;
  stage = subst (λ F. Stage w F (done w s e.call)) (sym (figures-accepted w s.made.month e h s.market.day g.follows.day p)) (stage-done w law s (figures_of w s.made.month h) g.stage e.call q);
}
entry-along w law e h s g (Some x) p q = record {
  follows = follows-refused w s.made.month e h s.market g.follows x p;
  stage = subst (λ F. Stage w F s) (sym (figures-refused w s.made.month e h x p)) g.stage;
}

-- ---- the law

over : (c b v t : ℤ) → c +ℤ b ≡ v +ℤ t → c ≡ v +ℤ t -ℤ b
over c b v t e = omega (arith, ints)

finals-are : (w : Meaning) (h : History) (s : State) (a : ℕ) → finals w (figures_of w s.made.month h).final ((figures_of w s.made.month h).net a) ≡ at_final w h s a
unfolding finals
finals-are w h s a = refl

module _ (w : Meaning) (law : Laws w) (h : History) (s : State) (g : Along w h s) where
  abbrev m : ℕ
  m = s.made.month

  held-is : (a k : ℕ) → held_by_law w h s a k ≡ held w s.market (s.rows a) k
  held-is a k = λ i. sum_z w.classes (λ c. if_z (has (w.on (g.follows.day i) c) k) ((s.rows a).lots c))

  worth-is : (a : ℕ) → worth w s.market (s.rows a) ≡ at_last w h s a
  worth-is a = λ i. sum_z w.classes (λ c. ((s.rows a).lots c -ℤ sym (g.stage.since a c) i) *ℤ (pos (class_quantity w (w.on (sym g.follows.day i) c)) *ℤ or_zero (sym g.follows.last i c)))

  pub stands : Stands w h s
  stands = record {
    law = record {
      lots_balance = λ c. ap (λ r. r.lots c) (sym (total-is s.made.accounts s.rows) ∙ g.stage.balanced.nothing);
      cash_balances = ap (λ r. r.cash) (sym (total-is s.made.accounts s.rows) ∙ g.stage.balanced.nothing);
      open_months = λ a k l e. held-is a k ∙ (g.stage.rows a).open-held k e;
      settled_months = λ a k f l e. held-is a k ∙ past-empty w law s.market (final w m h) g.stage.standing _ (s.rows a) (g.stage.rows a) k (g.stage.standing.past k f e);
      cash_explained = λ a l. over (s.rows a).cash (booked w m h a) (worth w s.market (s.rows a)) (finals w (final w m h) (net w m h a)) (g.stage.rows a).value ∙ (λ i. worth-is a i +ℤ finals-are w h s a i -ℤ booked w m h a);
    };
    agrees = record {
      day = sym g.follows.day;
      count = sym g.follows.count;
      today = λ c. sym (ap (λ (p : ℕ → Option ℤ). p c) g.follows.today);
      last = λ c. sym (ap (λ (p : ℕ → Option ℤ). p c) g.follows.last);
      traded = λ a c. sym (g.stage.since a c);
    };
    keeps = g.stage.keeps;
  }

-- ---- after each call

made-answered : (w : Meaning) → Laws w → (m : Made) → make_refusal w m ≡ None → answers w (start_day w m.month) ≡ true
made-answered w law m q =
    let months = and_parts (leb 12 m.month) (leb m.month 1163) (ask-none (leb 12 m.month && leb m.month 1163) _ _ (ask-none (leb 2 m.accounts && leb m.accounts 32) _ _ q).1).0 in
    start-answered w law m.month (leb-true 12 m.month months.0) (leb-true m.month 1163 months.1)

new-along : (w : Meaning) → Laws w → (m : Made) → make_refusal w m ≡ None → Along w [] (new_state w m)
new-along w law m q = record {
  follows = new-follows w m.month;
  stage = subst (λ F. Stage w F (new_state w m)) (sym (figures-none w m.month)) (stage-new w m (made-answered w law m q));
}

pub same-made : (w : Meaning) (s : State) (call : Call) → (after w s call).made ≡ s.made
same-made w s call = by (refusal w s call)
  where
    by : (o : Option Fault) → (unless o (done w s call) s).made ≡ s.made
    by None = refl
    by (Some f) = refl

along : (w : Meaning) → Laws w → (m : Made) → make_refusal w m ≡ None → (h : History) (s : State) → Reached w m h s → Along w h s
along w law m q [] s r = subst (Along w []) (sym r) (new-along w law m q)
along w law m q (e ∷ h) s r =
    subst (Along w (e ∷ h)) (sym r.3) (entry-along w law e h r.0 (along w law m q h r.0 r.1) (refusal w r.0 e.call) r.2 refl)

always : (w : Meaning) → Laws w → (m : Made) → make_refusal w m ≡ None → (h : History) (s : State) → Reached w m h s → Always w m h s
always w law m q [] s r = (r, stands w law [] s (along w law m q [] s r))
always w law m q (e ∷ h) s r = (r.0, always w law m q h r.0 r.1, r.2, r.3, stands w law (e ∷ h) s (along w law m q (e ∷ h) s r))

reached-made : (w : Meaning) (m : Made) (h : History) (s : State) → Reached w m h s → s.made ≡ m
reached-made w m [] s r = ap (λ (s : State). s.made) r
reached-made w m (e ∷ h) s r = ap (λ (s : State). s.made) r.3 ∙ same-made w r.0 e.call ∙ reached-made w m h r.0 r.1

pub ledger-stands : LedgerStands
ledger-stands w law m q h s r =
    let e = reached-made w m h s r in
    (e, record { made = subst (λ m. make_refusal w m ≡ None) (sym e) q; always = subst (λ m. Always w m h s) (sym e) (always w law m q h s r) })

-- ---- what callers use

-- a book always so was reached
pub was-reached : (w : Meaning) (m : Made) (h : History) (s : State) → Always w m h s → Reached w m h s
was-reached w m [] s a = a.0
was-reached w m (e ∷ h) s a = (a.0, was-reached w m h a.0 a.1, a.2, a.3)

pub begins : (w : Meaning) → Laws w → (m : Made) → make_refusal w m ≡ None → Life w [] (new_state w m)
begins w law m q = (ledger-stands w law m q [] (new_state w m) refl).1

pub lives-on : (w : Meaning) → Laws w → (s : State) (call : Call) (t : State) → t ≡ after w s call → LivesOn w s call t
lives-on w law s call t e h l =
    (ledger-stands w law s.made l.made (record { call = call; answer = refusal w s call } ∷ h) t (s, was-reached w s.made h s l.always, refl, e)).1

-- what stands at the end of a life
pub stands-now : (w : Meaning) (m : Made) (h : History) (s : State) → Always w m h s → Stands w h s
stands-now w m [] s a = a.1
stands-now w m (e ∷ h) s a = a.4
