use Rattle.std.proofs.Common.{◌≡◌, cond, eqb, ◌∷◌, get_or, pos, ◌+ℤ◌, ◌*ℤ◌, Some, None, rules, sym, ap, ◌∙◌, subst, arith, w32, w64, to_z, of_z}
use Rattle.amounts.specs.SumsOfWhole.{if_z}
use Rattle.ledger.specs.History.{first_of}
use Rattle.ledger.specs.Words.{at, share}
use Rattle.std.proofs.lemmas.Int.{to_z-of_z}
use Rattle.terms.specs.Meaning.{has, class_quantity}
use Rattle.history.proofs.Readings.{told-trade, told-settle, told-close, told-mark, told-reprice}
use Rattle.history.specs.Told.{Told}
use Rattle.ledger.specs.declared.call.Call.{Call}
use Rattle.history.proofs.reading.Reading.accept.Goals as goal

pub returns-in-Trade-clause-told : goal.returns-in-Trade-clause-told
returns-in-Trade-clause-told g c start h t =
    let k = c.args.self.now in
    let r = c.trade.ensures in
    let d : to_z w64 (of_z w64 c.dealt.result) ≡ share c.in-Trade.buyer c.in-Trade.seller c.in-Trade.lots c.args.account = grind (arith, to_z-of_z) in
    let p : to_z w32 (of_z w32 c.in-Trade.price) ≡ c.in-Trade.price = search (rules, to_z-of_z) in
    let w = g.T.Terms.meaning c.args.terms.now in
    subst (λ (q : Call). Told w start (record { call = q; answer = None } ∷ h) c.args.account c.trade.new.self) (sym c.in-Trade.is) (told-trade w start h c.args.account k c.trade.new.self t r.same.0 c.in-Trade.buyer c.in-Trade.seller c.in-Trade.class c.in-Trade.lots c.in-Trade.price r.same.1 r.same.2 r.same.3 (λ m h. r.nets m h ∙ ap (λ d. at k.nets m +ℤ if_z (has (w.on k.day c.in-Trade.class) m) d) d) (λ i h. r.since i h ∙ ap (λ d. at k.since i +ℤ if_z (eqb i c.in-Trade.class) d) d) (r.costs ∙ (λ i. k.costs +ℤ pos (class_quantity w (w.on k.day c.in-Trade.class)) *ℤ (d i *ℤ p i))))

pub returns-in-Settle-clause-told : goal.returns-in-Settle-clause-told
returns-in-Settle-clause-told g c start h t =
    let r = c.settle.ensures in
    let p : to_z w32 (of_z w32 c.in-Settle.price) ≡ c.in-Settle.price = search (rules, to_z-of_z) in
    let w = g.T.Terms.meaning c.args.terms.now in
    subst (λ (q : Call). Told w start (record { call = q; answer = None } ∷ h) c.args.account c.settle.new.self) (sym c.in-Settle.is) (told-settle w start h c.args.account c.args.self.now c.settle.new.self t r.same.0 c.in-Settle.price c.in-Settle.room r.same.1 r.same.2 r.same.3 r.same.4 r.same.5 (λ m h. r.finals m h ∙ ap (λ f. first_of (cond (has (w.on c.args.self.now.day w.settling) m) (Some f) None) (get_or c.args.self.now.finals m None)) p))

pub returns-in-Close-clause-told : goal.returns-in-Close-clause-told
returns-in-Close-clause-told g c start h t =
    let r = c.close.ensures in
    let w = g.T.Terms.meaning c.args.terms.now in
    subst (λ (q : Call). Told w start (record { call = q; answer = None } ∷ h) c.args.account c.close.new.self) (sym c.in-Close.is) (told-close w start h c.args.account c.args.self.now c.close.new.self t r.same.0 c.in-Close.room r.day r.same.1 r.same.2 r.same.3 r.booked r.since)

pub returns-in-Mark-clause-told : goal.returns-in-Mark-clause-told
returns-in-Mark-clause-told g c start h t =
    let r = c.pass.ensures in
    let w = g.T.Terms.meaning c.args.terms.now in
    subst (λ (q : Call). Told w start (record { call = q; answer = None } ∷ h) c.args.account c.pass.new.self) (sym c.in-Mark.is) (told-mark w start h c.args.account c.args.self.now c.pass.new.self t r.0 r.1 r.2 r.3 r.4 r.5 r.6 c.in-Mark.class c.in-Mark.price)

pub returns-in-Reprice-clause-told : goal.returns-in-Reprice-clause-told
returns-in-Reprice-clause-told g c start h t =
    let r = c.pass-in-Reprice.ensures in
    let w = g.T.Terms.meaning c.args.terms.now in
    subst (λ (q : Call). Told w start (record { call = q; answer = None } ∷ h) c.args.account c.pass-in-Reprice.new.self) (sym c.in-Reprice.is) (told-reprice w start h c.args.account c.args.self.now c.pass-in-Reprice.new.self t r.0 r.1 r.2 r.3 r.4 r.5 r.6 c.in-Reprice.class c.in-Reprice.price)
