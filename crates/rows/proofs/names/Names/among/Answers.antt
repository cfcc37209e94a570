use Rattle.rows.proofs.Naming.{wrong_count, lacks, has_all}
use Rattle.rows.specs.declared.column.Column.TheVariants.{Call, Buyer, Seller, Class, Lots, Price}
use Rattle.rows.proofs.names.Names.among.Goals as goal

pub returns-in_err-row : goal.returns-in_err-row
returns-in_err-row c = rw c.from_residual.ensures (wrong_count c.args.line.now c.in_err-row.ensures)

pub returns-in_err-call : goal.returns-in_err-call
returns-in_err-call c = rw c.from_residual-in_err-call.ensures (lacks c.args.line.now Call c.in_ok-row.ensures.0 c.in_err-call.ensures.place)

pub returns-in_err-buyer : goal.returns-in_err-buyer
returns-in_err-buyer c = rw c.from_residual-in_err-buyer.ensures (lacks c.args.line.now Buyer c.in_ok-row.ensures.0 c.in_err-buyer.ensures.place)

pub returns-in_err-seller : goal.returns-in_err-seller
returns-in_err-seller c = rw c.from_residual-in_err-seller.ensures (lacks c.args.line.now Seller c.in_ok-row.ensures.0 c.in_err-seller.ensures.place)

pub returns-in_err-class : goal.returns-in_err-class
returns-in_err-class c = rw c.from_residual-in_err-class.ensures (lacks c.args.line.now Class c.in_ok-row.ensures.0 c.in_err-class.ensures.place)

pub returns-in_err-lots : goal.returns-in_err-lots
returns-in_err-lots c = rw c.from_residual-in_err-lots.ensures (lacks c.args.line.now Lots c.in_ok-row.ensures.0 c.in_err-lots.ensures.place)

pub returns-in_err-price : goal.returns-in_err-price
returns-in_err-price c = rw c.from_residual-in_err-price.ensures (lacks c.args.line.now Price c.in_ok-row.ensures.0 c.in_err-price.ensures.place)

pub returns : goal.returns
returns c =
    has_all c.args.line.now c.in_ok-row.ensures.0 c.in_ok-row.ensures.1 record {
      at_call = c.in_ok-call.ensures.place;
      at_buyer = c.in_ok-buyer.ensures.place;
      at_seller = c.in_ok-seller.ensures.place;
      at_class = c.in_ok-class.ensures.place;
      at_lots = c.in_ok-lots.ensures.place;
      at_price = c.in_ok-price.ensures.place;
    }
