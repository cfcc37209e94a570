-- What a line of values asks: the questions of the sheet in their order. Assumes nothing.
use Rattle.std.specs.Prelude.{ℕ, Bool, true, false, List, ◌==◌, Ok, Err, Result, ℤ, pos, length, ok_or}
use Rattle.ledger.specs.declared.call.Call.TheVariants.{Trade as trade, Mark as mark, Reprice as reprice, Settle as settle, Close as close}
use Rattle.products.specs.Products.{class_of}
use Rattle.products.specs.declared.product.Product.{Product}
use Rattle.text.specs.Numbers.{digits_value, signed_value}
use Rattle.rows.specs.CallNames.{call_named, needed, just_filled}
use Rattle.rows.specs.Columns.{field_in, names_of}
use Rattle.rows.specs.Fields.{fields}
use Rattle.rows.specs.declared.call_name.CallName.{CallName}
use Rattle.rows.specs.declared.call_name.CallName.TheVariants.{Trade, Mark, Reprice, Settle, Margins, Close}
use Rattle.rows.specs.declared.column.Column.{Column}
use Rattle.rows.specs.declared.column.Column.TheVariants.{Call as CallColumn, Buyer, Seller, Class, Lots, Price}
use Rattle.rows.specs.declared.fault.SheetFault.{SheetFault}
use Rattle.rows.specs.declared.fault.SheetFault.TheVariants.{ValueCount, UnknownCall, FieldsFilled, NotANumber, UnknownClass}
use Rattle.rows.specs.declared.request.Request.{Request}
use Rattle.rows.specs.declared.request.Request.TheVariants.{Book, Margins as margins}

-- an answer, and what goes on with it; the first fault ends all
infixl 10 ◌>>=◌
abbrev pub ◌>>=◌ : {A B : Type 0} → Result A SheetFault → (A → Result B SheetFault) → Result B SheetFault
Ok answer >>= next = next answer
Err fault >>= next = Err fault

-- a question that is answered yes or no
abbrev pub ask : Bool → SheetFault → Result (Unit {0}) SheetFault
ask true fault = Ok tt
ask false fault = Err fault

-- a number without a minus
abbrev pub number_in : List ℕ → Result ℕ SheetFault
number_in field = ok_or (digits_value field) NotANumber

-- a price, which may have a minus
abbrev pub price_in : List ℕ → Result ℤ SheetFault
price_in field = ok_or (signed_value field) NotANumber

-- a class of the product
abbrev pub class_in : Product → List ℕ → Result ℕ SheetFault
class_in product field = ok_or (class_of product field) UnknownClass

-- the call of a line
abbrev pub call_in : List ℕ → Result CallName SheetFault
call_in field = ok_or (call_named field) UnknownCall

-- the lines of the payment list that the sheet lends
abbrev pub room : ℕ
room = 32

-- what a call of a name asks: first for all its numbers, then for its class
abbrev pub asked : Product → CallName → (Column → List ℕ) → Result Request SheetFault
asked product Trade field = do
  buyer ← number_in (field Buyer)
  seller ← number_in (field Seller)
  lots ← number_in (field Lots)
  price ← price_in (field Price)
  class ← class_in product (field Class)
  Ok (Book (trade buyer seller class (pos lots) price))
asked product Mark field = do
  price ← price_in (field Price)
  class ← class_in product (field Class)
  Ok (Book (mark class price))
asked product Reprice field = do
  price ← price_in (field Price)
  class ← class_in product (field Class)
  Ok (Book (reprice class price))
asked product Settle field = do
  price ← price_in (field Price)
  Ok (Book (settle price room))
asked product Margins field = do
  account ← number_in (field Buyer)
  Ok (margins account)
asked product Close field = Ok (Book (close room))

-- what a line of values asks, where the columns stand in these places
unfoldable pub request : Product → List ℕ → List ℕ → Result Request SheetFault
request product places line = do
  let field = field_in places (fields line)
  _ ← ask (length (fields line) == 6) ValueCount
  call ← call_in (field CallColumn)
  _ ← ask (just_filled (needed call) field) FieldsFilled
  asked product call field

-- what a line of values asks under a names line
abbrev pub request_under : Product → List ℕ → List ℕ → Result Request SheetFault
request_under product names line = do
  places ← names_of names
  request product places line
