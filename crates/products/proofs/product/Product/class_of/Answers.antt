use Rattle.std.proofs.Common.{refl, rules, tests}
use Rattle.std.proofs.lemmas.Iterator.{YieldsList-from_range}
use Rattle.std.proofs.lemmas.Iterator.Search.{find_from_yields_List}
use Rattle.products.specs.Products.{is_called}
use Rattle.products.proofs.Called.{search_result, class_of-called}
use Rattle.products.proofs.product.Product.class_of.Goals as goal

pub returns-clause-class : goal.returns-clause-class
returns-clause-class c =
    search_result c.args.self c.args.name.now c.find.result (find_from_yields_List (is_called c.args.self c.args.name.now) _ _ c.find.result c.find.ensures.ran (YieldsList-from_range 0 12 12 refl refl) (λ x b q k. search (rules, tests)))

pub returns-clause-called : goal.returns-clause-called
returns-clause-called c = rw (returns-clause-class c) (class_of-called c.args.self c.args.name.now)
