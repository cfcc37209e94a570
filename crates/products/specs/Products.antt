-- What the classes of a product are called, and what its quantities are counted in. Assumes nothing.
use Rattle.std.specs.Prelude.{◌≢◌, ℕ, Bool, false, List, Some, Option, codes, bytes_eq, find}
use Rattle.std.specs.List.{range_with_len}
use Rattle.std.specs.Option.{option_map_or}
use Rattle.power.specs.Classes.{class_name as power_name}
use Rattle.wheat.specs.Wheat.{class_name as wheat_name}
use Rattle.products.specs.declared.product.Product.{Product}
use Rattle.products.specs.declared.product.Product.TheVariants.{Power, Wheat}

abbrev pub class_name : Product → ℕ → Option (List ℕ)
class_name Power = power_name
class_name Wheat = wheat_name

-- whether a class has just this name
unfoldable pub is_called : Product → List ℕ → ℕ → Bool
is_called product name class = option_map_or (λ known. bytes_eq known name) (class_name product class) false

-- the first class that has just this name
unfoldable pub class_of : Product → List ℕ → Option ℕ
class_of product name = find (is_called product name) (range_with_len 0 12)

-- no class has this name
abbrev pub NoneIsCalled : Product → List ℕ → Type 0
NoneIsCalled product name = (class : ℕ) → class_name product class ≢ Some name

abbrev pub unit : Product → List ℕ
unit Power = codes "MWh"
unit Wheat = codes "tons"
