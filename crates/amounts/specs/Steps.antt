-- The ten steps of a margin and their factors. Assumes nothing.
use Rattle.std.specs.Prelude.{List, [], ◌∷◌, ℤ, pos, negsuc}
use Rattle.amounts.specs.declared.step.Step.{Step}
use Rattle.amounts.specs.declared.step.Step.TheVariants.{D5, D4, D3, D2, D1, U1, U2, U3, U4, U5}

abbrev pub all_steps : List Step
all_steps = D5 ∷ D4 ∷ D3 ∷ D2 ∷ D1 ∷ U1 ∷ U2 ∷ U3 ∷ U4 ∷ U5 ∷ []

abbrev pub factor_of : Step → ℤ
factor_of D5 = negsuc 4
factor_of D4 = negsuc 3
factor_of D3 = negsuc 2
factor_of D2 = negsuc 1
factor_of D1 = negsuc 0
factor_of U1 = pos 1
factor_of U2 = pos 2
factor_of U3 = pos 3
factor_of U4 = pos 4
factor_of U5 = pos 5

-- the factors in the same order: -5 to -1, then 1 to 5
abbrev pub steps : List ℤ
steps = negsuc 4 ∷ negsuc 3 ∷ negsuc 2 ∷ negsuc 1 ∷ negsuc 0 ∷ pos 1 ∷ pos 2 ∷ pos 3 ∷ pos 4 ∷ pos 5 ∷ []
