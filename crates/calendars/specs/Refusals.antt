-- The questions that a list of closed days is asked, in order. Assumes nothing.
use Rattle.std.specs.Prelude.{ℕ, ◌<◌, ◌≤◌, List, length, codes}
use Rattle.calendars.specs.Calendars.{Four, listed, Ordered}
use Rattle.calendars.specs.declared.fault.ListFault.{ListFault}
use Rattle.calendars.specs.declared.fault.ListFault.TheVariants.{TooMany, Unordered, LawBroken}

abbrev pub list_number : ListFault → ℕ
list_number TooMany = 4
list_number Unordered = 5
list_number LawBroken = 6

abbrev pub list_reason : ListFault → List ℕ
list_reason TooMany = codes "the list has more than 2,000 days"
list_reason Unordered = codes "the days do not rise strictly, or one lies outside 2000 to 2099"
list_reason LawBroken = codes "some month keeps fewer than four open days after its ninth"

-- every question is answered yes
abbrev pub Accepted : List ℕ → Type 0
Accepted xs = (length xs ≤ 2000) × Ordered xs × Four (listed xs)

-- each fault is that of the first question that is answered no
abbrev pub Refused : List ℕ → ListFault → Type 0
Refused xs TooMany = 2000 < length xs
Refused xs Unordered = (length xs ≤ 2000) × (Ordered xs → ⊥)
Refused xs LawBroken = (length xs ≤ 2000) × Ordered xs × (Four (listed xs) → ⊥)
