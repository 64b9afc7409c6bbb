-- The nets of own bits, by the numbers of the bits.
use Rattle.std.specs.Prelude.{◌≡◌, ◌<◌, ◌⊎◌, ℕ, List, Option, Some, None, [], length, slice_get, slice_index_or}
use Rattle.std.specs.Option.{option_map_or}
use Rattle.netlist_schema.specs.Types.{End, Net}
use Rattle.net_classes.specs.Facts.{number_of}

-- the number of an end that is one of the cell's own bits
abbrev pub end_number : List ℕ → End → Option ℕ
end_number starts e = option_map_or (λ inst. None) e.inst (number_of starts (record { port = e.port; bit = e.bit }))

abbrev pub no_end : End
no_end = record { inst = None; port = 0; bit = 0 }

-- one of the first so many ends has this number
abbrev pub HasNumber : List ℕ → List End → ℕ → ℕ → Type 0
HasNumber starts ends count number = (k : ℕ) × (k < count) × (end_number starts (slice_index_or ends k no_end) ≡ Some number)

-- each number has what it had, and no end has it, or it has this net, and an end has it
abbrev pub AreSet : List ℕ → List End → ℕ → ℕ → List (Option ℕ) → List (Option ℕ) → Type 0
AreSet starts ends count net old new = (number : ℕ) → number < length old
    → ((slice_index_or new number None ≡ slice_index_or old number None) × (HasNumber starts ends count number → ⊥))
    ⊎ ((slice_index_or new number None ≡ Some net) × HasNumber starts ends count number)

-- the ends of the net with that place
abbrev pub ends_in : List Net → ℕ → List End
ends_in nets n = option_map_or (λ net. net.ends) (slice_get nets n) []

-- one of the first so many nets has an own bit with this number
abbrev pub NetHasNumber : List ℕ → List Net → ℕ → ℕ → Type 0
NetHasNumber starts nets n number = HasNumber starts (ends_in nets n) (length (ends_in nets n)) number

-- of the first so many nets each number has one that joins the bit, or none where none does
abbrev pub AreOwn : List ℕ → List Net → ℕ → List (Option ℕ) → Type 0
AreOwn starts nets count own = (number : ℕ) → number < length own →
    ((slice_index_or own number None ≡ None) × ((n : ℕ) → n < count → NetHasNumber starts nets n number → ⊥))
    ⊎ ((n : ℕ) × (n < count) × (slice_index_or own number None ≡ Some n) × NetHasNumber starts nets n number)
