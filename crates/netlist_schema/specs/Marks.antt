-- What instances and nets are looked for by.
use Rattle.std.specs.Prelude.{ℕ, List, [], ◌∷◌, ◌+◌, ◌*◌, ◌%◌, ◌^◌, length, map, max, min}
use Rattle.std.specs.Int.Bits.{bit_or}
use Rattle.std.specs.Char.{to_ascii_lowercase}
use Rattle.std.specs.Option.{option_map_or}
use Rattle.netlist_schema.specs.Types.{End, Inst, Net}
use Rattle.netlist_schema.specs.declared.listed.Mark.{Mark}

-- a number of 64 bits for a list of bytes, from a number on
abbrev pub hash_from : ℕ → List ℕ → ℕ
hash_from h [] = h
hash_from h (b ∷ bs) = hash_from ((h * 1099511628211 % 2 ^ 64 + b) % 2 ^ 64) bs

-- the number for a name, the same for names that are the same ignoring case
unfoldable pub hash_of : List ℕ → ℕ
hash_of name = hash_from 0 (map to_ascii_lowercase name)

-- the greatest of this number and those of the instances with one of the ends
abbrev pub last_inst : ℕ → List End → ℕ
last_inst number [] = number
last_inst number (end ∷ ends) = last_inst (option_map_or (max number) end.inst number) ends

-- which bit stands for an end: that of its instance's number, by the rest by 32, or the last one
abbrev pub end_place : End → ℕ
end_place end = option_map_or (λ inst. inst % 32) end.inst 31

-- these bits, and those of the ends
abbrev pub end_bits : ℕ → List End → ℕ
end_bits bits [] = bits
end_bits bits (end ∷ ends) = end_bits (bit_or bits (2 ^ end_place end)) ends

-- what an instance is looked for by: its name
abbrev pub inst_mark : Inst → Mark
inst_mark inst = record { name = hash_of inst.name.id % 2 ^ 32; ends = 0; last = 0; bits = 0 }

-- what a net is looked for by: its name, and its ends
abbrev pub net_mark : Net → Mark
net_mark net = record { name = hash_of net.name.id % 2 ^ 32; ends = min (length net.ends) 4294967295; last = last_inst 0 net.ends; bits = end_bits 0 net.ends }
