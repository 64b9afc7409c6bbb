-- Names and bits as numbers.
use Rattle.std.specs.Prelude.{ℕ, ◌+◌, ◌*◌, ◌%◌, ◌^◌, List, [], ◌∷◌, Option, None, Some}
use Rattle.edif_spec.specs.Design as design

-- the number of an instance, from 1, and 0 for the cell itself
abbrev pub inst_key : Option ℕ → ℕ
inst_key None = 0
inst_key (Some inst) = inst + 1

-- the number of a bit, from those of its instance and its port
abbrev pub end_key : design.End → ℕ
end_key e = ((inst_key e.inst * 65536 + e.port) * 65536 % 2 ^ 64 + e.bit) % 2 ^ 64

-- the number of a name that goes on with these bytes, where its bytes so far have this number
abbrev pub name_key : ℕ → List ℕ → ℕ
name_key key [] = key
name_key key (b ∷ bs) = name_key ((key * 1099511628211 % 2 ^ 64 + b) % 2 ^ 64) bs
