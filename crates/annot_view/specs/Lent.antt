-- Values that are lent: what references point to.
use Rattle.std.specs.Prelude.{ℕ, List, map}
use Rattle.std.specs.Borrow.{Bor}
use Rattle.netlist_schema.specs.Types.{Inst}

-- what each reference points to
abbrev pub lent : {A : Type 0} → List (Bor A) → List A
lent references = map (λ reference. reference.now) references

-- the identifiers of lent instances
abbrev pub lent_names : List (Bor Inst) → List (List ℕ)
lent_names insts = map (λ inst. inst.now.name.id) insts
