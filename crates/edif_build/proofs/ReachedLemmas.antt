-- The names of the cells that notes reach, with those of one cell more.
use Rattle.std.proofs.Common.{◌≡◌, ℕ, Bool, true, false, cond, List, Option, Some, refl, sym, subst}
use Rattle.std.specs.Prelude.{IfSome}
use Rattle.std.specs.Ordering.{is_eq, nat_cmp}
use Rattle.std.specs.FinMap.{nat_cmp-IsAntisymmetric}
use Rattle.netlist_schema.specs.Order.{cell_cmp}
use Rattle.netlist_schema.proofs.Objects.{both_are_Equal}
use Rattle.edif_spec.specs.Design as design
use Rattle.edif_parts.specs.Names.{ids}
use Rattle.edif_build.specs.Reached.{AreNamesAt}

-- cells that the order takes for one
one_cell : (a b : design.CellId) → is_eq (cell_cmp a b) ≡ true → a ≡ b
one_cell a b e =
    let both = both_are_Equal (nat_cmp a.lib.0 b.lib.0) (nat_cmp a.slot b.slot) e in
    λ i. record { lib = record { 0 = nat_cmp-IsAntisymmetric a.lib.0 b.lib.0 both.0 i }; slot = nat_cmp-IsAntisymmetric a.slot b.slot both.1 i }

pub names_more : (libs : List design.Lib) (id : design.CellId) (old new : design.CellId → Option (List (List ℕ × ℕ))) (ns : List (List ℕ × ℕ)) → ((q : design.CellId) → new q ≡ cond (is_eq (cell_cmp id q)) (Some ns) (old q))
    → ids ns ≡ design.inst_ids (design.insts_at libs id) → AreNamesAt libs old → AreNamesAt libs new
names_more libs id old new ns added here before q = subst P (sym (added q)) (go (is_eq (cell_cmp id q)) refl)
  where
    P : Option (List (List ℕ × ℕ)) → Type 0
    P o = IfSome o (λ (v : List (List ℕ × ℕ)). ids v ≡ design.inst_ids (design.insts_at libs q))

    go : (b : Bool) → is_eq (cell_cmp id q) ≡ b → P (cond b (Some ns) (old q))
    go true same = subst (λ c. ids ns ≡ design.inst_ids (design.insts_at libs c)) (one_cell id q same) here
    go false other = before q
