-- Places of instances by their names, one cell after another.
use Rattle.std.proofs.Common.{◌≡◌, ℕ, Bool, true, false, cond, List, Option, Some, refl, sym, ap, subst, ◌∙◌, slice_get, option_map}
use Rattle.std.specs.Prelude.{IfSome, option_and_then}
use Rattle.std.specs.Ordering.{is_eq, nat_cmp}
use Rattle.std.specs.FinMap.{nat_cmp-IsAntisymmetric}
use Rattle.netlist_schema.specs.Design.{Design, cell_at, insts_in}
use Rattle.netlist_schema.specs.Hierarchy.{insts_at}
use Rattle.netlist_schema.specs.Order.{cell_cmp}
use Rattle.netlist_schema.specs.Types.{CellId, Contents, Inst}
use Rattle.netlist_schema.proofs.Objects.{both_are_Equal}
use Rattle.edit_rules_spec.specs.Find.{inst_named, inst_place}
use Rattle.edit_rules_spec.specs.Seen.{contents_at}
use Rattle.eco_reads.specs.Named.{AreNamed}
use Rattle.eco_reads.specs.declared.named.NamedInsts.{NamedInsts}
use Rattle.uniquify_spec.proofs.Agreed.{insts_inside}

same_cell : (a b : CellId) → is_eq (cell_cmp a b) ≡ true → a ≡ b
same_cell a b e =
    let both = both_are_Equal (nat_cmp a.lib.0 b.lib.0) (nat_cmp a.slot b.slot) e in
    λ i. record { lib = record { 0 = nat_cmp-IsAntisymmetric a.lib.0 b.lib.0 both.0 i }; slot = nat_cmp-IsAntisymmetric a.slot b.slot both.1 i }

-- what is kept of each cell fits it, where what is added for one cell fits that
pub one_cell_more : {T : Type 0} (Fits : CellId → T → Type 0) (cell : CellId) (old new : CellId → Option T) (x : T)
    → ((q : CellId) → new q ≡ cond (is_eq (cell_cmp cell q)) (Some x) (old q)) → Fits cell x → ((q : CellId) → IfSome (old q) (Fits q)) → (q : CellId) → IfSome (new q) (Fits q)
one_cell_more {T} Fits cell old new x added here before q = subst (λ o. IfSome o (Fits q)) (sym (added q)) (go (is_eq (cell_cmp cell q)) refl)
  where
    go : (b : Bool) → is_eq (cell_cmp cell q) ≡ b → IfSome (cond b (Some x) (old q)) (Fits q)
    go true same = subst (λ c. Fits c x) (same_cell cell q same) here
    go false other = before q

-- the cell at the place of a name
pub cell_of_place : (insts : List Inst) (name : List ℕ) (place : Option ℕ) (of : Option CellId) → place ≡ inst_place name insts → of ≡ option_map (λ inst. inst.of) (option_and_then (slice_get insts) place) → of ≡ option_map (λ inst. inst.of) (inst_named name insts)
cell_of_place insts name place of at is = is ∙ ap (λ (p : Option ℕ). option_map (λ (inst : Inst). inst.of) (option_and_then (slice_get insts) p)) at

-- the instances of what is lent
pub insts_lent : (d : Design) (cell : CellId) (lent : Option Contents) (inside : Contents) → lent ≡ Some inside → lent ≡ contents_at d cell → inside.insts ≡ insts_at d cell
insts_lent d cell lent inside some is = ap insts_in (sym some ∙ is) ∙ insts_inside (cell_at d cell)

-- what is kept fits the same design
pub still_named : (d e : Design) (named : NamedInsts) → d ≡ e → AreNamed d named → AreNamed e named
still_named d e named same is = subst (λ (x : Design). AreNamed x named) same is

pub named_still : (d e : Design) (named : NamedInsts) → e ≡ d → AreNamed d named → AreNamed e named
named_still d e named same is = subst (λ (x : Design). AreNamed x named) (sym same) is
