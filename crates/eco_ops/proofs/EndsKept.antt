-- Ends and nets that stay as they are where an instance is gone.
use Rattle.std.proofs.Common.{◌≡◌, ◌-◌, ◌<◌, ℕ, Bool, true, false, cond, [], ◌∷◌, Some, None, eqb-true, arith, sym, ap, ◌∙◌}
use Rattle.std.specs.Prelude.{◌==◌, nat_lt}
use Rattle.std.specs.List.{flat_map}
use Rattle.std.proofs.lemmas.Bool.{false_from_ne_true}
use Rattle.netlist_schema.specs.Types.{End, Net}
use Rattle.edit_spec.specs.DropInst.{end_moved, end_without_inst, net_without_inst}
use borrow.Author.Tests.{ltb-true}

-- an end at an instance before it
pub kept_before : (place i : ℕ) (end : End) → end.inst ≡ Some i → i < place → end_without_inst place end ≡ end ∷ []
kept_before place i end is low = ap (end_moved place end) is ∙ at (i == place) (nat_lt place i) (false_from_ne_true (i == place) (λ e. let same = eqb-true i place e in absurd (omega arith))) (false_from_ne_true (nat_lt place i) (λ e. let less = ltb-true place i e in absurd (omega arith)))
  where
    at : (b d : Bool) → b ≡ false → d ≡ false → cond b [] (record end { inst = Some (cond d (i - 1) i) } ∷ []) ≡ end ∷ []
    at true d off less = absurd (cc off)
    at false true off less = absurd (cc less)
    at false false off less = λ k. record end { inst = sym is k } ∷ []

-- an end at the cell itself
pub kept_own : (place : ℕ) (end : End) → end.inst ≡ None → end_without_inst place end ≡ end ∷ []
kept_own place end is = ap (end_moved place end) is

-- a net all of whose ends stay
pub net_kept : (place : ℕ) (net : Net) → flat_map (end_without_inst place) net.ends ≡ net.ends → net_without_inst place net ≡ net
net_kept place net same = λ i. record net { ends = same i }
