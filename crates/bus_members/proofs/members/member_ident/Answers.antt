use Rattle.std.proofs.Common.{◌<◌, ◌^◌, sym, ap, subst, ◌∙◌, arith}
use Rattle.std.specs.Prelude.{is_some}
use Rattle.netlist_schema.specs.Ident.{IsIdentifier}
use Rattle.netlist_bus_spec.specs.Members.{member_id}
use Rattle.netlist_bus_spec.proofs.MemberNames.{member_identifier}
use Rattle.bus_members.proofs.members.member_ident.Goals as goal

pub unreachable-requires : goal.unreachable-requires
unreachable-requires c =
    let small : c.args.k < 2 ^ 64 = omega (arith, c.ranges.k.fits) in
    c.in_ok-made.ensures.none (ap is_some c.in-None.is)
    (subst IsIdentifier (sym (c.as_slice-2.ensures.value ∙ c.in_ok-bytes.ensures ∙ ap (λ t. member_id t c.args.k) c.as_slice.ensures.value))
    (member_identifier c.args.id.now c.args.k small c.as_slice.ensures.identifier))
