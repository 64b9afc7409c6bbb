use Rattle.std.proofs.Common.{◌<◌, ◌^◌, sym, ap, subst, ◌∙◌, arith}
use Rattle.std.specs.Prelude.{is_some}
use Rattle.netlist_schema.specs.Ident.{IsIdentifier}
use Rattle.uniquify_spec.specs.Copies.{numbered}
use Rattle.uniquify_spec.proofs.ValidNames.{numbered_is_identifier}
use Rattle.uniquify_copies.proofs.numbers.numbered_ident.Goals as goal

pub unreachable-requires : goal.unreachable-requires
unreachable-requires c =
    let small : c.args.n < 2 ^ 64 = omega (arith, c.ranges.n.fits) in
    c.in_ok-made.ensures.none (ap is_some c.in-None.is)
    (subst IsIdentifier (sym (c.as_slice-2.ensures.value ∙ c.in_ok-bytes.ensures ∙ ap (λ t. numbered t c.args.n) c.as_slice.ensures.value))
    (numbered_is_identifier c.args.id.now c.args.n small c.as_slice.ensures.identifier))
