use Rattle.std.proofs.Common.{◌≡◌, refl, sym, subst, arith}
use Rattle.netlist_schema.specs.Ident.{IsIdentifier}
use Rattle.gen_spec.specs.Generated.{numbered as numbered_of}
use Rattle.design_gen.proofs.Numbers.{numbered_is_identifier}
use Rattle.design_gen.proofs.parts.numbered.Goals as goal

pub word-requires : goal.word-requires
word-requires c =
    let same : c.as_slice.result.now ≡ numbered_of c.args.letter c.args.number =
    rw (c.as_slice.ensures.value, c.in_ok-extend_from_slice.ensures.items, c.in_ok-push.ensures.items, c.new-bytes.ensures.items, c.as_bytes.ensures.value, c.format.ensures.text) refl in
    subst IsIdentifier (sym same) (numbered_is_identifier c.args.letter c.args.number c.requires (omega (arith, c.ranges.number.fits)))
