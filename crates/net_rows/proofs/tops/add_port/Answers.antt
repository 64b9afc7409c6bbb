use Rattle.std.proofs.Common.{◌≡◌, ◌++◌, ◌∷◌, [], map, refl, ap, ◌∙◌}
use Rattle.std.proofs.lemmas.List.{map_push}
use Rattle.flat_spec.proofs.RunLemmas.{number_more}
use Rattle.net_rows.specs.Tops.{bit_at, bit_of}
use Rattle.net_rows.proofs.tops.add_port.Goals as goal

pub loop-bit-preserved : goal.loop-bit-preserved
loop-bit-preserved c =
    let old = c.loop-bit.bits.items in
    let pushed : map bit_of c.push.new.self.items ≡ map bit_of old ++ bit_at c.args.place c.loop-bit.bit ∷ [] =
    ap (map bit_of) c.in_ok-push.ensures.items ∙ map_push bit_of old (record { port = c.args.place; bit = c.loop-bit.bit }) in
    number_more (λ xs. map (bit_at c.args.place) xs) (bit_at c.args.place) (λ x xs. refl)
    c.loop-bit.bit c.args.count (map bit_of old) (map bit_of c.push.new.self.items) _ c.loop-bit-test.true pushed c.loop-bit.invariant
