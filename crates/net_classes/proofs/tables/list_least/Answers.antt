use Rattle.std.proofs.Common.{◌≡◌, ℕ, Option, None, length, get_or, [], ◌∷◌, ◌++◌, ap, refl, sym, subst, ◌∙◌, arith}
use Rattle.std.proofs.lemmas.List.{length-append}
use Rattle.net_classes.specs.LeastBits.{IsLeastAnswer, first_of_bit}
use Rattle.net_classes.proofs.LeastBitLemmas.{answers_more, first_of_read}
use Rattle.net_classes.proofs.tables.list_least.Goals as goal

pub loop-number-preserved : goal.loop-number-preserved
loop-number-preserved c =
    let first_at : ℕ → Option ℕ = first_of_bit c.args.own.now c.args.firsts.now in
    let inv = c.loop-number.invariant in
    let number = c.loop-number.number in
    let read : first_at number ≡ c.first_of-first.result =
    first_of_read c.args.own.now c.args.firsts.now number (get_or c.args.own.now number None) c.loop-number-test.true refl ∙ sym c.first_of-first.ensures in
    let pushed : c.push.new.self.items ≡ c.loop-number.least.items ++ c.least_bit-bit.result ∷ [] = c.in_ok-push.ensures.items in
    record {
      wide = c.least_bit-bit.ensures.long ∙ inv.wide;
      seen = c.least_bit-bit.ensures.seen first_at read inv.seen;
      long = omega (arith, ap length pushed, length-append c.loop-number.least.items (c.least_bit-bit.result ∷ []), inv.long);
      least = answers_more first_at number c.loop-number.least.items c.push.new.self.items c.least_bit-bit.result inv.long pushed
          (subst (λ v. IsLeastAnswer first_at v c.least_bit-bit.result) (sym read) (c.least_bit-bit.ensures.answer first_at read inv.seen)) inv.least;
    }
