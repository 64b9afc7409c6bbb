use Rattle.std.proofs.Common.{◌≤◌, ◌<◌, ◌+◌, ◌^◌, ◌∙◌, ap, arith, map, subst, sym}
use Rattle.std.specs.Char.{to_ascii_lowercase}
use Rattle.netlist_schema.specs.Ident.{IsIdentifier}
use Rattle.ungroup_spec.specs.Names.{numbered}
use Rattle.ungroup_plans.specs.Taken.{IsMadeFree}
use Rattle.ungroup_plans.proofs.TakenLemmas.{made_first, made_later, numbered_identifier, taken_from, taken_later, used_alike, used_more}
use Rattle.ungroup_plans.proofs.taken.Taken.free.Goals as goal

pub returns-then-branch-clause-made : goal.returns-then-branch-clause-made
returns-then-branch-clause-made c =
    made_first c.args.self.now c.take_bytes.new.self c.args.name.items c.as_slice.result.now c.in_ok-take_bytes.field-0 c.as_slice.ensures.value c.in_ok-take_bytes.ensures.told c.if-branch.true

pub loop-number-init : goal.loop-number-init
loop-number-init c =
    let letters = c.in_ok-letters.ensures ∙ ap (map to_ascii_lowercase) c.as_slice-2.ensures.value in
    record {
      taken = taken_from c.args.self.now c.take_bytes.new.self c.args.name.items c.as_slice.result.now c.in_ok-letters.letters.items c.in_ok-take_bytes.field-0 c.next_number-first.result c.as_slice.ensures.value letters
          c.in_ok-take_bytes.ensures.told c.if-branch.false c.next_number-first.ensures;
      used = c.next_number-first.ensures.used c.args.name.items letters;
    }

pub returns-then-branch-2-clause-made : goal.returns-then-branch-2-clause-made
returns-then-branch-2-clause-made c =
    let low : 1 ≤ c.loop-number.number = omega (arith, c.next_number-first.ensures.from_one, c.loop-number.auto.number) in
    subst (λ v. IsMadeFree c.args.self.now c.args.name.items c.in_ok-candidate.candidate.items v) (sym c.keep.ensures)
    (made_later c.args.self.now c.loop-number.self c.take_bytes-in-loop-number.new.self c.args.name.items c.as_slice-in-loop-number-2.result.now c.in_ok-candidate.candidate.items c.loop-number.number c.in_ok-take_bytes-2.field-0
    c.as_slice-in-loop-number-2.ensures.value (c.in_ok-candidate.ensures ∙ ap (λ v. numbered v c.loop-number.number) c.as_slice-in-loop-number.ensures.value) low c.loop-number.invariant.taken c.in_ok-take_bytes-2.ensures.told c.if-branch-2.true)

pub keep-requires : goal.keep-requires
keep-requires c =
    let low : 1 ≤ c.loop-number.number + 1 = omega arith in
    let small : c.loop-number.number + 1 < 2 ^ 64 = omega arith in
    used_alike c.take_bytes-in-loop-number.new.self c.args.name.items c.in_ok-letters.letters.items (c.loop-number.number + 1) small low (c.in_ok-letters.ensures ∙ ap (map to_ascii_lowercase) c.as_slice-2.ensures.value)
    (used_more c.loop-number.self c.take_bytes-in-loop-number.new.self c.args.name.items c.as_slice-in-loop-number-2.result.now c.loop-number.number c.in_ok-take_bytes-2.field-0
    (c.as_slice-in-loop-number-2.ensures.value ∙ c.in_ok-candidate.ensures ∙ ap (λ v. numbered v c.loop-number.number) c.as_slice-in-loop-number.ensures.value) c.in_ok-take_bytes-2.ensures.added c.loop-number.invariant.used)

pub loop-number-preserved : goal.loop-number-preserved
loop-number-preserved c =
    let low : 1 ≤ c.loop-number.number = omega (arith, c.next_number-first.ensures.from_one, c.loop-number.auto.number) in
    let made = c.in_ok-candidate.ensures ∙ ap (λ v. numbered v c.loop-number.number) c.as_slice-in-loop-number.ensures.value in
    record {
      taken = taken_later c.args.self.now c.loop-number.self c.take_bytes-in-loop-number.new.self c.args.name.items c.as_slice-in-loop-number-2.result.now c.in_ok-candidate.candidate.items c.loop-number.number c.in_ok-take_bytes-2.field-0
          c.as_slice-in-loop-number-2.ensures.value made low c.loop-number.invariant.taken c.in_ok-take_bytes-2.ensures.told c.if-branch-2.false;
      used = used_more c.loop-number.self c.take_bytes-in-loop-number.new.self c.args.name.items c.as_slice-in-loop-number-2.result.now c.loop-number.number c.in_ok-take_bytes-2.field-0
          (c.as_slice-in-loop-number-2.ensures.value ∙ made) c.in_ok-take_bytes-2.ensures.added c.loop-number.invariant.used;
    }

pub returns-then-branch-2-clause-identifier : goal.returns-then-branch-2-clause-identifier
returns-then-branch-2-clause-identifier c = λ is.
    let small : c.loop-number.number < 2 ^ 64 = omega arith in
    subst IsIdentifier (sym (c.in_ok-candidate.ensures ∙ ap (λ v. numbered v c.loop-number.number) c.as_slice-in-loop-number.ensures.value))
    (numbered_identifier c.args.name.items c.loop-number.number small is)
