use Rattle.std.proofs.Common.{◌≡◌, ◌≤◌, ◌+◌, List, length, None, sym, subst, ◌∙◌, arith}
use Rattle.std.specs.BTreeMap.{get}
use Rattle.std.specs.List.{All, filter_map}
use Rattle.flat_joined_numbers.specs.Joined.{AreLeastJoined, IsWithin}
use Rattle.flat_joined_numbers.specs.declared.joined.Pair.{Pair}
use Rattle.flat_joined_numbers.proofs.JoinedLemmas.{least_within}
use Rattle.ungroup_plans.specs.Bits.{bits_from}
use Rattle.ungroup_plans.specs.Links.{HasNets, bit_cmp, link}
use Rattle.ungroup_plans.proofs.HeadLemmas.{heads_are, links_fit, no_inst, pairs_within}
use Rattle.ungroup_plans.proofs.heads.list_heads.Goals as goal

pub list_links-requires : goal.list_links-requires
list_links-requires c =
    let outer : c.len-outer_count.result ≤ 1048576 = omega (arith, c.len-outer_count.ensures, c.requires.around.few_nets) in
    links_fit None c.args.within.now.nets c.as_slice-2.result.now c.len-outer_count.result (c.as_slice-2.ensures.value ∙ c.in_ok-inner.ensures) c.requires.within outer

pub least_joined-requires : goal.least_joined-requires
least_joined-requires c =
    let around = c.args.around.now in
    let within = c.args.within.now in
    let nets = get bit_cmp c.in_ok-outer.outer in
    let bits = c.as_slice.ensures.value ∙ c.in_ok-outer_bits.ensures in
    let inner = c.as_slice-2.ensures.value ∙ c.in_ok-inner.ensures in
    let links : c.in_ok-links.links.items ≡ filter_map (link nets (length around.nets)) (bits_from None 0 within.nets) = c.in_ok-links.ensures ∙ (λ i. filter_map (link nets (c.len-outer_count.ensures i)) (inner i)) in
    let has = subst (λ v. HasNets v nets) bits c.in_ok-outer.ensures in
    let count : length around.nets + length within.nets ≡ c.len-outer_count.result + c.len-inner_count.result = λ i. (sym c.len-outer_count.ensures) i + (sym c.len-inner_count.ensures) i in
    subst (λ (v : List Pair). All (IsWithin (c.len-outer_count.result + c.len-inner_count.result)) v) (sym c.as_slice-3.ensures.value)
    (subst (λ n. All (IsWithin n) c.in_ok-links.links.items) count
    (pairs_within around c.args.place within nets c.in_ok-links.links.items c.requires.around has links no_inst))

pub returns-clause-heads : goal.returns-clause-heads
returns-clause-heads c = λ inst.
    let around = c.args.around.now in
    let within = c.args.within.now in
    let nets = get bit_cmp c.in_ok-outer.outer in
    let bits = c.as_slice.ensures.value ∙ c.in_ok-outer_bits.ensures in
    let inner = c.as_slice-2.ensures.value ∙ c.in_ok-inner.ensures in
    let links : c.in_ok-links.links.items ≡ filter_map (link nets (length around.nets)) (bits_from None 0 within.nets) = c.in_ok-links.ensures ∙ (λ i. filter_map (link nets (c.len-outer_count.ensures i)) (inner i)) in
    let has = subst (λ v. HasNets v nets) bits c.in_ok-outer.ensures in
    let least : AreLeastJoined (length around.nets + length within.nets) c.in_ok-links.links.items c.in_ok-heads.heads.items =
    subst (λ n. AreLeastJoined n c.in_ok-links.links.items c.in_ok-heads.heads.items) (λ i. c.len-outer_count.ensures i + c.len-inner_count.ensures i)
    (subst (λ (v : List Pair). AreLeastJoined (c.len-outer_count.result + c.len-inner_count.result) v c.in_ok-heads.heads.items) c.as_slice-3.ensures.value c.in_ok-heads.ensures) in
    heads_are around c.args.place within nets c.in_ok-links.links.items c.requires.around has links inst c.in_ok-heads.heads.items least

pub returns-clause-low : goal.returns-clause-low
returns-clause-low c = least_within (c.len-outer_count.result + c.len-inner_count.result) c.as_slice-3.result.now c.in_ok-heads.heads.items c.in_ok-heads.ensures
