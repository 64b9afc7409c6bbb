use Rattle.std.proofs.Common.{◌≡◌, ◌++◌, ◌∷◌, [], List, ℕ, nat_eq, false, get_or, decimal, ◌∙◌, subst}
use Rattle.bus_members.proofs.Behind.{behind, no_front, one_byte}
use Rattle.bus_members.proofs.members.is_numbered.Goals as goal

pub returns-in_default-after : goal.returns-in_default-after
returns-in_default-after c =
    let digits = decimal c.args.k ++ c.args.closing ∷ [] in
    behind c.args.text.now c.args.stem.now c.in-Some.rest.now (c.args.opening ∷ digits) false c.in-Some.ensures
    (no_front c.in-Some.rest.now (c.args.opening ∷ []) digits c.in_default-after.ensures)

pub returns-in_default-after-2 : goal.returns-in_default-after-2
returns-in_default-after-2 c =
    let digits = decimal c.args.k ++ c.args.closing ∷ [] in
    let written : c.as_bytes-digits.result.now ≡ decimal c.args.k = c.as_bytes-digits.ensures.value ∙ c.format.ensures.text in
    let P : List ℕ → Type 0 = λ d. (rest : List ℕ) → c.in-Some-after.rest.now ≡ d ++ rest → ⊥ in
    behind c.args.text.now c.args.stem.now c.in-Some.rest.now (c.args.opening ∷ digits) false c.in-Some.ensures
    (behind c.in-Some.rest.now (c.args.opening ∷ []) c.in-Some-after.rest.now digits false c.in-Some-after.ensures
    (no_front c.in-Some-after.rest.now (decimal c.args.k) (c.args.closing ∷ []) (subst P written c.in_default-after-2.ensures)))

pub returns-in-len1 : goal.returns-in-len1
returns-in-len1 c =
    let digits = decimal c.args.k ++ c.args.closing ∷ [] in
    let written : c.as_bytes-digits.result.now ≡ decimal c.args.k = c.as_bytes-digits.ensures.value ∙ c.format.ensures.text in
    let P : List ℕ → Type 0 = λ d. c.in-Some-after.rest.now ≡ d ++ c.in-Some-after-2.rest.now in
    let same = nat_eq (get_or c.in-Some-after-2.rest.now 0 0) c.args.closing in
    behind c.args.text.now c.args.stem.now c.in-Some.rest.now (c.args.opening ∷ digits) same c.in-Some.ensures
    (behind c.in-Some.rest.now (c.args.opening ∷ []) c.in-Some-after.rest.now digits same c.in-Some-after.ensures
    (behind c.in-Some-after.rest.now (decimal c.args.k) c.in-Some-after-2.rest.now (c.args.closing ∷ []) same (subst P written c.in-Some-after-2.ensures)
    (one_byte c.in-Some-after-2.rest.now c.args.closing c.in-len1.len_at_least c.in-len1.len_below)))
