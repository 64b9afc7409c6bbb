-- Where workers stand.
use Rattle.std.proofs.Common.{◌≡◌, ◌<◌, ◌≤◌, ◌+◌, ◌-◌, ◌*◌, ◌^◌, ◌⊎◌, inl, inr, ℕ, List, [], ◌∷◌, ◌++◌, length, length-append, get_or, drop, sym, ap, subst, ◌∙◌, arith}
use Rattle.std.proofs.lemmas.List.{get_or_append_left}
use Rattle.std.proofs.Math.Nat.{eq-or-lt_of_le, mul-le-mul_right}
use Rattle.std.proofs.Math.Seq.{get_or-append_seam}
use Rattle.std.specs.Option.{ForSome}
use Rattle.netlist_schema.specs.Design.{Design}
use Rattle.par_parts.proofs.ListLemmas.{drop_drop}
use Rattle.par_flat.specs.Desks.{AreDesks, IsDesk, IsSeat}
use Rattle.par_flat.specs.declared.desks.Desk.{Desk}

-- so many items further on
pub further_on : {A : Type 0} (items old new : List A) (before first : ℕ) → before ≤ first → old ≡ drop before items → new ≡ drop (first - before) old → new ≡ drop first items
further_on items old new before first low was is =
    let e : before + (first - before) ≡ first = omega arith in
    is ∙ ap (drop (first - before)) was ∙ drop_drop before (first - before) items ∙ ap (λ k. drop k items) e

-- behind so many items more
pub behind_more : {A : Type 0} (items old new : List A) (first count : ℕ) → old ≡ drop first items → new ≡ drop count old → new ≡ drop (first + count) items
behind_more items old new first count was is = is ∙ ap (drop count) was ∙ drop_drop first count items

-- the items of a worker end within those of all
pub within_all : (first workers items worker : ℕ) → worker < workers → first + workers * items < 2 ^ 64 → first + worker * items + items < 2 ^ 64
within_all first workers items worker one few =
    let low = mul-le-mul_right {m = worker + 1} {n = workers} items (omega (arith, one)) in
    let e = next worker items in
    omega (arith, low, e, few)
  where
    next : (n k : ℕ) → (n + 1) * k ≡ n * k + k
    next n k = grind arith

-- one desk more
pub one_desk_more : (d : Design) (desks : List Desk) (desk : Desk) → AreDesks d desks → IsDesk d (length desks) desk → AreDesks d (desks ++ desk ∷ [])
one_desk_more d desks desk are last worker other within = either (eq-or-lt_of_le (let long = length-append desks (desk ∷ []) in omega (arith, within, long)))
  where
    either : (worker ≡ length desks) ⊎ (worker < length desks) → IsDesk d worker (get_or (desks ++ desk ∷ []) worker other)
    either (inr less) = subst (IsDesk d worker) (sym (get_or_append_left desks (desk ∷ []) other worker less)) (are worker other less)
    either (inl same) =
        let here : get_or (desks ++ desk ∷ []) worker other ≡ desk = ap (λ n. get_or (desks ++ desk ∷ []) n other) same ∙ get_or-append_seam desks desk [] other in
        subst (IsDesk d worker) (sym here) (subst (λ n. IsDesk d n desk) (sym same) last)

-- the same of a list, whose length is told
pub desks_more : (desks new : List Desk) (desk : Desk) (n : ℕ) → new ≡ desks ++ desk ∷ [] → length desks ≡ n → ((d : Design) → AreDesks d desks)
    → desk.worker ≡ n → ((d : Design) → ForSome desk.seat (IsSeat d)) → (length new ≡ n + 1) × ((d : Design) → AreDesks d new)
desks_more desks new desk n is long are number seat = (
  (let e = ap length is in let more = length-append desks (desk ∷ []) in omega (arith, e, more, long)),
  λ d. subst (AreDesks d) (sym is) (one_desk_more d desks desk (are d) record { worker_is = number ∙ sym long; seat = seat d }),
)
