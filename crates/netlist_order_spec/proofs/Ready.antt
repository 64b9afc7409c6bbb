-- The order of a library whose cells place none in a circle has each cell once, and children before the cells that place them.
use Rattle.std.proofs.Common.{◌≡◌, ℕ, zero, suc, ◌+◌, ◌<◌, ◌≤◌, List, [], ◌∷◌, ◌++◌, length, refl, ap, sym, ◌∙◌, ◌⊎◌, inl, inr, Bool, true, false, not, Option, Some, None, arith, append-nil, append_assoc, slice_get}
use Rattle.std.specs.Prelude.{IsSome, cond, ◌&&◌, ◌||◌, option_map, unwrap_or, nat_eq}
use Rattle.std.specs.List.{list_all, list_any}
use Rattle.std.proofs.lemmas.Bool.{and_from, and_parts, or_parts, not-true, not-false, cases_Bool}
use Rattle.std.proofs.lemmas.Bool.Decides.{nat_tests}
use Rattle.std.proofs.lemmas.Option.{slice_get_within}
use Rattle.netlist_schema.proofs.Lists.{get_there}
use Rattle.netlist_order_spec.specs.Order.{is_written, is_ready, first_ready, order_from, order_of}
use Rattle.netlist_order_spec.specs.After.{AllAfter}
use Rattle.netlist_schema.specs.Design.{insts_of}
use Rattle.netlist_schema.specs.Types.{CellBody, Inst}
use Rattle.netlist_order_spec.proofs.Places.{any_append}

-- a rank falls from each cell to those that it places in its library
pub record IsRank (own : ℕ) (cells : List CellBody) (rank : ℕ → ℕ) : Type 0 where
  pub falls : (s : ℕ) (c : CellBody) (j : ℕ) (i : Inst) → slice_get cells s ≡ Some c → slice_get (insts_of c) j ≡ Some i → i.of.lib.0 ≡ own → (i.of.slot < length cells) × (rank i.of.slot < rank s)

-- each cell comes when it is ready: not written yet, and its children all are
abbrev pub StepReady : ℕ → List CellBody → List ℕ → ℕ → Type 0
StepReady own cells written k = (c : CellBody) × (slice_get cells k ≡ Some c) × (is_ready own written k c ≡ true)

not_all : {A : Type 0} (p : A → Bool) (xs : List A) → list_all p xs ≡ false → (j : ℕ) × ((x : A) × (slice_get xs j ≡ Some x) × (p x ≡ false))
not_all p [] h = absurd (cc h)
not_all {A} p (x ∷ xs) h = go (p x) refl h (not_all p xs)
  where
    go : (b : Bool) → p x ≡ b → (b && list_all p xs) ≡ false → (list_all p xs ≡ false → (j : ℕ) × ((y : A) × (slice_get xs j ≡ Some y) × (p y ≡ false))) → (j : ℕ) × ((y : A) × (slice_get (x ∷ xs) j ≡ Some y) × (p y ≡ false))
    go false e h more = (0, (x, refl, e))
    go true e h more = let r = more h in (suc r.0, (r.1.0, r.1.1, r.1.2))

abbrev Ready : ℕ → List CellBody → List ℕ → Type 0
Ready own cells written = (k : ℕ) × ((c : CellBody) × (slice_get cells k ≡ Some c) × (is_ready own written k c ≡ true))

-- from a cell that is not written, down to one that is ready
ready_below : (own : ℕ) (cells : List CellBody) (written : List ℕ) (rank : ℕ → ℕ) → IsRank own cells rank → (fuel s : ℕ) → rank s < fuel → s < length cells → list_any (nat_eq s) written ≡ false → Ready own cells written
ready_below own cells written rank r zero s f l n = absurd (omega arith)
ready_below own cells written rank r (suc fuel) s f l n = go (list_all (is_written own written) (insts_of c.0)) refl (λ t a b d. ready_below own cells written rank r fuel t a b d)
  where
    c : (x : CellBody) × (slice_get cells s ≡ Some x)
    c = get_there cells s l

    go : (b : Bool) → list_all (is_written own written) (insts_of c.0) ≡ b → ((t : ℕ) → rank t < fuel → t < length cells → list_any (nat_eq t) written ≡ false → Ready own cells written) → Ready own cells written
    go true e more = (s, (c.0, c.1, and_from (not (list_any (nat_eq s) written)) (list_all (is_written own written) (insts_of c.0)) (ap not n) e))
    go false e more =
        let j = not_all (is_written own written) (insts_of c.0) e in
        let d = or_parts (not (nat_eq j.1.0.of.lib.0 own)) (list_any (nat_eq j.1.0.of.slot) written) j.1.2 in
        let same : nat_eq j.1.0.of.lib.0 own ≡ true = not-false (nat_eq j.1.0.of.lib.0 own) d.0 in
        let q : j.1.0.of.lib.0 ≡ own = grind (arith, nat_tests) in
        let w = r.falls s c.0 j.0 j.1.0 c.1 j.1.1 q in
        more j.1.0.of.slot (omega (arith, w.1)) w.0 d.1

-- the search finds a cell that is ready, where there is one
finds : (own : ℕ) (written : List ℕ) (j t : ℕ) (cs : List CellBody) (c : CellBody) → slice_get cs t ≡ Some c → is_ready own written (j + t) c ≡ true → IsSome (first_ready own written j cs)
finds own written j t [] c e h = absurd (cc e)
finds own written j zero (x ∷ cs) c e h =
    let w : x ≡ c = cc e in
    let z : j + 0 ≡ j = omega arith in
    let y : is_ready own written j x ≡ true = ap (is_ready own written j) w ∙ (ap (λ k. is_ready own written k c) (sym z) ∙ h) in
    rw y refl
finds own written j (suc t) (x ∷ cs) c e h = go (is_ready own written j x) (finds own written (suc j) t cs c e ((let z : suc j + t ≡ j + suc t = omega arith in ap (λ k. is_ready own written k c) z) ∙ h))
  where
    go : (b : Bool) → IsSome (first_ready own written (suc j) cs) → IsSome (cond b (Some j) (first_ready own written (suc j) cs))
    go true k = refl
    go false k = k

-- and what it finds is ready
found_ready : (own : ℕ) (written : List ℕ) (j m : ℕ) (cs : List CellBody) → first_ready own written j cs ≡ Some m → (t : ℕ) × ((c : CellBody) × (m ≡ j + t) × (slice_get cs t ≡ Some c) × (is_ready own written m c ≡ true))
found_ready own written j m [] e = absurd (cc e)
found_ready own written j m (x ∷ cs) e = go (is_ready own written j x) refl e (found_ready own written (suc j) m cs)
  where
    go : (b : Bool) → is_ready own written j x ≡ b → cond b (Some j) (first_ready own written (suc j) cs) ≡ Some m → (first_ready own written (suc j) cs ≡ Some m → (t : ℕ) × ((c : CellBody) × (m ≡ suc j + t) × (slice_get cs t ≡ Some c) × (is_ready own written m c ≡ true))) →
        (t : ℕ) × ((c : CellBody) × (m ≡ j + t) × (slice_get (x ∷ cs) t ≡ Some c) × (is_ready own written m c ≡ true))
    go true f e more = let w : j ≡ m = cc e in (0, (x, omega (arith, w), refl, ap (λ k. is_ready own written k x) (sym w) ∙ f))
    go false f e more = let r = more e in (suc r.0, (r.1.0, omega (arith, r.1.1), r.1.2, r.1.3))

-- how many of the first n slots are not written
abbrev left : List ℕ → ℕ → ℕ
left written zero = 0
left written (suc n) = left written n + cond (list_any (nat_eq n) written) 0 1

any_last : (s k : ℕ) (written : List ℕ) → list_any (nat_eq s) (written ++ k ∷ []) ≡ (list_any (nat_eq s) written || (nat_eq s k || false))
any_last s k written = any_append (nat_eq s) written (k ∷ [])

or_false : (b : Bool) → (b || (false || false)) ≡ b
or_false true = refl
or_false false = refl

or_true : (b : Bool) → (b || (true || false)) ≡ true
or_true true = refl
or_true false = refl

-- one more slot that was not written leaves one less
left_same : (written : List ℕ) (k n : ℕ) → n ≤ k → left (written ++ k ∷ []) n ≡ left written n
left_same written k zero l = refl
left_same written k (suc n) l =
    let f : nat_eq n k ≡ false = grind (arith, nat_tests) in
    let e : list_any (nat_eq n) (written ++ k ∷ []) ≡ list_any (nat_eq n) written = any_last n k written ∙ (ap (λ b. list_any (nat_eq n) written || (b || false)) f ∙ or_false (list_any (nat_eq n) written)) in
    let r = left_same written k n (omega arith) in
    ap (λ v. v + cond (list_any (nat_eq n) (written ++ k ∷ [])) 0 1) r ∙ ap (λ b. left written n + cond b 0 1) e

left_less : (written : List ℕ) (k n : ℕ) → k < n → list_any (nat_eq k) written ≡ false → left (written ++ k ∷ []) n + 1 ≡ left written n
left_less written k zero l h = absurd (omega arith)
left_less written k (suc n) l h = go (nat_eq n k) refl (λ m. left_less written k n m h)
  where
    go : (b : Bool) → nat_eq n k ≡ b → (k < n → left (written ++ k ∷ []) n + 1 ≡ left written n) → left (written ++ k ∷ []) n + cond (list_any (nat_eq n) (written ++ k ∷ [])) 0 1 + 1 ≡ left written n + cond (list_any (nat_eq n) written) 0 1
    go true e more =
        let q : n ≡ k = grind (arith, nat_tests) in
        let r = left_same written k n (omega (arith, q)) in
        let f : list_any (nat_eq n) (written ++ k ∷ []) ≡ true = any_last n k written ∙ (ap (λ b. list_any (nat_eq n) written || (b || false)) e ∙ or_true (list_any (nat_eq n) written)) in
        let g : list_any (nat_eq n) written ≡ false = ap (λ v. list_any (nat_eq v) written) q ∙ h in
        rw f (rw g (omega (arith, r)))
    go false e more =
        let m : k < n = grind (arith, nat_tests) in
        let r = more m in
        let f : list_any (nat_eq n) (written ++ k ∷ []) ≡ list_any (nat_eq n) written = any_last n k written ∙ (ap (λ b. list_any (nat_eq n) written || (b || false)) e ∙ or_false (list_any (nat_eq n) written)) in
        rw f (omega (arith, r))

left_none : (written : List ℕ) (n s : ℕ) → left written n ≡ 0 → s < n → list_any (nat_eq s) written ≡ true
left_none written zero s e l = absurd (omega arith)
left_none written (suc n) s e l = go (nat_eq s n) refl (λ f m. left_none written n s f m)
  where
    full : (b : Bool) → left written n + cond b 0 1 ≡ 0 → b ≡ true
    full true e = refl
    full false e = absurd (omega (arith, e))

    go : (b : Bool) → nat_eq s n ≡ b → (left written n ≡ 0 → s < n → list_any (nat_eq s) written ≡ true) → list_any (nat_eq s) written ≡ true
    go true f more = let q : s ≡ n = grind (arith, nat_tests) in ap (λ v. list_any (nat_eq v) written) q ∙ full (list_any (nat_eq n) written) e
    go false f more = let m : s < n = grind (arith, nat_tests) in more (omega (arith, e)) m

left_all : (n : ℕ) → left [] n ≡ n
left_all zero = refl
left_all (suc n) = let r = left_all n in omega (arith, r)

none_some : (o : Option ℕ) → o ≡ None → IsSome o → ⊥
none_some None e h = absurd (cc h)
none_some (Some x) e h = absurd (cc e)

-- each slot is written in the end
covers : (own : ℕ) (cells : List CellBody) (rank : ℕ → ℕ) (fuel : ℕ) (written : List ℕ) → IsRank own cells rank → left written (length cells) ≤ fuel → (s : ℕ) → s < length cells → list_any (nat_eq s) (written ++ order_from own cells fuel written) ≡ true
covers own cells rank zero written r l s m = ap (list_any (nat_eq s)) (append-nil written) ∙ left_none written (length cells) s (omega (arith, l)) m
covers own cells rank (suc fuel) written r l s m = go (first_ready own written 0 cells) refl (λ k f. covers own cells rank fuel (written ++ k ∷ []) r f s m)
  where
    go : (o : Option ℕ) → first_ready own written 0 cells ≡ o → ((k : ℕ) → left (written ++ k ∷ []) (length cells) ≤ fuel → list_any (nat_eq s) ((written ++ k ∷ []) ++ order_from own cells fuel (written ++ k ∷ [])) ≡ true) →
        list_any (nat_eq s) (written ++ unwrap_or (option_map (λ slot. slot ∷ order_from own cells fuel (written ++ slot ∷ [])) o) []) ≡ true
    go (Some k) e more =
        let f = found_ready own written 0 k cells e in
        let b = and_parts (not (list_any (nat_eq k) written)) (list_all (is_written own written) (insts_of f.1.0)) f.1.3 in
        let new : list_any (nat_eq k) written ≡ false = not-true (list_any (nat_eq k) written) b.0 in
        let in_range : k < length cells = slice_get_within cells k f.1.0 ((let q : k ≡ f.0 = omega (arith, f.1.1) in ap (slice_get cells) q) ∙ f.1.2) in
        let less = left_less written k (length cells) in_range new in
        ap (list_any (nat_eq s)) (sym (append_assoc written (k ∷ []) (order_from own cells fuel (written ++ k ∷ [])))) ∙ more k (omega (arith, less, l))
    go None e more = ap (list_any (nat_eq s)) (append-nil written) ∙ all (cases_Bool (list_any (nat_eq s) written))
      where
        all : (list_any (nat_eq s) written ≡ true) ⊎ (list_any (nat_eq s) written ≡ false) → list_any (nat_eq s) written ≡ true
        all (inl t) = t
        all (inr n) = let k = ready_below own cells written rank r (suc (rank s)) s (omega arith) m n in
            let some = finds own written 0 k.0 cells k.1.0 k.1.1 ((let z : 0 + k.0 ≡ k.0 = omega arith in ap (λ v. is_ready own written v k.1.0) z) ∙ k.1.2) in
            absurd (none_some (first_ready own written 0 cells) e some)

pub order_covers : (own : ℕ) (cells : List CellBody) (rank : ℕ → ℕ) → IsRank own cells rank → (s : ℕ) → s < length cells → list_any (nat_eq s) (order_of own cells) ≡ true
order_covers own cells rank r s m = covers own cells rank (length cells) [] r (let z = left_all (length cells) in omega (arith, z)) s m

pub order_ready : (own : ℕ) (cells : List CellBody) (fuel : ℕ) (written : List ℕ) → AllAfter (StepReady own cells) written (order_from own cells fuel written)
order_ready own cells zero written = tt
order_ready own cells (suc fuel) written = go (first_ready own written 0 cells) refl (λ k. order_ready own cells fuel (written ++ k ∷ []))
  where
    go : (o : Option ℕ) → first_ready own written 0 cells ≡ o → ((k : ℕ) → AllAfter (StepReady own cells) (written ++ k ∷ []) (order_from own cells fuel (written ++ k ∷ []))) →
        AllAfter (StepReady own cells) written (unwrap_or (option_map (λ slot. slot ∷ order_from own cells fuel (written ++ slot ∷ [])) o) [])
    go None e more = tt
    go (Some k) e more = let f = found_ready own written 0 k cells e in ((f.1.0, (let q : k ≡ f.0 = omega (arith, f.1.1) in ap (slice_get cells) q) ∙ f.1.2, f.1.3), more k)

-- and it is the first
abbrev pub NoneReady : ℕ → List CellBody → List ℕ → ℕ → Type 0
NoneReady own cells written k = (t : ℕ) (c : CellBody) → t < k → slice_get cells t ≡ Some c → is_ready own written t c ≡ false

found_first : (own : ℕ) (written : List ℕ) (j m : ℕ) (cs : List CellBody) → first_ready own written j cs ≡ Some m → (t : ℕ) (c : CellBody) → j + t < m → slice_get cs t ≡ Some c → is_ready own written (j + t) c ≡ false
found_first own written j m [] e t c l f = absurd (cc e)
found_first own written j m (x ∷ cs) e t c l f = go (is_ready own written j x) refl e t f l (found_first own written (suc j) m cs)
  where
    go : (b : Bool) → is_ready own written j x ≡ b → cond b (Some j) (first_ready own written (suc j) cs) ≡ Some m → (t : ℕ) → slice_get (x ∷ cs) t ≡ Some c → j + t < m →
        (first_ready own written (suc j) cs ≡ Some m → (t : ℕ) (c : CellBody) → suc j + t < m → slice_get cs t ≡ Some c → is_ready own written (suc j + t) c ≡ false) → is_ready own written (j + t) c ≡ false
    go true r e t f l more = let w : j ≡ m = cc e in absurd (omega arith)
    go false r e zero f l more =
        let w : x ≡ c = cc f in
        let z : j + 0 ≡ j = omega arith in
        ap (λ k. is_ready own written k c) z ∙ (ap (is_ready own written j) (sym w) ∙ r)
    go false r e (suc t) f l more = let z : j + suc t ≡ suc j + t = omega arith in ap (λ k. is_ready own written k c) z ∙ more e t c (omega arith) f

pub order_first : (own : ℕ) (cells : List CellBody) (fuel : ℕ) (written : List ℕ) → AllAfter (NoneReady own cells) written (order_from own cells fuel written)
order_first own cells zero written = tt
order_first own cells (suc fuel) written = go (first_ready own written 0 cells) refl (λ k. order_first own cells fuel (written ++ k ∷ []))
  where
    go : (o : Option ℕ) → first_ready own written 0 cells ≡ o → ((k : ℕ) → AllAfter (NoneReady own cells) (written ++ k ∷ []) (order_from own cells fuel (written ++ k ∷ []))) →
        AllAfter (NoneReady own cells) written (unwrap_or (option_map (λ slot. slot ∷ order_from own cells fuel (written ++ slot ∷ [])) o) [])
    go None e more = tt
    go (Some k) e more = (λ t c l f. let z : 0 + t ≡ t = omega arith in ap (λ v. is_ready own written v c) (sym z) ∙ found_first own written 0 k cells e t c (omega arith) f, more k)
