-- The occurrences afterwards are the images of those before, in order.
use Rattle.std.proofs.Common.{◌≡◌, ◌<◌, ◌⊎◌, ℕ, List, [], ◌∷◌, length, refl, sym, ap, subst, ◌∙◌, inl, inr, arith, Option, Some, None, slice_get}
use Rattle.std.specs.Prelude.{filter_map, option_map}
use Rattle.std.specs.List.{cons_option}
use Rattle.std.proofs.lemmas.Option.{slice_get_within}
use Rattle.netlist_schema.specs.Design.{Design}
use Rattle.netlist_schema.specs.Types.{CellId, Inst}
use Rattle.flat_spec.specs.Occurrences.{Occurrence, occurrences}
use Rattle.flat_spec.specs.PathOrder.{PathBefore}
use Rattle.flat_spec.proofs.ListLemmas.{Member, Ascends}
use Rattle.flat_spec.proofs.OccurrenceLemmas.{occurrences-member, occurrences-reaches, occurrences_are_all}
use Rattle.flat_spec.proofs.PinLemmas.{AllPairs-ascends}
use Rattle.flat_spec.proofs.BelowLemmas.{Ascends-same}
use Rattle.flat_spec.proofs.RepresentativeLemmas.{PathBefore-not_both}
use Rattle.ungroup_spec.specs.KeepsNets.{after, OccurrencesAreCarried}
use Rattle.ungroup_spec.specs.Maps.{Dissolving, step_after, child_after, path_after, path_inside, occurrence_after}
use Rattle.ungroup_spec.specs.Ungroup.{IsSite}
use Rattle.ungroup_spec.proofs.AtLemmas.{insts-other}
use Rattle.ungroup_spec.proofs.BackLemmas.{place_cases}
use Rattle.ungroup_spec.proofs.CarriedLemmas.{is_dissolves, step-to}
use Rattle.ungroup_spec.proofs.Cut.{IsChild, StepTo, Dissolves}
use Rattle.ungroup_spec.proofs.DissolveLemmas.{step_child, StepTo-same}
use Rattle.ungroup_spec.proofs.DissolvedLemmas.{cut_of}
use Rattle.ungroup_spec.proofs.ImageLemmas.{CellId-cases}
use Rattle.ungroup_spec.proofs.PathLemmas.{and_map-from, path-cases, path-first, path-in, path-on, inside-parts, kid-of, within-kid, kid-within}
use Rattle.ungroup_spec.proofs.SoundLemmas.{fits-within, acyclic-after}
use Rattle.ungroup_spec.proofs.Ways.{Way, Way-reaches, Reaches-way, IsChild-same}

-- ---- lists in order

pub Member-filter_map : {A B : Type 0} (f : A → Option B) (xs : List A) (x : A) (y : B) → Member xs x → f x ≡ Some y → Member (filter_map f xs) y
Member-filter_map f [] x y m e = absurd m
Member-filter_map {A} {B} f (v ∷ xs) x y m e = go (λ k. Member-filter_map f xs x y k e) (f v) refl m
  where
    go : (Member xs x → Member (filter_map f xs) y) → (o : Option B) → f v ≡ o → (v ≡ x) ⊎ Member xs x → Member (cons_option o (filter_map f xs)) y
    go further None is m = elim m [ inl same ↦ absurd (cc (sym is ∙ ap f same ∙ e)) | inr rest ↦ further rest ]
    go further (Some w) is m = elim m [
      | inl same ↦
          let both : ◌≡◌ {A = Option B} (Some w) (Some y) = sym is ∙ ap f same ∙ e in
          inl (cc both)
      | inr rest ↦ inr (further rest)
    ]

pub Member-from_filter_map : {A B : Type 0} (f : A → Option B) (xs : List A) (y : B) → Member (filter_map f xs) y → (x : A) × Member xs x × (f x ≡ Some y)
Member-from_filter_map f [] y m = absurd m
Member-from_filter_map {A} {B} f (v ∷ xs) y m = go (λ k. Member-from_filter_map f xs y k) (f v) refl m
  where
    go : (Member (filter_map f xs) y → (x : A) × Member xs x × (f x ≡ Some y)) → (o : Option B) → f v ≡ o → Member (cons_option o (filter_map f xs)) y
        → (x : A) × ((v ≡ x) ⊎ Member xs x) × (f x ≡ Some y)
    go further None is m = let found = further m in (found.0, inr found.1, found.2)
    go further (Some w) is m = elim m [
      | inl same ↦ (v, inl refl, is ∙ ap (λ u. Some u) same)
      | inr rest ↦ let found = further rest in (found.0, inr found.1, found.2)
    ]

pub Ascends-filter_map : {A B : Type 0} (R : A → A → Type 0) (S : B → B → Type 0) (f : A → Option B)
    → ((x y : A) (v w : B) → f x ≡ Some v → f y ≡ Some w → R x y → S v w) → (xs : List A) → Ascends R xs → Ascends S (filter_map f xs)
Ascends-filter_map R S f keeps [] p = p
Ascends-filter_map {A} {B} R S f keeps (x ∷ xs) p = go (Ascends-filter_map R S f keeps xs p.1) (f x) refl
  where
    go : Ascends S (filter_map f xs) → (o : Option B) → f x ≡ o → Ascends S (cons_option o (filter_map f xs))
    go rest None is = rest
    go rest (Some v) is = (λ w m. let found = Member-from_filter_map f xs w m in keeps x found.0 v w is found.2 (p.0 found.0 found.1), rest)

module _ (d : Design) (q : Dissolving) (stands : IsSite d q.cell q.site) (is : Dissolves (cut_of d q) (after d q)) where
  -- ---- where images lead

  mutual
    pub way_after : (p : List ℕ) (c e : CellId) (moved : List ℕ) → Way d c p e → path_after d q c p ≡ Some moved → Way (after d q) c moved e
    way_after [] c e moved way at = let none : [] ≡ moved = cc at in subst (λ v. Way (after d q) c v e) none way
    way_after (i ∷ p) c e moved way at =
        elim (path-cases d q c i p moved at) [
          | inl in_it ↦
              let kid : IsChild d q.cell q.site.place way.0 =
              subst (λ v. IsChild d v q.site.place way.0) in_it.cell (subst (λ v. IsChild d c v way.0) in_it.place way.1) in
              let same : way.0 ≡ q.site.inst.of = IsChild-same d q.cell q.site.place kid is.dissolved in
              subst (λ v. Way (after d q) v moved e) (sym in_it.cell)
              (way_inside p e moved (subst (λ v. Way d v p e) same way.2) in_it.on)
          | inr apart ↦
              let kid = kid-of d c i apart.inst apart.is in
              let same : way.0 ≡ apart.inst.of = IsChild-same d c i way.1 kid in
              let now = step_child (cut_of d q) (after d q) is c i (step_after q c i) apart.inst.of (step-to d q c i apart.other) kid in
              subst (λ v. Way (after d q) c v e) (sym apart.whole)
              (apart.inst.of, now, way_after p apart.inst.of e apart.rest (subst (λ v. Way d v p e) same way.2) apart.on)
        ]

    way_inside : (p : List ℕ) (e : CellId) (moved : List ℕ) → Way d q.site.inst.of p e → path_inside d q p ≡ Some moved → Way (after d q) q.cell moved e
    way_inside [] e moved way at = absurd (cc at)
    way_inside (j ∷ p) e moved way at =
        let parts = inside-parts d q j p moved at in
        let kid = within-kid d q stands j parts.inst parts.is in
        let same : way.0 ≡ parts.inst.of = IsChild-same d q.site.inst.of j way.1 kid in
        subst (λ v. Way (after d q) q.cell v e) (sym parts.whole)
        (parts.inst.of, is.placed j parts.inst.of kid, way_after p parts.inst.of e parts.rest (subst (λ v. Way d v p e) same way.2) parts.on)

  -- each path afterwards is an image
  pub way_before : (r : List ℕ) (c e : CellId) → Way (after d q) c r e → (p : List ℕ) × (path_after d q c p ≡ Some r) × Way d c p e
  way_before [] c e way = ([], refl, way)
  way_before (t ∷ r) c e way =
      let deep = way_before r way.0 e way.2 in
      elim (CellId-cases c q.cell) [
        | inr apart ↦
            let kid : IsChild d c t way.0 = (way.1.0, subst (λ v. slice_get v t ≡ Some way.1.0) (insts-other d q stands c apart) way.1.1, way.1.2) in
            let step : step_after q c t ≡ t = StepTo-same (cut_of d q) (after d q) is c t (step_after q c t) t (step-to d q c t (λ here _. apart here)) (inl (apart, refl)) in
            let on = path-on d q c t deep.0 kid.0 r (λ here _. apart here) kid.1 (subst (λ v. path_after d q v deep.0 ≡ Some r) kid.2 deep.1) in
            (t ∷ deep.0, on ∙ ap (λ v. Some (v ∷ r)) step, (way.0, kid, deep.2))
        | inl here ↦
            let now : IsChild (after d q) q.cell t way.0 = subst (λ v. IsChild (after d q) v t way.0) here way.1 in
            elim (place_cases (cut_of d q) (after d q) is t) [
              | inl shift ↦
                  let s = shift.0 in
                  let old = (is.shifted s t way.0 shift.1).1 now in
                  let kid : IsChild d c s way.0 = subst (λ v. IsChild d v s way.0) (sym here) old in
                  let other : (c ≡ q.cell) → (s ≡ q.site.place) → ⊥ =
                  λ _ same. elim shift.1 [ inl low ↦ omega (arith, low.0, same) | inr high ↦ omega (arith, high.0, same) ] in
                  let step : step_after q c s ≡ t = StepTo-same (cut_of d q) (after d q) is c s (step_after q c s) t (step-to d q c s other) (inr (here, shift.1)) in
                  let on = path-on d q c s deep.0 kid.0 r other kid.1 (subst (λ v. path_after d q v deep.0 ≡ Some r) kid.2 deep.1) in
                  (s ∷ deep.0, on ∙ ap (λ v. Some (v ∷ r)) step, (way.0, kid, deep.2))
              | inr child ↦
                  let j = child.0 in
                  let old = is.placed_from j way.0 child.1 (subst (λ v. IsChild (after d q) q.cell v way.0) child.2 now) in
                  let inst = kid-within d q stands j way.0 old in
                  let inside : path_inside d q (j ∷ deep.0) ≡ Some (child_after q j ∷ r) =
                  and_map-from (λ (v : Inst). path_after d q v.of deep.0) (λ rest. child_after q j ∷ rest) (slice_get q.site.within.insts j) inst.0 r inst.1
                  (subst (λ v. path_after d q v deep.0 ≡ Some r) inst.2 deep.1) in
                  let kid : IsChild d c q.site.place q.site.inst.of = subst (λ v. IsChild d v q.site.place q.site.inst.of) (sym here) is.dissolved in (
                    q.site.place ∷ j ∷ deep.0,
                    path-in d q c q.site.place (j ∷ deep.0) (child_after q j ∷ r) here refl inside ∙ ap (λ v. Some (v ∷ r)) (sym child.2),
                    (q.site.inst.of, kid, (way.0, old, deep.2)),
                  )
            ]
      ]

  -- ---- order

  steps_order : (c : CellId) (i j t u : ℕ) → StepTo (cut_of d q) c i t → StepTo (cut_of d q) c j u → i < j → t < u
  steps_order c i j t u a b less =
      elim a [
        | inl other ↦ elim b [ inl other' ↦ omega (arith, other.1, other'.1, less) | inr here ↦ absurd (other.0 here.0) ]
        | inr here ↦ elim b [
          | inl other ↦ absurd (other.0 here.0)
          | inr here' ↦ elim here.1 [
            | inl low ↦ elim here'.1 [ inl low' ↦ omega (arith, low.0, low.1, low'.1, less) | inr high ↦ omega (arith, low.0, low.1, high.0, high.1, less) ]
            | inr high ↦ elim here'.1 [ inl low ↦ omega (arith, high.0, low.0, less) | inr high' ↦ omega (arith, high.0, high.1, high'.0, high'.1, less) ]
          ]
        ]
      ]

  before_child : (c : CellId) (i t k : ℕ) → c ≡ q.cell → StepTo (cut_of d q) c i t → i < q.site.place → t < child_after q k
  before_child c i t k here to less =
      elim to [
        | inl other ↦ absurd (other.0 here)
        | inr shift ↦ elim shift.1 [ inl low ↦ omega (arith, low.0, low.1) | inr high ↦ omega (arith, high.0, less) ]
      ]

  behind_child : (c : CellId) (i t k : ℕ) → c ≡ q.cell → StepTo (cut_of d q) c i t → q.site.place < i → k < length q.site.within.insts → child_after q k < t
  behind_child c i t k here to more few =
      elim to [
        | inl other ↦ absurd (other.0 here)
        | inr shift ↦ elim shift.1 [ inl low ↦ omega (arith, low.0, more) | inr high ↦ omega (arith, high.0, high.1, few) ]
      ]

  cons_before : (t u : ℕ) (v w p r : List ℕ) → p ≡ t ∷ v → r ≡ u ∷ w → t < u → PathBefore p r
  cons_before t u v w p r e f less = subst (λ x. PathBefore x r) (sym e) (subst (λ x. PathBefore (t ∷ v) x) (sym f) (inl less))

  cons_deep : (t u : ℕ) (v w p r : List ℕ) → p ≡ t ∷ v → r ≡ u ∷ w → t ≡ u → PathBefore v w → PathBefore p r
  cons_deep t u v w p r e f same deep = subst (λ x. PathBefore x r) (sym e) (subst (λ x. PathBefore (t ∷ v) x) (sym f) (inr (same, deep)))

  -- inside the dissolved instance, and behind it or before it
  in_before : (p p' : List ℕ) (c : CellId) (j t : ℕ) (w r' : List ℕ) → c ≡ q.cell → StepTo (cut_of d q) c j t → q.site.place < j
      → path_inside d q p ≡ Some p' → r' ≡ t ∷ w → PathBefore p' r'
  in_before [] p' c j t w r' here to more e f = absurd (cc e)
  in_before (k ∷ p) p' c j t w r' here to more e f =
      let a = inside-parts d q k p p' e in
      cons_before (child_after q k) t a.rest w p' r' a.whole f (behind_child c j t k here to more (slice_get_within q.site.within.insts k a.inst a.is))

  before_in : (r r' : List ℕ) (c : CellId) (i t : ℕ) (v p' : List ℕ) → c ≡ q.cell → StepTo (cut_of d q) c i t → i < q.site.place
      → path_inside d q r ≡ Some r' → p' ≡ t ∷ v → PathBefore p' r'
  before_in [] r' c i t v p' here to less e f = absurd (cc e)
  before_in (k ∷ r) r' c i t v p' here to less e f =
      let b = inside-parts d q k r r' e in
      cons_before t (child_after q k) v b.rest p' r' f b.whole (before_child c i t k here to less)

  mutual
    pub order_after : (p r : List ℕ) (c : CellId) (p' r' : List ℕ) → path_after d q c p ≡ Some p' → path_after d q c r ≡ Some r' → PathBefore p r → PathBefore p' r'
    order_after [] [] c p' r' e f before = absurd before
    order_after (i ∷ p) [] c p' r' e f before = absurd before
    order_after [] (j ∷ r) c p' [] e f before = absurd (path-first d q c j r f)
    order_after [] (j ∷ r) c p' (k ∷ r') e f before = let none : [] ≡ p' = cc e in subst (λ v. PathBefore v (k ∷ r')) none tt
    order_after (i ∷ p) (j ∷ r) c p' r' e f before =
        elim (path-cases d q c i p p' e) [
          | inl a ↦ elim (path-cases d q c j r r' f) [
            | inl b ↦ elim before [
              | inl less ↦ absurd (omega (arith, less, a.place, b.place))
              | inr same ↦ order_inside p r p' r' a.on b.on same.1
            ]
            | inr b ↦ elim before [
              | inl less ↦ in_before p p' c j (step_after q c j) b.rest r' a.cell (step-to d q c j b.other) (omega (arith, less, a.place)) a.on b.whole
              | inr same ↦ absurd (b.other a.cell (sym same.0 ∙ a.place))
            ]
          ]
          | inr a ↦ elim (path-cases d q c j r r' f) [
            | inl b ↦ elim before [
              | inl less ↦ before_in r r' c i (step_after q c i) a.rest p' b.cell (step-to d q c i a.other) (omega (arith, less, b.place)) b.on a.whole
              | inr same ↦ absurd (a.other b.cell (same.0 ∙ b.place))
            ]
            | inr b ↦ elim before [
              | inl less ↦ cons_before (step_after q c i) (step_after q c j) a.rest b.rest p' r' a.whole b.whole
                  (steps_order c i j (step_after q c i) (step_after q c j) (step-to d q c i a.other) (step-to d q c j b.other) less)
              | inr same ↦
                  let kid = IsChild-same d c i (kid-of d c i a.inst a.is) (subst (λ v. IsChild d c v b.inst.of) (sym same.0) (kid-of d c j b.inst b.is)) in
                  cons_deep (step_after q c i) (step_after q c j) a.rest b.rest p' r' a.whole b.whole (ap (step_after q c) same.0)
                  (order_after p r a.inst.of a.rest b.rest a.on (subst (λ v. path_after d q v r ≡ Some b.rest) (sym kid) b.on) same.1)
            ]
          ]
        ]

    order_inside : (p r p' r' : List ℕ) → path_inside d q p ≡ Some p' → path_inside d q r ≡ Some r' → PathBefore p r → PathBefore p' r'
    order_inside [] r p' r' e f before = absurd (cc e)
    order_inside (k ∷ p) [] p' r' e f before = absurd before
    order_inside (k ∷ p) (l ∷ r) p' r' e f before =
        let a = inside-parts d q k p p' e in
        let b = inside-parts d q l r r' f in
        elim before [
          | inl less ↦ cons_before (child_after q k) (child_after q l) a.rest b.rest p' r' a.whole b.whole (omega (arith, less))
          | inr same ↦
              let kid = IsChild-same d q.site.inst.of k (within-kid d q stands k a.inst a.is)
              (subst (λ v. IsChild d q.site.inst.of v b.inst.of) (sym same.0) (within-kid d q stands l b.inst b.is)) in
              cons_deep (child_after q k) (child_after q l) a.rest b.rest p' r' a.whole b.whole (ap (child_after q) same.0)
              (order_after p r a.inst.of a.rest b.rest a.on (subst (λ v. path_after d q v r ≡ Some b.rest) (sym kid) b.on) same.1)
        ]

  pub occurrence-parts : (root : CellId) (o u : Occurrence) → occurrence_after d q root o ≡ Some u → (path_after d q root o.path ≡ Some u.path) × (o.cell ≡ u.cell)
  occurrence-parts root o u e = go (path_after d q root o.path) refl e
    where
      go : (m : Option (List ℕ)) → path_after d q root o.path ≡ m → option_map (λ path. record { path = path; cell = o.cell }) m ≡ Some u
          → (path_after d q root o.path ≡ Some u.path) × (o.cell ≡ u.cell)
      go None at e = absurd (cc e)
      go (Some path) at e =
          let whole : ◌≡◌ {A = Occurrence} (record { path = path; cell = o.cell }) u = cc e in
          (at ∙ ap (λ (v : Occurrence). Some v.path) whole, ap (λ (v : Occurrence). v.cell) whole)

pub occurrences_are_carried : OccurrencesAreCarried
occurrences_are_carried d q root is =
    let fits = fits-within d q is.stands is.valid in
    let dissolves = is_dissolves d q is.stands fits in
    let old = is.valid.no_cycle in
    let new = acyclic-after d q is.stands old in
    let R : Occurrence → Occurrence → Type 0 = λ o p. PathBefore o.path p.path in
    Ascends-same (λ o p. PathBefore o.path p.path) (λ o p. PathBefore-not_both o.path p.path) (occurrences (after d q) root) (filter_map (occurrence_after d q root) (occurrences d root))
    (AllPairs-ascends (λ (o p : Occurrence). PathBefore o.path p.path) (occurrences (after d q) root) (occurrences_are_all (after d q) root new).in_order)
    (Ascends-filter_map (λ (o p : Occurrence). PathBefore o.path p.path) (λ (o p : Occurrence). PathBefore o.path p.path) (occurrence_after d q root)
    (λ o p u v eu ev before.
    order_after d q is.stands dissolves o.path p.path root u.path v.path
    (occurrence-parts d q is.stands dissolves root o u eu).0 (occurrence-parts d q is.stands dissolves root p v ev).0 before)
    (occurrences d root) (AllPairs-ascends (λ (o p : Occurrence). PathBefore o.path p.path) (occurrences d root) (occurrences_are_all d root old).in_order))
    (λ u m.
    let way = Reaches-way (after d q) root u.path u.cell (occurrences-reaches (after d q) new root u m) in
    let from = way_before d q is.stands dissolves u.path root u.cell way in
    Member-filter_map (occurrence_after d q root) (occurrences d root) (record { path = from.0; cell = u.cell }) u
    (occurrences-member d old root (record { path = from.0; cell = u.cell }) (Way-reaches d root from.0 u.cell from.2))
    (ap (option_map (λ path. record { path = path; cell = u.cell })) from.1))
    (λ u m.
    let from = Member-from_filter_map (occurrence_after d q root) (occurrences d root) u m in
    let parts = occurrence-parts d q is.stands dissolves root from.0 u from.2 in
    let way = Reaches-way d root from.0.path from.0.cell (occurrences-reaches d old root from.0 from.1) in
    let now = way_after d q is.stands dissolves from.0.path root from.0.cell u.path way parts.0 in
    occurrences-member (after d q) new root u (Way-reaches (after d q) root u.path u.cell (subst (λ v. Way (after d q) root u.path v) parts.1 now)))
