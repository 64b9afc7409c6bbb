-- What a commit leaves of the fields, and what the stamps say of conflicts.
use Rattle.std.proofs.Common.{◌≡◌, ◌↔◌, ℕ, ◌+◌, ◌-◌, ◌≤◌, List, [], ◌∷◌, ◌++◌, Option, Some, None, inl, inr, length, map, Contains, refl, ap, sym, ◌∙◌, subst, arith, vec_capacity, Vec, Global, IsTrue}
use Rattle.std.specs.Ordering.{is_le}
use Rattle.std.proofs.lemmas.Bool.{cases_lt}
use Rattle.std.proofs.lemmas.List.{get_or_past, map-append}
use Rattle.netlist_schema.specs.Design.{Design}
use Rattle.netlist_schema.specs.Order.{object_cmp}
use Rattle.netlist_schema.specs.Types.{Object}
use Rattle.netlist_schema.proofs.Objects.{is_listed}
use Rattle.edit_spec.specs.Needs.{Reads, Written}
use Rattle.edit_rules_spec.specs.Objects.{AgreesOn, Grown, IsClosed}
use Rattle.edit_spec.specs.Step.{run}
use Rattle.edit_spec.specs.declared.ops.Op.{Op}
use Rattle.edit_rules_spec.proofs.Values.{agree_is_same_value}
use Rattle.conflict_check.specs.Commits.{Commits, IsMarked, HasNoLater, IsFirstLater, last_commit, later_of}
use Rattle.conflict_check.specs.declared.stamps.Later.{Later}
use Rattle.db_version.specs.Shot.{Shot}
use Rattle.db_spec.specs.declared.event.Event.{Event}
use Rattle.db_spec.specs.State.{State, Version, IsWritten, committed, design, first_version, head, opening, version}
use Rattle.db_spec.specs.Answers.{HasNoConflict, IsConflict, Clashes}
use Rattle.db_spec.specs.History.{state_after}
use Rattle.db_spec.proofs.Histories.{goes_on_from}
use Rattle.db_spec.proofs.Versions.{follows_after, grown_on, head_new, same_value, version_new, version_old}
use Rattle.db_core.specs.declared.database.Core.TheInside.{Inside}
use Rattle.db_core.specs.Inside.{IsLastWrite, IsStamped, Stands}
use Rattle.db_core.specs.Story.{shot}
use Rattle.db_core.proofs.Shots.{same_map}
use Rattle.db_core.proofs.Steps.{counted}

-- ---- who wrote an object

-- no commit of a later number wrote
pub wrote_past : (s : State) (w : ℕ) (o : Object) → IsWritten s w o → w ≤ head s
wrote_past s w o wrote = elim (cases_lt (head s) w) [
  | inl past ↦
      let none : version s w ≡ first_version s = get_or_past (first_version s ∷ s.commits) w (first_version s) (omega arith) in
      absurd (subst (λ (x : Version). Written (design s (w - 1)) x.made_by o) none wrote)
  | inr le ↦ le
]

module _ (s : State) (ops : List Op) where
  old_written : (w : ℕ) (o : Object) → w ≤ head s → IsWritten (committed s ops) w o → IsWritten s w o
  old_written w o le wrote =
      subst (λ (x : Version). Written x.design (version s w).made_by o) (version_old s ops (w - 1) (omega arith))
      (subst (λ (x : Version). Written (design (committed s ops) (w - 1)) x.made_by o) (version_old s ops w le) wrote)

  still_written : (w : ℕ) (o : Object) → w ≤ head s → IsWritten s w o → IsWritten (committed s ops) w o
  still_written w o le wrote =
      subst (λ (x : Version). Written x.design (version (committed s ops) w).made_by o) (sym (version_old s ops (w - 1) (omega arith)))
      (subst (λ (x : Version). Written (design s (w - 1)) x.made_by o) (sym (version_old s ops w le)) wrote)

  new_written : (o : Object) → Written (design s (head s)) ops o → IsWritten (committed s ops) (head s + 1) o
  new_written o wrote =
      let at : head s + 1 - 1 ≡ head s = omega arith in
      subst (λ (v : ℕ). Written (design (committed s ops) v) (version (committed s ops) (head s + 1)).made_by o) (sym at)
      (subst (λ (x : Version). Written x.design (version (committed s ops) (head s + 1)).made_by o) (sym (version_old s ops (head s) (omega arith)))
      (subst (λ (x : Version). Written (design s (head s)) x.made_by o) (sym (version_new s ops)) wrote))

  newly_written : (o : Object) → IsWritten (committed s ops) (head s + 1) o → Written (design s (head s)) ops o
  newly_written o wrote =
      let at : head s + 1 - 1 ≡ head s = omega arith in
      subst (λ (x : Version). Written (design s (head s)) x.made_by o) (version_new s ops)
      (subst (λ (x : Version). Written x.design (version (committed s ops) (head s + 1)).made_by o) (version_old s ops (head s) (omega arith))
      (subst (λ (v : ℕ). Written (design (committed s ops) v) (version (committed s ops) (head s + 1)).made_by o) at wrote))

  -- what the new commit did not write was written before, or not at all
  before : (o : Object) → ¬ Written (design s (head s)) ops o → (w : ℕ) → IsWritten (committed s ops) w o → (w ≤ head s) × IsWritten s w o
  before o free w wrote = elim (cases_lt (head s) w) [
    | inl past ↦
        let le = wrote_past (committed s ops) w o wrote in
        let at : w ≡ head s + 1 = omega (arith, head_new s ops) in
        absurd (free (newly_written o (subst (λ (v : ℕ). IsWritten (committed s ops) v o) at wrote)))
    | inr le ↦ (le, old_written w o le wrote)
  ]

  last_stays : (o : Object) (last : Option ℕ) → ¬ Written (design s (head s)) ops o → IsLastWrite s o last → IsLastWrite (committed s ops) o last
  last_stays o None free is = λ w wrote. is w (before o free w wrote).1
  last_stays o (Some last) free is = (still_written last o (wrote_past s last o is.0) is.0, λ w wrote. is.1 w (before o free w wrote).1)

  later_is : (o : Object) (last : Option ℕ) → IsLastWrite s o last → later_of last (head s + 1) ≡ head s + 1
  later_is o None is = refl
  later_is o (Some last) is = let le = wrote_past s last o is.0 in omega arith

  stamped_committed : (old new : Commits) (written : List Object) → IsMarked old new written (head s + 1) → ((o : Object) → Contains written o ↔ Written (design s (head s)) ops o)
      → IsStamped s old → IsStamped (committed s ops) new
  stamped_committed old new written marks same is o = elim (is_listed written o) [
    | inl m ↦
        let at : last_commit new o ≡ Some (head s + 1) = marks.marked o m ∙ ap (λ n. Some n) (later_is o (last_commit old o) (is o)) in
        subst (λ (last : Option ℕ). IsLastWrite (committed s ops) o last) (sym at)
        (new_written o ((same o).0 m), λ w wrote. let le = wrote_past (committed s ops) w o wrote in omega (arith, head_new s ops))
    | inr n ↦ subst (λ (last : Option ℕ). IsLastWrite (committed s ops) o last) (sym (marks.others o n)) (last_stays o (last_commit old o) (λ wrote. n ((same o).1 wrote)) (is o))
  ]

pub stands_committed : (c : Inside) (s : State) (ops : List Op) (versions : Vec Shot Global) (next : Shot) (stamps : Commits) (log : Vec Event Global) (written : List Object) → Stands c s
    → ((v : ℕ) → Contains s.kept v → v ≤ head s)
    → versions.items ≡ c.versions.items ++ next ∷ [] → next ≡ record { version = head s + 1; design = (run (design s (head s)) ops).design }
    → IsMarked c.stamps stamps written (head s + 1) → ((o : Object) → Contains written o ↔ Written (design s (head s)) ops o) → length log.items + length s.pins ≤ vec_capacity log
    → Stands (record c { versions = versions; head = next; stamps = stamps; log = log }) (counted (committed s ops))
stands_committed c s ops versions next stamps log written h there more is marks same places = record {
  versions = more ∙ (ap (λ (ks : List Shot). ks ++ next ∷ []) (h.versions ∙ same_map (shot s) (shot (committed s ops)) s.kept (λ v m. stays_shot v (there v m)))
      ∙ (ap (λ (k : Shot). map (shot (committed s ops)) s.kept ++ k ∷ []) last ∙ sym (map-append (shot (committed s ops)) s.kept ((head s + 1) ∷ []))));
  head_is = last ∙ ap (λ (v : ℕ). shot (committed s ops) v) (sym (head_new s ops));
  made = h.made;
  live = h.live;
  stamped = stamped_committed s ops c.stamps stamps written marks same h.stamped;
  places = places;
}
  where
    stays_shot : (v : ℕ) → v ≤ head s → shot s v ≡ shot (committed s ops) v
    stays_shot v le = ap (λ (x : Version). record { version = v; design = x.design }) (sym (version_old s ops v le))

    last : next ≡ shot (committed s ops) (head s + 1)
    last = is ∙ ap (λ (x : Version). record { version = head s + 1; design = x.design }) (sym (version_new s ops))

-- ---- conflicts

module _ (s : State) (stamps : Commits) (v : ℕ) (ops : List Op) (reads : List Object) where
  pub conflict_found : (found : Later) → IsStamped s stamps → ((o : Object) → Contains reads o ↔ Reads (design s v) ops o) → IsFirstLater stamps reads v found → IsConflict s v ops found.object found.version
  conflict_found found stamped same first =
      let later = first.later in
      let writes : IsLastWrite s found.object (Some found.version) = subst (λ (last : Option ℕ). IsLastWrite s found.object last) later.is_last (stamped found.object) in
      record {
        clashes = record { read = (same found.object).0 later.read; later = later.after; there = wrote_past s found.version found.object writes.0; written = writes.0 };
        least = λ other u clash. by other u clash (last_commit stamps other) refl;
        greatest = λ u clash. writes.1 u clash.written;
      }
    where
      by : (other : Object) (u : ℕ) → Clashes s v ops other u → (last : Option ℕ) → last_commit stamps other ≡ last → IsTrue (is_le (object_cmp found.object other))
      by other u clash None is = absurd (subst (λ (last : Option ℕ). IsLastWrite s other last) is (stamped other) u clash.written)
      by other u clash (Some last) is =
          let writes : IsLastWrite s other (Some last) = subst (λ (l : Option ℕ). IsLastWrite s other l) is (stamped other) in
          let le = writes.1 u clash.written in
          let after = clash.later in
          first.least other last (record { read = (same other).1 clash.read; is_last = is; after = omega arith })

  pub none_found : IsStamped s stamps → ((o : Object) → Contains reads o ↔ Reads (design s v) ops o) → HasNoLater stamps reads v → HasNoConflict s v ops
  none_found stamped same none o w clash = by (last_commit stamps o) refl
    where
      by : (last : Option ℕ) → last_commit stamps o ≡ last → ⊥
      by None is = subst (λ (last : Option ℕ). IsLastWrite s o last) is (stamped o) w clash.written
      by (Some last) is =
          let writes : IsLastWrite s o (Some last) = subst (λ (l : Option ℕ). IsLastWrite s o l) is (stamped o) in
          let le = writes.1 w clash.written in
          let after = clash.later in
          none o last (record { read = (same o).1 clash.read; is_last = is; after = omega arith })

-- ---- the last version, where nothing clashes

pub grown_head : (d : Design) (xs : List Event) (v : ℕ) → v ≤ head (state_after d xs) → Grown (design (state_after d xs) v) (design (state_after d xs) (head (state_after d xs)))
grown_head d xs v le = let s = state_after d xs in grown_on s (follows_after d xs) v (head s - v) (head s) (omega arith) (omega arith)

pub agrees_head : (d : Design) (xs : List Event) (v : ℕ) (ops : List Op) → IsClosed d → v ≤ head (state_after d xs) → HasNoConflict (state_after d xs) v ops
    → AgreesOn (design (state_after d xs) v) (design (state_after d xs) (head (state_after d xs))) (Reads (design (state_after d xs) v) ops)
agrees_head d xs v ops closed le free =
    let s = state_after d xs in
    let first : IsClosed s.first = subst IsClosed (sym ((goes_on_from (opening d) xs).first)) closed in
    λ o read. (agree_is_same_value (design s v) (design s (head s)) o).1
    (sym (same_value s (follows_after d xs) first o v (head s - v) (head s) (omega arith) (omega arith) (λ u lt there wrote. free o u (record { read = read; later = lt; there = there; written = wrote }))))
