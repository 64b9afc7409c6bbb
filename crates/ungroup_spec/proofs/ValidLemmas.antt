-- The design afterwards is valid, and occurrences below the top keep their effective properties.
use Rattle.std.proofs.Common.{◌≡◌, ◌≢◌, ◌≤◌, ◌<◌, ℕ, List, [], ◌∷◌, Bool, true, false, cond, length, map, refl, sym, ap, subst, ◌∙◌, inl, inr, arith, Option, Some, None}
use Rattle.std.specs.Prelude.{IfNone, IfSome, filter_map, option_and_then, option_map, option_to_list}
use Rattle.std.specs.List.{All, cons_option, list_any}
use Rattle.netlist_schema.specs.Design.{Design}
use Rattle.netlist_schema.specs.Hierarchy.{NoCellIsBelowItself, Resolves}
use Rattle.netlist_schema.specs.Ident.{IsIdentifier}
use Rattle.netlist_schema.specs.Names.{note_key}
use Rattle.netlist_schema.specs.Typed.{IsTypedNote, IsTypedProperty}
use Rattle.netlist_schema.specs.Types.{CellId, Note, Property, TopHead}
use Rattle.netlist_schema.specs.Valid.{IsNoteBelow, IsValid}
use Rattle.edit_rules_spec.specs.Edit.{edited, edited_once, inner, noted}
use Rattle.edit_rules_spec.specs.Paths.{goes_through}
use Rattle.edit_rules_spec.proofs.Filled.{filled, inner_filled}
use Rattle.edit_rules_spec.proofs.InnerValid.{AreGoodNotes, inner_valid, with_both}
use Rattle.flat_spec.specs.Effective.{names_along}
use Rattle.flat_spec.proofs.ListLemmas.{Member, Member-map, Member-from_map, Ascends, Ascends-pairs}
use Rattle.flat_spec.proofs.PinLemmas.{AllPairs-ascends}
use Rattle.ungroup_spec.specs.Dissolved.{contents_after}
use Rattle.ungroup_spec.specs.KeepsNets.{after, IsUngroup, ValidStays}
use Rattle.ungroup_spec.specs.Maps.{Dissolving, path_after}
use Rattle.ungroup_spec.specs.MovedNotes.{changed_notes, moved_note, moved_notes, moved_path, past_inst}
use Rattle.ungroup_spec.proofs.ApartLemmas.{Apart}
use Rattle.ungroup_spec.proofs.CarriedLemmas.{is_dissolves}
use Rattle.ungroup_spec.proofs.ContentsLemmas.{around-body, good-contents}
use Rattle.ungroup_spec.proofs.FreshLemmas.{All-member, member-All}
use Rattle.ungroup_spec.proofs.KeptLemmas.{notes_are_moved}
use Rattle.ungroup_spec.proofs.ResolveLemmas.{Moved, along-typed, apart-after, moved-parts, one-image, one-way, typed-after, way-resolves}
use Rattle.ungroup_spec.proofs.SoundLemmas.{acyclic-after, fits-within}
use Rattle.ungroup_spec.proofs.TreeLemmas.{Ascends-filter_map, Member-from_filter_map, way_after}
use Rattle.ungroup_spec.proofs.Ways.{Way}

-- ---- lists

Ascends-with : {A : Type 0} (R : A → A → Type 0) (P : A → Type 0) (xs : List A) → Ascends R xs → ((x : A) → Member xs x → P x)
    → Ascends (λ x y. R x y × P x × P y) xs
Ascends-with R P [] a each = tt
Ascends-with R P (x ∷ xs) a each = (λ y m. (a.0 y m, each x (inl refl), each y (inr m)), Ascends-with R P xs a.1 (λ y m. each y (inr m)))

Ascends-mapped : {A B : Type 0} (f : A → B) (xs : List A) → Apart (map f xs) → Ascends (λ x y. f x ≢ f y) xs
Ascends-mapped f [] a = tt
Ascends-mapped f (x ∷ xs) a = (λ y m. a.0 (f y) (Member-map f xs y m), Ascends-mapped f xs a.1)

mapped-Ascends : {A B : Type 0} (f : A → B) (xs : List A) → Ascends (λ x y. f x ≢ f y) xs → Apart (map f xs)
mapped-Ascends f [] a = tt
mapped-Ascends f (x ∷ xs) a = (λ b m. let found = Member-from_map f xs b m in subst (λ v. f x ≢ v) found.2 (a.0 found.0 found.1), mapped-Ascends f xs a.1)

filter_map-count : {A B : Type 0} (f : A → Option B) (xs : List A) → length (filter_map f xs) ≤ length xs
filter_map-count f [] = omega arith
filter_map-count {A} {B} f (x ∷ xs) = go (f x) (filter_map-count f xs)
  where
    go : (o : Option B) → length (filter_map f xs) ≤ length xs → length (cons_option o (filter_map f xs)) ≤ length (x ∷ xs)
    go None less = omega (arith, less)
    go (Some y) less = omega (arith, less)

module _ (d : Design) (q : Dissolving) (is : IsUngroup d q) where
  -- ---- notes

  -- a note afterwards, and where it was
  pub record Was (top : CellId) (note new : Note) : Type 0 where
    pub path : moved_path d q.cell q.site top note.path ≡ Some new.path
    pub property : new.property ≡ note.property

  pub was : (top : CellId) (note new : Note) → moved_note d q.cell q.site top note ≡ Some new → Was top note new
  was top note new e = go (moved_path d q.cell q.site top note.path) refl e
    where
      go : (o : Option (List (List ℕ))) → moved_path d q.cell q.site top note.path ≡ o → option_map (λ path. record note { path = path }) o ≡ Some new → Was top note new
      go None at e = absurd (cc e)
      go (Some m) at e =
          let whole : ◌≡◌ {A = Note} (record note { path = m }) new = cc e in
          record { path = at ∙ ap (λ (v : Note). Some v.path) whole; property = ap (λ (v : Note). v.property) (sym whole) }

  way-now : (c : CellId) (path m : List (List ℕ)) (parts : Moved d q is c path m) → Way (after d q) c parts.moved parts.e
  way-now c path m parts = way_after d q is.stands (is_dissolves d q is.stands (fits-within d q is.stands is.valid)) parts.p c parts.e parts.moved parts.way parts.at

  -- paths that become one were one
  pub one-path : (c : CellId) (a b m : List (List ℕ)) → Resolves d c a → Resolves d c b → moved_path d q.cell q.site c a ≡ Some m → moved_path d q.cell q.site c b ≡ Some m → a ≡ b
  one-path c a b m ra rb ea eb =
      let pa = moved-parts d q is c a m ra ea in
      let pb = moved-parts d q is c b m rb eb in
      let same : pa.moved ≡ pb.moved = one-way (after d q) (apart-after d q is) pa.moved pb.moved c pa.e pb.e (way-now c a m pa) (way-now c b m pb) (pa.now ∙ sym pb.now) in
      let one : pa.p ≡ pb.p = one-image d q is pa.p pb.p c pb.moved (subst (λ v. path_after d q c pa.p ≡ Some v) same pa.at) pb.at in
      sym pa.names ∙ ap (names_along d c) one ∙ pb.names

  has-step : (c : CellId) (path m : List (List ℕ)) → 0 < length path → moved_path d q.cell q.site c path ≡ Some m → 0 < length m
  has-step c [] m h e = absurd (omega (arith, h))
  has-step c (step ∷ steps) [] h e = absurd (nothing c step steps e)
    where
      cases : (b : Bool) (o p : Option (List (List ℕ))) → (o ≡ Some [] → ⊥) → (p ≡ Some [] → ⊥) → cond b o p ≡ Some [] → ⊥
      cases true o p f g e = f e
      cases false o p f g e = g e

      past : (steps : List (List ℕ)) → past_inst q.site steps ≡ Some [] → ⊥
      past [] e = cc e
      past (j ∷ rest) e = cc e

      cons : (step : List ℕ) (o : Option (List (List ℕ))) → option_map (λ rest. step ∷ rest) o ≡ Some [] → ⊥
      cons step None e = cc e
      cons step (Some rest) e = cc e

      nothing : (c : CellId) (step : List ℕ) (steps : List (List ℕ)) → moved_path d q.cell q.site c (step ∷ steps) ≡ Some [] → ⊥
      nothing c step steps e = cases _ (past_inst q.site steps) _ (past steps) (cons step _) e
  has-step c (step ∷ steps) (x ∷ m) h e = omega arith

  good-note : (top : CellId) (note new : Note) → IsTypedNote note → IsNoteBelow d top note → moved_note d q.cell q.site top note ≡ Some new
      → IsTypedNote new × IsNoteBelow (after d q) top new
  good-note top note new typed below e =
      let old = was top note new e in
      let parts = moved-parts d q is top note.path new.path below.resolves old.path in
      let way = way-now top note.path new.path parts in (
        record {
          path = subst (λ v. All IsIdentifier v) parts.now
              (All-member IsIdentifier (names_along (after d q) top parts.moved) (along-typed (after d q) (typed-after d q is) parts.moved top parts.e way));
          property = subst IsTypedProperty (sym old.property) typed.property;
        },
        record {
          has_step = has-step top note.path new.path below.has_step old.path;
          resolves = subst (Resolves (after d q) top) parts.now (way-resolves (after d q) parts.moved top parts.e way);
        },
      )

  good-moved : (top : TopHead) → d.top ≡ Some top → AreGoodNotes (after d q) (Some top) (moved_notes d q.cell q.site top.cell)
  good-moved top at =
      let belows : All (IsNoteBelow d top.cell) d.notes = subst (λ o. IfSome o (λ t. All (IsNoteBelow d t.cell) d.notes)) at is.valid.notes in
      let each : (new : Note) → Member (moved_notes d q.cell q.site top.cell) new → IsTypedNote new × IsNoteBelow (after d q) top.cell new =
      λ new m.
      let found = Member-from_filter_map (moved_note d q.cell q.site top.cell) d.notes new m in
      good-note top.cell found.0 new (member-All IsTypedNote d.notes found.0 is.valid.typed.notes found.1)
      (member-All (IsNoteBelow d top.cell) d.notes found.0 belows found.1) found.2 in
      record {
        typed = All-member IsTypedNote (moved_notes d q.cell q.site top.cell) (λ new m. (each new m).0);
        count = let less = filter_map-count (moved_note d q.cell q.site top.cell) d.notes in omega (arith, less, is.valid.limits.notes);
        below = All-member (IsNoteBelow (after d q) top.cell) (moved_notes d q.cell q.site top.cell) (λ new m. (each new m).1);
        need_top = tt;
        differ = Ascends-pairs (λ a b. a ≢ b) (map note_key (moved_notes d q.cell q.site top.cell))
            (mapped-Ascends note_key (moved_notes d q.cell q.site top.cell)
            (Ascends-filter_map (λ (a b : Note). (note_key a ≢ note_key b) × IsNoteBelow d top.cell a × IsNoteBelow d top.cell b) (λ (v w : Note). note_key v ≢ note_key w) (moved_note d q.cell q.site top.cell)
            (λ a b v w ea eb r same.
            let wa = was top.cell a v ea in
            let wb = was top.cell b w eb in
            let paths : v.path ≡ w.path = ap (λ (k : List (List ℕ) × List ℕ). k.0) same in
            let keys : v.property.key.id ≡ w.property.key.id = ap (λ (k : List (List ℕ) × List ℕ). k.1) same in
            let one = one-path top.cell a.path b.path w.path r.1.resolves r.2.resolves (wa.path ∙ ap (λ p. Some p) paths) wb.path in
            let key : a.property.key.id ≡ b.property.key.id =
            ap (λ (p : Property). p.key.id) (sym wa.property) ∙ keys ∙ ap (λ (p : Property). p.key.id) wb.property in
            r.0 (λ i. (one i, key i)))
            d.notes
            (Ascends-with (λ (a b : Note). note_key a ≢ note_key b) (IsNoteBelow d top.cell) d.notes
            (Ascends-mapped note_key d.notes (AllPairs-ascends (λ a b. a ≢ b) (map note_key d.notes) is.valid.notes_differ))
            (λ note m. member-All (IsNoteBelow d top.cell) d.notes note belows m))));
      }

  notes-kept : d.top ≡ None → (after d q).notes ≡ d.notes
  notes-kept at =
      let none : changed_notes d q.cell q.site ≡ None = ap (option_and_then (λ (top : TopHead). cond (list_any (λ (note : Note). goes_through d q.cell q.site.inst.name.id top.cell note.path) d.notes) (Some (moved_notes d q.cell q.site top.cell)) None)) at in
      ap (λ (o : Option (List Note)). (edited d (inner q.cell (contents_after q.site) ∷ option_to_list (option_map noted o))).notes) none

  good-notes : AreGoodNotes (after d q) d.top (after d q).notes
  good-notes = go d.top refl
    where
      go : (o : Option TopHead) → d.top ≡ o → AreGoodNotes (after d q) o (after d q).notes
      go None at =
          let none : d.notes ≡ [] = subst (λ o. IfNone o (d.notes ≡ [])) at is.valid.notes_need_top in
          let now : (after d q).notes ≡ [] = notes-kept at ∙ none in
          subst (λ v. AreGoodNotes (after d q) None v) (sym now) (record {
            typed = All-member IsTypedNote [] (λ x m. absurd m);
            count = omega arith;
            below = tt;
            need_top = refl;
            differ = λ i j x less within. absurd (omega arith);
          })
      go (Some top) at = subst (λ v. AreGoodNotes (after d q) (Some top) v) (sym (notes_are_moved d q top is at)) (good-moved top at)

  filled-now : edited_once d (inner q.cell (contents_after q.site)) ≡ filled d q.cell (contents_after q.site)
  filled-now =
      let body = around-body d q is in
      inner_filled d q.cell (contents_after q.site) body.0 q.site.around body.1 body.2

  both : after d q ≡ with_both d q.cell (contents_after q.site) (after d q).notes
  both = go (changed_notes d q.cell q.site)
    where
      go : (o : Option (List Note)) → edited d (inner q.cell (contents_after q.site) ∷ option_to_list (option_map noted o))
          ≡ with_both d q.cell (contents_after q.site) (edited d (inner q.cell (contents_after q.site) ∷ option_to_list (option_map noted o))).notes
      go None = filled-now
      go (Some notes) = ap (λ (e : Design). edited_once e (noted notes)) filled-now

  pub valid-after : IsValid (after d q)
  valid-after =
      let body = around-body d q is in
      subst IsValid (sym both)
      (inner_valid d q.cell body.0 (contents_after q.site) (after d q).notes is.valid body.1 (good-contents d q is)
      (subst (λ e. AreGoodNotes e d.top (after d q).notes) both good-notes)
      (subst (λ (e : Design). NoCellIsBelowItself e) both (acyclic-after d q is.stands is.valid.no_cycle)))

pub valid_stays : ValidStays
valid_stays d q is = valid-after d q is
