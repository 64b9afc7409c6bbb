-- What each change of pages leaves.
use Rattle.std.proofs.Common.{◌≡◌, ◌+◌, ◌^◌, ◌-◌, ◌<◌, ◌≤◌, ℕ, zero, suc, arith, List, [], ◌∷◌, ◌++◌, length, take, drop, length-append, length-take, length-drop, length-set, add-one, Some, slice_get, refl, sym, ap, subst, ◌∙◌}
use Rattle.std.specs.Prelude.{slice_set, insert, remove, Result, Ok, Err, OnOk, OnErr}
use Rattle.std.proofs.lemmas.List.{take-set, take-append-drop, take-append-le}
use Rattle.std.proofs.lemmas.List.Edits.{length-insert, length-remove}
use Rattle.std.proofs.lemmas.Option.{slice_get_within}
use Rattle.netlist_pages.proofs.Places.{get_there}
use Rattle.netlist_pages.specs.Pages.{before, ends_from, listed, AreFilled, ArePages, AreReady, IsFilled, IsGap, IsHalved}
use Rattle.netlist_pages.proofs.PageLemmas.{before_all, before_next, filled_remove, joined_pages, remove_listed, remove_take, before_within, insert_last, each_end, filled_at, filled_insert, filled_set, get_inserted, get_set_next, get_set_same, halved_pages, insert_listed, insert_take, listed_pushed, ready}

the_same : {A : Type 0} (x p : A) → Some x ≡ Some p → x ≡ p
the_same x p found = cc

-- what follows from either answer of a call follows
pub on_either : {X E A B P : Type 0} (r : Result X E) → OnOk r A → OnErr r B → (A → P) → (B → P) → P
on_either (Ok x) a b f g = f a
on_either (Err e) a b f g = g b

module _ {T : Type 0} where
  pub set_ready : (pages : List (List T)) (ends : List ℕ) (i : ℕ) (q : List T) → ArePages pages ends → i < length pages → length (listed (slice_set pages i q)) < 2 ^ 64 → AreReady (slice_set pages i q) ends i
  set_ready pages ends i q is within count =
      ready pages (slice_set pages i q) ends ends i is (omega (arith, length-set pages i q, each_end pages ends is)) (omega (arith, length-set pages i q)) (take-set pages i q) refl count

  -- one more item on a page
  pub longer : (pages : List (List T)) (ends : List ℕ) (i at : ℕ) (p : List T) (x : T) → ArePages pages ends → length (listed pages) + 1 < 2 ^ 64 → slice_get pages i ≡ Some p → (at ≤ length p) × (length p < 512)
      → AreReady (slice_set pages i (insert p at x)) ends i × AreFilled (slice_set pages i (insert p at x))
  longer pages ends i at p x is few found room =
      let within : i < length pages = slice_get_within pages i p found in
      let size : length (insert p at x) ≡ length p + 1 = length-insert p at x room.0 in
      let listing = insert_listed pages i at p x found room.0 in
      let most = before_within pages i p found in
      let total : length (listed (slice_set pages i (insert p at x))) ≡ length (listed pages) + 1 = ap length listing ∙ length-insert (listed pages) (before pages i + at) x (omega (arith, most, room.0)) in (
        set_ready pages ends i (insert p at x) is within (omega (arith, total, few)),
        filled_set pages i (insert p at x) within is.filled (record { some = omega (arith, size); few = omega (arith, size, room.1) }),
      )

  -- one more page behind the last
  pub pushed : (pages new : List (List T)) (ends more : List ℕ) (last : ℕ) (page : List T) → ArePages pages ends → IsFilled page → length (listed pages) + length page < 2 ^ 64 → last ≡ length pages → new ≡ insert pages last page → more ≡ ends ++ 0 ∷ []
      → AreReady new more last × AreFilled new × (listed new ≡ listed pages ++ page)
  pushed pages new ends more last page is filled few all made added =
      let behind : new ≡ pages ++ page ∷ [] = made ∙ insert_last pages last page all in
      let listing : listed new ≡ listed pages ++ page = ap listed behind ∙ listed_pushed pages page in
      let total : length (listed new) ≡ length (listed pages) + length page = ap length listing ∙ length-append (listed pages) page in
      let count : length new ≡ length pages + 1 = ap length behind ∙ length-append pages (page ∷ []) in
      let ends_count : length more ≡ length ends + 1 = ap length added ∙ length-append ends (0 ∷ []) in
      let each = each_end pages ends is in
      let front : take last new ≡ take last pages = ap (take last) made ∙ insert_take pages last last page (omega arith) (omega arith) in
      let same : take last more ≡ take last ends = ap (take last) added ∙ take-append-le last ends (0 ∷ []) (omega arith) in (
        ready pages new ends more last is (omega arith) (omega arith) front same (omega (arith, total, few)),
        subst AreFilled (sym made) (filled_insert pages last page is.filled filled),
        listing,
      )

  -- a full page in two halves
  pub halved : (pages mid : List (List T)) (ends more : List ℕ) (i : ℕ) (p front back : List T) → ArePages pages ends → length (listed pages) < 2 ^ 64 → slice_get pages i ≡ Some p → length p ≡ 512
      → front ≡ take 256 p → back ≡ drop 256 p → mid ≡ insert pages (i + 1) back → more ≡ ends ++ 0 ∷ []
      → AreReady (slice_set mid i front) more i × AreFilled (slice_set mid i front) × IsHalved pages (slice_set mid i front) i
  halved pages mid ends more i p front back is few found full first second made added =
      let within : i < length pages = slice_get_within pages i p found in
      let both : p ≡ front ++ back = sym (take-append-drop 256 p) ∙ ap (λ (l : List T). l ++ drop 256 p) (sym first) ∙ ap (λ (l : List T). front ++ l) (sym second) in
      let front_size : length front ≡ 256 = ap length first ∙ omega (arith, length-take 256 p) in
      let back_size : length back ≡ 256 = ap length second ∙ omega (arith, length-drop 256 p) in
      let new = slice_set mid i front in
      let next : mid ≡ insert pages (suc i) back = rw add-one at made in
      let listing : listed new ≡ listed pages = ap (λ (l : List (List T)). listed (slice_set l i front)) next ∙ halved_pages pages i p front back found both in
      let mid_count : length mid ≡ length pages + 1 = ap length made ∙ length-insert pages (i + 1) back (omega arith) in
      let count : length new ≡ length pages + 1 = length-set mid i front ∙ mid_count in
      let ends_count : length more ≡ length ends + 1 = ap length added ∙ length-append ends (0 ∷ []) in
      let each = each_end pages ends is in
      let pages_front : take i new ≡ take i pages = take-set mid i front ∙ ap (take i) made ∙ insert_take pages i (i + 1) back (omega arith) (omega arith) in
      let ends_front : take i more ≡ take i ends = ap (take i) added ∙ take-append-le i ends (0 ∷ []) (omega arith) in
      let mid_filled : AreFilled mid = subst AreFilled (sym made) (filled_insert pages (i + 1) back is.filled (record { some = omega arith; few = omega arith })) in
      let at_front : slice_get new i ≡ Some front = get_set_same mid i front (omega arith) in
      let at_back : slice_get new (suc i) ≡ Some back = get_set_next mid i front ∙ ap (λ (l : List (List T)). slice_get l (suc i)) next ∙ get_inserted pages (suc i) back within in (
        ready pages new ends more i is (omega arith) (omega arith) pages_front ends_front (omega (arith, ap length listing, few)),
        filled_set mid i front (omega arith) mid_filled (record { some = omega arith; few = omega arith }),
        record {
          same = listing;
          start = ap (λ (l : List (List T)). length (listed l)) pages_front;
          there = omega arith;
          front = λ q here. let e : front ≡ q = cc (at_front, here) in sym (ap length e) ∙ front_size;
          back = λ q here. let e : back ≡ q = cc (at_back, rw add-one at here) in sym (ap length e) ∙ back_size;
        },
      )

  -- one item less on a page; a page that it leaves empty is dropped
  pub shorter : (pages mid new : List (List T)) (ends : List ℕ) (i at : ℕ) (p : List T) → ArePages pages ends → length (listed pages) < 2 ^ 64 → slice_get pages i ≡ Some p → at < length p → mid ≡ slice_set pages i (remove p at)
      → listed new ≡ listed mid → take i new ≡ take i mid → (i ≤ length new) × (length new ≤ length mid)
      → AreReady new ends i × (listed new ≡ remove (listed pages) (before pages i + at))
  shorter pages mid new ends i at p is few found within made same front count =
      let there : i < length pages = slice_get_within pages i p found in
      let listing : listed new ≡ remove (listed pages) (before pages i + at) = same ∙ ap listed made ∙ remove_listed pages i at p found within in
      let most = before_within pages i p found in
      let total : length (listed new) + 1 ≡ length (listed pages) = ap (λ (l : List T). length l + 1) listing ∙ length-remove (listed pages) (before pages i + at) (omega (arith, most, within)) in
      let sized : length mid ≡ length pages = ap length made ∙ length-set pages i (remove p at) in
      let each = each_end pages ends is in (
        ready pages new ends ends i is (omega (arith, count.1)) count.0 (front ∙ ap (take i) made ∙ take-set pages i (remove p at)) refl (omega (arith, total, few)),
        listing,
      )

  -- two pages that have become one
  pub joined : (pages new : List (List T)) (ends : List ℕ) (i : ℕ) (p q : List T) → ArePages pages ends → length (listed pages) < 2 ^ 64 → slice_get pages i ≡ Some p → slice_get pages (i + 1) ≡ Some q → length p + length q ≤ 512
      → new ≡ remove (slice_set pages i (p ++ q)) (i + 1)
      → AreReady new ends i × AreFilled new × (listed new ≡ listed pages)
  joined pages new ends i p q is few first second fit made =
      let there : i + 1 < length pages = slice_get_within pages (i + 1) q second in
      let next : new ≡ remove (slice_set pages i (p ++ q)) (suc i) = rw add-one at made in
      let listing : listed new ≡ listed pages = ap listed next ∙ joined_pages pages i p q first (rw add-one at second) in
      let sized = length-set pages i (p ++ q) in
      let count : length new + 1 ≡ length pages = ap (λ (l : List (List T)). length l + 1) made ∙ length-remove (slice_set pages i (p ++ q)) (i + 1) (omega arith) ∙ sized in
      let each = each_end pages ends is in
      let front : take i new ≡ take i pages = ap (take i) made ∙ remove_take (slice_set pages i (p ++ q)) i (i + 1) (omega arith) ∙ take-set pages i (p ++ q) in
      let some = filled_at pages i p is.filled first in
      let both = length-append p q in (
        ready pages new ends ends i is (omega arith) (omega arith) front refl (omega (arith, ap length listing, few)),
        subst AreFilled (sym made) (filled_remove (slice_set pages i (p ++ q)) (i + 1) (filled_set pages i (p ++ q) (omega arith) is.filled (record { some = omega (arith, some.some); few = omega arith }))),
        listing,
      )

  pub gap_within : (pages : List (List T)) (place page at : ℕ) → AreFilled pages → IsGap pages place page at → at ≤ 512
  gap_within pages place page at filled gap =
      let here = get_there pages page gap.there in
      let size = filled_at pages page here.0 filled here.1 in
      omega (arith, gap.within here.0 here.1, size.few)

  pub back_start : (old new : List (List T)) (page : ℕ) → IsHalved old new page → before new (page + 1) ≡ before old page + 256
  back_start old new page is =
      let here = get_there new page (omega (arith, is.there)) in
      rw add-one (omega (arith, before_next new page here.0 here.1, is.front here.0 here.1, is.start))

  -- the gap behind a last page that is full is the end of the row
  pub gap_last : (pages : List (List T)) (place page at : ℕ) → AreFilled pages → IsGap pages place page at → at ≡ 512 → page + 1 ≡ length pages → place ≡ length (listed pages)
  gap_last pages place page at filled gap full last =
      let here = get_there pages page gap.there in
      let size = filled_at pages page here.0 filled here.1 in
      omega (arith, gap.within here.0 here.1, size.few, gap.sum, before_next pages page here.0 here.1, before_all pages (suc page) (omega arith))

  pub same_ends : (start : ℕ) (pages : List (List T)) (i : ℕ) (p q : List T) → slice_get pages i ≡ Some p → length q ≡ length p → ends_from start (slice_set pages i q) ≡ ends_from start pages
  same_ends start [] i p q found size = absurd (cc found)
  same_ends start (x ∷ pages) zero p q found size =
      let same : length q ≡ length x = size ∙ sym (ap length (the_same x p found)) in
      ap (λ (n : ℕ). (start + n) ∷ ends_from (start + n) pages) same
  same_ends start (x ∷ pages) (suc i) p q found size = ap (λ (l : List ℕ). (start + length x) ∷ l) (same_ends (start + length x) pages i p q found size)

  pub same_size : (pages : List (List T)) (ends : List ℕ) (i : ℕ) (p q : List T) → ArePages pages ends → slice_get pages i ≡ Some p → length q ≡ length p → ArePages (slice_set pages i q) ends
  same_size pages ends i p q is found size =
      let was = filled_at pages i p is.filled found in
      record {
        filled = filled_set pages i q (slice_get_within pages i p found) is.filled (record { some = omega (arith, size, was.some); few = omega (arith, size, was.few) });
        sums = is.sums ∙ sym (same_ends 0 pages i p q found size);
      }
