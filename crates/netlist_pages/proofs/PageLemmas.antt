-- Pages and their ends.
use Rattle.std.proofs.Common.{◌≡◌, ◌+◌, ◌^◌, ◌-◌, ◌<◌, ◌≤◌, ℕ, zero, suc, arith, List, [], ◌∷◌, ◌++◌, length, take, drop, get_or, length-append, length-take, length-set, append_assoc, add-one, Some, slice_get, refl, sym, ap, subst, ◌∙◌}
use Rattle.std.specs.Prelude.{slice_set, insert, remove}
use Rattle.std.proofs.lemmas.List.{append-nil, take_all, get_or-take, take-set, take_more_same, get_or-set_same, set_split, set-append_left, set-append_right}
use Rattle.std.proofs.lemmas.Option.{slice_get_read, slice_get_within}
use Rattle.std.proofs.lemmas.List.Edits.{insert-append_left, insert-append_right, remove-append_left, remove-append_right}
use Rattle.netlist_pages.proofs.Places.{get_front, get_behind}
use Rattle.netlist_pages.specs.Pages.{before, ends_from, listed, AreFilled, ArePages, AreReady, IsFilled, IsGap, IsPageOf, IsSpot}

pub insert_last : {A : Type 0} (xs : List A) (n : ℕ) (x : A) → n ≡ length xs → insert xs n x ≡ xs ++ x ∷ []
insert_last [] zero x all = refl
insert_last [] (suc n) x all = refl
insert_last (y ∷ xs) zero x all = absurd (omega arith)
insert_last {A} (y ∷ xs) (suc n) x all = ap (λ (l : List A). y ∷ l) (insert_last xs n x (omega arith))

module _ {T : Type 0} where
  pub listed_joined : (xs ys : List (List T)) → listed (xs ++ ys) ≡ listed xs ++ listed ys
  listed_joined [] ys = refl
  listed_joined (x ∷ xs) ys = ap (λ (l : List T). x ++ l) (listed_joined xs ys) ∙ sym (append_assoc x (listed xs) (listed ys))

  pub listed_pushed : (xs : List (List T)) (x : List T) → listed (xs ++ x ∷ []) ≡ listed xs ++ x
  listed_pushed xs x = listed_joined xs (x ∷ []) ∙ ap (λ (l : List T). listed xs ++ l) (append-nil x)

  -- ---- how many items stand before a page

  pub before_next : (pages : List (List T)) (i : ℕ) (page : List T) → slice_get pages i ≡ Some page → before pages (suc i) ≡ before pages i + length page
  before_next [] i page found = absurd (cc found)
  before_next (p ∷ pages) zero page found =
      let same : p ≡ page = cc found in
      rw same (omega (arith, ap length (append-nil page)))
  before_next (p ∷ pages) (suc i) page found =
      omega (arith, before_next pages i page found, length-append p (listed (take (suc i) pages)), length-append p (listed (take i pages)))

  pub before_le : (pages : List (List T)) (i : ℕ) → before pages i ≤ length (listed pages)
  before_le [] zero = omega arith
  before_le [] (suc i) = omega arith
  before_le (p ∷ pages) zero = omega arith
  before_le (p ∷ pages) (suc i) = omega (arith, before_le pages i, length-append p (listed (take i pages)), length-append p (listed pages))

  pub before_all : (pages : List (List T)) (n : ℕ) → length pages ≤ n → before pages n ≡ length (listed pages)
  before_all pages n all = ap (λ (ps : List (List T)). length (listed ps)) (take_all n pages all)

  -- ---- ends

  pub length_ends : (start : ℕ) (pages : List (List T)) → length (ends_from start pages) ≡ length pages
  length_ends start [] = refl
  length_ends start (p ∷ pages) = ap suc (length_ends (start + length p) pages)

  pub end_at : (start : ℕ) (pages : List (List T)) (i d : ℕ) → i < length pages → get_or (ends_from start pages) i d ≡ start + before pages (suc i)
  end_at start [] i d within = absurd (omega arith)
  end_at start (p ∷ pages) zero d within = ap (λ (n : ℕ). start + n) (sym (ap length (append-nil p)))
  end_at start (p ∷ pages) (suc i) d within = omega (arith, end_at (start + length p) pages i d (omega arith), length-append p (listed (take (suc i) pages)))

  pub end_is : (pages : List (List T)) (ends : List ℕ) (i : ℕ) → ends ≡ ends_from 0 pages → i < length pages → get_or ends i 0 ≡ before pages (i + 1)
  end_is pages ends i sums within = rw (sums, add-one) (omega (arith, end_at 0 pages i 0 within))

  pub start_within : (pages : List (List T)) (ends : List ℕ) (page : ℕ) → page ≤ length pages → take page ends ≡ take page (ends_from 0 pages) → page ≤ length ends
  start_within pages ends page there sums = omega (arith, length-take page ends, length-take page (ends_from 0 pages), length_ends 0 pages, ap length sums)

  pub start_is : (pages : List (List T)) (ends : List ℕ) (page : ℕ) → 0 < page → page ≤ length pages → take page ends ≡ take page (ends_from 0 pages) → get_or ends (page - 1) 0 ≡ before pages page
  start_is pages ends zero some there sums = absurd (omega arith)
  start_is pages ends (suc i) some there sums =
      let back : suc i - 1 ≡ i = omega arith in
      rw back (sym (get_or-take (suc i) ends i 0 (omega arith)) ∙ ap (λ (l : List ℕ). get_or l i 0) sums ∙ get_or-take (suc i) (ends_from 0 pages) i 0 (omega arith) ∙ omega (arith, end_at 0 pages i 0 there))

  pub before_read : (pages : List (List T)) (i : ℕ) (page : List T) → i < length pages → page ≡ get_or pages i page → before pages (i + 1) ≡ before pages i + length page
  before_read pages i page within is = rw add-one (before_next pages i page (slice_get_read pages (length pages) i page refl within is))

  -- one more end is counted anew
  pub mended : (pages : List (List T)) (ends : List ℕ) (i e : ℕ) (page : List T) → i < length pages → length ends ≡ length pages → page ≡ get_or pages i page → take i ends ≡ take i (ends_from 0 pages) → e ≡ before pages i + length page
      → take (i + 1) (slice_set ends i e) ≡ take (i + 1) (ends_from 0 pages)
  mended pages ends i e page within each is front sum =
      let there : get_or (slice_set ends i e) i 0 ≡ e = get_or-set_same ends i e 0 (omega arith) in
      take_more_same (slice_set ends i e) (ends_from 0 pages) i 0 (omega (arith, length-set ends i e)) (omega (arith, length_ends 0 pages))
      (take-set ends i e ∙ front) (there ∙ sum ∙ sym (before_read pages i page within is) ∙ sym (end_is pages (ends_from 0 pages) i refl within))

  pub spot_here : (pages : List (List T)) (place page : ℕ) → IsPageOf pages place page → page < length pages → IsSpot pages place page (place - before pages page)
  spot_here pages place page is there =
      record {
        there = there;
        sum = omega (arith, is.behind);
        within = λ p found. let next : before pages (page + 1) ≡ before pages page + length p = rw add-one (before_next pages page p found) in omega (arith, is.behind, is.inside there, next);
      }

  pub past_all : (pages : List (List T)) (place page : ℕ) → IsPageOf pages place page → length pages ≤ page → length (listed pages) ≤ place
  past_all pages place page is past = omega (arith, is.behind, before_all pages page past)

  pub gap_behind : (pages : List (List T)) (place page at : ℕ) → 0 < place → IsSpot pages (place - 1) page at → IsGap pages place page (at + 1)
  gap_behind pages place page at some is = record { there = is.there; sum = omega (arith, is.sum); within = λ p found. omega (arith, is.within p found) }

  -- ---- one page among the others

  pub insert_take : (xs : List (List T)) (i n : ℕ) (x : List T) → i ≤ n → n ≤ length xs → take i (insert xs n x) ≡ take i xs
  insert_take xs zero n x low high = refl
  insert_take [] (suc i) n x low high = absurd (omega arith)
  insert_take (y ∷ xs) (suc i) zero x low high = absurd (omega arith)
  insert_take (y ∷ xs) (suc i) (suc n) x low high = ap (λ (l : List (List T)). y ∷ l) (insert_take xs i n x (omega arith) (omega arith))

  pub remove_take : (xs : List (List T)) (i n : ℕ) → i ≤ n → take i (remove xs n) ≡ take i xs
  remove_take xs zero n low = refl
  remove_take [] (suc i) zero low = refl
  remove_take [] (suc i) (suc n) low = refl
  remove_take (y ∷ xs) (suc i) zero low = absurd (omega arith)
  remove_take (y ∷ xs) (suc i) (suc n) low = ap (λ (l : List (List T)). y ∷ l) (remove_take xs i n (omega arith))

  pub ends_take : (start : ℕ) (pages : List (List T)) (i : ℕ) → take i (ends_from start pages) ≡ ends_from start (take i pages)
  ends_take start [] zero = refl
  ends_take start [] (suc i) = refl
  ends_take start (p ∷ pages) zero = refl
  ends_take start (p ∷ pages) (suc i) = ap (λ (l : List ℕ). (start + length p) ∷ l) (ends_take (start + length p) pages i)

  -- the ends before a page stay right where the pages before it stay
  pub front_stays : (old new : List (List T)) (ends more : List ℕ) (i : ℕ) → ends ≡ ends_from 0 old → take i new ≡ take i old → take i more ≡ take i ends → take i more ≡ take i (ends_from 0 new)
  front_stays old new ends more i sums pages same =
      same ∙ ap (take i) sums ∙ ends_take 0 old i ∙ ap (ends_from 0) (sym pages) ∙ sym (ends_take 0 new i)

  pub listed_cut : (pages : List (List T)) (i : ℕ) (p : List T) → slice_get pages i ≡ Some p → listed pages ≡ listed (take i pages) ++ (p ++ listed (drop (suc i) pages))
  listed_cut [] i p found = absurd (cc found)
  listed_cut (q ∷ pages) zero p found = let same : q ≡ p = cc found in ap (λ (l : List T). l ++ listed pages) same
  listed_cut (q ∷ pages) (suc i) p found =
      ap (λ (l : List T). q ++ l) (listed_cut pages i p found) ∙ sym (append_assoc q (listed (take i pages)) (p ++ listed (drop (suc i) pages)))

  pub listed_set : (pages : List (List T)) (i : ℕ) (p : List T) → i < length pages → listed (slice_set pages i p) ≡ listed (take i pages) ++ (p ++ listed (drop (suc i) pages))
  listed_set pages i p within = ap listed (set_split pages i p within) ∙ listed_joined (take i pages) (p ∷ drop (suc i) pages)

  -- an edit of a page is that edit of the row
  pub put_listed : (pages : List (List T)) (i at : ℕ) (p : List T) (x : T) → slice_get pages i ≡ Some p → at < length p → listed (slice_set pages i (slice_set p at x)) ≡ slice_set (listed pages) (before pages i + at) x
  put_listed pages i at p x found within =
      let front = listed (take i pages) in
      let rest = listed (drop (suc i) pages) in
      let place : (length front + at) - length front ≡ at = omega arith in
      listed_set pages i (slice_set p at x) (slice_get_within pages i p found)
      ∙ ap (λ (l : List T). front ++ l) (sym (set-append_left p rest at x within) ∙ ap (λ (n : ℕ). slice_set (p ++ rest) n x) (sym place))
      ∙ sym (set-append_right front (p ++ rest) (length front) (length front + at) x refl (omega arith))
      ∙ ap (λ (l : List T). slice_set l (length front + at) x) (sym (listed_cut pages i p found))

  pub insert_listed : (pages : List (List T)) (i at : ℕ) (p : List T) (x : T) → slice_get pages i ≡ Some p → at ≤ length p → listed (slice_set pages i (insert p at x)) ≡ insert (listed pages) (before pages i + at) x
  insert_listed pages i at p x found within =
      let front = listed (take i pages) in
      let rest = listed (drop (suc i) pages) in
      let place : (length front + at) - length front ≡ at = omega arith in
      listed_set pages i (insert p at x) (slice_get_within pages i p found)
      ∙ ap (λ (l : List T). front ++ l) (sym (insert-append_left p rest at x within) ∙ ap (λ (n : ℕ). insert (p ++ rest) n x) (sym place))
      ∙ sym (insert-append_right front (p ++ rest) (length front) (length front + at) x refl (omega arith))
      ∙ ap (λ (l : List T). insert l (length front + at) x) (sym (listed_cut pages i p found))

  pub remove_listed : (pages : List (List T)) (i at : ℕ) (p : List T) → slice_get pages i ≡ Some p → at < length p → listed (slice_set pages i (remove p at)) ≡ remove (listed pages) (before pages i + at)
  remove_listed pages i at p found within =
      let front = listed (take i pages) in
      let rest = listed (drop (suc i) pages) in
      let place : (length front + at) - length front ≡ at = omega arith in
      listed_set pages i (remove p at) (slice_get_within pages i p found)
      ∙ ap (λ (l : List T). front ++ l) (sym (remove-append_left p rest at within) ∙ ap (λ (n : ℕ). remove (p ++ rest) n) (sym place))
      ∙ sym (remove-append_right front (p ++ rest) (length front) (length front + at) refl (omega arith))
      ∙ ap (λ (l : List T). remove l (length front + at)) (sym (listed_cut pages i p found))

  pub get_listed : (pages : List (List T)) (i at : ℕ) (p : List T) → slice_get pages i ≡ Some p → at < length p → slice_get (listed pages) (before pages i + at) ≡ slice_get p at
  get_listed pages i at p found within =
      let front = listed (take i pages) in
      let rest = listed (drop (suc i) pages) in
      ap (λ (l : List T). slice_get l (length front + at)) (listed_cut pages i p found) ∙ get_behind front (p ++ rest) at ∙ get_front p rest at within

  pub listed_removed : (pages : List (List T)) (i : ℕ) (p : List T) → slice_get pages i ≡ Some p → length p ≡ 0 → listed (remove pages i) ≡ listed pages
  listed_removed pages i [] found none = listed_joined (take i pages) (drop (suc i) pages) ∙ sym (listed_cut pages i [] found)
  listed_removed pages i (x ∷ p) found none = absurd (omega arith)

  -- ---- the size of each page

  pub filled_joined : (xs ys : List (List T)) → AreFilled xs → AreFilled ys → AreFilled (xs ++ ys)
  filled_joined [] ys a b = b
  filled_joined (x ∷ xs) ys a b = (a.0, filled_joined xs ys a.1 b)

  pub filled_take : (xs : List (List T)) (i : ℕ) → AreFilled xs → AreFilled (take i xs)
  filled_take [] zero a = tt
  filled_take [] (suc i) a = tt
  filled_take (x ∷ xs) zero a = tt
  filled_take (x ∷ xs) (suc i) a = (a.0, filled_take xs i a.1)

  pub filled_drop : (xs : List (List T)) (i : ℕ) → AreFilled xs → AreFilled (drop i xs)
  filled_drop [] zero a = tt
  filled_drop [] (suc i) a = tt
  filled_drop (x ∷ xs) zero a = a
  filled_drop (x ∷ xs) (suc i) a = filled_drop xs i a.1

  pub filled_at : (xs : List (List T)) (i : ℕ) (p : List T) → AreFilled xs → slice_get xs i ≡ Some p → IsFilled p
  filled_at [] i p a found = absurd (cc found)
  filled_at (x ∷ xs) zero p a found = let same : x ≡ p = cc found in subst IsFilled same a.0
  filled_at (x ∷ xs) (suc i) p a found = filled_at xs i p a.1 found

  pub filled_set : (xs : List (List T)) (i : ℕ) (p : List T) → i < length xs → AreFilled xs → IsFilled p → AreFilled (slice_set xs i p)
  filled_set xs i p within a f = subst AreFilled (sym (set_split xs i p within)) (filled_joined (take i xs) (p ∷ drop (suc i) xs) (filled_take xs i a) (f, filled_drop xs (suc i) a))

  pub filled_insert : (xs : List (List T)) (i : ℕ) (p : List T) → AreFilled xs → IsFilled p → AreFilled (insert xs i p)
  filled_insert xs i p a f = filled_joined (take i xs) (p ∷ drop i xs) (filled_take xs i a) (f, filled_drop xs i a)

  pub filled_remove : (xs : List (List T)) (i : ℕ) → AreFilled xs → AreFilled (remove xs i)
  filled_remove xs i a = filled_joined (take i xs) (drop (suc i) xs) (filled_take xs i a) (filled_drop xs (suc i) a)

  pub ready : (old new : List (List T)) (ends more : List ℕ) (i : ℕ) → ArePages old ends → length new ≤ length more → i ≤ length new → take i new ≡ take i old → take i more ≡ take i ends → length (listed new) < 2 ^ 64 → AreReady new more i
  ready old new ends more i pages each there front same count =
      record { each = each; there = there; front = front_stays old new ends more i pages.sums front same; count = count }

  pub each_end : (pages : List (List T)) (ends : List ℕ) → ArePages pages ends → length ends ≡ length pages
  each_end pages ends is = ap length is.sums ∙ length_ends 0 pages

  pub pages_of : (pages : List (List T)) (ends : List ℕ) → AreFilled pages → ends ≡ ends_from 0 pages → ArePages pages ends
  pages_of pages ends filled sums = record { filled = filled; sums = sums }

  pub filled_back : (xs : List (List T)) (i : ℕ) (p : List T) → slice_get xs i ≡ Some p → IsFilled p → AreFilled (remove xs i) → AreFilled xs
  filled_back [] i p found f a = absurd (cc found)
  filled_back (x ∷ xs) zero p found f a = let same : x ≡ p = cc found in (subst IsFilled (sym same) f, a)
  filled_back (x ∷ xs) (suc i) p found f a = (a.0, filled_back xs i p found f a.1)

  pub remove_set : (xs : List (List T)) (i : ℕ) (q : List T) → remove (slice_set xs i q) i ≡ remove xs i
  remove_set [] zero q = refl
  remove_set [] (suc i) q = refl
  remove_set (x ∷ xs) zero q = refl
  remove_set (x ∷ xs) (suc i) q = ap (λ (l : List (List T)). x ∷ l) (remove_set xs i q)

  -- two pages that have become one
  pub joined_pages : (pages : List (List T)) (i : ℕ) (p q : List T) → slice_get pages i ≡ Some p → slice_get pages (suc i) ≡ Some q → listed (remove (slice_set pages i (p ++ q)) (suc i)) ≡ listed pages
  joined_pages [] i p q first second = absurd (cc first)
  joined_pages (x ∷ []) zero p q first second = absurd (cc second)
  joined_pages (x ∷ y ∷ pages) zero p q first second =
      let same : x ≡ p = cc first in
      let next : y ≡ q = cc second in
      append_assoc p q (listed pages) ∙ ap (λ (l : List T). l ++ (q ++ listed pages)) (sym same) ∙ ap (λ (l : List T). x ++ (l ++ listed pages)) (sym next)
  joined_pages (x ∷ pages) (suc i) p q first second = ap (λ (l : List T). x ++ l) (joined_pages pages i p q first second)

  pub get_kept : (xs : List (List T)) (i n : ℕ) (x : List T) → i < n → n ≤ length xs → slice_get (insert xs n x) i ≡ slice_get xs i
  get_kept [] i n x low high = absurd (omega arith)
  get_kept (y ∷ xs) i zero x low high = absurd (omega arith)
  get_kept (y ∷ xs) zero (suc n) x low high = refl
  get_kept (y ∷ xs) (suc i) (suc n) x low high = get_kept xs i n x (omega arith) (omega arith)

  pub get_inserted : (xs : List (List T)) (n : ℕ) (x : List T) → n ≤ length xs → slice_get (insert xs n x) n ≡ Some x
  get_inserted xs zero x high = refl
  get_inserted [] (suc n) x high = absurd (omega arith)
  get_inserted (y ∷ xs) (suc n) x high = get_inserted xs n x (omega arith)

  pub get_set_same : (xs : List (List T)) (i : ℕ) (x : List T) → i < length xs → slice_get (slice_set xs i x) i ≡ Some x
  get_set_same [] i x within = absurd (omega arith)
  get_set_same (y ∷ xs) zero x within = refl
  get_set_same (y ∷ xs) (suc i) x within = get_set_same xs i x (omega arith)

  pub get_set_next : (xs : List (List T)) (i : ℕ) (x : List T) → slice_get (slice_set xs i x) (suc i) ≡ slice_get xs (suc i)
  get_set_next [] i x = refl
  get_set_next (y ∷ xs) zero x = refl
  get_set_next (y ∷ xs) (suc i) x = get_set_next xs i x

  -- a page that has become two
  pub halved_pages : (pages : List (List T)) (i : ℕ) (p front back : List T) → slice_get pages i ≡ Some p → p ≡ front ++ back → listed (slice_set (insert pages (suc i) back) i front) ≡ listed pages
  halved_pages [] i p front back found both = absurd (cc found)
  halved_pages (x ∷ pages) zero p front back found both =
      let same : x ≡ p = cc found in
      sym (append_assoc front back (listed pages)) ∙ ap (λ (l : List T). l ++ listed pages) (sym both ∙ sym same)
  halved_pages (x ∷ pages) (suc i) p front back found both = ap (λ (l : List T). x ++ l) (halved_pages pages i p front back found both)

  pub before_within : (pages : List (List T)) (i : ℕ) (p : List T) → slice_get pages i ≡ Some p → before pages i + length p ≤ length (listed pages)
  before_within pages i p found = omega (arith, before_next pages i p found, before_le pages (suc i))
