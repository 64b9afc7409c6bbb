-- Runs of items, one after another.
use Rattle.std.proofs.Common.{◌≡◌, ◌<◌, ◌≤◌, ◌+◌, ◌-◌, ◌*◌, ◌^◌, ◌⊎◌, inl, inr, ℕ, zero, suc, List, [], ◌∷◌, ◌++◌, length, get_or, take, drop, refl, sym, ap, ◌∙◌, arith, append_assoc, append-nil, Bool, true, false, Option, Some, None}
use Rattle.std.specs.Prelude.{IfOk, IsOk, Result, Ok, Err, min, option_map, if◌then◌else◌}
use Rattle.std.specs.List.{All, flat_map}
use Rattle.std.proofs.lemmas.Bool.{cases_lt, false≢true, le-ltb, lt-ltb}
use Rattle.std.proofs.lemmas.Grind.{flat_map-append}
use Rattle.std.proofs.lemmas.List.{take-append-drop}
use Rattle.std.proofs.lemmas.List.Elements.{All-append}
use Rattle.std.proofs.Math.Nat.{min-le_right, mul-le-mul_right}
use Rattle.netlist_pages.specs.declared.memory.NoMemory.{NoMemory}
use Rattle.flat_spec.specs.Types.{Item}
use Rattle.flat_lines_spec.specs.Lines.{shown_items}
use Rattle.par_parts.proofs.ListLemmas.{drop_drop}
use Rattle.par_flat.specs.Parts.{AreJoined, GivesMore, first_of, items_in, part_of, share_of}
use Rattle.par_flat.specs.declared.cut.Cut.{Cut}

-- room for the first item: it, and what is shown of the others
pub one_shown : (room : Option ℕ) (item : Item) (items : List Item) → (room ≡ Some 0 → ⊥) → shown_items room (item ∷ items) ≡ item ∷ shown_items (option_map (λ n. n - 1) room) items
one_shown None item items h = refl
one_shown (Some zero) item items h = absurd (h refl)
one_shown (Some (suc n)) item items h = let less : n ≡ suc n - 1 = omega arith in ap (λ k. item ∷ take k items) less

pub none_shown : (room : Option ℕ) → shown_items room [] ≡ []
none_shown None = refl
none_shown (Some zero) = refl
none_shown (Some (suc n)) = refl

pub full_shown : (room : Option ℕ) (items : List Item) → room ≡ Some 0 → shown_items room items ≡ []
full_shown room items is = ap (λ (r : Option ℕ). shown_items r items) is

-- one item more was given
pub more_given : (room : Option ℕ) (wanted before after old new : List Item) → (room ≡ Some 0 → ⊥) → GivesMore old before new after true
    → before ++ shown_items room old ≡ wanted → after ++ shown_items (option_map (λ n. n - 1) room) new ≡ wanted
more_given room wanted before after old new some given so_far =
    let rest : List Item = shown_items (option_map (λ n. n - 1) room) new in
    ap (λ v. v ++ rest) given.2 ∙ append_assoc before (given.0 ∷ []) rest
    ∙ ap (λ v. before ++ v) (sym (one_shown room given.0 new some) ∙ ap (shown_items room) (sym given.1)) ∙ so_far

-- all were given
pub all_given : (room : Option ℕ) (wanted before after old new : List Item) → GivesMore old before new after false → before ++ shown_items room old ≡ wanted → after ≡ wanted
all_given room wanted before after old new given so_far =
    given.1 ∙ sym (append-nil before) ∙ ap (λ v. before ++ v) (sym (none_shown room) ∙ ap (shown_items room) (sym given.0)) ∙ so_far

-- where there is no room all were given too
pub full_given : (room : Option ℕ) (wanted before old : List Item) → room ≡ Some 0 → before ++ shown_items room old ≡ wanted → before ≡ wanted
full_given room wanted before old full so_far = sym (append-nil before) ∙ ap (λ v. before ++ v) (sym (full_shown room old full)) ∙ so_far

pub fewer_left : (before after old new : List Item) → GivesMore old before new after true → length new < length old
fewer_left before after old new given = let e = ap length given.1 in omega (arith, e)

-- the items before those of a worker have a number of 64 bits
pub first_fits : (cut : Cut) (worker : ℕ) → worker < cut.workers → cut.workers * cut.share + cut.more < 2 ^ 64 → first_of cut worker < 2 ^ 64
first_fits cut worker one fits =
    let low = mul-le-mul_right {m = worker} {n = cut.workers} cut.share (omega arith) in let few = min-le_right worker cut.more in omega (arith, low, few, fits)

-- the items before those of the next worker
next_first : (cut : Cut) (worker : ℕ) → first_of cut (worker + 1) ≡ first_of cut worker + share_of cut worker
next_first cut worker = go (cases_lt worker cut.more)
  where
    next : (n k : ℕ) → (n + 1) * k ≡ n * k + k
    next n k = grind arith

    go : (worker < cut.more) ⊎ (cut.more ≤ worker) → first_of cut (worker + 1) ≡ first_of cut worker + share_of cut worker
    go (inl less) =
        let share : share_of cut worker ≡ cut.share + 1 = ap (λ (b : Bool). if b then cut.share + 1 else cut.share) (lt-ltb worker cut.more less) in
        let late : min (worker + 1) cut.more ≡ worker + 1 = omega (arith, less) in
        let early : min worker cut.more ≡ worker = omega (arith, less) in
        let e = next worker cut.share in
        omega (arith, share, late, early, e)
    go (inr more) =
        let share : share_of cut worker ≡ cut.share = ap (λ (b : Bool). if b then cut.share + 1 else cut.share) (le-ltb worker cut.more more) in
        let late : min (worker + 1) cut.more ≡ cut.more = omega (arith, more) in
        let early : min worker cut.more ≡ cut.more = omega (arith, more) in
        let e = next worker cut.share in
        omega (arith, share, late, early, e)

-- the parts of all workers but the last, and that of the last
early_part : (items : List Item) (cut : Cut) (worker : ℕ) → worker + 1 < cut.workers → part_of items cut worker ≡ take (share_of cut worker) (drop (first_of cut worker) items)
early_part items cut worker early =
    ap (λ (b : Bool). shown_items (if b then Some (share_of cut worker) else None) (drop (first_of cut worker) items)) (lt-ltb (worker + 1) cut.workers early)

last_part : (items : List Item) (cut : Cut) (worker : ℕ) → cut.workers ≤ worker + 1 → part_of items cut worker ≡ drop (first_of cut worker) items
last_part items cut worker last =
    ap (λ (b : Bool). shown_items (if b then Some (share_of cut worker) else None) (drop (first_of cut worker) items)) (le-ltb (worker + 1) cut.workers last)

-- a part, and what is behind it
part_then : (items : List Item) (cut : Cut) (worker : ℕ) → worker + 1 < cut.workers → part_of items cut worker ++ drop (first_of cut (worker + 1)) items ≡ drop (first_of cut worker) items
part_then items cut worker early =
    let behind : drop (first_of cut (worker + 1)) items ≡ drop (share_of cut worker) (drop (first_of cut worker) items) =
    ap (λ n. drop n items) (next_first cut worker) ∙ sym (drop_drop (first_of cut worker) (share_of cut worker) items) in
    (λ t. early_part items cut worker early t ++ behind t) ∙ take-append-drop (share_of cut worker) (drop (first_of cut worker) items)

-- the parts of the workers from one on are the items from its first one on
parts_from : (items : List Item) (cut : Cut) (at : ℕ) (parts : List (Result (List Item) NoMemory)) → 0 < length parts → at + length parts ≡ cut.workers
    → ((k : ℕ) (r : Result (List Item) NoMemory) → k < length parts → items_in (get_or parts k r) ≡ part_of items cut (at + k))
    → flat_map items_in parts ≡ drop (first_of cut at) items
parts_from items cut at [] some long each = absurd (omega arith)
parts_from items cut at (part ∷ []) some long each =
    let e : at + 0 ≡ at = omega arith in
    append-nil (items_in part) ∙ each 0 part (omega arith) ∙ ap (part_of items cut) e ∙ last_part items cut at (omega (arith, long))
parts_from items cut at (part ∷ next ∷ parts) some long each =
    let e : at + 0 ≡ at = omega arith in
    let here : items_in part ≡ part_of items cut at = each 0 part (omega arith) ∙ ap (part_of items cut) e in
    let rest = parts_from items cut (at + 1) (next ∷ parts) (omega arith) (omega (arith, long))
    (λ k r less. let f : at + suc k ≡ at + 1 + k = omega arith in each (suc k) r (omega (arith, less)) ∙ ap (part_of items cut) f) in
    (λ t. here t ++ rest t) ∙ part_then items cut at (omega (arith, long))

-- a part for which there was memory is the one that is wanted
in_part : (r : Result (List Item) NoMemory) (wanted : List Item) → IsOk r → IfOk r (λ part. part ≡ wanted) → items_in r ≡ wanted
in_part (Ok part) wanted there is = is
in_part (Err error) wanted there is = absurd (false≢true there)

-- the parts of all workers are the items
pub all_parts : (items : List Item) (cut : Cut) (parts : List (Result (List Item) NoMemory)) → 1 ≤ cut.workers → length parts ≡ cut.workers → All IsOk parts
    → ((w : ℕ) (r : Result (List Item) NoMemory) → w < cut.workers → IfOk (get_or parts w r) (λ part. part ≡ part_of items cut w)) → flat_map items_in parts ≡ items
all_parts items cut parts some long there each =
    parts_from items cut 0 parts (omega (arith, some, long)) (omega (arith, long))
    (λ k r less.
    let e : k ≡ 0 + k = omega arith in
    in_part (get_or parts k r) (part_of items cut k) (there k r less) (each k r (omega (arith, less, long))) ∙ ap (part_of items cut) e)
    ∙ ap (λ n. drop n items) none
  where
    nothing : (k : ℕ) → 0 * k ≡ 0
    nothing k = grind arith

    none : first_of cut 0 ≡ 0
    none = let e = nothing cut.share in let low : min 0 cut.more ≡ 0 = omega arith in omega (arith, e, low)

-- one part more
pub joined_more : (parts : List (Result (List Item) NoMemory)) (part : Result (List Item) NoMemory) (all more : List Item) → AreJoined parts all → IsOk part
    → more ≡ all ++ items_in part → AreJoined (parts ++ part ∷ []) more
joined_more parts part all more are there is = record {
  there = All-append IsOk parts (part ∷ []) are.there (λ k r within. only k r within);
  items =
      is ∙ ap (λ v. v ++ items_in part) are.items ∙ ap (λ v. flat_map items_in parts ++ v) (sym (append-nil (items_in part)))
      ∙ sym (flat_map-append items_in parts (part ∷ []));
}
  where
    only : (k : ℕ) (r : Result (List Item) NoMemory) → k < length (part ∷ []) → IsOk (get_or (part ∷ []) k r)
    only zero r within = there
    only (suc k) r within = absurd (omega arith)
