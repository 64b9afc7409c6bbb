-- Texts of parts on their way to a sink.
use Rattle.std.proofs.Common.{◌≡◌, ◌<◌, ◌≤◌, ◌+◌, ◌*◌, ◌-◌, ◌/◌, ℕ, zero, suc, List, [], ◌∷◌, ◌++◌, append-nil, length, get_or, take, drop, refl, sym, ap, subst, ◌∙◌, arith, Option}
use Rattle.std.specs.Prelude.{IfOk, IsOk, OnErr, Result, Ok, Err}
use Rattle.std.proofs.lemmas.Bool.{false≢true}
use Rattle.std.proofs.lemmas.Grind.{flat_map-append}
use Rattle.std.proofs.lemmas.List.{length-append, length-drop, take-append-drop, take_all, take_more}
use Rattle.std.proofs.lemmas.Nat.{le-div}
use Rattle.std.proofs.Math.Nat.{mul-le-mul_right}
use Rattle.std.proofs.Math.Seq.{take-add}
use Rattle.netlist_schema.specs.Design.{Design}
use Rattle.netlist_pages.specs.declared.memory.NoMemory.{NoMemory}
use Rattle.netdb_outside.specs.Outside.{Appends, AppendsFront}
use Rattle.netdb_outside.proofs.Appending.{appends_none, appends_then, front_more, then_front}
use Rattle.flat_spec.specs.Types.{Item}
use Rattle.flat_lines_spec.specs.Lines.{item_line, item_lines}
use Rattle.par_parts.proofs.ListLemmas.{drop_drop}
use Rattle.par_flat.specs.Desks.{AreMade, AreParts, IsMade, text_of}
use Rattle.par_flat.specs.Lines.{IsPart, IsRound}
use Rattle.par_flat.specs.declared.desks.Desk.{Desk}
use Rattle.par_flat.specs.declared.desks.Lines.{Lines}
use Rattle.par_flat.specs.declared.desks.Most.{Most}

-- the lines of the first so many items, and those of so many behind them
pub both_lines : (d : Design) (items : List Item) (n m : ℕ) → item_lines d (take n items) ++ item_lines d (take m (drop n items)) ≡ item_lines d (take (n + m) items)
both_lines d items n m = sym (flat_map-append (item_line d) (take n items) (take m (drop n items))) ∙ ap (item_lines d) (sym (take-add n m items))

-- a front of the lines of the first items is one of all lines
upto_front : (d : Design) (items : List Item) (n : ℕ) (a b : Option (List ℕ)) → AppendsFront a b (item_lines d (take n items)) → AppendsFront a b (item_lines d items)
upto_front d items n a b front =
    let whole : item_lines d (take n items) ++ item_lines d (drop n items) ≡ item_lines d items =
    sym (flat_map-append (item_line d) (take n items) (drop n items)) ∙ ap (item_lines d) (take-append-drop n items) in
    subst (λ v. AppendsFront a b v) whole (front_more a b (item_lines d (take n items)) (item_lines d (drop n items)) front)

-- the text of the first workers is the lines of so many items each
abbrev pub AreTaken : List Lines → Most → ℕ → Type 0
AreTaken all most upto = (d : Design) (items : List Item) → AreParts d items most all → text_of (take upto all) ≡ item_lines d (take (upto * most.items) items)

pub none_taken : (all : List Lines) (most : Most) (n : ℕ) → n ≡ 0 → AreTaken all most n
none_taken all most n is d items are = subst (λ k. text_of (take k all) ≡ item_lines d (take (k * most.items) items)) (sym is) (ap (λ k. item_lines d (take k items)) (none most.items))
  where
    none : (k : ℕ) → 0 ≡ 0 * k
    none k = grind arith

-- what was made, where there was memory for it
found : (made : Result ℕ NoMemory) (count : ℕ) → IsOk made → IfOk made (λ n. count ≡ n) → made ≡ Ok count
found (Err error) count there same = absurd (false≢true there)
found (Ok n) count there same = ap (λ k. Ok k) (sym same)

-- the text of one worker more
text_more : (all : List Lines) (i : ℕ) (lines : Lines) → i < length all → lines ≡ get_or all i lines → text_of (take (i + 1) all) ≡ text_of (take i all) ++ lines.text.items
text_more all i lines within is =
    ap text_of (take_more all i lines within) ∙ flat_map-append (λ (v : Lines). v.text.items) (take i all) (get_or all i lines ∷ [])
    ∙ ap (λ v. text_of (take i all) ++ v) (append-nil (get_or all i lines).text.items ∙ ap (λ (v : Lines). v.text.items) (sym is))

-- the texts of the first workers are written
module _ (all : List Lines) (i : ℕ) (a b c : Option (List ℕ)) where
  pub none_put : i ≡ 0 → a ≡ b → Appends a b (text_of (take i all))
  none_put none same = subst (λ n. Appends a b (text_of (take n all))) (sym none) (subst (λ told. Appends a told []) same (appends_none a))

  pub one_put : (lines : Lines) → i < length all → lines ≡ get_or all i lines → Appends a b (text_of (take i all)) → Appends b c lines.text.items
      → Appends a c (text_of (take (i + 1) all))
  one_put lines within is so_far put =
      subst (λ v. Appends a c v) (sym (text_more all i lines within is)) (appends_then a b c (text_of (take i all)) lines.text.items so_far put)

  -- a front of the next text was written, and so one of all
  pub front_put : (lines : Lines) → i < length all → lines ≡ get_or all i lines → Appends a b (text_of (take i all)) → AppendsFront b c lines.text.items
      → AppendsFront a c (text_of all)
  front_put lines within is so_far front =
      let whole : text_of (take (i + 1) all) ++ text_of (drop (i + 1) all) ≡ text_of all =
      sym (flat_map-append (λ (v : Lines). v.text.items) (take (i + 1) all) (drop (i + 1) all)) ∙ ap text_of (take-append-drop (i + 1) all) in
      subst (λ v. AppendsFront a c v) whole
      (front_more a c (text_of (take (i + 1) all)) (text_of (drop (i + 1) all))
      (subst (λ v. AppendsFront a c v) (sym (text_more all i lines within is)) (then_front a b c (text_of (take i all)) lines.text.items so_far front)))

  pub all_put : length all ≤ i → Appends a b (text_of (take i all)) → Appends a b (text_of all)
  all_put long so_far = subst (λ v. Appends a b (text_of v)) (take_all i all long) so_far

-- what is known of the lines of a worker
module _ (d : Design) (items : List Item) (most : Most) (all : List Lines) (are : AreParts d items most all) (i : ℕ) (within : i < length all) where
  -- they are those of so many items behind those of the workers before it
  here : (lines : Lines) (count : ℕ) → lines ≡ get_or all i lines → lines.made ≡ Ok count → IsPart d (drop (i * most.items) items) most count lines.text.items
  here lines count is made =
      subst (λ (r : Result ℕ NoMemory). IfOk r (λ n. IsPart d (drop (i * most.items) items) most n lines.text.items)) made
      (subst (λ (v : Lines). IsMade d (drop (i * most.items) items) most v) (sym is) (are i lines within))

  -- the text of one worker more is the lines of its items more
  pub one_taken : (lines : Lines) (count : ℕ) → lines ≡ get_or all i lines → lines.made ≡ Ok count → AreTaken all most i
      → text_of (take (i + 1) all) ≡ item_lines d (take (i * most.items + count) items)
  one_taken lines count is made so_far =
      let given = here lines count is made in
      text_more all i lines within is ∙ (λ t. so_far d items are t ++ given.lines t) ∙ both_lines d items (i * most.items) count

  -- a worker that made fewer than it might was at the end of the items, or its text was long enough
  pub stopped_early : (lines : Lines) (count : ℕ) → lines ≡ get_or all i lines → lines.made ≡ Ok count → count < most.items
      → IsRound d items most (length all) (i * most.items + count)
  stopped_early lines count is made early = record { few = below; full = long }
    where
      given : IsPart d (drop (i * most.items) items) most count lines.text.items
      given = here lines count is made

      next : (n k : ℕ) → (n + 1) * k ≡ n * k + k
      next n k = grind arith

      below : i * most.items + count ≤ length all * most.items
      below = let low = mul-le-mul_right {m = i + 1} {n = length all} most.items (omega (arith, within)) in let e = next i most.items in omega (arith, low, e, early)

      long : i * most.items + count < length all * most.items → i * most.items + count < length items
          → most.bytes ≤ length (item_lines d (take (i * most.items + count) items))
      long fewer some =
          let gone : length (drop (i * most.items) items) ≡ length items - i * most.items = length-drop (i * most.items) items in
          let full = given.full early (omega (arith, gone, some)) in
          let text : length lines.text.items ≡ length (item_lines d (take count (drop (i * most.items) items))) = ap length given.lines in
          let both = ap length (sym (both_lines d items (i * most.items) count)) ∙ length-append (item_lines d (take (i * most.items) items)) (item_lines d (take count (drop (i * most.items) items))) in
          omega (arith, full, text, both)

-- a worker whose lines are taken has no more items than it might
pub count_few : (all : List Lines) (i most count : ℕ) (lines : Lines) → lines ≡ get_or all i lines → lines.made ≡ Ok count
    → IfOk (get_or all i lines).made (λ n. n ≤ most) → count ≤ most
count_few all i most count lines is made few =
    subst (λ (r : Result ℕ NoMemory). IfOk r (λ n. n ≤ most)) made (subst (λ (v : Lines). IfOk v.made (λ n. n ≤ most)) (sym is) few)

-- the items of one worker more
pub next_made : (i most count made : ℕ) → made ≡ i * most → count ≤ most → most ≤ count → made + count ≡ (i + 1) * most
next_made i most count made is low high = let e = next i most in omega (arith, is, low, high, e)
  where
    next : (n k : ℕ) → (n + 1) * k ≡ n * k + k
    next n k = grind arith

-- all workers made as many as they might
pub whole_round : (d : Design) (items : List Item) (most : Most) (workers made : ℕ) → made ≡ workers * most.items → IsRound d items most workers made
whole_round d items most workers made is = record { few = omega (arith, is); full = λ fewer some. absurd (omega (arith, fewer, is)) }

-- where an item is left, a round writes one
pub round_goes_on : (d : Design) (items : List Item) (most : Most) (workers made : ℕ) → IsRound d items most workers made → 0 < length items → 0 < workers * most.items
    → 0 < most.bytes → 1 ≤ made
round_goes_on d items most workers zero round some wanted bytes =
    let none : length (item_lines d (take 0 items)) ≡ 0 = refl in
    let full = round.full wanted some in
    absurd (omega (arith, full, none, bytes))
round_goes_on d items most workers (suc made) round some wanted bytes = omega arith

-- the bytes of a worker are some
pub some_bytes : (workers : ℕ) → 1 ≤ workers → workers ≤ 64 → 0 < 16777216 / workers
some_bytes workers one few = let some = le-div 1 16777216 workers (omega (arith, one)) (omega (arith, few)) in omega (arith, some)

-- what was made in a round, where so many items were written before
pub are_made : (d : Design) (items : List Item) (first workers : ℕ) (most : Most) (desks : List Desk) → length desks ≡ workers
    → ((w : ℕ) (desk : Desk) → w < workers → IsMade d (drop (first + w * most.items) items) most (get_or desks w desk).lines) → AreMade d (drop first items) most desks
are_made d items first workers most desks long each w desk within =
    subst (λ (v : List Item). IsMade d v most (get_or desks w desk).lines) (sym (drop_drop first (w * most.items) items)) (each w desk (omega (arith, within, long)))

-- none has more items than it might
pub are_few : (d : Design) (items : List Item) (most : Most) (desks : List Desk) → AreMade d items most desks
    → (w : ℕ) (desk : Desk) → w < length desks → IfOk (get_or desks w desk).lines.made (λ count. count ≤ most.items)
are_few d items most desks are w desk within = go (get_or desks w desk).lines.made (are w desk within)
  where
    go : (made : Result ℕ NoMemory) → IfOk made (λ count. IsPart d (drop (w * most.items) items) most count (get_or desks w desk).lines.text.items) → IfOk made (λ count. count ≤ most.items)
    go (Ok count) is = is.few
    go (Err error) is = tt

-- what was written, and behind it the text that waits, are these lines
pub record IsAhead (old new : Option (List ℕ)) (waiting lines : List ℕ) : Type 0 where
  pub before : List ℕ
  pub written : Appends old new before
  pub whole : before ++ waiting ≡ lines

-- nothing was written, and nothing waits
pub none_ahead : (told : Option (List ℕ)) (waiting : List ℕ) → waiting ≡ [] → IsAhead told told waiting []
none_ahead told waiting is = record { before = []; written = appends_none told; whole = is }

-- the text that waited was written, and that of a round waits
pub ahead_more : (d : Design) (items : List Item) (first made : ℕ) (a b c : Option (List ℕ)) (old new : List ℕ) → IsAhead a b old (item_lines d (take first items))
    → Appends b c old → new ≡ item_lines d (take made (drop first items)) → IsAhead a c new (item_lines d (take (first + made) items))
ahead_more d items first made a b c old new ahead put is = record {
  before = ahead.before ++ old;
  written = appends_then a b c ahead.before old ahead.written put;
  whole = (λ t. ahead.whole t ++ is t) ∙ both_lines d items first made;
}

-- the text that waited was written: so are the lines
pub ahead_put : (a b c : Option (List ℕ)) (waiting lines : List ℕ) → IsAhead a b waiting lines → Appends b c waiting → Appends a c lines
ahead_put a b c waiting lines ahead put = subst (λ v. Appends a c v) ahead.whole (appends_then a b c ahead.before waiting ahead.written put)

-- a front of it was written: so was one of all lines
pub ahead_front : (d : Design) (items : List Item) (first : ℕ) (a b c : Option (List ℕ)) (waiting : List ℕ) → IsAhead a b waiting (item_lines d (take first items))
    → AppendsFront b c waiting → AppendsFront a c (item_lines d items)
ahead_front d items first a b c waiting ahead front =
    upto_front d items first a c (subst (λ v. AppendsFront a c v) ahead.whole (then_front a b c ahead.before waiting ahead.written front))

-- all of the first so many items were taken, where there are no more
pub all_upto : (d : Design) (items : List Item) (n : ℕ) → length items ≤ n → item_lines d (take n items) ≡ item_lines d items
all_upto d items n long = ap (item_lines d) (take_all n items long)

-- what holds, holds after an error
pub on_err : {T E : Type 0} (r : Result T E) (P : Type 0) → P → OnErr r P
on_err (Ok value) P holds = tt
on_err (Err error) P holds = holds
