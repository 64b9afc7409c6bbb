-- Lines of items, one after another.
use Rattle.std.proofs.Common.{◌≡◌, ◌<◌, ◌≤◌, ◌+◌, ◌⊎◌, inl, inr, ℕ, zero, suc, List, [], ◌∷◌, ◌++◌, length, take, drop, refl, sym, ap, subst, ◌∙◌, arith, append-nil, true, false}
use Rattle.std.proofs.lemmas.Grind.{flat_map-append}
use Rattle.std.proofs.Math.Nat.{eq-or-lt_of_le}
use Rattle.par_parts.proofs.ListLemmas.{drop_none}
use Rattle.netlist_schema.specs.Design.{Design}
use Rattle.flat_spec.specs.Types.{Item}
use Rattle.flat_lines_spec.specs.Lines.{item_line, item_lines}
use Rattle.par_flat.specs.Lines.{GivesLine, IsPart}
use Rattle.par_flat.specs.declared.desks.Most.{Most}

-- what is behind so many items, where one is left
pub record IsBehind (all : List Item) (n : ℕ) (item : Item) (rest : List Item) : Type 0 where
  pub within : n < length all
  pub front : take (n + 1) all ≡ take n all ++ item ∷ []
  pub behind : drop (n + 1) all ≡ rest

is_behind : (all : List Item) (n : ℕ) (item : Item) (rest : List Item) → drop n all ≡ item ∷ rest → IsBehind all n item rest
is_behind [] n item rest is = let e = ap length (sym (drop_none n) ∙ is) in absurd (omega (arith, e))
is_behind (x ∷ all) zero item rest is =
    record { within = omega arith; front = ap (λ v. v ++ []) (ap (take 1) is); behind = ap (drop 1) is }
is_behind (x ∷ all) (suc n) item rest is =
    let below = is_behind all n item rest is in
    let e : suc n + 1 ≡ suc (n + 1) = omega arith in
    record {
      within = (let low = below.within in omega (arith, low));
      front = ap (λ k. take k (x ∷ all)) e ∙ ap (λ v. x ∷ v) below.front;
      behind = ap (λ k. drop k (x ∷ all)) e ∙ below.behind;
    }

none_behind : (all : List Item) (n : ℕ) → drop n all ≡ [] → length all ≤ n
none_behind [] n is = omega arith
none_behind (x ∷ all) zero is = let e = ap length is in absurd (omega (arith, e))
none_behind (x ∷ all) (suc n) is = let low = none_behind all n is in omega (arith, low)

-- the lines of so many items stand there, and what is behind those is left
pub record AreMade (d : Design) (all : List Item) (most : Most) (count : ℕ) (text : List ℕ) (left : List Item) : Type 0 where
  pub few : count ≤ most.items
  pub lines : text ≡ item_lines d (take count all)
  pub bounded : (fewer : ℕ) → fewer < count → length (item_lines d (take fewer all)) < most.bytes
  pub left_is : left ≡ drop count all

pub none_made : (d : Design) (all : List Item) (most : Most) (text : List ℕ) → text ≡ [] → AreMade d all most 0 text all
none_made d all most text empty = record { few = omega arith; lines = empty; bounded = λ fewer below. absurd (omega (arith, below)); left_is = refl }

-- one line more
pub one_made : (d : Design) (all : List Item) (most : Most) (count : ℕ) (before after : List ℕ) (old new : List Item) → AreMade d all most count before old
    → count < most.items → length before < most.bytes → GivesLine d old before new after true → AreMade d all most (count + 1) after new
one_made d all most count before after old new made room fits given = record {
  few = omega (arith, room);
  lines =
      given.2 ∙ ap (λ v. v ++ item_line d given.0) made.lines ∙ ap (λ v. item_lines d (take count all) ++ v) (sym (append-nil (item_line d given.0)))
      ∙ sym (flat_map-append (item_line d) (take count all) (given.0 ∷ [])) ∙ ap (item_lines d) (sym here.front);
  bounded = upto;
  left_is = sym here.behind;
}
  where
    here : IsBehind all count given.0 new
    here = is_behind all count given.0 new (sym made.left_is ∙ given.1)

    upto : (fewer : ℕ) → fewer < count + 1 → length (item_lines d (take fewer all)) < most.bytes
    upto fewer below = either (eq-or-lt_of_le (omega (arith, below)))
      where
        either : (fewer ≡ count) ⊎ (fewer < count) → length (item_lines d (take fewer all)) < most.bytes
        either (inr less) = made.bounded fewer less
        either (inl same) = subst (λ n. length (item_lines d (take n all)) < most.bytes) (sym same) (subst (λ v. length v < most.bytes) made.lines fits)

-- all lines
pub all_made : (d : Design) (all : List Item) (most : Most) (count : ℕ) (before after : List ℕ) (old new : List Item) → AreMade d all most count before old
    → GivesLine d old before new after false → IsPart d all most count after
all_made d all most count before after old new made given = record {
  few = made.few;
  lines = given.1 ∙ made.lines;
  bounded = made.bounded;
  full = λ fewer some. let long = none_behind all count (sym made.left_is ∙ given.0) in absurd (omega (arith, long, some));
}

-- as many lines as are wanted, or a text that is long enough
pub full_made : (d : Design) (all : List Item) (most : Most) (count : ℕ) (text : List ℕ) (left : List Item) → AreMade d all most count text left
    → (count < most.items → length text < most.bytes → ⊥) → IsPart d all most count text
full_made d all most count text left made full = record {
  few = made.few;
  lines = made.lines;
  bounded = made.bounded;
  full = λ fewer some. not_less (full fewer);
}
  where
    not_less : (length text < most.bytes → ⊥) → most.bytes ≤ length text
    not_less long = omega (arith, long)

-- nothing is left behind all
pub none_left : (d : Design) (all : List Item) (most : Most) (count : ℕ) (before after : List ℕ) (old new : List Item) → AreMade d all most count before old
    → GivesLine d old before new after false → new ≡ drop count all
none_left d all most count before after old new made given = given.2 ∙ sym given.0 ∙ made.left_is
