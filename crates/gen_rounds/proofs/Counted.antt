-- Counts along a list of items.
use Rattle.std.proofs.Common.{◌≡◌, ℕ, ◌+◌, cond, List, [], ◌∷◌, refl, ap, sym, ◌∙◌, arith}
use Rattle.std.specs.Prelude.{fold, length}
use Rattle.flat_spec.specs.Types.{Item}
use Rattle.flat_spec.specs.declared.item.Item.TheVariants.{Enter, Net, Pin}
use Rattle.gen_spec.specs.Summary.{counts_of, is_net, is_occurrence, is_pin, properties_of}
use Rattle.gen_spec.specs.declared.summary.Counts.{Counts}
use Rattle.gen_rounds.specs.Counting.{with_item}

-- what is counted once all these items have come
abbrev pub counted : Counts → List Item → Counts
counted c [] = c
counted c (item ∷ items) = counted (with_item c item) items

-- the same, number by number
abbrev folded : Counts → List Item → Counts
folded c items = record {
  instances = fold (λ a x. a + cond (is_occurrence x) 1 0) c.instances items;
  nets = fold (λ a x. a + cond (is_net x) 1 0) c.nets items;
  pins = fold (λ a x. a + cond (is_pin x) 1 0) c.pins items;
  properties = fold (λ a x. a + properties_of x) c.properties items;
}

zero_more : (n : ℕ) → n + 0 ≡ n
zero_more n = omega arith

-- one item more
one : (c : Counts) (item : Item) →
    record {
      instances = c.instances + cond (is_occurrence item) 1 0;
      nets = c.nets + cond (is_net item) 1 0;
      pins = c.pins + cond (is_pin item) 1 0;
      properties = c.properties + properties_of item;
    } ≡ with_item c item
one c (Enter path cell properties) = λ i. record { instances = c.instances + 1; nets = zero_more c.nets i; pins = zero_more c.pins i; properties = c.properties + length properties }
one c (Net path net first) = λ i. record { instances = zero_more c.instances i; nets = c.nets + 1; pins = zero_more c.pins i; properties = zero_more c.properties i }
one c (Pin path port bit first) = λ i. record { instances = zero_more c.instances i; nets = zero_more c.nets i; pins = c.pins + 1; properties = zero_more c.properties i }

folded_is : (c : Counts) (items : List Item) → folded c items ≡ counted c items
folded_is c [] = refl
folded_is c (item ∷ items) = ap (λ (d : Counts). folded d items) (one c item) ∙ folded_is (with_item c item) items

pub all_counted : (items : List Item) → counts_of items ≡ counted (record { instances = 0; nets = 0; pins = 0; properties = 0 }) items
all_counted items = folded_is (record { instances = 0; nets = 0; pins = 0; properties = 0 }) items

-- one item was counted, and these are left
pub one_counted : (c d total : Counts) (old left : List Item) (item : Item) → counted c old ≡ total → old ≡ item ∷ left → d ≡ with_item c item → counted d left ≡ total
one_counted c d total old left item h is now = ap (λ (x : Counts). counted x left) now ∙ (sym (ap (counted c) is) ∙ h)

-- none is left
pub none_left : (c total : Counts) (old : List Item) → counted c old ≡ total → old ≡ [] → c ≡ total
none_left c total old h is = sym (ap (counted c) is) ∙ h
