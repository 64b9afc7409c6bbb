-- The tests of equality tell it.
use Rattle.std.proofs.Common.{◌≡◌, ℕ, List, refl, ap, Bool, true, false, Option, Some, None, eqb-true}
use Rattle.std.specs.Prelude.{◌&&◌}
use Rattle.std.specs.Bool.{Decides}
use Rattle.std.specs.Cmp.Lexicographic.{pointwise_decides, bytes_decides}
use Rattle.std.proofs.lemmas.Bool.Decides.{Decides-int_eq, Decides-eqb}
use Rattle.std.proofs.lemmas.Bool.{and_parts, and_from}
use Rattle.netlist_schema.specs.Types.{Name, Num, Property, Value}
use Rattle.netlist_schema.specs.declared.property.Num.TheVariants as numbers
use Rattle.netlist_schema.specs.declared.property.Value.TheVariants as values
use Rattle.netlist_bus_spec.specs.Same.{same_bytes, same_text, same_name, same_number, same_truth, same_value, same_property, same_properties}
use Rattle.netlist_bus_spec.specs.Runs.{same_inst}

pub bytes_tell : (a b : List ℕ) → Decides (same_bytes a b) (a ≡ b)
bytes_tell a b = bytes_decides a b

pub text_tells : (a b : Option (List ℕ)) → Decides (same_text a b) (a ≡ b)
text_tells None None = (λ h. refl, λ e. refl)
text_tells None (Some b) = (λ h. absurd (cc h), λ e. absurd (cc e))
text_tells (Some a) None = (λ h. absurd (cc h), λ e. absurd (cc e))
text_tells (Some a) (Some b) = (λ h. ap Some ((bytes_tell a b).0 h), λ e. let d : a ≡ b = cc e in (bytes_tell a b).1 d)

pub name_tells : (a b : Name) → Decides (same_name a b) (a ≡ b)
name_tells a b = (there, back)
  where
    there : same_name a b ≡ true → a ≡ b
    there h =
        let u = and_parts (same_bytes a.id b.id) (same_text a.shown b.shown) h in
        let i : a.id ≡ b.id = (bytes_tell a.id b.id).0 u.0 in
        let s : a.shown ≡ b.shown = (text_tells a.shown b.shown).0 u.1 in
        λ j. record { id = i j; shown = s j }

    back : a ≡ b → same_name a b ≡ true
    back e = and_from (same_bytes a.id b.id) (same_text a.shown b.shown) ((bytes_tell a.id b.id).1 (ap (λ (n : Name). n.id) e)) ((text_tells a.shown b.shown).1 (ap (λ (n : Name). n.shown) e))

pub number_tells : (a b : Num) → Decides (same_number a b) (a ≡ b)
number_tells (numbers.Int y) (numbers.Int z) = (λ h. ap (λ v. numbers.Int v) ((Decides-int_eq y z).0 h), λ e. let d : y ≡ z = cc e in (Decides-int_eq y z).1 d)
number_tells (numbers.Int y) (numbers.Scaled n f) = (λ h. absurd (cc h), λ e. absurd (cc e))
number_tells (numbers.Scaled m x) (numbers.Int z) = (λ h. absurd (cc h), λ e. absurd (cc e))
number_tells (numbers.Scaled m x) (numbers.Scaled n f) = (there, back)
  where
    there : same_number (numbers.Scaled m x) (numbers.Scaled n f) ≡ true → numbers.Scaled m x ≡ numbers.Scaled n f
    there h =
        let u = and_parts (same_number (numbers.Int m) (numbers.Int n)) (same_number (numbers.Int x) (numbers.Int f)) h in
        let a : m ≡ n = (Decides-int_eq m n).0 u.0 in
        let b : x ≡ f = (Decides-int_eq x f).0 u.1 in
        λ j. numbers.Scaled (a j) (b j)

    back : numbers.Scaled m x ≡ numbers.Scaled n f → same_number (numbers.Scaled m x) (numbers.Scaled n f) ≡ true
    back e =
        let a : m ≡ n = cc e in
        let b : x ≡ f = cc e in
        and_from (same_number (numbers.Int m) (numbers.Int n)) (same_number (numbers.Int x) (numbers.Int f)) ((Decides-int_eq m n).1 a) ((Decides-int_eq x f).1 b)

truth_tells : (a b : Bool) → Decides (same_truth a b) (a ≡ b)
truth_tells true true = (λ h. refl, λ e. refl)
truth_tells true false = (λ h. absurd (cc h), λ e. absurd (cc e))
truth_tells false true = (λ h. absurd (cc h), λ e. absurd (cc e))
truth_tells false false = (λ h. refl, λ e. refl)

pub value_tells : (a b : Value) → Decides (same_value a b) (a ≡ b)
value_tells (values.Boolean a) (values.Boolean b) = (λ h. ap (λ v. values.Boolean v) ((truth_tells a b).0 h), λ e. let d : a ≡ b = cc e in (truth_tells a b).1 d)
value_tells (values.Integer y) (values.Integer z) = (λ h. ap (λ v. values.Integer v) ((Decides-int_eq y z).0 h), λ e. let d : y ≡ z = cc e in (Decides-int_eq y z).1 d)
value_tells (values.Number m) (values.Number n) = (λ h. ap (λ v. values.Number v) ((number_tells m n).0 h), λ e. let d : m ≡ n = cc e in (number_tells m n).1 d)
value_tells (values.Text a) (values.Text b) = (λ h. ap (λ v. values.Text v) ((bytes_tell a b).0 h), λ e. let d : a ≡ b = cc e in (bytes_tell a b).1 d)
value_tells (values.Boolean a) (values.Integer z) = (λ h. absurd (cc h), λ e. absurd (cc e))
value_tells (values.Boolean a) (values.Number n) = (λ h. absurd (cc h), λ e. absurd (cc e))
value_tells (values.Boolean a) (values.Text b) = (λ h. absurd (cc h), λ e. absurd (cc e))
value_tells (values.Integer y) (values.Boolean b) = (λ h. absurd (cc h), λ e. absurd (cc e))
value_tells (values.Integer y) (values.Number n) = (λ h. absurd (cc h), λ e. absurd (cc e))
value_tells (values.Integer y) (values.Text b) = (λ h. absurd (cc h), λ e. absurd (cc e))
value_tells (values.Number m) (values.Boolean b) = (λ h. absurd (cc h), λ e. absurd (cc e))
value_tells (values.Number m) (values.Integer z) = (λ h. absurd (cc h), λ e. absurd (cc e))
value_tells (values.Number m) (values.Text b) = (λ h. absurd (cc h), λ e. absurd (cc e))
value_tells (values.Text a) (values.Boolean b) = (λ h. absurd (cc h), λ e. absurd (cc e))
value_tells (values.Text a) (values.Integer z) = (λ h. absurd (cc h), λ e. absurd (cc e))
value_tells (values.Text a) (values.Number n) = (λ h. absurd (cc h), λ e. absurd (cc e))

pub property_tells : (p q : Property) → Decides (same_property p q) (p ≡ q)
property_tells p q = (there, back)
  where
    there : same_property p q ≡ true → p ≡ q
    there h =
        let u = and_parts (same_name p.key q.key) (same_value p.value q.value && same_text p.owner q.owner) h in
        let w = and_parts (same_value p.value q.value) (same_text p.owner q.owner) u.1 in
        let k : p.key ≡ q.key = (name_tells p.key q.key).0 u.0 in
        let v : p.value ≡ q.value = (value_tells p.value q.value).0 w.0 in
        let o : p.owner ≡ q.owner = (text_tells p.owner q.owner).0 w.1 in
        λ j. record { key = k j; value = v j; owner = o j }

    back : p ≡ q → same_property p q ≡ true
    back e = and_from (same_name p.key q.key) (same_value p.value q.value && same_text p.owner q.owner) ((name_tells p.key q.key).1 (ap (λ (x : Property). x.key) e))
        (and_from (same_value p.value q.value) (same_text p.owner q.owner) ((value_tells p.value q.value).1 (ap (λ (x : Property). x.value) e)) ((text_tells p.owner q.owner).1 (ap (λ (x : Property). x.owner) e)))

pub properties_tell : (ps qs : List Property) → Decides (same_properties ps qs) (ps ≡ qs)
properties_tell ps qs = pointwise_decides property_tells ps qs

pub inst_tells : (a b : Option ℕ) → Decides (same_inst a b) (a ≡ b)
inst_tells None None = (λ h. refl, λ e. refl)
inst_tells None (Some j) = (λ h. absurd (cc h), λ e. absurd (cc e))
inst_tells (Some i) None = (λ h. absurd (cc h), λ e. absurd (cc e))
inst_tells (Some i) (Some j) = (λ h. ap Some (eqb-true i j h), λ e. let d : i ≡ j = cc e in (Decides-eqb i j).1 d)
