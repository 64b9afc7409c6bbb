-- The names of the nets of an array are names, and so is the array's name of a run.
use Rattle.std.proofs.Common.{◌≡◌, ℕ, zero, suc, ◌-◌, ◌<◌, ◌≤◌, ◌^◌, Bool, true, false, List, [], ◌∷◌, ◌++◌, take, length, refl, Option, Some, None, arith, length-append}
use Rattle.std.specs.Prelude.{IfSome, cond, decimal, unwrap_or}
use Rattle.std.specs.List.{AllByRecursion}
use Rattle.std.specs.Str.Parse.{AllDigits}
use Rattle.std.proofs.lemmas.Bool.{and_from, or_left, le-leb}
use Rattle.std.proofs.lemmas.Fmt.{decimal_is_IsNumeral}
use Rattle.std.proofs.lemmas.List.Elements.{All-from_recursion, recursion_from_All}
use Rattle.std.proofs.lemmas.Str.Parse.{digit_from_value}
use Rattle.netlist_schema.specs.Ident.{IsIdentifier, is_identifier_byte}
use Rattle.netlist_schema.specs.Typed.{IsBytes, IsTypedName}
use Rattle.netlist_schema.specs.Types.{Name, Net}
use Rattle.netlist_bus_spec.specs.Members.{displayed, member_id, member_text, member_name}
use Rattle.netlist_bus_spec.specs.Runs.{run_name, stem}
use Rattle.netlist_bus_spec.specs.Same.{same_bytes}

abbrev passes : ℕ → Type 0
passes b = is_identifier_byte b ≡ true

abbrev fits : ℕ → Type 0
fits b = b < 256

all_append : (P : ℕ → Type 0) (x y : List ℕ) → AllByRecursion P x → AllByRecursion P y → AllByRecursion P (x ++ y)
all_append P [] y h k = k
all_append P (b ∷ x) y h k = (h.0, all_append P x y h.1 k)

all_taken : (P : ℕ → Type 0) (n : ℕ) (x : List ℕ) → AllByRecursion P x → AllByRecursion P (take n x)
all_taken P zero x h = tt
all_taken P (suc n) [] h = tt
all_taken P (suc n) (b ∷ x) h = (h.0, all_taken P n x h.1)

digit_passes : (c : ℕ) → 48 ≤ c → c ≤ 57 → is_identifier_byte c ≡ true
digit_passes c low high = or_left _ _ (or_left _ _ (or_left _ _ (and_from _ _ (le-leb 48 c low) (le-leb c 57 high))))

digits_pass : (ds : List ℕ) → AllDigits 10 ds → AllByRecursion passes ds
digits_pass [] d = tt
digits_pass (c ∷ cs) d =
    let r = digit_from_value c d.0 in
    let low : 48 ≤ c = omega (arith, r) in
    let high : c ≤ 57 = omega (arith, r) in
    (digit_passes c low high, digits_pass cs d.1)

digits_fit : (ds : List ℕ) → AllDigits 10 ds → AllByRecursion fits ds
digits_fit [] d = tt
digits_fit (c ∷ cs) d =
    let r = digit_from_value c d.0 in
    let small : c < 256 = omega (arith, r) in
    (small, digits_fit cs d.1)

number_digits : (k : ℕ) → k < 2 ^ 64 → AllDigits 10 (decimal k)
number_digits k l = (decimal_is_IsNumeral k l).0.1

pub member_identifier : (d : List ℕ) (k : ℕ) → k < 2 ^ 64 → IsIdentifier d → IsIdentifier (member_id d k)
member_identifier d k l h =
    let some : 0 < length d = h.0 in
    let sum = length-append d (95 ∷ (decimal k ++ 95 ∷ [])) in
    let long : 0 < length (member_id d k) = omega (arith, some, sum) in (
      long,
      All-from_recursion passes (member_id d k)
          (all_append passes d (95 ∷ (decimal k ++ 95 ∷ [])) (recursion_from_All passes d h.1) (refl, all_append passes (decimal k) (95 ∷ []) (digits_pass (decimal k) (number_digits k l)) (refl, tt))),
    )

pub member_bytes : (t : List ℕ) (k : ℕ) → k < 2 ^ 64 → IsBytes t → IsBytes (member_text t k)
member_bytes t k l h = All-from_recursion fits (member_text t k)
    (all_append fits t (91 ∷ (decimal k ++ 93 ∷ [])) (recursion_from_All fits t h) (omega arith, all_append fits (decimal k) (93 ∷ []) (digits_fit (decimal k) (number_digits k l)) (omega arith, tt)))

-- the bytes of an identifier are bytes
small_letter : (b : ℕ) → is_identifier_byte b ≡ true → b < 256
small_letter b h = grind (arith, h)

displayed_bytes : (name : Name) → IsTypedName name → IsBytes (displayed name)
displayed_bytes name h = by name.shown h.shown
  where
    all_small : (x : List ℕ) → AllByRecursion passes x → AllByRecursion fits x
    all_small [] p = tt
    all_small (b ∷ x) p = (small_letter b p.0, all_small x p.1)

    by : (o : Option (List ℕ)) → IfSome o IsBytes → IsBytes (unwrap_or o name.id)
    by None g = All-from_recursion fits name.id (all_small name.id (recursion_from_All passes name.id h.id.1))
    by (Some text) g = g

pub member_typed : (name : Name) (k : ℕ) → k < 2 ^ 64 → IsTypedName name → IsTypedName (member_name name k)
member_typed name k l h = record { id = member_identifier name.id k l h.id; shown = member_bytes (displayed name) k l (displayed_bytes name h) }

pub run_name_typed : (n : Net) → IsTypedName n.name → 1 ≤ length (stem n.name.id) → IsTypedName (run_name n)
run_name_typed n h l = record { id = (l, All-from_recursion passes (stem n.name.id) (all_taken passes (length n.name.id - 3) n.name.id (recursion_from_All passes n.name.id h.id.1))); shown = by (same_bytes (stem n.name.id) (stem (unwrap_or n.name.shown []))) }
  where
    text_bytes : (o : Option (List ℕ)) → IfSome o IsBytes → IsBytes (unwrap_or o [])
    text_bytes None g = λ k d m. absurd (omega arith)
    text_bytes (Some text) g = g

    stem_bytes : (x : List ℕ) → IsBytes x → IsBytes (stem x)
    stem_bytes x g = All-from_recursion fits (stem x) (all_taken fits (length x - 3) x (recursion_from_All fits x g))

    by : (b : Bool) → IfSome (cond b None (Some (stem (unwrap_or n.name.shown [])))) IsBytes
    by true = tt
    by false = stem_bytes (unwrap_or n.name.shown []) (text_bytes n.name.shown h.shown)
