-- Words that are a command.
use Rattle.std.proofs.Common.{◌≡◌, ◌∙◌, List, [], ◌∷◌, Some, None, get_or, drop, ap, sym, arith}
use Prim.Native.Nat.{ℕ}
use Rattle.netdb_spec.specs.Command.{Asks, IsGood, IsGoodWanted, Request, Show, Run, Generate, Uses, Check, words_of}
use Rattle.netdb_spec.specs.declared.command.Wanted.{Wanted}
use Rattle.netdb_spec.specs.declared.command.Wanted.TheVariants.{Text, Items, Pins, Used, Spread, Findings}
use Rattle.netdb_commands.proofs.WordLemmas.{same_number}

-- the first two letters of the first word, and the first one of the third
abbrev letter : List (List ℕ) → ℕ
letter words = get_or (get_or words 0 []) 0 0

abbrev next_letter : List (List ℕ) → ℕ
next_letter words = get_or (get_or words 0 []) 1 0

abbrev third_word : List (List ℕ) → ℕ
third_word words = get_or (get_or words 2 []) 0 0

-- the second word, and those behind it
abbrev second_word : List (List ℕ) → List ℕ
second_word words = get_or words 1 []

abbrev behind_two : List (List ℕ) → List (List ℕ)
behind_two [] = []
behind_two (a ∷ []) = []
behind_two (a ∷ b ∷ words) = words

-- Requests of the same words are the same. Two of different kinds differ in one of these letters.
one_request : (a b : Request) → IsGood a → IsGood b → words_of a ≡ words_of b → letter (words_of a) ≡ letter (words_of b) → next_letter (words_of a) ≡ next_letter (words_of b) → third_word (words_of a) ≡ third_word (words_of b) → a ≡ b
one_request (Show name Text) (Show other Text) g h e l m n = ap (λ (x : List ℕ). Show x Text) (ap second_word e)
one_request (Show name (Items None)) (Show other (Items None)) g h e l m n = ap (λ (x : List ℕ). Show x (Items None)) (ap second_word e)
one_request (Show name (Items (Some i))) (Show other (Items (Some j))) g h e l m n =
    let same : name ≡ other = ap second_word e in
    let number : i ≡ j = same_number i j (omega (arith, g)) (omega (arith, h)) (ap (λ ws. get_or ws 3 []) e) in
    ap (λ (x : List ℕ × ℕ). Show x.0 (Items (Some x.1))) (λ i. (same i, number i))
one_request (Show name Pins) (Show other Pins) g h e l m n = ap (λ (x : List ℕ). Show x Pins) (ap second_word e)
one_request (Show name Used) (Show other Used) g h e l m n = ap (λ (x : List ℕ). Show x Used) (ap second_word e)
one_request (Show name (Spread i)) (Show other (Spread j)) g h e l m n =
    let same : name ≡ other = ap second_word e in
    let number : i ≡ j = same_number i j (omega (arith, g)) (omega (arith, h)) (ap (λ ws. get_or ws 3 []) e) in
    ap (λ (x : List ℕ × ℕ). Show x.0 (Spread x.1)) (λ i. (same i, number i))
one_request (Show name Findings) (Show other Findings) g h e l m n = ap (λ (x : List ℕ). Show x Findings) (ap second_word e)
one_request (Run name scripts) (Run other others) g h e l m n =
    let same : name ≡ other = ap second_word e in
    let rest : scripts ≡ others = ap behind_two e in
    ap (λ (x : List ℕ × List (List ℕ)). Run x.0 x.1) (λ i. (same i, rest i))
one_request (Generate i) (Generate j) g h e l m n = ap Generate (same_number i j (omega (arith, g)) (omega (arith, h)) (ap second_word e))
one_request (Uses name scripts) (Uses other others) g h e l m n =
    let same : name ≡ other = ap second_word e in
    let rest : scripts ≡ others = ap behind_two e in
    ap (λ (x : List ℕ × List (List ℕ)). Uses x.0 x.1) (λ i. (same i, rest i))
one_request (Check name report scripts) (Check other second others) g h e l m n =
    let same : name ≡ other = ap second_word e in
    let text : report ≡ second = ap (λ ws. get_or ws 2 []) e in
    let rest : scripts ≡ others = ap (λ ws. behind_two (drop 1 ws)) e in
    ap (λ (x : List ℕ × (List ℕ × List (List ℕ))). Check x.0 x.1.0 x.1.1) (λ i. (same i, (text i, rest i)))
one_request a (Show other (Items None)) g h e l m n = absurd (omega (arith, l, m, n))
one_request a (Show other (Items (Some j))) g h e l m n = absurd (omega (arith, l, m, n))
one_request (Show name (Items None)) b g h e l m n = absurd (omega (arith, l, m, n))
one_request (Show name (Items (Some i))) b g h e l m n = absurd (omega (arith, l, m, n))
one_request a b g h e l m n = absurd (omega (arith, l, m, n))

-- the words ask for one thing
pub asked_once : (words : List (List ℕ)) (a b : Request) → Asks words a → Asks words b → a ≡ b
asked_once words a b h k = let e : words_of a ≡ words_of b = sym h.1 ∙ k.1 in one_request a b h.0 k.0 e (ap letter e) (ap next_letter e) (ap third_word e)

-- what a good request wants of a design is good
pub good_wanted : (name : List ℕ) (wanted : Wanted) → IsGood (Show name wanted) → IsGoodWanted wanted
good_wanted name Text h = h
good_wanted name (Items None) h = h
good_wanted name (Items (Some limit)) h = tt
good_wanted name Pins h = h
good_wanted name Used h = h
good_wanted name (Spread workers) h = h
good_wanted name Findings h = h
