-- From the mask of sixteen bytes to those in front that pass a test.
use Rattle.std.proofs.Common.{◌≡◌, ℕ, ◌+◌, ◌-◌, ◌%◌, ◌^◌, ◌<◌, ◌≤◌, Bool, true, not, ◌&&◌, ◌||◌, List, [], ◌∷◌, map, length, take, drop, get_or, replicate, Fits, w8, refl, sym, ap, ap₂, ◌∙◌, subst, arith}
use Rattle.std.proofs.lemmas.Bool.{agree_below, agree_below_at}
use Rattle.std.proofs.lemmas.Simd.{first_set_mask_l, map-map, mask_l-mod, run_in_chunk_fails, run_in_chunk_le}
use Rattle.std.proofs.lemmas.List.{get_or-take, length-drop, length-map, length-take-le, take_all}
use Rattle.std.proofs.Math.Seq.{take-add}
use Rattle.std.proofs.lemmas.List.Folds.{list_all-append}
use Rattle.std.proofs.lemmas.List.Elements.{All-from_get_or}
use Rattle.std.proofs.lemmas.List.Sums.{list_all-from_AllPass}
use Rattle.std.specs.List.{list_all, prefix_len}
use lib.Lanes.{mask_l, top, zip2}
use Rattle.byte_lanes.specs.Lanes.{IsFront, first_set}

zip2-map : (h : ℕ → ℕ → ℕ) (f g : ℕ → ℕ) (xs : List ℕ) → zip2 h (map f xs) (map g xs) ≡ map (λ x. h (f x) (g x)) xs
zip2-map h f g [] = refl
zip2-map h f g (x ∷ xs) = ap (λ r. h (f x) (g x) ∷ r) (zip2-map h f g xs)

-- lanes that are made lane by lane from two vectors, each made so from `v`
pub both : (h : ℕ → ℕ → ℕ) (f g : ℕ → ℕ) (v : List ℕ) {a b : List ℕ} → a ≡ map f v → b ≡ map g v → zip2 h a b ≡ map (λ x. h (f x) (g x)) v
both h f g v p q = ap₂ (zip2 h) p q ∙ zip2-map h f g v

-- one value in as many lanes
pub splat_is : (v : List ℕ) (n y : ℕ) → length v ≡ n → replicate n y ≡ map (λ _. y) v
splat_is [] n y e = ap (λ k. replicate k y) (sym e)
splat_is (x ∷ xs) n y e = ap (λ k. replicate k y) (sym e) ∙ ap (λ r. y ∷ r) (splat_is xs (length xs) y refl)

-- the lanes before the first at which the mask has a bit pass the test, where each byte passes it or gives such a lane
pub front_in : (q : ℕ → Bool) (f : ℕ → ℕ) (d : List ℕ) (r : ℕ) (z : List ℕ) → 16 ≤ length d → ((k : ℕ) → Fits w8 (get_or d k 0)) → r ≡ first_set (mask_l (map (top 7) z) % 2 ^ 64) → z ≡ map f (take 16 d)
    → agree_below (λ x. top 7 (f x) || q x) (λ _. true) 256 ≡ true → IsFront q d r
front_in q f d r z room fits found lanes all =
    let v : List ℕ = take 16 d in
    let stops : ℕ → Bool = λ x. top 7 (f x) in
    let P : ℕ → Type 0 = λ x. q x ≡ true in
    let long : length v ≡ 16 = length-take-le 16 d room in
    let mask : mask_l (map (top 7) z) % 2 ^ 64 ≡ mask_l (map stops v) = ap (λ l. mask_l l % 2 ^ 64) (ap (map (top 7)) lanes ∙ map-map (top 7) f v) ∙ mask_l-mod (map stops v) 64 (omega (arith, length-map v stops, long)) in
    let counted : r ≡ prefix_len (λ x. not (stops x)) v = found ∙ (ap first_set mask ∙ first_set_mask_l stops v 16 long (omega arith)) in
    let few : r ≤ 16 = run_in_chunk_le stops d 0 16 r 0 room counted in
    let whole : length (take r d) ≡ r = length-take-le r d (omega arith) in
    let goes_on : (k : ℕ) → k < r → q (get_or d k 0) ≡ true = λ k l. sym (ap (λ b. b || q (get_or d k 0)) (run_in_chunk_fails stops d 0 16 r 0 room counted k (omega arith) (omega arith))) ∙ agree_below_at (λ x. stops x || q x) (λ _. true) 256 (get_or d k 0) all (fits k).fits in
    (few, list_all-from_AllPass q (take r d) (All-from_get_or P (take r d) 0 (λ k inside. (let l : k < r = omega (arith, whole) in subst P (sym (get_or-take r d k 0 l)) (goes_on k l)))))

-- what passes in front, and then in front of what is left
pub joined_fronts : (q : ℕ → Bool) (m n : ℕ) (d : List ℕ) → list_all q (take m d) ≡ true → list_all q (take n (take (length d - m) (drop m d))) ≡ true → list_all q (take (m + n) d) ≡ true
joined_fronts q m n d one two =
    let left : take (length d - m) (drop m d) ≡ drop m d = take_all (length d - m) (drop m d) (omega (arith, length-drop m d)) in
    let rest : list_all q (take n (drop m d)) ≡ true = ap (λ v. list_all q (take n v)) (sym left) ∙ two in
    ap (list_all q) (take-add m n d) ∙ (list_all-append q (take m d) (take n (drop m d)) ∙ (ap (λ b. b && list_all q (take n (drop m d))) one ∙ rest))
