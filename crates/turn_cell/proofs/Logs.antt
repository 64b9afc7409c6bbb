-- A log that grows by one entry, and what seats have seen of it.
use Rattle.std.proofs.Common.{◌≡◌, ℕ, ◌≢◌, ◌==◌, cond, List, [], ◌∷◌, ◌++◌, All, get_or, set, refl, sym, ap, ◌∙◌, append_assoc, append-nil, eq-eqb, ne_eqb}
use Rattle.std.proofs.lemmas.List.Elements.{filter-append, All-head, All-tail}
use mathlib.Core.List.{IsPrefix}
use mathlib.Core.Option.{some, some-injective}
use lib.ListN.{get_elem?}
use Rattle.atomic_table.proofs.Lists.{set_else, at_longer}
use Rattle.turn_cell.specs.declared.board.Joined.{Joined}
use Rattle.turn_cell.specs.declared.board.Holder.{Holder}
use Rattle.turn_cell.specs.declared.board.View.{View}
use Rattle.turn_cell.specs.declared.board.View.TheVariants.{Spent, Live}
use Rattle.turn_cell.specs.Seats.{entries_of, AgreeWith}
use Rattle.turn_cell.proofs.Works.{FitsJoined, Fits, KeepsSpent, IsNumbered}

module _ {E : Type 0} (made_by : E → ℕ) where
  pub prefix_push : (seen log : List E) (e : E) → IsPrefix seen log → IsPrefix seen (log ++ e ∷ [])
  prefix_push seen log e p = (p.0 ++ e ∷ [], sym (append_assoc seen p.0 (e ∷ [])) ∙ ap (λ l. l ++ e ∷ []) p.1)

  pub prefix_all : (log : List E) → IsPrefix log log
  prefix_all log = ([], append-nil log)

  pub own_push : (number : ℕ) (log : List E) (e : E) → made_by e ≡ number → entries_of made_by number (log ++ e ∷ []) ≡ entries_of made_by number log ++ e ∷ []
  own_push number log e is = filter-append (λ x. made_by x == number) log (e ∷ []) ∙ ap (λ b. entries_of made_by number log ++ cond b (e ∷ []) []) (eq-eqb (made_by e) number is)

  pub own_other : (number : ℕ) (log : List E) (e : E) → made_by e ≢ number → entries_of made_by number (log ++ e ∷ []) ≡ entries_of made_by number log
  own_other number log e other = filter-append (λ x. made_by x == number) log (e ∷ []) ∙ (ap (λ b. entries_of made_by number log ++ cond b (e ∷ []) []) (ne_eqb (made_by e) number other) ∙ append-nil (entries_of made_by number log))

  pub none_of : (number : ℕ) (log : List E) → All (λ e. made_by e ≢ number) log → entries_of made_by number log ≡ []
  none_of number [] others = refl
  none_of number (e ∷ es) others = ap (λ b. cond b (e ∷ entries_of made_by number es) (entries_of made_by number es)) (ne_eqb (made_by e) number (All-head (λ x. made_by x ≢ number) e es others)) ∙ none_of number es (All-tail (λ x. made_by x ≢ number) e es others)

  pub agree_push : (log : List E) (number : ℕ) (seen own : List E) (e : E) → made_by e ≢ number → AgreeWith made_by log number seen own → AgreeWith made_by (log ++ e ∷ []) number seen own
  agree_push log number seen own e other k = (prefix_push seen log e k.0, k.1 ∙ sym (own_other number log e other))

  pub agree_own : (log : List E) (number : ℕ) (seen own : List E) (e : E) → made_by e ≡ number → AgreeWith made_by log number seen own → AgreeWith made_by (log ++ e ∷ []) number seen (own ++ e ∷ [])
  agree_own log number seen own e is k = (prefix_push seen log e k.0, ap (λ l. l ++ e ∷ []) k.1 ∙ sym (own_push number log e is))

  pub agree_all : (log : List E) (number : ℕ) (seen own : List E) → AgreeWith made_by log number seen own → AgreeWith made_by log number log own
  agree_all log number seen own k = (prefix_all log, k.1)

module _ {B E : Type 0} where
  live_spent : (h : Holder B E) → ◌≡◌ {A = View B E} (Live h) Spent → ⊥
  live_spent h e = absurd (cc)

  pub live_or_spent : (views : List (View B E)) (h : Holder B E) (i j : ℕ) → j ≡ i → get_elem? views j ≡ some (Live h) → get_elem? views i ≡ some Spent → ⊥
  live_or_spent views h i j same live spent = live_spent h (some-injective (Live h) Spent (sym live ∙ (ap (get_elem? views) same ∙ spent)))

  -- where a seat that is not spent has a new view, the others keep those that were joined into them
  pub spent_set : (views : List (View B E)) (id : ℕ) (h : Holder B E) (w u : View B E) → get_elem? views id ≡ some (Live h) → KeepsSpent views u → KeepsSpent (set views id w) u
  spent_set views id h w Spent at k = tt
  spent_set views id h w (Live g) at k = λ i d less. let x = get_or g.joined i d in set_else views id x.number w (λ is. live_or_spent views h x.number id (sym is) at (k i d less)) ∙ k i d less

  pub spent_more : (views : List (View B E)) (w u : View B E) → KeepsSpent views u → KeepsSpent (views ++ w ∷ []) u
  spent_more views w Spent k = tt
  spent_more views w (Live g) k = λ i d less. let x = get_or g.joined i d in at_longer views (w ∷ []) x.number Spent (k i d less)

module _ {B E : Type 0} (made_by : E → ℕ) (opening : B) where
  -- the entry of a seat that is not spent leaves what was shown to those joined
  pub joined_push : (log : List E) (e : E) (views : List (View B E)) (xs : List (Joined B E)) (h : Holder B E) → get_elem? views (made_by e) ≡ some (Live h) → All (λ x. get_elem? views x.number ≡ some Spent) xs
      → All (FitsJoined made_by opening log) xs → All (FitsJoined made_by opening (log ++ e ∷ [])) xs
  joined_push log e views xs h at gone fits = λ k d less. let f = fits k d less in let x = get_or xs k d in
      (f.0, agree_push made_by log x.number x.seen x.own e (λ is. live_or_spent views h x.number (made_by e) is at (gone k d less)) f.1)

  pub fits_push : (log : List E) (e : E) (views : List (View B E)) (h : Holder B E) (made place : ℕ) (v : View B E) → get_elem? views (made_by e) ≡ some (Live h) → KeepsSpent views v → IsNumbered made place v → made_by e ≢ place
      → Fits made_by opening log v → Fits made_by opening (log ++ e ∷ []) v
  fits_push log e views h made place Spent at gone mine other f = tt
  fits_push log e views h made place (Live g) at gone mine other f = (f.0, agree_push made_by log g.number g.seen g.own e (λ is. other (is ∙ mine.0)) f.1, joined_push log e views g.joined h at gone f.2)
