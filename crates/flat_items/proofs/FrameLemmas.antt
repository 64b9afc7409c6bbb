-- Frames along a path, and the lowest of them.
use Rattle.std.proofs.Common.{◌≡◌, ◌-◌, ℕ, List, [], ◌∷◌, ◌++◌, length, refl, sym, ap, subst, ◌∙◌, arith, append_assoc, append-nil, Some, None, slice_get}
use Rattle.std.proofs.lemmas.Option.{none-some, same_Some}
use Rattle.std.proofs.lemmas.List.{length_push}
use Rattle.netlist_schema.specs.Design.{Design}
use Rattle.flat_items.specs.Stand.{AreAbove, IsFrame}
use Rattle.flat_items.specs.declared.place.Frame.{Frame}

-- the lowest of the frames above the end of a path with a last step is that of the occurrence at the path without it
pub record HasLowest (d : Design) (start path : List ℕ) (above : List Frame) : Type 0 where
  pub others : List Frame
  pub lowest : Frame
  pub is : above ≡ others ++ lowest ∷ []
  pub rest : AreAbove d start path others
  pub frame : IsFrame d (start ++ path) lowest

pub lowest_of : (d : Design) (start path : List ℕ) (step : ℕ) (above : List Frame) → AreAbove d start (path ++ step ∷ []) above → HasLowest d start path above
lowest_of d start [] step [] h = absurd h
lowest_of d start [] step (f ∷ []) h =
    record { others = []; lowest = f; is = refl; rest = tt; frame = subst (λ v. IsFrame d v f) (sym (append-nil start)) h.0 }
lowest_of d start [] step (f ∷ g ∷ above) h = absurd h.1
lowest_of d start (i ∷ path) step [] h = absurd h
lowest_of d start (i ∷ path) step (f ∷ above) h =
    let below = lowest_of d (start ++ i ∷ []) path step above h.1 in
    record {
      others = f ∷ below.others;
      lowest = below.lowest;
      is = ap (λ v. f ∷ v) below.is;
      rest = (h.0, below.rest);
      frame = subst (λ v. IsFrame d v below.lowest) (append_assoc start (i ∷ []) path) below.frame;
    }

pub lowest_added : (d : Design) (start path : List ℕ) (step : ℕ) (others : List Frame) (f : Frame) → AreAbove d start path others → IsFrame d (start ++ path) f
    → AreAbove d start (path ++ step ∷ []) (others ++ f ∷ [])
lowest_added d start [] step [] f h is = (subst (λ v. IsFrame d v f) (append-nil start) is, tt)
lowest_added d start [] step (g ∷ others) f h is = absurd h
lowest_added d start (i ∷ path) step [] f h is = absurd h
lowest_added d start (i ∷ path) step (g ∷ others) f h is =
    (h.0, lowest_added d (start ++ i ∷ []) path step others f h.1 (subst (λ v. IsFrame d v f) (sym (append_assoc start (i ∷ []) path)) is))

-- above the top there is none
pub none_above : (d : Design) (start : List ℕ) (above : List Frame) → AreAbove d start [] above → above ≡ []
none_above d start [] h = refl
none_above d start (f ∷ above) h = absurd h

-- the last element stands before the end
pub last_pushed : {A : Type 0} (xs : List A) (x : A) → slice_get (xs ++ x ∷ []) (length (xs ++ x ∷ []) - 1) ≡ Some x
last_pushed xs x =
    let long : length (xs ++ x ∷ []) - 1 ≡ length xs = omega (arith, length_push xs x) in
    ap (slice_get (xs ++ x ∷ [])) long ∙ at xs x
  where
    at : {A : Type 0} (xs : List A) (x : A) → slice_get (xs ++ x ∷ []) (length xs) ≡ Some x
    at [] x = refl
    at (y ∷ xs) x = at xs x

-- the frame that stands last is the lowest
pub last_is_lowest : (d : Design) (path above_path : List ℕ) (step : ℕ) (above : List Frame) (f : Frame) → path ≡ above_path ++ step ∷ []
    → slice_get above (length above - 1) ≡ Some f → AreAbove d [] path above → IsFrame d above_path f
last_is_lowest d path above_path step above f is last h =
    let low = lowest_of d [] above_path step above (subst (λ v. AreAbove d [] v above) is h) in
    let at : slice_get above (length above - 1) ≡ Some low.lowest = ap (λ v. slice_get v (length v - 1)) low.is ∙ last_pushed low.others low.lowest in
    subst (λ v. IsFrame d above_path v) (same_Some low.lowest f (sym at ∙ last)) low.frame

-- below the top there is one
pub last_is_there : (d : Design) (path above_path : List ℕ) (step : ℕ) (above : List Frame) → path ≡ above_path ++ step ∷ []
    → slice_get above (length above - 1) ≡ None → AreAbove d [] path above → ⊥
last_is_there d path above_path step above is last h =
    let low = lowest_of d [] above_path step above (subst (λ v. AreAbove d [] v above) is h) in
    let at : slice_get above (length above - 1) ≡ Some low.lowest = ap (λ v. slice_get v (length v - 1)) low.is ∙ last_pushed low.others low.lowest in
    none-some low.lowest (sym last ∙ at)
