-- What one more write, or the close, makes of a life, what follows from a beginning of it, and what
-- is shown after what was seen.
use Rattle.async_cell_latest_sync.proofs.Words.{State, Begun, Life, GoesOn, IsLawful, IsOf, IsShownNext, values_of, closed_of, life_of, ◌≡◌, ◌≢◌, ◌≤◌, true, false, List}
use Rattle.async_cell_latest_sync.proofs.Words.{[], ◌∷◌, ◌++◌, length, Option, Some, None, IsSome, refl, ap, sym, subst, arith, length-append, shorter_begins}
use Rattle.async_cell_latest_sync.proofs.Words.{◌<◌, is_closed}

module _ {T : Type 0} where
  -- one more write adds its value
  pub life_written : (writes : List (Option T)) (value : T) → closed_of writes ≡ false → life_of (writes ++ Some value ∷ []) ≡ record { values = values_of writes ++ value ∷ []; closed = false }
  life_written [] value is_open = refl
  life_written (Some first ∷ rest) value is_open = ap (λ (l : Life T). record { values = first ∷ l.values; closed = l.closed }) (life_written rest value is_open)
  life_written (None ∷ rest) value is_open = absurd (cc is_open)

  -- the close adds no value
  pub life_closed : (writes : List (Option T)) → life_of (writes ++ None ∷ []) ≡ record { values = values_of writes; closed = true }
  life_closed [] = refl
  life_closed (Some first ∷ rest) = ap (λ (l : Life T). record { values = first ∷ l.values; closed = l.closed }) (life_closed rest)
  life_closed (None ∷ rest) = refl

  -- what begins the list begins the life
  pub more_goes_on : (writes rest : List (Option T)) → GoesOn (life_of writes) (life_of (writes ++ rest))
  more_goes_on [] rest = record { begins = (values_of rest, refl); ended = λ is. absurd (cc is) }
  more_goes_on (Some first ∷ writes) rest = grind (arith, more_goes_on writes rest)
  more_goes_on (None ∷ writes) rest = record { begins = ([], refl); ended = λ is. refl }

  -- one more value that may be written
  each_append : (may : List T → T → Type 0) (values : List T) (x : T) → ((before later : List T) → (value : T) → values ≡ before ++ value ∷ later → may before value) → may values x
      → (before later : List T) → (value : T) → values ++ x ∷ [] ≡ before ++ value ∷ later → may before value
  each_append may [] x each it [] later value is = subst (λ v. may [] v) (cc is) it
  each_append may [] x each it (b ∷ before) later value is = absurd (omega (arith, length-append before (value ∷ later), ap length is))
  each_append may (y ∷ ys) x each it [] later value is = each [] ys value (cc is)
  each_append may (y ∷ ys) x each it (b ∷ before) later value is =
      subst (λ f. may (f ∷ before) value) (cc is)
      (each_append (λ l v. may (y ∷ l) v) ys x (λ bs ls v e. each (y ∷ bs) ls v (ap (λ l. y ∷ l) e)) it before later value (cc is))

  -- the first value
  pub first_lawful : (may : List T → T → Type 0) (value : T) → may [] value → IsLawful may (values_of (Some value ∷ []))
  first_lawful may value it = record { each = each_append may [] value (λ before later v is. absurd (omega (arith, length-append before (v ∷ later), ap length is))) it }

  -- after one more write that may be made
  pub lawful_more : (may : List T → T → Type 0) (writes : List (Option T)) (value : T) → closed_of writes ≡ false → IsLawful may (values_of writes) → may (values_of writes) value
      → IsLawful may (values_of (writes ++ Some value ∷ []))
  lawful_more may writes value is_open lawful it =
      subst (λ (l : Life T). IsLawful may l.values) (sym (life_written writes value is_open)) (record { each = each_append may (values_of writes) value lawful.each it })

-- a state with an owner is open
pub open_if_owned : {T W : Type 0} (s : State T W) → 0 < s.owners → is_closed s ≡ false
open_if_owned s owned = grind arith

module _ {T W : Type 0} (named : Option Begun) (holds : T → Type 0) (state : State T W) (seen now : Life T) where
  -- a state of another version shows a value that was not seen
  pub shown_next : (is_clone : T → T → Type 0) (copy : T) → IsSome named → IsOf named holds state now → GoesOn seen now → length seen.values ≢ state.version → is_clone state.value copy
      → IsShownNext is_clone seen copy now
  shown_next is_clone copy there of on other clone =
      let last = of.last there in
      let shorter : length seen.values ≤ length last.0 =
      omega (arith, length-append last.0 (state.value ∷ []), ap length last.1, of.counted, other, length-append seen.values on.begins.0, ap length on.begins.1) in
      let after_seen = shorter_begins seen.values last.0 now.values on.begins (state.value ∷ [], sym last.1) shorter in
      record { goes_on = on; before = last.0; value = state.value; after_seen = after_seen; ends = last.1; clone = clone }
