-- What a get found, with a witness and without one, and where a cell is closed.
use Rattle.async_cell_history.proofs.Words.{◌≡◌, arith, true, false, inr, subst, Option, Some, None, Result, Ok, Err, IfErr, IfOk, IfSome, IsSomeAnd, Cell, TryGet, Value, History}
use Rattle.async_cell_history.proofs.Words.{WakerRules, content, is_closed, is_vacant, Begun, Seen, IsSigned, IsLinearized, IsLinearizedUpTo, get_reply}
use Rattle.async_cell_model.specs.declared.refusal.Refusal.{Refusal}
use Rattle.async_cell_model.specs.declared.refusal.Refusal.TheVariants as why
use Rattle.async_cell_core.specs.Polled.{IsCloneOf}
use Rattle.async_cell_step.specs.Rule.{IsCloneOfOne}

module _ {T W : Type 0} (rules : WakerRules W) (named : Option (Begun T W)) (old : Seen T W) where
  copied_as : (is_clone : T → T → Type 0) (h : History T W) (held : Option T) (x : T) → IsLinearized rules named old.calls TryGet (Value held) h → IsCloneOf is_clone held (Some x)
      → IsLinearizedUpTo is_clone rules named old.calls TryGet (Value (Some x)) h
  copied_as is_clone h None x told cloned = absurd cloned
  copied_as is_clone h (Some a) x told cloned = (Value (Some a), told, inr cloned)

  -- a get that found a value, of whose clone P holds
  pub linearized_copy : (is_clone : T → T → Type 0) (P : T → Type 0) (now : Seen T W) (held : Option T) (copied : Result (Option T) Refusal) (found : Result T Refusal)
      (given : Result (T × Seen T W) Refusal) → IfOk copied (λ some. IfSome some P) → IsLinearized rules named old.calls TryGet (get_reply held copied) now.calls → IsSigned old now
      → IfOk copied (IsCloneOf is_clone held) → IfOk found (λ it. copied ≡ Ok (Some it)) → IfOk given (λ both. (found ≡ Ok both.0) × (both.1 ≡ now))
      → IfOk given (λ both. P both.0 × IsLinearizedUpTo is_clone rules named old.calls TryGet (Value (Some both.0)) both.1.calls × IsSigned old both.1)
  linearized_copy is_clone P now held copied found (Err why) holds told signed clones is both = tt
  linearized_copy is_clone P now held copied found (Ok (x, h)) holds told signed clones is (same, whole) =
      grind (arith, holds, told, signed, clones, copied_as is_clone h.calls held x)

module _ {T : Type 0} (is_clone : T → T → Type 0) (P : T → Type 0) where
  -- a clone of a content that satisfies `P` is a clone of one that does
  pub cloned_ones : {E : Type 0} (held : Option T) (copied : Result (Option T) E) → IfSome held P → IfOk copied (IsCloneOf is_clone held)
      → IfOk copied (λ found. IfSome found (IsCloneOfOne is_clone P))
  cloned_ones held (Err why) holds clones = tt
  cloned_ones held (Ok None) holds clones = tt
  cloned_ones None (Ok (Some b)) holds clones = absurd clones
  cloned_ones (Some a) (Ok (Some b)) holds clones = (a, holds, clones)

-- what holds of the value that is there holds of some value, which keeps the rule
pub found_and : {A T E : Type 0} (H : T → Type 0) (P : T → A → Type 0) (found : Option T) (result : Result A E) → IfSome found H → IfOk result (λ a. IsSomeAnd found (λ v. P v a))
    → IfOk result (λ a. (x : T) × H x × P x a)
found_and H P found (Err why) holds told = tt
found_and H P None (Ok a) holds told = absurd told
found_and H P (Some v) (Ok a) holds told = (v, holds, told)

-- a cell that has no value, and on which a poll need not wait, is closed
pub closed_if_none : {T : Type 0} (c : Cell T) → content c ≡ None → is_vacant c ≡ false → is_closed c ≡ true
closed_if_none c none ready = grind arith

pub closed_if_no_clone : {T : Type 0} (is_clone : T → T → Type 0) (c : Cell T) → IsCloneOf is_clone (content c) None → is_vacant c ≡ false → is_closed c ≡ true
closed_if_no_clone is_clone c none ready = grind arith

-- so is one of which a get found nothing to clone
pub closed_if_not_cloned : {T : Type 0} (is_clone : T → T → Type 0) (c : Cell T) (copied : Result (Option T) Refusal) (found : Result T Refusal) → IfOk copied (IsCloneOf is_clone (content c))
    → IfErr found (λ it. it ≡ why.Closed → copied ≡ Ok None) → is_vacant c ≡ false → IfErr found (λ it. it ≡ why.Closed → is_closed c ≡ true)
closed_if_not_cloned is_clone c copied (Ok x) clones none ready = tt
closed_if_not_cloned is_clone c copied (Err it) clones none ready = λ is. closed_if_no_clone is_clone c (subst (λ r. IfOk r (IsCloneOf is_clone (content c))) (none is) clones) ready
