-- What a wait for a predicate gives, and a stream of states.
use Rattle.std.specs.Prelude.{Bool, true, false, List, Option, Result, IfOk, MatchOption}
use Rattle.std.specs.{List.FoldsTo, Borrow.Bor, Fn.Mut, Fn.CalledAt}
use Rattle.async_cell_model.specs.{Refusal.FailsWithMemory, Refusal.FailsWithMemoryOrClosed, declared.refusal.Refusal.Refusal}
use Rattle.async_cell_step.specs.Rule.{IsCloneOfOne}

-- an item of a stream: a clone of a value that keeps the rule, or there was no memory for one
abbrev pub IsItem : {T : Type 0} → (T → T → Type 0) → (T → Type 0) → Result T Refusal → Type 0
IsItem is_clone holds item = FailsWithMemory item × IfOk item (IsCloneOfOne is_clone holds)

module _ {F T : Type 0} (calls : Mut F (Bor T × Unit {0}) Bool) where
  -- the predicate was false on some values, one after the other, and then true on this one
  abbrev pub HoldsFirstOf : F → T → Type 0
  HoldsFirstOf predicate value =
      (denied : List T) × (f g : F)
      × FoldsTo (λ p x q. CalledAt calls p x false q) predicate denied f
      × CalledAt calls f value true g

  -- the answer is a clone of the first value that the predicate holds of, which keeps the rule, or
  -- why there is none
  abbrev pub IsFound : (T → T → Type 0) → (T → Type 0) → F → Result T Refusal → Type 0
  IsFound is_clone holds predicate answer =
      FailsWithMemoryOrClosed answer
      × IfOk answer (λ copy. (value : T)
      × holds value × is_clone value copy × HoldsFirstOf predicate value)

  -- what a test of this value finds: a clone of it, if the predicate holds of it
  abbrev pub IsTested : (T → T → Type 0) → F → T → Result (Option T) Refusal → F → Type 0
  IsTested is_clone before value answer after =
      IfOk answer (λ found. MatchOption found (CalledAt calls before value false after)
      (λ copy. CalledAt calls before value true after × is_clone value copy))
