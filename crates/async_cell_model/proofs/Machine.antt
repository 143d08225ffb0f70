-- The machine does what the histories of one entry say.
use Rattle.async_cell_model.proofs.Words.{arith, ◌≡◌, ◌⊎◌, inl, inr, Bool, true, List, [], ◌∷◌, refl, append-nil, if◌then◌else◌, fold, option_to_list, Cell, Entry, Kept, Reply, ends_waiting}
use Rattle.async_cell_model.proofs.Words.{IsCloned, next, reply, is_memory, wait_list, with_one_more, State, pending_waker, Does, DoesUpTo, waiting, Steps, StepsUpTo}
use Rattle.async_cell_model.proofs.OneMoreWaker.{wait_list-one}
use Rattle.async_cell_model.proofs.JoinedHistory.{after_none}

module _ {T W : Type 0} (will_wake : W → W → Bool) where
  -- the wait list after one entry
  list_is : (s : State T W) (e : Entry T W) → wait_list will_wake s.waiting ≡ s.waiting
      → waiting will_wake s (e ∷ []) ≡ (if ends_waiting s.cell (next s.cell e) then [] else fold (with_one_more will_wake) s.waiting (option_to_list (pending_waker e)))
  list_is s e kept = grind (arith, append-nil, wait_list-one)

  module _ (sure : Bool) (from to : State T W) (call : Kept T W) (answer : Reply T) (woken : List W) where
    -- a step that is read off a history is what the machine does
    pub machine_of : Steps will_wake sure from call answer woken to → Does will_wake sure from (record { call = call; reply = answer }) woken to
    machine_of leads = grind (arith, after_none, list_is)

    -- and the other way round
    pub model_of : Does will_wake sure from (record { call = call; reply = answer }) woken to → Steps will_wake sure from call answer woken to
    model_of does = grind (arith, after_none, list_is)

module _ {T W : Type 0} (is_clone : T → T → Type 0) where
  -- with a clone as its reply, a call leaves the same cell, and waits as little
  next_same : (c : Cell T) (call : Kept T W) (own answer : Reply T) → IsCloned is_clone call own answer → next c (record { call = call; reply = own }) ≡ next c (record { call = call; reply = answer })
  next_same c call own answer cloned = grind arith

  waker_same : (call : Kept T W) (own answer : Reply T) → IsCloned is_clone call own answer
      → pending_waker (record { call = call; reply = own }) ≡ pending_waker (record { call = call; reply = answer })
  waker_same call own answer cloned = grind arith

  -- what the machine does, it does up to clones
  pub does_up_to : (will_wake : W → W → Bool) (sure : Bool) (from to : State T W) (call : Kept T W) (answer : Reply T) (woken : List W)
      → Does will_wake sure from (record { call = call; reply = answer }) woken to
      → DoesUpTo will_wake sure is_clone from (record { call = call; reply = answer }) woken to
  does_up_to will_wake sure from to call answer woken does = (answer, does, inl refl)

  module _ (will_wake : W → W → Bool) (sure : Bool) (from to : State T W) (call : Kept T W) (answer : Reply T) (woken : List W) where
    told : StepsUpTo will_wake sure is_clone from call answer woken to → (answer ≡ reply from.cell call) ⊎ (is_memory answer ≡ true)
        → Does will_wake sure from (record { call = call; reply = answer }) woken to
    told leads own = grind (arith, after_none, list_is)

    cloned : StepsUpTo will_wake sure is_clone from call answer woken to → IsCloned is_clone call (reply from.cell call) answer
        → Does will_wake sure from (record { call = call; reply = reply from.cell call }) woken to
    cloned leads is = grind (arith, after_none, list_is, next_same, waker_same)

    -- the same up to clones
    pub machine_up_to : StepsUpTo will_wake sure is_clone from call answer woken to → DoesUpTo will_wake sure is_clone from (record { call = call; reply = answer }) woken to
    machine_up_to leads = elim leads.legal.0.replied [
      | inl same ↦ elim same [ inl own ↦ (answer, told leads (inl own), inl refl) | inr is ↦ (reply from.cell call, cloned leads is, inr is) ]
      | inr refused ↦ (answer, told leads (inr (rw refused.0 refl)), inl refl)
    ]

    pub model_up_to : DoesUpTo will_wake sure is_clone from (record { call = call; reply = answer }) woken to → StepsUpTo will_wake sure is_clone from call answer woken to
    model_up_to (own, does, up) = grind (arith, after_none, list_is, next_same, waker_same)
