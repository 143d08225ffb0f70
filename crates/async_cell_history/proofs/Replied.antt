-- What a get replies, by what the core says of its result: the machine's own reply up to a clone.
use Rattle.async_cell_history.proofs.Words.{◌≡◌, ◌⊎◌, inl, refl, subst, arith, Bool, true, false, [], Option, Some, None, Result, Ok, Err, IfOk, IfSome, Cell, Closed, Open, State, Reply}
use Rattle.async_cell_history.proofs.Words.{TryGet, Value, Refused, Does, UpToClones, reply, content, is_vacant, get_reply}
use Rattle.std.specs.Prelude.{OnErr, MatchOption}
use Rattle.async_cell_model.specs.declared.entry.Kept.TheVariants.{PollGet}
use Rattle.async_cell_model.specs.declared.refusal.Refusal.{Refusal}
use Rattle.async_cell_model.specs.declared.refusal.Refusal.TheVariants as why
use Rattle.async_cell_model.specs.declared.reply.Reply.TheVariants.{Ready, Pending}
use Rattle.async_cell_model.specs.Machine.{DoesUpTo, is_full}
use Rattle.async_cell_model.specs.Refusal.{FailsWithMemory}
use Rattle.async_cell_core.specs.IsStep.{get_answer}
use Rattle.async_cell_core.specs.Polled.{IsCloneOf, IsReadyWith, poll_reply}
use Rattle.async_cell_step.specs.Rule.{IsCloneOfOne}
use Rattle.async_cell_history.specs.History.{own_poll}
use Rattle.futures.specs.declared.task.Poll.{Poll}
use Rattle.futures.specs.declared.task.Poll.TheVariants as poll
use Rattle.futures.specs.Poll.{IfReady}

module _ {T : Type 0} (W : Type 0) where
  -- the machine's own reply, where a get returned a clone
  own_value : (is_clone : T → T → Type 0) (c : Cell T) (own : Reply T) (copy : Option T) (P : Type 0) → (own ≡ reply {W = W} c TryGet) ⊎ ((own ≡ Refused why.Memory None) × P)
      → UpToClones {W = W} is_clone TryGet own (Value copy) → own ≡ Value (content c)
  own_value is_clone c own copy P replied same = grind arith

  own_ready : (is_clone : T → T → Type 0) (c : Cell T) (w : W) (own : Reply T) (copy : Option T) (P : Type 0) → (own ≡ reply c (PollGet w)) ⊎ ((own ≡ Refused why.Memory None) × P)
      → UpToClones is_clone (PollGet w) own (Ready copy) → own ≡ Ready (content c)
  own_ready is_clone c w own copy P replied same = grind arith

  own_pending : (is_clone : T → T → Type 0) (w : W) (own : Reply T) → UpToClones is_clone (PollGet w) own Pending → own ≡ Pending
  own_pending is_clone w own same = grind arith

  -- a refusal is one for lack of memory
  get_lacks : (c : Cell T) (own : Reply T) (it : Refusal) (P : Type 0) → own ≡ Refused it None → (own ≡ reply {W = W} c TryGet) ⊎ ((own ≡ Refused why.Memory None) × P) → it ≡ why.Memory
  get_lacks c own it P is replied = grind arith

  poll_lacks : (c : Cell T) (w : W) (own : Reply T) (it : Refusal) (P : Type 0) → own ≡ Refused it None → (own ≡ reply c (PollGet w)) ⊎ ((own ≡ Refused why.Memory None) × P) → it ≡ why.Memory
  poll_lacks c w own it P is replied = grind arith

module _ {T W : Type 0} (is_clone : T → T → Type 0) (will_wake : W → W → Bool) (sure : Bool) (b t : State T W) where
  -- the machine's own step of a get that answered a clone
  pub got : (copied : Result (Option T) Refusal) → DoesUpTo will_wake sure is_clone b (record { call = TryGet; reply = (get_answer {W = W} copied).reply }) (get_answer {T = T} {W = W} copied).woken t
      → OnErr copied (Does will_wake sure b (record { call = TryGet; reply = (get_answer {W = W} copied).reply }) (get_answer {T = T} {W = W} copied).woken t)
      → Does will_wake sure b (record { call = TryGet; reply = get_reply (content b.cell) copied }) [] t
  got (Err it) up refused = refused
  got (Ok copy) (own, does, same) refused = subst (λ r. Does will_wake sure b (record { call = TryGet; reply = r }) [] t) (own_value W is_clone b.cell own copy _ does.replied same) does

  module _ (w : W) where
    pub polled_own : (polled : Result (Poll (Option T)) Refusal) → DoesUpTo will_wake sure is_clone b (record { call = PollGet w; reply = poll_reply polled }) [] t
        → OnErr polled (Does will_wake sure b (record { call = PollGet w; reply = poll_reply polled }) [] t)
        → Does will_wake sure b (record { call = PollGet w; reply = own_poll (content b.cell) polled }) [] t
    polled_own (Err it) up refused = refused
    polled_own (Ok poll.Pending) (own, does, same) refused = subst (λ r. Does will_wake sure b (record { call = PollGet w; reply = r }) [] t) (own_pending W is_clone w own same) does
    polled_own (Ok (poll.Ready copy)) (own, does, same) refused =
        subst (λ r. Does will_wake sure b (record { call = PollGet w; reply = r }) [] t) (own_ready W is_clone b.cell w own copy _ does.replied same) does

    pub polled_up_to : (polled : Result (Poll (Option T)) Refusal) → DoesUpTo will_wake sure is_clone b (record { call = PollGet w; reply = poll_reply polled }) [] t
        → UpToClones is_clone (PollGet w) (own_poll (content b.cell) polled) (poll_reply polled)
    polled_up_to (Err it) up = inl refl
    polled_up_to (Ok poll.Pending) up = inl refl
    polled_up_to (Ok (poll.Ready copy)) (own, does, same) = subst (λ r. UpToClones is_clone (PollGet w) r (Ready copy)) (own_ready W is_clone b.cell w own copy _ does.replied same) same

module _ {T W : Type 0} (will_wake : W → W → Bool) (sure : Bool) (b t : State T W) where
  pub get_fails : (copied : Result (Option T) Refusal)
      → OnErr copied (Does will_wake sure b (record { call = TryGet; reply = (get_answer {W = W} copied).reply }) (get_answer {T = T} {W = W} copied).woken t) → FailsWithMemory copied
  get_fails (Ok copy) refused = tt
  get_fails (Err it) refused = get_lacks W b.cell _ it _ refl refused.replied

  pub poll_fails : (w : W) (polled : Result (Poll (Option T)) Refusal) → OnErr polled (Does will_wake sure b (record { call = PollGet w; reply = poll_reply polled }) [] t) → FailsWithMemory polled
  poll_fails w (Ok answer) refused = tt
  poll_fails w (Err it) refused = poll_lacks W b.cell w _ it _ refl refused.replied

module _ {T : Type 0} where
  -- where each clone is sure, so is that of what the cell held
  pub sure_one : (held : Option T) (is_infallible : T → Type 0) (R : Type 0) → MatchOption held R (λ v. is_infallible v → R) → ((v : T) → is_infallible v) → R
  sure_one None is_infallible R told all = told
  sure_one (Some v) is_infallible R told all = told (all v)

  pub full_is_ready : (c : Cell T) → is_full c ≡ true → is_vacant c ≡ false
  full_is_ready c full = grind arith

  -- a ready poll returned a clone of a value that satisfies `P`, if it returned one
  pub polled_ones : (is_clone : T → T → Type 0) (P : T → Type 0) (c : Cell T) (polled : Result (Poll (Option T)) Refusal) (Q : Type 0) → IfSome (content c) P
      → (is_vacant c ≡ false → IfOk polled (IsReadyWith (IsCloneOf is_clone (content c)))) → (is_vacant c ≡ true → IfOk polled (λ answer. (answer ≡ poll.Pending) × Q))
      → IfOk polled (λ answer. IfReady answer (λ found. IfSome found (IsCloneOfOne is_clone P)))
  polled_ones is_clone P c (Err it) Q holds clones waits = tt
  polled_ones is_clone P c (Ok poll.Pending) Q holds clones waits = tt
  polled_ones is_clone P c (Ok (poll.Ready None)) Q holds clones waits = tt
  polled_ones is_clone P Closed (Ok (poll.Ready (Some x))) Q holds clones waits = absurd (clones refl)
  polled_ones is_clone P (Open None n) (Ok (poll.Ready (Some x))) Q holds clones waits = let is = (waits refl).0 in cc
  polled_ones is_clone P (Open (Some a) n) (Ok (poll.Ready (Some x))) Q holds clones waits = (a, holds, clones refl)
