-- What a single entry does: a refused one changes nothing.
use Rattle.async_cell_model.proofs.Words.{arith, ◌≡◌, inl, inr, Bool, true, false, List, [], ◌∷◌, None, refl, ap, sym, subst, ◌∙◌, append-nil}
use Rattle.async_cell_model.proofs.Words.{Cell, Entry, Kept, Reply, Refused, ends_waiting, IsCounted, is_vacant, next, reply, wait_list, State, IsSound}
use Rattle.async_cell_model.proofs.Words.{pending_waker, IsCloned, UpToClones, is_refused, RunsBy, MayFollowBy, wakes_after, History, waiting}
use Rattle.async_cell_model.specs.declared.refusal.Refusal.TheVariants as why
use Rattle.async_cell_model.proofs.Whole.{after-nil, IsSound-after}

-- a cell that stays was neither filled nor closed
stays : {T : Type 0} (c : Cell T) → ends_waiting c c ≡ false
stays c = grind arith

module _ {T W : Type 0} where
  refused_same : (c : Cell T) (call : Kept T W) → is_refused (reply c call) ≡ true → next c (record { call = call; reply = reply c call }) ≡ c
  refused_same c call is = grind arith

  memory_same : (c : Cell T) (call : Kept T W) → next c (record { call = call; reply = Refused why.Memory None }) ≡ c
  memory_same c call = grind arith

  refused_silent : (call : Kept T W) (r : Reply T) → is_refused r ≡ true → pending_waker (record { call = call; reply = r }) ≡ None
  refused_silent call r is = grind arith

  cloned_answers : (is_clone : T → T → Type 0) (call : Kept T W) (r s : Reply T) → IsCloned is_clone call r s → is_refused s ≡ false
  cloned_answers is_clone call r s cloned = grind arith

module _ {T W : Type 0} (is_clone : T → T → Type 0) (will_wake : W → W → Bool) (sure : Bool) where
  next-refused : (at : State T W) (e : Entry T W) → MayFollowBy (UpToClones is_clone) will_wake sure at e → is_refused e.reply ≡ true → next at.cell e ≡ at.cell
  next-refused at e may is = elim may.replied [
    | inl same ↦ elim same [
      | inl it ↦ subst (λ (r : Reply T). is_refused r ≡ true → next at.cell (record { call = e.call; reply = r }) ≡ at.cell) (sym it) (refused_same at.cell e.call) is
      | inr cloned
          ↦ let not = cloned_answers is_clone e.call (reply at.cell e.call) e.reply cloned in cc
    ]
    | inr refused ↦ subst (λ (r : Reply T). next at.cell (record { call = e.call; reply = r }) ≡ at.cell) (sym refused.0) (memory_same at.cell e.call)
  ]

  -- a refused entry leaves the cell as it was
  pub refused_cell : (from to : State T W) (e : Entry T W) (woken : List (List W)) → RunsBy (UpToClones is_clone) will_wake sure from (e ∷ []) woken to → is_refused e.reply ≡ true
      → next from.cell e ≡ from.cell
  refused_cell from to e woken leads is =
      let here : MayFollowBy (UpToClones is_clone) will_wake sure from e =
      subst (λ (at : State T W). MayFollowBy (UpToClones is_clone) will_wake sure at e) (after-nil is_clone will_wake sure from leads.sound.none_skipped) leads.legal.0 in
      next-refused from e here is

  -- and so neither fills nor closes
  quiet_if_refused : (from to : State T W) (e : Entry T W) (woken : List (List W)) → RunsBy (UpToClones is_clone) will_wake sure from (e ∷ []) woken to → is_refused e.reply ≡ true
      → ends_waiting from.cell (next from.cell e) ≡ false
  quiet_if_refused from to e woken leads is = subst (λ (c : Cell T). ends_waiting from.cell c ≡ false) (sym (refused_cell from to e woken leads is)) (stays from.cell)

  -- and leaves the wait list as it was
  pub refused_waiting : (from to : State T W) (e : Entry T W) (woken : List (List W)) → RunsBy (UpToClones is_clone) will_wake sure from (e ∷ []) woken to → is_refused e.reply ≡ true
      → to.waiting ≡ from.waiting
  refused_waiting from to e woken leads is =
      let quiet = quiet_if_refused from to e woken leads is in
      let silent : pending_waker e ≡ None = refused_silent e.call e.reply is in
      let list : waiting will_wake from (e ∷ []) ≡ from.waiting = rw (quiet, silent) (ap (wait_list will_wake) (append-nil from.waiting) ∙ leads.sound.none_skipped) in
      leads.waiting_is ∙ list

  -- an entry that neither fills nor closes wakes no waker
  pub handed_none : (from to : State T W) (e : Entry T W) (woken : List (List W)) → RunsBy (UpToClones is_clone) will_wake sure from (e ∷ []) woken to
      → ends_waiting from.cell (next from.cell e) ≡ false → woken ≡ [] ∷ []
  handed_none from to e woken leads quiet =
      let none : wakes_after will_wake from [] (e ∷ []) ≡ [] ∷ [] = rw quiet refl in
      leads.wakes_are ∙ none

  -- and nor does a refused one
  pub refused_handed : (from to : State T W) (e : Entry T W) (woken : List (List W)) → RunsBy (UpToClones is_clone) will_wake sure from (e ∷ []) woken to → is_refused e.reply ≡ true → woken ≡ [] ∷ []
  refused_handed from to e woken leads is = handed_none from to e woken leads (quiet_if_refused from to e woken leads is)

  -- a history ends in a sound state
  pub Runs-sound : (from to : State T W) (h : History T W) (woken : List (List W)) → RunsBy (UpToClones is_clone) will_wake sure from h woken to → IsSound will_wake to
  Runs-sound from to h woken leads =
      let there = IsSound-after is_clone will_wake sure from h leads.sound leads.legal in
      record {
        counted = subst (λ (c : Cell T). IsCounted c) (sym leads.cell_is) there.counted;
        waits_vacant = λ not. leads.waiting_is ∙ there.waits_vacant (subst (λ (c : Cell T). is_vacant c ≡ false) leads.cell_is not);
        none_skipped = subst (λ (l : List W). wait_list will_wake l ≡ l) (sym leads.waiting_is) there.none_skipped;
      }
