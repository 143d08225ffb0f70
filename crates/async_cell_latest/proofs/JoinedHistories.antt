-- Two histories, the second from the state where the first ends, are one. A legal history from a
-- sound state ends in a sound state, also that of one poll that waits.
use Rattle.async_cell_latest.proofs.Words.{Runs, History, then_state, after, Entry, MayFollow, IsLegal, all_woken, wait_answer, Kept, next, State, IsSound, Stays, is_closed, PollChanged}
use Rattle.async_cell_latest.proofs.Words.{may_lack_memory, never_skipped, keep_added, ◌≡◌, ◌≤◌, ◌<◌, ◌-◌, Bool, false, [], ◌∷◌, ◌++◌, Result, OnOk, OnErr, IsOk, refl, arith, le_refl, nat_tests}
use Rattle.std.specs.Prelude.{ℕ}
use Rattle.async_cell_wakers.specs.WaitList.{ListState}
use Rattle.async_cell_latest.specs.State.{state_of}
use Rattle.async_cell_model.proofs.OneMoreWaker.{all_wait}
pub use Rattle.async_cell_latest.proofs.Versions.{after_append}

-- the second state is the first, with no less room
abbrev More : {T W : Type 0} → State T W → State T W → Type 0
More s t = Stays s t × (t.waiting ≡ s.waiting) × (s.room ≤ t.room)

module _ {T W : Type 0} (will_wake : W → W → Bool) where
  next_more : (s t : State T W) (call : Kept T W) → More s t → More (next will_wake s call) (next will_wake t call)
  next_more s t call more = grind (arith, nat_tests, le_refl)

  then_more : (s t : State T W) (e : Entry T W) → More s t → More (then_state will_wake s e) (then_state will_wake t e)
  then_more s t e more = grind (arith, nat_tests, next_more)

  pub after_more : (s t : State T W) (h : History T W) → More s t → More (after will_wake s h) (after will_wake t h)
  after_more s t [] more = more
  after_more s t (e ∷ h) more = after_more (then_state will_wake s e) (then_state will_wake t e) h (then_more s t e more)

  pub woken_more : (s t : State T W) (h : History T W) → More s t → all_woken will_wake t h ≡ all_woken will_wake s h
  woken_more s t [] more = refl
  woken_more s t (e ∷ h) more = grind (arith, nat_tests, then_more s t e, woken_more (then_state will_wake s e) (then_state will_wake t e) h)

  pub woken_append : (s : State T W) (g h : History T W) → all_woken will_wake s (g ++ h) ≡ all_woken will_wake s g ++ all_woken will_wake (after will_wake s g) h
  woken_append s [] h = refl
  woken_append s (e ∷ g) h = cc (woken_append (then_state will_wake s e) g h)

  next_sound : (s : State T W) (call : Kept T W) → IsSound will_wake s → IsSound will_wake (next will_wake s call)
  next_sound s call sound = grind (arith, nat_tests, keep_added)

  pub after_sound : (s : State T W) (h : History T W) → IsSound will_wake s → IsSound will_wake (after will_wake s h)
  after_sound s [] sound = sound
  after_sound s (e ∷ h) sound = grind (arith, nat_tests, after_sound (then_state will_wake s e) h, next_sound)

  module _ (sure : Bool) where
    -- more room only makes fewer refusals legal
    follow_more : (s t : State T W) (e : Entry T W) → More s t → MayFollow will_wake sure t e → MayFollow will_wake sure s e
    follow_more s t e more may = grind (arith, nat_tests)

    pub legal_more : (s t : State T W) (h : History T W) → More s t → IsLegal will_wake sure t h → IsLegal will_wake sure s h
    legal_more s t [] more legal = tt
    legal_more s t (e ∷ h) more legal = (follow_more s t e more legal.0, legal_more (then_state will_wake s e) (then_state will_wake t e) h (then_more s t e more) legal.1)

    pub legal_append : (s : State T W) (g h : History T W) → IsLegal will_wake sure s g → IsLegal will_wake sure (after will_wake s g) h → IsLegal will_wake sure s (g ++ h)
    legal_append s [] h first second = second
    legal_append s (e ∷ g) h first second = (first.0, legal_append (then_state will_wake s e) g h first.1 second)

    -- a poll that waits adds its waker, and takes one place of the room at most, or its waker comes
    -- back where there is no memory
    pub added : (never : (a b : W) → will_wake a b ≡ false) {A : Type 0} (b to : State T W) (w : W) (result : Result A W) → IsSound will_wake b → is_closed b ≡ false → Stays b to
        → OnOk result (to.waiting ≡ b.waiting ++ w ∷ []) → OnOk result (b.room - 1 ≤ to.room) → OnErr result (to ≡ b) → (b.waiting ≡ [] → IsOk result) → (0 < b.room → IsOk result)
        → Runs will_wake sure b (record { call = PollChanged b.version w; reply = (wait_answer {T = T} {W = W} result).reply } ∷ []) ((wait_answer {T = T} {W = W} result).woken ∷ []) to
    added never b to w result sound live stays waiting room same first more = grind (arith, nat_tests, never_skipped, may_lack_memory sure b.waiting b.room)

-- where none is ever skipped, another list that is empty if the first was leaves a state sound
pub still_sound : {T W : Type 0} (will_wake : W → W → Bool) (never : (a b : W) → will_wake a b ≡ false) (value : T) (version owners : ℕ) (old new : ListState W)
    → IsSound will_wake (state_of value version owners old) → (old.wakers ≡ [] → new.wakers ≡ []) → IsSound will_wake (state_of value version owners new)
still_sound will_wake never value version owners old new sound none = record {
  first = sound.first;
  last = sound.last;
  counted = sound.counted;
  waits_open = λ closed. none (sound.waits_open closed);
  none_skipped = all_wait will_wake new.wakers never;
}

-- and of an open state each list does
pub open_sound : {T W : Type 0} (will_wake : W → W → Bool) (never : (a b : W) → will_wake a b ≡ false) (value : T) (version owners : ℕ) (old new : ListState W)
    → IsSound will_wake (state_of value version owners old) → is_closed (state_of value version owners old) ≡ false → IsSound will_wake (state_of value version owners new)
open_sound will_wake never value version owners old new sound live = record {
  first = sound.first;
  last = sound.last;
  counted = sound.counted;
  waits_open = λ closed. cc;
  none_skipped = all_wait will_wake new.wakers never;
}

pub ruleset joined_histories = (after_more, after_append, woken_more, woken_append, legal_append, legal_more)
