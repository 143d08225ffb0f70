-- Where no waker would wake another, a step needs only the number of the wakers that wait.
use Rattle.async_cell_history.proofs.Words.{◌≡◌, inl, inr, ◌≤◌, Bool, true, false, List, [], ◌∷◌, Option, Some, None, refl, ap, sym, subst, ◌∙◌, arith, length, length-append}
use Rattle.async_cell_history.proofs.Words.{if◌then◌else◌, option_to_list, State, Does, Kept, Entry, may_refuse, ends_waiting, Past, Leads, content, IfSome}
use Rattle.async_cell_model.specs.Machine.{with_one_more, is_empty, needs_memory, pending_waker}
use Rattle.async_cell_model.specs.Facts.{facts}
use Rattle.async_cell_model.proofs.OneMoreWaker.{all_wait, never_skipped}
use Rattle.std.specs.Prelude.{◌-◌, fold}
use Rattle.async_cell_history.specs.History.{Exchanged, OnlyExchanges}

none_as_long : {W : Type 0} (xs ys : List W) → length xs ≡ length ys → ys ≡ [] → xs ≡ []
none_as_long [] ys long none = refl
none_as_long (x ∷ xs) [] long none = absurd (omega (arith, long))
none_as_long (x ∷ xs) (y ∷ ys) long none = grind arith

empty_as_long : {W : Type 0} (xs ys : List W) → length xs ≡ length ys → is_empty xs ≡ is_empty ys
empty_as_long [] [] long = refl
empty_as_long [] (y ∷ ys) long = absurd (omega (arith, long))
empty_as_long (x ∷ xs) [] long = absurd (omega (arith, long))
empty_as_long (x ∷ xs) (y ∷ ys) long = refl

if_as_long : {W : Type 0} (xs ys : List W) (b : Bool) → length xs ≡ length ys → length (if b then [] else xs) ≡ length (if b then [] else ys)
if_as_long xs ys true long = refl
if_as_long xs ys false long = long

module _ {W : Type 0} (will_wake : W → W → Bool) (never : (v w : W) → will_wake v w ≡ false) where
  more_as_long : (xs ys : List W) (o : Option W) → length xs ≡ length ys
      → length (fold (with_one_more will_wake) xs (option_to_list o)) ≡ length (fold (with_one_more will_wake) ys (option_to_list o))
  more_as_long xs ys None long = long
  more_as_long xs ys (Some w) long = rw (never_skipped will_wake xs w never, never_skipped will_wake ys w never, length-append xs (w ∷ []), length-append ys (w ∷ []), long) refl

module _ {T W : Type 0} (will_wake : W → W → Bool) (never : (v w : W) → will_wake v w ≡ false) where
  needs_as_long : (sure : Bool) (s : State T W) (was : List W) (o : Option W) → length was ≡ length s.waiting
      → needs_memory will_wake sure (record { cell = s.cell; waiting = was; room = s.room }) o ≡ needs_memory will_wake sure s o
  needs_as_long sure s was None long = refl
  needs_as_long sure s was (Some w) long = rw (never_skipped will_wake was w never, never_skipped will_wake s.waiting w never, empty_as_long was s.waiting long) refl

  refuse_as_long : (sure : Bool) (s : State T W) (was : List W) (call : Kept T W) → length was ≡ length s.waiting
      → may_refuse will_wake sure (record { cell = s.cell; waiting = was; room = s.room }) call ≡ may_refuse will_wake sure s call
  refuse_as_long sure s was call long = rw (needs_as_long sure s was (facts call).waker long) refl

  -- the step from a state with other wakers
  step_as_long : (sure : Bool) (s t : State T W) (e : Entry T W) (woken was : List W) → length was ≡ length s.waiting → Does will_wake sure s e woken t
      → Does will_wake sure (record { cell = s.cell; waiting = was; room = s.room }) e (if ends_waiting s.cell t.cell then was else [])
      (record { cell = t.cell; waiting = if ends_waiting s.cell t.cell then [] else fold (with_one_more will_wake) was (option_to_list (pending_waker e)); room = t.room })
  step_as_long sure s t e woken was long does = record {
    sound = record {
      counted = does.sound.counted;
      waits_vacant = λ not. none_as_long was s.waiting long (does.sound.waits_vacant not);
      none_skipped = all_wait will_wake was never;
    };
    replied = elim does.replied [ inl own ↦ inl own | inr refused ↦ inr (refused.0, refuse_as_long sure s was e.call long ∙ refused.1) ];
    updated = does.updated;
    cell_is = does.cell_is;
    waiting_is = refl;
    room_is_left = rw (long, if_as_long _ _ (ends_waiting s.cell t.cell) (more_as_long will_wake never was s.waiting (pending_waker e) long))
        (subst (λ (l : List W). (if ends_waiting s.cell t.cell then 0 else s.room - (length l - length s.waiting)) ≤ t.room) does.waiting_is does.room_is_left);
    woken_are = refl;
  }

-- A step from the state of a history: the history has the same step, up to wakers that were
-- exchanged.
pub record IsStepOf {T W : Type 0} (will_wake : W → W → Bool) (sure : Bool) (s : State T W) (waited : List W) (e : Entry T W) (t : State T W) : Type 0 where
  pub then_waited : List W
  pub woken : List W
  pub does : Does will_wake sure (record { cell = s.cell; waiting = waited; room = s.room }) e woken (record { cell = t.cell; waiting = then_waited; room = t.room })
  pub exchanged : Exchanged will_wake then_waited t.waiting

-- exchanged twice
exchanged_twice : {W : Type 0} (will_wake : W → W → Bool) (a b c : List W) → Exchanged will_wake a b → Exchanged will_wake b c → Exchanged will_wake a c
exchanged_twice will_wake a b c (inl ab) (inl bc) = inl (bc ∙ ab)
exchanged_twice will_wake a b c (inl ab) (inr (never, bc)) = inr (never, bc ∙ ap length ab)
exchanged_twice will_wake a b c (inr (never, ab)) (inl bc) = inr (never, ap length bc ∙ ab)
exchanged_twice will_wake a b c (inr (never, ab)) (inr (_, bc)) = inr (never, bc ∙ ab)

module _ {T W : Type 0} (will_wake : W → W → Bool) (sure : Bool) where
  pub step_of : (s t : State T W) (e : Entry T W) (woken waited : List W) → Exchanged will_wake waited s.waiting → Does will_wake sure s e woken t
      → IsStepOf will_wake sure s waited e t
  step_of s t e woken waited (inl same) does = record {
    then_waited = t.waiting;
    woken = woken;
    does = subst (λ (l : List W). Does will_wake sure (record { cell = s.cell; waiting = l; room = s.room }) e woken t) same does;
    exchanged = inl refl;
  }
  step_of s t e woken waited (inr (never, long)) does = record {
    then_waited = if ends_waiting s.cell t.cell then [] else fold (with_one_more will_wake) waited (option_to_list (pending_waker e));
    woken = if ends_waiting s.cell t.cell then waited else [];
    does = step_as_long will_wake never sure s t e woken waited (sym long) does;
    exchanged = inr (never, ap length does.waiting_is ∙ if_as_long _ _ (ends_waiting s.cell t.cell) (more_as_long will_wake never s.waiting waited (pending_waker e) long));
  }

  -- a past that leads to a core leads to it also after wakers were exchanged
  pub still_leads : (holds : T → Type 0) (past : Past T W) (old new : State T W) → OnlyExchanges will_wake old new → Leads will_wake sure holds past old → Leads will_wake sure holds past new
  still_leads holds past old new only (led, rule) = (
    record {
      waited = led.waited;
      runs = record {
        sound = led.runs.sound;
        legal = led.runs.legal;
        cell_is = only.cell ∙ led.runs.cell_is;
        waiting_is = led.runs.waiting_is;
        room_is_left = omega (arith, led.runs.room_is_left, only.room);
        wakes_are = led.runs.wakes_are;
      };
      exchanged = exchanged_twice will_wake led.waited old.waiting new.waiting led.exchanged only.waiting;
    },
    subst (λ c. IfSome (content c) holds) (sym only.cell) rule,
  )
