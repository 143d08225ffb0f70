-- Laws of every legal history, up to clones.
use Rattle.async_cell_model.proofs.Words.{◌≡◌, ◌<◌, Bool, true, false, not, None, [], ◌∷◌, ◌++◌, length, Some, refl, sym, subst, arith, append_assoc, append-nil, length-append, nat_tests}
use Rattle.async_cell_model.proofs.Words.{if◌then◌else◌, ◌-◌, ◌↔◌, filter_map, Entry, is_vacant, ends_waiting, next, wait_list, State, IsSound, pending_waker, UpToClones, IsDistinct}
use Rattle.async_cell_model.proofs.Words.{IsCovered, History, cell_after, has_fill_or_close, registrations, room, skips, waiting, after, IsLegalAfterBy, MayFollowBy}
use Rattle.async_cell_model.proofs.OneMoreWaker.{wait_list-covers, wait_list-distinct, wait_list-one, wait_list-wait_list}
use Rattle.async_cell_model.proofs.JoinedHistory.{after_none, after-append, waiting-append, room-append, registrations-append, cell_after-append}

module _ {T W : Type 0} (will_wake : W → W → Bool) where
  -- an entry that neither fills nor closes takes one place where the list got longer
  pub room_longer : (b : State T W) (h : History T W) (e : Entry T W) → IsSound will_wake b → ends_waiting (cell_after b.cell h) (next (cell_after b.cell h) e) ≡ false
      → length (waiting will_wake b h) < length (waiting will_wake b (h ++ e ∷ [])) → room will_wake b (h ++ e ∷ []) ≡ room will_wake b h - 1
  room_longer b h e sound quiet more =
      grind (
        arith,
        append-nil,
        length-append,
        wait_list-one,
        wait_list-wait_list will_wake (registrations b h),
        waiting-append will_wake b h (e ∷ []),
        room-append will_wake b h (e ∷ []) sound.none_skipped,
      )

module _ {T W : Type 0} (is_clone : T → T → Type 0) (will_wake : W → W → Bool) (sure : Bool) where
  -- where no poll waits, none returns `Pending`
  no_waker : (at : State T W) (e : Entry T W) → is_vacant at.cell ≡ false → MayFollowBy (UpToClones is_clone) will_wake sure at e → pending_waker e ≡ None
  no_waker at e not may = grind arith

  -- a legal entry in a sound state leaves a sound state
  IsSound-step : (at : State T W) (e : Entry T W) → IsSound will_wake at → MayFollowBy (UpToClones is_clone) will_wake sure at e → IsSound will_wake (after will_wake at (e ∷ []))
  IsSound-step at e sound may = grind (arith, nat_tests, wait_list-wait_list, no_waker)

  -- what is legal after a history is legal in the state where it ends
  pub IsLegalAfter-anew : (b : State T W) (g h rest : History T W) → wait_list will_wake b.waiting ≡ b.waiting → IsLegalAfterBy (UpToClones is_clone) will_wake sure b (g ++ h) rest
      → IsLegalAfterBy (UpToClones is_clone) will_wake sure (after will_wake b g) h rest
  IsLegalAfter-anew b g h [] kept legal = tt
  IsLegalAfter-anew b g h (e ∷ rest) kept legal = (
    subst (λ (at : State T W). MayFollowBy (UpToClones is_clone) will_wake sure at e) (after-append will_wake b g h kept) legal.0,
    IsLegalAfter-anew b g (h ++ e ∷ []) rest kept (subst (λ (l : History T W). IsLegalAfterBy (UpToClones is_clone) will_wake sure b l rest) (append_assoc g h (e ∷ [])) legal.1),
  )

  -- the second part of a legal history is legal, and so is the first
  pub IsLegalAfter-second : (b : State T W) (h xs ys : History T W) → IsLegalAfterBy (UpToClones is_clone) will_wake sure b h (xs ++ ys)
      → IsLegalAfterBy (UpToClones is_clone) will_wake sure b (h ++ xs) ys
  IsLegalAfter-second b h [] ys legal = subst (λ (l : History T W). IsLegalAfterBy (UpToClones is_clone) will_wake sure b l ys) (sym (append-nil h)) legal
  IsLegalAfter-second b h (e ∷ xs) ys legal = subst (λ (l : History T W). IsLegalAfterBy (UpToClones is_clone) will_wake sure b l ys) (append_assoc h (e ∷ []) xs)
      (IsLegalAfter-second b (h ++ e ∷ []) xs ys legal.1)

  pub IsLegalAfter-first : (b : State T W) (h xs ys : History T W) → IsLegalAfterBy (UpToClones is_clone) will_wake sure b h (xs ++ ys) → IsLegalAfterBy (UpToClones is_clone) will_wake sure b h xs
  IsLegalAfter-first b h [] ys legal = tt
  IsLegalAfter-first b h (e ∷ xs) ys legal = (legal.0, IsLegalAfter-first b (h ++ e ∷ []) xs ys legal.1)

  pub IsLegal-anew : (b : State T W) (g h : History T W) → IsSound will_wake b → IsLegalAfterBy (UpToClones is_clone) will_wake sure b [] (g ++ h)
      → IsLegalAfterBy (UpToClones is_clone) will_wake sure (after will_wake b g) [] h
  IsLegal-anew b g h sound legal =
      let second = IsLegalAfter-second b [] g h legal in
      IsLegalAfter-anew b g [] h sound.none_skipped (subst (λ (l : History T W). IsLegalAfterBy (UpToClones is_clone) will_wake sure b l h) (sym (append-nil g)) second)

  -- the empty history leaves the state as it is
  pub after-nil : (b : State T W) → wait_list will_wake b.waiting ≡ b.waiting → after will_wake b [] ≡ b
  after-nil b kept = after_none will_wake b kept

  pub IsSound-after : (b : State T W) (h : History T W) → IsSound will_wake b → IsLegalAfterBy (UpToClones is_clone) will_wake sure b [] h → IsSound will_wake (after will_wake b h)
  IsSound-after b [] sound legal = subst (λ (at : State T W). IsSound will_wake at) (sym (after-nil b sound.none_skipped)) sound
  IsSound-after b (e ∷ h) sound legal =
      let may : MayFollowBy (UpToClones is_clone) will_wake sure b e = subst (λ (at : State T W). MayFollowBy (UpToClones is_clone) will_wake sure at e) (after-nil b sound.none_skipped) legal.0 in
      let anew : IsLegalAfterBy (UpToClones is_clone) will_wake sure (after will_wake b (e ∷ [])) [] h = IsLegalAfter-anew b (e ∷ []) [] h sound.none_skipped legal.1 in
      subst (λ (at : State T W). IsSound will_wake at) (sym (after-append will_wake b (e ∷ []) h sound.none_skipped)) (IsSound-after (after will_wake b (e ∷ [])) h (IsSound-step b e sound may) anew)

  -- the waker of a poll that waits is added last, or skipped
  pub waiting_one_more : (b : State T W) (h : History T W) (e : Entry T W) (w : W) → IsLegalAfterBy (UpToClones is_clone) will_wake sure b [] (h ++ e ∷ []) → pending_waker e ≡ Some w
      → waiting will_wake b (h ++ e ∷ []) ≡ (if skips will_wake (waiting will_wake b h) w then waiting will_wake b h else waiting will_wake b h ++ w ∷ [])
  waiting_one_more b h e w legal asked_for =
      let may = (IsLegalAfter-second b [] h (e ∷ []) legal).0 in
      grind (arith, waiting-append, no_waker, wait_list-one, wait_list-wait_list)

  -- the waker of a poll that waits is covered until the next fill or close
  pub stays_covered : (b : State T W) (g rest : History T W) (e : Entry T W) (w : W) → IsLegalAfterBy (UpToClones is_clone) will_wake sure b [] (g ++ e ∷ rest) → pending_waker e ≡ Some w
      → has_fill_or_close (cell_after b.cell (g ++ e ∷ [])) rest ≡ false → IsCovered will_wake (waiting will_wake b (g ++ e ∷ rest)) w
  stays_covered b g rest e w legal asked_for none =
      let may = (IsLegalAfter-second b [] g (e ∷ rest) legal).0 in
      grind (arith, no_waker, registrations-append, cell_after-append, wait_list-covers will_wake w (registrations b g) (filter_map pending_waker rest))

  -- a legal history ends in a sound state, so wakers wait only where the cell is vacant
  pub waits_only_vacant : (b : State T W) (h : History T W) → IsSound will_wake b → IsLegalAfterBy (UpToClones is_clone) will_wake sure b [] h → is_vacant (cell_after b.cell h) ≡ false
      → waiting will_wake b h ≡ []
  waits_only_vacant b h sound legal = (IsSound-after b h sound legal).waits_vacant

-- where a waker would wake another exactly if the two are equal, none waits twice
pub waits_once : {T W : Type 0} (will_wake : W → W → Bool) (b : State T W) (h : History T W) → ((v w : W) → (will_wake v w ≡ true) ↔ (v ≡ w)) → IsDistinct (waiting will_wake b h)
waits_once will_wake b h same = wait_list-distinct will_wake (registrations b h) (λ w. (same w w).1 refl)

pub ruleset sound_ends = (IsSound-after)

pub ruleset one_more_entry = (waiting-append, room-append, room_longer, wait_list-one, waiting_one_more)
