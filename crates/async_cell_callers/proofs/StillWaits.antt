-- After calls that end no waiting, who waited still waits.
use Rattle.std.proofs.Common.{◌≡◌, ◌≤◌, ℕ, Bool, true, false, List, [], ◌∷◌, ◌++◌, Some, refl, sym, subst, ◌∙◌, ap, arith, le_refl, nat_eq}
use Rattle.std.proofs.lemmas.Bool.Decides.{nat_tests}
use Rattle.async_cell_model.specs.History.{IsCovered}
use Rattle.async_cell_latest.specs.State.{State, is_closed}
use Rattle.async_cell_latest.specs.Step.{PollChanged, Pending, ends_waiting}
use Rattle.async_cell_latest.specs.History.{Entry, History, IsLegal, MayFollow, Runs, after, then_state}
use Rattle.async_cell_latest.specs.Follower.{has_end, pending_waker}
use Rattle.async_cell_latest.proofs.Versions.{closed_stays}

module _ {T W : Type 0} (will_wake : W → W → Bool) where
  -- no call moves the version back
  then_later : (s : State T W) (e : Entry T W) → s.version ≤ (then_state will_wake s e).version
  then_later s e = grind (arith, nat_tests, le_refl)

  after_later : (s : State T W) (h : History T W) → s.version ≤ (after will_wake s h).version
  after_later s [] = le_refl _
  after_later s (e ∷ h) = grind (arith, then_later, after_later (then_state will_wake s e) h)

  module _ (sure : Bool) where
    -- a call that ends all waiting moves the version on, or closes the state
    end_shows : (s : State T W) (e : Entry T W) → MayFollow will_wake sure s e → ends_waiting s e.call ≡ true → (then_state will_wake s e).version ≡ s.version
        → is_closed (then_state will_wake s e) ≡ true
    end_shows s e may ends same = grind (arith, nat_tests)

    -- where the state is open at last, with the version that it had, no call ended any waiting
    none_ends : (s : State T W) (h : History T W) → IsLegal will_wake sure s h → (after will_wake s h).version ≡ s.version → is_closed (after will_wake s h) ≡ false → has_end will_wake s h ≡ false
    none_ends s [] legal same is_open = refl
    none_ends s (e ∷ h) legal same is_open =
        grind (arith, nat_tests, end_shows s e, then_later s e, after_later (then_state will_wake s e) h, closed_stays will_wake (then_state will_wake s e) h, none_ends (then_state will_wake s e) h)

    -- a poll that waited, and then others' calls: its waker still waits, or one that would wake it
    pub still_waits :
        ((from at to : State T W) (g h : History T W) (first second : List (List W)) → Runs will_wake sure from g first at → Runs will_wake sure at h second to
        → Runs will_wake sure from (g ++ h) (first ++ second) to)
        → ((b : State T W) (g : History T W) (e : Entry T W) (rest : History T W) (w : W) → IsLegal will_wake sure b (g ++ e ∷ rest) → pending_waker e.call e.reply ≡ Some w
        → has_end will_wake (after will_wake b (g ++ e ∷ [])) rest ≡ false → IsCovered will_wake (after will_wake b (g ++ e ∷ rest)).waiting w)
        → (b s t : State T W) (seen : ℕ) (w : W) (h : History T W) (woken : List (List W))
        → Runs will_wake sure b (record { call = PollChanged seen w; reply = Pending } ∷ []) ([] ∷ []) s → Runs will_wake sure s h woken t
        → t.version ≡ s.version → is_closed t ≡ false → IsCovered will_wake t.waiting w
    still_waits join covered b s t seen w h woken poll between same is_open =
        let e : Entry T W = record { call = PollChanged seen w; reply = Pending } in
        let all = join b s t (e ∷ []) h ([] ∷ []) woken poll between in
        let owners : t.owners ≡ (after will_wake b (e ∷ h)).owners = all.stays.2 in
        let version : (after will_wake b (e ∷ h)).version ≡ (then_state will_wake b e).version = sym all.stays.1 ∙ same ∙ poll.stays.1 in
        let quiet = none_ends (then_state will_wake b e) h all.legal.1 version (ap (λ n. nat_eq n 0) (sym owners) ∙ is_open) in
        subst (λ ws. IsCovered will_wake ws w) (sym all.waiting_is) (covered b [] e h w all.legal refl quiet)
