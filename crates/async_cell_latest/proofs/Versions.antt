-- How a history moves the version on, when the value changes, and what polls and reads show of both.
use Rattle.async_cell_latest.proofs.Words.{seen_then, IsBy, IsFollower, seen_after, is_old, has_write, IsNewer, IsRising, History, is_memory, then_state, after, Entry, MayFollow, IsLegal, State}
use Rattle.async_cell_latest.proofs.Words.{Stays, is_closed, Shown, IsSubsequence, none, skip, both, ◌≡◌, ◌≤◌, ℕ, Bool, true, false, [], ◌∷◌, ◌++◌, refl, arith, le_refl, nat_tests}

module _ {T W : Type 0} (will_wake : W → W → Bool) where
  -- no call moves the version back
  then_later : (s : State T W) (e : Entry T W) → s.version ≤ (then_state will_wake s e).version
  then_later s e = grind (arith, nat_tests, le_refl)

  after_later : (s : State T W) (h : History T W) → s.version ≤ (after will_wake s h).version
  after_later s [] = le_refl _
  after_later s (e ∷ h) = grind (arith, then_later, after_later (then_state will_wake s e) h)

  -- with the same version it is the same value
  pub after_same : (s : State T W) (h : History T W) → (after will_wake s h).version ≡ s.version → (after will_wake s h).value ≡ s.value
  after_same s [] same = refl
  after_same s (e ∷ h) same = grind (arith, nat_tests, then_later s e, after_later (then_state will_wake s e) h, after_same (then_state will_wake s e) h)

  -- a closed state stays as it is
  pub closed_stays : (s : State T W) (h : History T W) → is_closed s ≡ true → Stays s (after will_wake s h)
  closed_stays s [] over = (refl, refl, refl)
  closed_stays s (e ∷ h) over = grind (arith, nat_tests, closed_stays (then_state will_wake s e) h)

  pub after_append : (s : State T W) (g h : History T W) → after will_wake s (g ++ h) ≡ after will_wake (after will_wake s g) h
  after_append s [] h = refl
  after_append s (e ∷ g) h = after_append (then_state will_wake s e) g h

module _ {T W : Type 0} (will_wake : W → W → Bool) (sure : Bool) where
  -- a joined history is legal in its parts
  pub legal_rest : (s : State T W) (g h : History T W) → IsLegal will_wake sure s (g ++ h) → IsLegal will_wake sure (after will_wake s g) h
  legal_rest s [] h legal = legal
  legal_rest s (e ∷ g) h legal = legal_rest (then_state will_wake s e) g h legal.1

  -- without a write that succeeds the version stays
  pub after_kept : (s : State T W) (h : History T W) → IsLegal will_wake sure s h → has_write h ≡ false → (after will_wake s h).version ≡ s.version
  after_kept s [] legal quiet = refl
  after_kept s (e ∷ h) legal quiet = grind (arith, nat_tests, after_kept (then_state will_wake s e) h)

  -- after a call that writes nothing, and no write, the version and the value are those before it
  kept_from : (b : State T W) (g : History T W) (e : Entry T W) (rest : History T W) → IsLegal will_wake sure b (g ++ e ∷ rest) → is_old e.reply ≡ false → has_write rest ≡ false
      → ((after will_wake b (g ++ e ∷ rest)).version ≡ (after will_wake b g).version) × ((after will_wake b (g ++ e ∷ rest)).value ≡ (after will_wake b g).value)
  kept_from b g e rest legal not_old quiet =
      let s = after will_wake b g in
      grind (arith, nat_tests, legal_rest b g (e ∷ rest), after_append will_wake b g (e ∷ rest), after_kept s (e ∷ rest), after_same will_wake s (e ∷ rest))

  follower_last : (start : ℕ) (mine : History T W) (e : Entry T W) → IsFollower start (mine ++ e ∷ []) → IsBy (seen_after start mine) e.call
  follower_last start [] e follows = follows.0
  follower_last start (f ∷ mine) e follows = follower_last (seen_then start f.reply) mine e follows.1

  seen_after_push : (start : ℕ) (mine : History T W) (e : Entry T W) → seen_after start (mine ++ e ∷ []) ≡ seen_then (seen_after start mine) e.reply
  seen_after_push start [] e = refl
  seen_after_push start (f ∷ mine) e = seen_after_push (seen_then start f.reply) mine e

  -- a follower that polled or read after the last write has seen the last version
  pub last_seen : (b : State T W) (g : History T W) (e : Entry T W) (rest mine : History T W) (start : ℕ) → IsLegal will_wake sure b (g ++ e ∷ rest)
      → IsFollower start (mine ++ e ∷ []) → is_memory e.reply ≡ false → has_write rest ≡ false → seen_after start (mine ++ e ∷ []) ≡ (after will_wake b (g ++ e ∷ rest)).version
  last_seen b g e rest mine start legal follows memory quiet = grind (arith, nat_tests, legal_rest, follower_last, kept_from, seen_after_push)

  pub shown_own : (s : State T W) (e : Entry T W) (version : ℕ) (x : T) → MayFollow will_wake sure s e → e.reply ≡ Shown version x → (version ≡ s.version) × (x ≡ s.value)
  shown_own s e version x may shows = grind (arith, nat_tests)

  entry_newer : (s : State T W) (seen : ℕ) (e : Entry T W) → MayFollow will_wake sure s e → IsBy seen e.call → seen ≤ s.version → IsNewer seen e.call e.reply × (seen_then seen e.reply ≤ s.version)
  entry_newer s seen e may by below = grind (arith, nat_tests, le_refl)

  -- whatever entries of a history are a follower's, it is shown newer and newer versions
  pub rising : (s : State T W) (seen : ℕ) (mine h : History T W) → IsSubsequence mine h → IsLegal will_wake sure s h → IsFollower seen mine → seen ≤ s.version → IsRising seen mine
  rising s seen mine h none legal follows below = tt
  rising s seen mine h (skip {x = e} part) legal follows below = grind (arith, then_later will_wake s e, rising (then_state will_wake s e) seen mine _ part)
  rising s seen mine h (both {x = e} part) legal follows below = grind (arith, entry_newer, then_later, rising (then_state will_wake s e) (seen_then seen e.reply) _ _ part)

-- what is there after the last write, and what a follower has seen then
pub ruleset last_state = (legal_rest, after_kept, after_append, after_same, last_seen)
