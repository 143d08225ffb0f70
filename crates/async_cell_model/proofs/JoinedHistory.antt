-- What a joined history makes of the cell and of the wait list.
use Rattle.async_cell_model.proofs.Words.{◌≡◌, ◌≤◌, Bool, false, ◌||◌, List, [], ◌∷◌, ◌++◌, length, refl, sym, arith, append_assoc, append-nil, filter_map, filter_map-append, if◌then◌else◌}
use Rattle.async_cell_model.proofs.Words.{Cell, ends_waiting, next, wait_list, State, pending_waker, History, cell_after, has_fill_or_close, since, registrations, waiting, room, after}
use Rattle.std.proofs.Math.Bool.{or_assoc}
use Rattle.async_cell_model.proofs.OneMoreWaker.{wait_list-append, wait_list-wait_list, wait_list-longer}

-- the cut of a list that is longer by one in front
cut_over : {A : Type 0} (p q r s : Bool) (e : A) (g h joined first second : List A) → s ≡ (q || r) → joined ≡ (if r then second else (first ++ h))
    → (if p || s then joined else (e ∷ (g ++ h))) ≡ (if r then second else ((if p || q then first else e ∷ g) ++ h))
cut_over p q r s e g h joined first second ends is = grind arith

module _ {T W : Type 0} where
  pub cell_after-append : (c : Cell T) (g h : History T W) → cell_after c (g ++ h) ≡ cell_after (cell_after c g) h
  cell_after-append c [] h = refl
  cell_after-append c (e ∷ g) h = cell_after-append (next c e) g h

  pub has_fill_or_close-append : (c : Cell T) (g h : History T W) → has_fill_or_close c (g ++ h) ≡ (has_fill_or_close c g || has_fill_or_close (cell_after c g) h)
  has_fill_or_close-append c [] h = refl
  has_fill_or_close-append c (e ∷ g) h =
      rw (has_fill_or_close-append (next c e) g h) (sym (or_assoc (ends_waiting c (next c e)) (has_fill_or_close (next c e) g) (has_fill_or_close (cell_after (next c e) g) h)))

  -- with no fill or close, nothing is cut
  pub since-none : (c : Cell T) (h : History T W) → has_fill_or_close c h ≡ false → since c h ≡ h
  since-none c [] none = refl
  since-none c (e ∷ h) none = rw none refl

  pub since-append : (c : Cell T) (g h : History T W) → since c (g ++ h) ≡ (if has_fill_or_close (cell_after c g) h then since (cell_after c g) h else (since c g ++ h))
  since-append c [] h = grind (arith, since-none)
  since-append c (e ∷ g) h = cut_over (ends_waiting c (next c e)) (has_fill_or_close (next c e) g) (has_fill_or_close (cell_after (next c e) g) h) (has_fill_or_close (next c e) (g ++ h)) e g h _ _ _
      (has_fill_or_close-append (next c e) g h) (since-append (next c e) g h)

  pub registrations-append : (b : State T W) (g h : History T W)
      → registrations b (g ++ h) ≡ (if has_fill_or_close (cell_after b.cell g) h then filter_map pending_waker (since (cell_after b.cell g) h) else (registrations b g ++ filter_map pending_waker h))
  registrations-append b g h = grind (arith, has_fill_or_close-append, since-append, filter_map-append, append_assoc)

module _ {T W : Type 0} (will_wake : W → W → Bool) where
  pub waiting-append : (b : State T W) (g h : History T W) → waiting will_wake b (g ++ h) ≡ waiting will_wake (after will_wake b g) h
  waiting-append b g h = grind (arith, registrations-append, since-none, wait_list-append)

  -- the empty history leaves the state as it is
  pub after_none : (b : State T W) → wait_list will_wake b.waiting ≡ b.waiting → after will_wake b [] ≡ b
  after_none b kept = grind (arith, append-nil)

  -- with no fill or close, the list only grows
  grows : (b : State T W) (h : History T W) → wait_list will_wake b.waiting ≡ b.waiting → has_fill_or_close b.cell h ≡ false → length b.waiting ≤ length (waiting will_wake b h)
  grows b h kept none = grind (arith, wait_list-longer, kept)

  pub room-append : (b : State T W) (g h : History T W) → wait_list will_wake b.waiting ≡ b.waiting → room will_wake b (g ++ h) ≡ room will_wake (after will_wake b g) h
  room-append b g h kept =
      rw (waiting-append b g h, has_fill_or_close-append b.cell g h)
      (grind (arith, grows b g kept, grows (after will_wake b g) h (wait_list-wait_list will_wake (registrations b g))))

  -- a joined history ends where its second part does, started from the state after the first
  pub after-append : (b : State T W) (g h : History T W) → wait_list will_wake b.waiting ≡ b.waiting → after will_wake b (g ++ h) ≡ after will_wake (after will_wake b g) h
  after-append b g h kept = λ i. record { cell = cell_after-append b.cell g h i; waiting = waiting-append b g h i; room = room-append b g h kept i }
