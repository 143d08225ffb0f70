-- What a call makes of its entry, and one more entry of a journal.
use Rattle.async_cell_recorded.proofs.Words.{Option, Call, content, kept_call, kept_after, Kept, Reply, ◌≡◌, ◌≤◌, ◌<◌, ◌^◌, ◌+◌, ℕ, suc, Bool, true, false}
use Rattle.async_cell_recorded.proofs.Words.{List, [], ◌∷◌, ◌++◌, if◌then◌else◌, length, map, refl, arith, length-append, append_assoc, append-nil}
use Rattle.async_cell_recorded.proofs.Words.{nat_tests, nat_eq, sum_by_push, Decides-eqb, filter-append, map-append, All-push, slice_index, slice_set, replicate, length-set, length-replicate}
use Rattle.async_cell_recorded.proofs.Words.{get_or-replicate, get_or-set_same, get_or-set_other, Named, is_memory, reply, State}
use Rattle.async_cell_recorded.proofs.Words.{IsSound, Does, woken_by, wakes_after, Runs, Runs-join, model_of, start}
use Rattle.async_cell_recorded.proofs.Words.{Entry, Recording, IsRecorded, plain_entry, made_by, serials_of, numbers_below, state, same_name, Totals, Test, IsJournal, from_bool, picked_after}

module _ {T W : Type 0} (will_wake : W → W → Bool) (sure : Bool) (at to : State T W) where
  -- a call that found no memory leaves the cell, and those that wait, as they were
  pub refused_unchanged : (call : Kept T W) (r : Reply T) (woken : List W) → is_memory r ≡ true → Does will_wake sure at (record { call = call; reply = r }) woken to
      → (to.cell ≡ at.cell) × (to.waiting ≡ at.waiting)
  refused_unchanged call r woken memory one = grind arith

  -- any other leaves the entry of the call
  pub kept_made : {E : Type 0} (edit : E → Option T → Option T) (edit_some : E → T → T) (call : Call T W E) (r : Reply T) (woken : List W) → is_memory r ≡ false
      → Does will_wake sure at (record { call = kept_call edit edit_some at.cell call; reply = r }) woken to
      → kept_after (kept_call (λ e c. c) (λ e v. v) at.cell call) (content to.cell) ≡ kept_call edit edit_some at.cell call
  kept_made edit edit_some call r woken found one = grind arith

module _ {T : Type 0} where
  serials_of-snoc : (share : ℕ) (h : List (Entry T)) (e : Entry T) → serials_of share (h ++ e ∷ []) ≡ serials_of share h ++ serials_of share (e ∷ [])
  serials_of-snoc share h e = grind (arith, filter-append, map-append)

  -- an entry's share made one more, and another as many as before
  pub made_by-snoc : (share : ℕ) (h : List (Entry T)) (e : Entry T) → made_by share (h ++ e ∷ []) ≡ (if nat_eq e.share share then suc (made_by share h) else made_by share h)
  made_by-snoc share h e = grind (arith, nat_tests, sum_by_push)

  serials_case : (share : ℕ) (h : List (Entry T)) (e : Entry T) (b : Bool) → (b ≡ true → e.serial ≡ made_by share h) → serials_of share h ≡ numbers_below (made_by share h)
      → serials_of share h ++ map (λ (x : Entry T). x.serial) (if b then e ∷ [] else []) ≡ numbers_below (if b then suc (made_by share h) else made_by share h)
  serials_case share h e b next was = grind (arith, append-nil, next)

  -- the serials are in order still
  pub serials_more : (h : List (Entry T)) (e : Entry T) → e.serial ≡ made_by e.share h → ((share : ℕ) → serials_of share h ≡ numbers_below (made_by share h))
      → (share : ℕ) → serials_of share (h ++ e ∷ []) ≡ numbers_below (made_by share (h ++ e ∷ []))
  serials_more h e next was share =
      rw (serials_of-snoc share h e, made_by-snoc share h e) (serials_case share h e (nat_eq e.share share) (λ same. rw (← (Decides-eqb e.share share).0 same) next) (was share))

  -- each next serial is the number of its share's entries still
  pub each_more : (n : ℕ) (nexts : List ℕ) (h : List (Entry T)) (e : Entry T) → length nexts ≡ n → ((share : ℕ) → share < n → slice_index nexts share ≡ made_by share h)
      → e.serial ≡ made_by e.share h → e.share < n → (share : ℕ) → share < n → slice_index (slice_set nexts e.share (e.serial + 1)) share ≡ made_by share (h ++ e ∷ [])
  each_more n nexts h e len each next of_share share below = grind (arith, nat_tests, made_by-snoc share h e, get_or-set_same, get_or-set_other, each share below)

  -- a recorded history leads to a core with its cell and its waiting list
  leads : (r : Recording T) (core : State T Named) → IsRecorded r → core.cell ≡ (state r).cell → core.waiting ≡ (state r).waiting
      → Runs same_name true (start r.begin) (map plain_entry r.entries) (wakes_after same_name (start r.begin) [] (map plain_entry r.entries)) core
  leads r core recorded cell_is waiting_is =
      let sound : IsSound {T = T} same_name (start r.begin) = record { counted = recorded.owned; waits_vacant = λ none. cc; none_skipped = refl } in
      grind (arith, sound)

module _ {T : Type 0} (test : Test T) where
  picked_after-append : (b : State T Named) (h xs ys : List (Entry T)) → picked_after test b h (xs ++ ys) ≡ picked_after test b h xs + picked_after test b (h ++ xs) ys
  picked_after-append b h [] ys = rw append-nil (omega arith)
  picked_after-append b h (e ∷ xs) ys = rw (← append_assoc h (e ∷ []) xs) (omega (arith, picked_after-append b (h ++ e ∷ []) xs ys))

  -- the history is longer by an entry, and passes the test once more where the answer does
  pub journal_more : (r : Recording T) (core core' : State T Named) (counted : Totals) (e : Entry T) (woken : List Named) (number count : ℕ)
      → IsJournal test r core counted → is_memory e.reply ≡ false → e.share ≡ number → e.serial ≡ count → number < r.begin → count ≡ made_by number r.entries
      → Does same_name true core (record { call = e.call; reply = e.reply }) woken core'
      → IsJournal test (record { begin = r.begin; entries = r.entries ++ e ∷ [] }) core'
      (record { calls = counted.calls + 1; picked = counted.picked + from_bool (test e woken); next_serials = slice_set counted.next_serials number (count + 1) })
  journal_more r core core' counted e woken number count journal found share serial below was one =
      let of_share : e.share < r.begin = omega arith in
      let next : e.serial ≡ made_by e.share r.entries = cc in
      let at = leads r core journal.recorded journal.cell_is journal.waiting_is in
      let step = model_of same_name true core core' e.call e.reply woken one in
      let both = Runs-join same_name true (start r.begin) core core' (map plain_entry r.entries) (plain_entry e ∷ []) _ (woken ∷ []) at step in
      let grown : map plain_entry r.entries ++ plain_entry e ∷ [] ≡ map plain_entry (r.entries ++ e ∷ []) = simp map-append in
      let handed : woken ≡ woken_by (state r) (plain_entry e) = cc (one.woken_are, one.cell_is) in
      let picks : from_bool (test e woken) ≡ from_bool (test e (woken_by (state r) (plain_entry e))) = cc in
      record {
        recorded = record {
          owned = journal.recorded.owned;
          legal = rw grown at both.legal;
          answered = All-push (λ (x : Entry T). is_memory x.reply ≡ false) r.entries e journal.recorded.answered found;
          of_shares = All-push (λ (x : Entry T). x.share < r.begin) r.entries e journal.recorded.of_shares of_share;
          serials = serials_more r.entries e next journal.recorded.serials;
        };
        cell_is = rw grown at both.cell_is;
        waiting_is = rw grown at both.waiting_is;
        counts_calls = simp length-append (omega (arith, journal.counts_calls));
        counts_picked = omega (arith, journal.counts_picked, picked_after-append (start r.begin) [] r.entries (e ∷ []), picks);
        counts_shares = simp length-set journal.counts_shares;
        counts_each = rw (← share, ← serial) (each_more r.begin counted.next_serials r.entries e journal.counts_shares journal.counts_each next of_share);
      }

  -- the core is another with the same cell and the same waiting list
  pub journal_same : (r : Recording T) (core core' : State T Named) (counted : Totals) → IsJournal test r core counted → core'.cell ≡ core.cell → core'.waiting ≡ core.waiting
      → IsJournal test r core' counted
  journal_same r core core' counted journal cells lists = grind arith

-- the reply is the model's
pub step_replies : {T : Type 0} (test : Test T) (r : Recording T) (core core' : State T Named) (counted : Totals) (call : Kept T Named) (answer : Reply T) (woken : List Named)
    → IsJournal test r core counted → is_memory answer ≡ false → Does same_name true core (record { call = call; reply = answer }) woken core' → answer ≡ reply (state r).cell call
step_replies test r core core' counted call answer woken journal found one = grind arith

-- a new journal
pub journal_new : {T : Type 0} (test : Test T) (n : ℕ) → 1 ≤ n → n < 2 ^ 32
    → IsJournal test (record { begin = n; entries = [] }) (start n) (record { calls = 0; picked = 0; next_serials = replicate n 0 })
journal_new test n some fits = grind (arith, length-replicate, get_or-replicate)
