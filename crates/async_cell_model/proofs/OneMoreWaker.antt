-- What one more waker makes of a wait list, and the wait lists of longer lists.
use Rattle.async_cell_model.proofs.Words.{◌≡◌, ◌≤◌, ◌<◌, inl, inr, ℕ, Bool, true, false, not, ◌&&◌, ◌||◌, List, [], ◌∷◌, ◌++◌, length, get_or, refl, ap, sym, ◌∙◌, arith, le_refl}
use Rattle.async_cell_model.proofs.Words.{le_trans, append-nil, append_assoc, length-append, nat_lt, if◌then◌else◌, filter, fold, AllPairs, nat_tests, fold-append, list_any-append, list_any_at}
use Rattle.async_cell_model.proofs.Words.{Contains-append_left, Contains-push, all_pairs_push, is_empty, wait_list, skips, with_one_more, IsCovered}
use Rattle.std.specs.Prelude.{◌≢◌}

-- a list that may have found no memory holds a waker and has no room
pub may_lack_memory : {W : Type 0} (sure : Bool) (l : List W) (room : ℕ) → (l ≡ [] → ⊥) → (0 < room → ⊥) → (sure && (is_empty l || nat_lt 0 room)) ≡ false
may_lack_memory sure l room first more = grind (arith, nat_tests, first, more)

module _ {W : Type 0} (will_wake : W → W → Bool) where
  -- the wait list of a longer list goes on from that of the shorter one
  keep_more : (xs ys : List W) → wait_list will_wake (xs ++ ys) ≡ fold (with_one_more will_wake) (wait_list will_wake xs) ys
  keep_more xs ys = fold-append (with_one_more will_wake) [] xs ys

  -- one more waker is added last, or skipped
  pub wait_list-one : (l : List W) (w : W) → wait_list will_wake l ≡ l → wait_list will_wake (l ++ w ∷ []) ≡ (if skips will_wake l w then l else l ++ w ∷ [])
  wait_list-one l w kept = keep_more l (w ∷ []) ∙ ap (λ m. with_one_more will_wake m w) kept

  -- added, where it is not skipped
  pub keep_added : (l : List W) (w : W) → wait_list will_wake l ≡ l → skips will_wake l w ≡ false → wait_list will_wake (l ++ w ∷ []) ≡ l ++ w ∷ []
  keep_added l w kept not = wait_list-one l w kept ∙ (rw not refl)

  -- nobody is skipped where no waker would wake another
  pub never_skipped : (l : List W) (w : W) → ((a b : W) → will_wake a b ≡ false) → skips will_wake l w ≡ false
  never_skipped [] w never = refl
  never_skipped (x ∷ xs) w never = rw (never x w) (never_skipped xs w never)

  adds_all : (m xs : List W) → ((a b : W) → will_wake a b ≡ false) → fold (with_one_more will_wake) m xs ≡ m ++ xs
  adds_all m [] never = sym (append-nil m)
  adds_all m (x ∷ xs) never = rw (never_skipped m x never) (adds_all (m ++ x ∷ []) xs never ∙ append_assoc m (x ∷ []) xs)

  -- and so all wait
  pub all_wait : (l : List W) → ((a b : W) → will_wake a b ≡ false) → wait_list will_wake l ≡ l
  all_wait l never = adds_all [] l never

  -- and not added, where it is
  pub keep_skipped : (l : List W) (w : W) → wait_list will_wake l ≡ l → skips will_wake l w ≡ true → wait_list will_wake (l ++ w ∷ []) ≡ l
  keep_skipped l w kept skipped = wait_list-one l w kept ∙ (rw skipped refl)

  -- what one more waker keeps, many keep
  each : (P : List W → Type 0) → ((m : List W) (x : W) → P m → P (with_one_more will_wake m x)) → (m xs : List W) → P m → P (fold (with_one_more will_wake) m xs)
  each P one m [] start = start
  each P one m (x ∷ xs) start = each P one (with_one_more will_wake m x) xs (one m x start)

  kept_one : (m : List W) (x : W) → wait_list will_wake m ≡ m → wait_list will_wake (with_one_more will_wake m x) ≡ with_one_more will_wake m x
  kept_one m x kept = grind (arith, wait_list-one)

  -- the wait list of a wait list is the same
  pub wait_list-wait_list : (l : List W) → wait_list will_wake (wait_list will_wake l) ≡ wait_list will_wake l
  wait_list-wait_list l = each (λ m. wait_list will_wake m ≡ m) kept_one [] l refl

  -- the wait list may be made first, and again with the wakers that come later
  pub wait_list-append : (xs ys : List W) → wait_list will_wake (wait_list will_wake xs ++ ys) ≡ wait_list will_wake (xs ++ ys)
  wait_list-append xs ys = grind (arith, keep_more, wait_list-wait_list)

  longer_one : (m : List W) (x : W) → length m ≤ length (with_one_more will_wake m x)
  longer_one m x = grind (arith, length-append)

  -- the wait list of a longer list is no shorter
  pub wait_list-longer : (xs ys : List W) → length (wait_list will_wake xs) ≤ length (wait_list will_wake (xs ++ ys))
  wait_list-longer xs ys =
      let m = wait_list will_wake xs in
      rw (keep_more xs ys) (each (λ l. length m ≤ length l) (λ l x more. le_trans more (longer_one l x)) m ys (le_refl _))

  -- whoever is covered stays covered
  covered_if : (m : List W) (x w : W) (b : Bool) → IsCovered will_wake m w → IsCovered will_wake (if b then m else m ++ x ∷ []) w
  covered_if m x w true covered = covered
  covered_if m x w false covered = elim covered [
    | inl waits ↦ inl (Contains-append_left m (x ∷ []) w waits)
    | inr skipped ↦ inr (rw (list_any-append, skipped) refl)
  ]

  -- one more waker is covered
  covers_one : (m : List W) (w : W) (b : Bool) → skips will_wake m w ≡ b → IsCovered will_wake (if b then m else m ++ w ∷ []) w
  covers_one m w true is = inr is
  covers_one m w false is = inl (Contains-push m w)

  -- each registered waker is covered by the wait list
  pub wait_list-covers : (w : W) (xs ys : List W) → IsCovered will_wake (wait_list will_wake (xs ++ w ∷ ys)) w
  wait_list-covers w xs ys =
      let m = wait_list will_wake xs in
      rw (keep_more xs (w ∷ ys)) (each (λ l. IsCovered will_wake l w) (λ l x. covered_if l x w (skips will_wake l x)) (with_one_more will_wake m w) ys (covers_one m w (skips will_wake m w) refl))

  -- a waker that comes first waits, and skips all others that it would wake
  first_each : (w : W) (m rest : List W) → fold (with_one_more will_wake) (w ∷ m) rest ≡ w ∷ fold (with_one_more will_wake) m (filter (λ v. not (will_wake w v)) rest)
  first_each w m [] = refl
  first_each w m (x ∷ rest) = grind (arith, first_each w m rest, first_each w (m ++ x ∷ []) rest)

  pub keep_first : (w : W) (rest : List W) → wait_list will_wake (w ∷ rest) ≡ w ∷ wait_list will_wake (filter (λ v. not (will_wake w v)) rest)
  keep_first w rest = first_each w [] rest

  -- a waker that is not skipped is none of those that wait, where each would wake itself
  other_than : (m : List W) (x : W) → ((w : W) → will_wake w w ≡ true) → skips will_wake m x ≡ false → (k : ℕ) (d : W) → k < length m → get_or m k d ≢ x
  other_than m x itself is k d within same =
      let woken : will_wake (get_or m k d) x ≡ true = ap (λ v. will_wake v x) same ∙ itself x in
      let skipped : skips will_wake m x ≡ true = list_any_at (λ v. will_wake v x) m k d within woken in
      cc

  distinct_if : (m : List W) (x : W) (b : Bool) → ((w : W) → will_wake w w ≡ true) → skips will_wake m x ≡ b → AllPairs (λ u v. u ≢ v) m → AllPairs (λ u v. u ≢ v) (if b then m else m ++ x ∷ [])
  distinct_if m x true itself is distinct = distinct
  distinct_if m x false itself is distinct = all_pairs_push (λ u v. u ≢ v) m x distinct (other_than m x itself is)

  -- where each waker would wake itself, none waits twice
  pub wait_list-distinct : (l : List W) → ((w : W) → will_wake w w ≡ true) → AllPairs (λ u v. u ≢ v) (wait_list will_wake l)
  wait_list-distinct l itself =
      each (AllPairs (λ u v. u ≢ v)) (λ m x. distinct_if m x (skips will_wake m x) itself refl) [] l (λ i j d less within. absurd (omega arith))
