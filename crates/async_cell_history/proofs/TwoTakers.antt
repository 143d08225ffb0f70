-- Two takes that two authors signed are two places of the history, so they give two of the values
-- put in.
use Rattle.async_cell_history.proofs.Words.{◌≡◌, ◌⊎◌, inl, inr, ◌≤◌, ℕ, suc, Bool, false, List, [], ◌∷◌, ◌++◌, length, Option, Some, None, refl, ap, sym, subst, ◌∙◌, arith, append-nil, option_to_list}
use Rattle.async_cell_history.proofs.Words.{AllPairs, All, IsPrefix, length-append, same_from_push, All-head, All-tail, filter_map-append, Entry, Kept, TryTake, Value, State, content, History}
use Rattle.async_cell_history.proofs.Words.{NoClone, legal_of_exact, WakerRules, Begun, Seen, IsAllowed, IsLawful, IsLegal, IsTake, OnlyMakes, IsLinearized, IsSigned, Took}
use Rattle.async_cell_model.specs.Taken.{IsSubsequence, has_update, is_update, put_by, put_in, taken_by, taken_out}
use Rattle.async_cell_model.proofs.Once.{IsSubsequence-same, IsSubsequence-nil, IsSubsequence-trans, IsSubsequence-append, pairs_of_subsequence, given_in_order}
use Rattle.async_cell_history.proofs.Leading.{all_such}
use Rattle.ghost_tokens.proofs.LogSteps.{shorter_begins}
use base.Growing.{prefix_refl, prefix_trans, prefix_anti}

module _ {A : Type 0} where
  -- at one place stands one element
  one_place : (xs ys zs : List A) (x y : A) → IsPrefix (xs ++ x ∷ []) zs → IsPrefix (ys ++ y ∷ []) zs → length xs ≡ length ys → x ≡ y
  one_place xs ys zs x y p q len =
      let below = shorter_begins (xs ++ x ∷ []) (ys ++ y ∷ []) zs p q (omega (arith, len, length-append xs (x ∷ []), length-append ys (y ∷ []))) in
      let above = shorter_begins (ys ++ y ∷ []) (xs ++ x ∷ []) zs q p (omega (arith, len, length-append xs (x ∷ []), length-append ys (y ∷ []))) in
      (same_from_push xs ys x y (prefix_anti _ _ below above)).1

  -- an element at an earlier place of a list stands before one at a later place
  earlier : (xs ys zs : List A) (x y : A) → IsPrefix (xs ++ x ∷ []) zs → IsPrefix (ys ++ y ∷ []) zs → suc (length xs) ≤ length ys → IsPrefix (xs ++ x ∷ []) ys
  earlier xs ys zs x y p q le =
      shorter_begins (xs ++ x ∷ []) ys zs p (prefix_trans ys (ys ++ y ∷ []) zs (y ∷ [], refl) q) (omega (arith, le, length-append xs (x ∷ [])))

  longer_has : (xs ys : List A) → IsSubsequence xs (xs ++ ys)
  longer_has xs ys = subst (λ (l : List A). IsSubsequence l (xs ++ ys)) (append-nil xs) (IsSubsequence-append xs xs [] ys (IsSubsequence-same xs) (IsSubsequence-nil ys))

order : (m n : ℕ) → (m ≡ n) ⊎ ((suc m ≤ n) ⊎ (suc n ≤ m))
order m n = grind arith

module _ {T W : Type 0} where
  abbrev take : T → Entry T W
  take v = record { call = TryTake; reply = Value (Some v) }

  -- what was taken of a part was taken of all
  of_part : (g h : History T W) → IsPrefix g h → IsSubsequence (taken_out g) (taken_out h)
  of_part g h (rest, is) = subst (λ (l : History T W). IsSubsequence (taken_out g) (taken_out l)) is
      (rw (filter_map-append (λ (e : Entry T W). taken_by e.call e.reply) g rest) (longer_has (taken_out g) (taken_out rest)))

  -- one more was taken
  one_more : (vs : List T) (h : History T W) (w : T) → IsSubsequence vs (taken_out h) → IsSubsequence (vs ++ w ∷ []) (taken_out (h ++ take w ∷ []))
  one_more vs h w sub = rw (filter_map-append (λ (e : Entry T W). taken_by e.call e.reply) h (take w ∷ [])) (IsSubsequence-append vs (taken_out h) (w ∷ []) (w ∷ []) sub (IsSubsequence-same (w ∷ [])))

  -- of two takes, the first of which was made before the second
  both_taken : (g h all : History T W) (v w : T) → IsPrefix (g ++ take v ∷ []) h → IsPrefix (h ++ take w ∷ []) all → IsSubsequence (v ∷ w ∷ []) (taken_out all)
  both_taken g h all v w first second =
      let one = IsSubsequence-trans (of_part (g ++ take v ∷ []) h first) (v ∷ []) (one_more [] g v (IsSubsequence-nil (taken_out g))) in
      IsSubsequence-trans (of_part (h ++ take w ∷ []) all second) (v ∷ w ∷ []) (one_more (v ∷ []) h w one)

-- no two values stand in a list of one
no_pairs : {T : Type 0} (o : Option T) → AllPairs (λ x y. ⊥) (option_to_list o ++ [])
no_pairs o i j d less more = grind arith

one_alone : {T : Type 0} (o : Option T) (v w : T) → IsSubsequence (v ∷ w ∷ []) (option_to_list o ++ []) → ⊥
one_alone o v w sub = pairs_of_subsequence (λ x y. ⊥) (v ∷ w ∷ []) (option_to_list o ++ []) sub (no_pairs o) 0 1 v (omega arith) (omega arith)

module _ {T W : Type 0} where
  -- a take puts nothing in
  puts_none : (call : Kept T W) → IsAllowed IsTake call → (put_by call ≡ None) × (is_update call ≡ false)
  puts_none call may = grind arith

  none_put : (h : History T W) → All (λ e. IsAllowed IsTake e.call) h → (put_in h ≡ []) × (has_update h ≡ false)
  none_put [] all = (refl, refl)
  none_put (e ∷ h) all =
      let here = puts_none e.call (All-head (λ (x : Entry T W). IsAllowed IsTake x.call) e h all) in
      let rest = none_put h (All-tail (λ (x : Entry T W). IsAllowed IsTake x.call) e h all) in
      (rw here.0 (rest.0), rw here.1 (rest.1))

  -- where nothing is put in, no take was made before another one
  none_before : (will_wake : W → W → Bool) (sure : Bool) (start : State T W) (all : Seen T W) (m n : ℕ) (v w : T) → IsLegal will_wake sure start all.calls
      → (put_in all.calls ≡ []) × (has_update all.calls ≡ false)
      → (one : Took m v all) (other : Took n w all) → suc (length one.before) ≤ length other.before → ⊥
  none_before will_wake sure start all m n v w legal none one other less =
      let first = earlier one.before other.before all.calls (take v) (take w) one.calls other.calls less in
      let given = given_in_order NoClone will_wake sure start [] all.calls none.1 (legal_of_exact will_wake sure start all.calls legal) in
      let both = IsSubsequence-trans given (v ∷ w ∷ []) (both_taken one.before other.before all.calls v w first other.calls) in
      one_alone (content start.cell) v w (subst (λ (l : List T). IsSubsequence (v ∷ w ∷ []) (option_to_list (content start.cell) ++ l)) none.0 both)

  -- where all only take, one at most takes a value
  pub one_takes : (will_wake : W → W → Bool) (sure : Bool) (may : Kept T W → Type 0) (start : State T W) (all : Seen T W) (m n : ℕ) (v w : T) → OnlyMakes may IsTake
      → IsLawful will_wake sure may start all.calls → Took m v all → Took n w all → m ≡ n
  one_takes will_wake sure may start all m n v w only lawful one other =
      let none = none_put all.calls (all_such may IsTake only all.calls lawful.allowed) in
      elim (order (length one.before) (length other.before)) [
        | inl is ↦ one_place one.authors_before other.authors_before all.authors m n one.authors other.authors (one.as_many ∙ is ∙ sym other.as_many)
        | inr apart ↦ absurd (elim apart [
          | inl less ↦ none_before will_wake sure start all m n v w lawful.legal none one other less
          | inr more ↦ none_before will_wake sure start all n m w v lawful.legal none other one more
        ])
      ]

-- who was told of a take took
pub took : {T W : Type 0} (rules : WakerRules W) (named : Option (Begun T W)) (seen now : Seen T W) (v : T) → IsLinearized rules named seen.calls TryTake (Value (Some v)) now.calls → IsSigned seen now
    → length now.authors ≡ length now.calls → Took seen.author v now
took {T} {W} rules named seen now v told signed many = record {
  before = told.before;
  authors_before = signed.before;
  as_many = omega (arith, many, ap length told.ends, ap length signed.ends, length-append told.before (take v ∷ []), length-append signed.before (seen.author ∷ []));
  calls = subst (λ (h : History T W). IsPrefix h now.calls) told.ends (prefix_refl now.calls);
  authors = subst (λ (l : List ℕ). IsPrefix l now.authors) signed.ends (prefix_refl now.authors);
}

-- and took whatever comes after
pub still_took : {T W : Type 0} (seen all : Seen T W) (n : ℕ) (v : T) → Took n v seen → IsPrefix seen.calls all.calls → IsPrefix seen.authors all.authors → Took n v all
still_took seen all n v took calls authors = record {
  before = took.before;
  authors_before = took.authors_before;
  as_many = took.as_many;
  calls = prefix_trans _ _ _ took.calls calls;
  authors = prefix_trans _ _ _ took.authors authors;
}
