-- A value is taken once: the replies give, in order, some of what was there and was put_in.
use Rattle.async_cell_model.proofs.Words.{◌≡◌, ◌⊎◌, inl, inr, suc, Bool, false, List, [], ◌∷◌, ◌++◌, Option, Some, None, refl, subst, arith, append_assoc, append-nil, option_to_list}
use Rattle.async_cell_model.proofs.Words.{All, AllPairs, cons_option, AllPairs-cons, Cell, Entry, Kept, Reply, content, next, reply, State, UpToClones, History, cell_after, after, IsLegalAfterBy}
use Rattle.async_cell_model.proofs.Words.{MayFollowBy, IsDistinct, IsSubsequence, none, skip, both, is_update, has_update, put_by, put_in, taken_by, taken_out}
use Rattle.std.proofs.Common.{◌≢◌}
use Rattle.std.proofs.lemmas.List.Elements.{All-cons, All-tail}
use Rattle.async_cell_model.proofs.JoinedHistory.{cell_after-append}

module _ {A : Type 0} where
  pub IsSubsequence-same : (xs : List A) → IsSubsequence xs xs
  IsSubsequence-same [] = none
  IsSubsequence-same (x ∷ xs) = both (IsSubsequence-same xs)

  pub IsSubsequence-nil : (xs : List A) → IsSubsequence [] xs
  IsSubsequence-nil [] = none
  IsSubsequence-nil (x ∷ xs) = skip (IsSubsequence-nil xs)

  pub IsSubsequence-trans : {ys zs : List A} → IsSubsequence ys zs → (xs : List A) → IsSubsequence xs ys → IsSubsequence xs zs
  IsSubsequence-trans none xs first = first
  IsSubsequence-trans (skip second) xs first = skip (IsSubsequence-trans second xs first)
  IsSubsequence-trans (both second) xs (skip first) = skip (IsSubsequence-trans second xs first)
  IsSubsequence-trans (both second) xs (both first) = both (IsSubsequence-trans second _ first)

  pub IsSubsequence-append : (xs ys us vs : List A) → IsSubsequence xs ys → IsSubsequence us vs → IsSubsequence (xs ++ us) (ys ++ vs)
  IsSubsequence-append xs ys us vs none second = second
  IsSubsequence-append xs ys us vs (skip first) second = skip (IsSubsequence-append _ _ us vs first second)
  IsSubsequence-append xs ys us vs (both first) second = both (IsSubsequence-append _ _ us vs first second)

  front_of : (xs ys : List A) → IsSubsequence xs (xs ++ ys)
  front_of [] ys = IsSubsequence-nil ys
  front_of (x ∷ xs) ys = both (front_of xs ys)

  back_of : (xs ys : List A) → IsSubsequence ys (xs ++ ys)
  back_of [] ys = IsSubsequence-same ys
  back_of (x ∷ xs) ys = skip (back_of xs ys)

  -- one part after the other
  then : (out now was put outs puts : List A) → IsSubsequence (out ++ now) (was ++ put) → IsSubsequence outs (now ++ puts) → IsSubsequence (out ++ outs) (was ++ (put ++ puts))
  then out now was put outs puts first second =
      let later : IsSubsequence (out ++ outs) ((out ++ now) ++ puts) = rw append_assoc (IsSubsequence-append _ _ _ _ (IsSubsequence-same out) second) in
      rw (← append_assoc was put puts) (IsSubsequence-trans (IsSubsequence-append _ _ _ _ first (IsSubsequence-same puts)) _ later)

  pairs_of_tail : (R : A → A → Type 0) (x : A) (xs : List A) → AllPairs R (x ∷ xs) → AllPairs R xs
  pairs_of_tail R x xs all = λ i j d before within. all (suc i) (suc j) d (omega arith) (omega arith)

  head_with_all : (R : A → A → Type 0) (x : A) (xs : List A) → AllPairs R (x ∷ xs) → All (R x) xs
  head_with_all R x xs all = λ k d within. all 0 (suc k) d (omega arith) (omega arith)

  all_of_subsequence : (P : A → Type 0) (xs ys : List A) → IsSubsequence xs ys → All P ys → All P xs
  all_of_subsequence P xs ys none all = all
  all_of_subsequence P xs ys (skip part) all = all_of_subsequence P xs _ part (All-tail P _ _ all)
  all_of_subsequence P xs ys (both {x = x} part) all = All-cons P _ _ (all 0 x (omega arith)) (all_of_subsequence P _ _ part (All-tail P _ _ all))

  pub pairs_of_subsequence : (R : A → A → Type 0) (xs ys : List A) → IsSubsequence xs ys → AllPairs R ys → AllPairs R xs
  pairs_of_subsequence R xs ys none all = all
  pairs_of_subsequence R xs ys (skip part) all = pairs_of_subsequence R xs _ part (pairs_of_tail R _ _ all)
  pairs_of_subsequence R xs ys (both part) all = AllPairs-cons R _ _ (all_of_subsequence (R _) _ _ part (head_with_all R _ _ all)) (pairs_of_subsequence R _ _ part (pairs_of_tail R _ _ all))

cons_is : {A : Type 0} (o : Option A) (xs : List A) → cons_option o xs ≡ option_to_list o ++ xs
cons_is None xs = refl
cons_is (Some x) xs = refl

module _ {T W : Type 0} where
  -- what a reply gives and the cell then holds was there, or was put_in
  pub record Hands (c : Cell T) (call : Kept T W) (reply : Reply T) (after : Cell T) : Type 0 where
    pub fits : IsSubsequence (option_to_list (taken_by call reply) ++ option_to_list (content after)) (option_to_list (content c) ++ option_to_list (put_by call))

  -- what the reply moves out and what is then there: nothing, what was there, what was put in, or both
  parts_of : (c : Cell T) (call : Kept T W) (reply : Reply T) (after : Cell T)
      → let out = option_to_list (taken_by call reply) ++ option_to_list (content after) in let was = option_to_list (content c) in let put = option_to_list (put_by call) in
      ((out ≡ []) ⊎ (out ≡ was)) ⊎ ((out ≡ put) ⊎ (out ≡ was ++ put)) → Hands c call reply after
  parts_of c call reply after parts = let was = option_to_list (content c) in let put = option_to_list (put_by call) in record {
    fits = elim parts [
      | inl less ↦ elim less [ inl is ↦ rw is (IsSubsequence-nil _) | inr is ↦ rw is (front_of was put) ]
      | inr more ↦ elim more [ inl is ↦ rw is (back_of was put) | inr is ↦ rw is (IsSubsequence-same (was ++ put)) ]
    ];
  }

module _ {T W : Type 0} (is_clone : T → T → Type 0) (will_wake : W → W → Bool) (sure : Bool) where
  entry_gives : (at : State T W) (e : Entry T W) → is_update e.call ≡ false → MayFollowBy (UpToClones is_clone) will_wake sure at e → Hands at.cell e.call e.reply (next at.cell e)
  entry_gives at e plain may = parts_of at.cell e.call e.reply (next at.cell e) (grind (arith, append-nil))

  -- what the replies give is, in order, some of what was there and was put_in
  pub given_in_order : (b : State T W) (g h : History T W) → has_update h ≡ false → IsLegalAfterBy (UpToClones is_clone) will_wake sure b g h
      → IsSubsequence (taken_out h) (option_to_list (content (cell_after b.cell g)) ++ put_in h)
  given_in_order b g [] plain legal = IsSubsequence-nil _
  given_in_order b g (e ∷ h) plain legal =
      let rest = given_in_order b (g ++ e ∷ []) h (grind arith) legal.1 in
      let later = subst (λ c. IsSubsequence (taken_out h) (option_to_list (content c) ++ put_in h)) (cell_after-append b.cell g (e ∷ [])) rest in
      rw (cons_is (taken_by e.call e.reply) (taken_out h), cons_is (put_by e.call) (put_in h))
      (then _ _ _ _ _ _ (entry_gives (after will_wake b g) e (grind arith) legal.0).fits later)

  pub given_once : (b : State T W) (h : History T W) → has_update h ≡ false → IsLegalAfterBy (UpToClones is_clone) will_wake sure b [] h
      → IsDistinct (option_to_list (content b.cell) ++ put_in h) → IsDistinct (taken_out h)
  given_once b h plain legal distinct = pairs_of_subsequence (λ x y. x ≢ y) _ _ (given_in_order b [] h plain legal) distinct
